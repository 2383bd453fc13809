-- The key range of a setup.
use Rattle.std.specs.Prelude.{ℕ, ◌%◌}
use Rattle.tb_base.specs.declared.keys.Keys.{Keys}
use Rattle.tb_base.specs.declared.keys.Keys.TheVariants.{K256, K4096}

-- the key range as a number: record keys and cell keys are below it
abbrev pub key_range : Keys → ℕ
key_range K256 = 256
key_range K4096 = 4096

-- the cell key of a sum of record keys: the sum modulo the key range
abbrev pub ckey_of : Keys → ℕ → ℕ
ckey_of keys sum = sum % key_range keys
