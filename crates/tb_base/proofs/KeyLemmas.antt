-- The key range.
use Rattle.std.proofs.Common.{◌≡◌, ℕ, ◌%◌, ◌<◌, ◌≤◌, arith}
use Rattle.tb_base.specs.declared.keys.Keys.{Keys}
use Rattle.tb_base.specs.declared.keys.Keys.TheVariants.{K256, K4096}
use Rattle.tb_base.specs.declared.keys.TheConstants.{MOST_KEYS}
use Rattle.tb_base.specs.Keys.{ckey_of, key_range}

-- no key range is larger than the largest
pub range-most : (keys : Keys) → key_range keys ≤ MOST_KEYS
range-most K256 = omega arith
range-most K4096 = omega arith

-- a key below a key range is below the largest
pub key-most : (keys : Keys) (key : ℕ) → key < key_range keys → key < MOST_KEYS
key-most K256 key below = omega arith
key-most K4096 key below = omega arith

-- a sum that is kept modulo the largest key range has the cell key of the whole sum
pub ckey-kept : (keys : Keys) (sum : ℕ) → ckey_of keys (sum % MOST_KEYS) ≡ ckey_of keys sum
ckey-kept K256 sum = omega arith
ckey-kept K4096 sum = omega arith
