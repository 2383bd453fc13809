-- What a line at a mirror's first port asks for.
use Rattle.std.specs.Prelude.{ℕ, Bool, false, if◌then◌else◌, List, [], ◌∷◌, bytes_eq, codes}
use Rattle.tb_base.specs.Words.{words_of}
use Rattle.tb_mirror.specs.declared.asks.MirrorAsks.{MirrorAsks}
use Rattle.tb_mirror.specs.declared.asks.MirrorAsks.TheVariants as asks
use Rattle.tb_session.specs.Asks as sessions
use Rattle.tb_session.specs.declared.asks.Asks.{Asks}
use Rattle.tb_session.specs.declared.asks.Asks.TheVariants as party_asks
use Rattle.tb_session.specs.declared.party.Role.TheVariants as role

-- whether words are just `where`
abbrev pub is_where : List (List ℕ) → Bool
is_where [] = false
is_where (word ∷ []) = bytes_eq word (codes "where")
is_where (word ∷ next ∷ words) = false

-- what a line asks for that asks the custodian for this: `stats`, `clear` and `cache K` are the
-- custodian's, and every other line is the leader's
abbrev pub asks_by : Asks → MirrorAsks
asks_by party_asks.Nothing = asks.Leader
asks_by party_asks.Description = asks.Leader
asks_by party_asks.Table = asks.Leader
asks_by (party_asks.At n) = asks.Leader
asks_by party_asks.Edit = asks.Leader
asks_by party_asks.Publish = asks.Leader
asks_by party_asks.Stats = asks.Custodian
asks_by party_asks.Clear = asks.Custodian
asks_by (party_asks.Cache capacity) = asks.Custodian

-- what a line asks for
abbrev pub asks_of : List ℕ → MirrorAsks
asks_of line =
    if is_where (words_of line) then asks.Where
    else asks_by (sessions.asks_of role.Custodian line)
