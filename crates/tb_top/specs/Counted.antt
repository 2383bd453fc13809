-- What the headline says of a reply. Two lines stand outside it: `at N` names its own release, and
-- a table of dwellings has cells of its own.
use Rattle.std.specs.Prelude.{◌≡◌, ◌⊎◌, ℕ, List, None}
use mathlib.Core.List.{IsPrefix}
use Rattle.tb_lines.specs.Outputs.{ReplyValue}
use Rattle.tb_model.specs.Queries.{QueryValue}
use Rattle.tb_model.specs.Releases.{ReleaseValue}
use Rattle.tb_model.specs.Setups.{SetupValue}
use Rattle.tb_model.specs.Texts.{table_text}
use Rattle.tb_query.specs.Faults as queries
use Rattle.tb_release.specs.Batches.{BatchValue}
use Rattle.tb_release.specs.Chains.{release_after}
use Rattle.tb_session.specs.Asks.{asks_of}
use Rattle.tb_session.specs.Dwellings.{homes_asked}
use Rattle.tb_session.specs.declared.asks.Asks.TheVariants as asks
use Rattle.tb_session.specs.declared.party.Role.{Role}
use Rattle.tb_tables.specs.Answers.{IsRefusal}
use Rattle.tb_tables.specs.ReplyLines.{memory_line}

-- what a query's line gets over a release: its table; or the line of a stated fault of its text, or
-- `memory`
abbrev pub IsCounted : SetupValue → ReleaseValue → List ℕ → List ℕ → Type 0
IsCounted setup release line text =
    ((query : QueryValue) × queries.Reads setup.schema line query
    × (text ≡ table_text setup release query))
    ⊎ (IsRefusal setup line text ⊎ (text ≡ memory_line))

-- A caller who had seen some batches of the one chain has seen these at the reply, and no fewer. A
-- query gets its answer over the release to which they lead.
abbrev pub IsAlong : SetupValue → ReleaseValue → (chain : List BatchValue) → Role
    → (seen : List BatchValue) → List ℕ → ReplyValue → (at : List BatchValue) → Type 0
IsAlong setup base chain who seen line reply at =
    IsPrefix seen at × IsPrefix at chain
    × (asks_of who line ≡ asks.Table → homes_asked setup line ≡ None
    → IsCounted setup (release_after base at) line reply.text)
