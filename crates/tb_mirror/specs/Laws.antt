-- A mirror that its leader leads. Nothing here speaks of the program.
use Rattle.std.specs.Prelude.{◌≡◌, ℕ, suc, List, []}
use mathlib.Core.List.{IsPrefix}
use Rattle.tb_ahead.specs.Publishing.{batch_refusal_line}
use Rattle.tb_follow.specs.Leading.{CanLead, chain_of}
use Rattle.tb_leader.specs.Lanes.{LaneValue, without_message}
use Rattle.tb_leader.specs.Laws.{IsGenuine}
use Rattle.tb_leader.specs.LeaderAsks.{asks_of}
use Rattle.tb_lines.specs.Outputs.{Lead, ReplyValue}
use Rattle.tb_mirror.specs.MirrorReplies.{IsMirrorStep}
use Rattle.tb_mirror.specs.Mirroring.{first_mirror}
use Rattle.tb_model.specs.Releases.{ReleaseValue}
use Rattle.tb_model.specs.Setups.{SetupValue}
use Rattle.tb_release.specs.Batches.{BatchValue}
use Rattle.tb_release.specs.declared.edits.Edit.{Edit}
use Rattle.tb_rows.specs.FaultNames.{FaultNameValue}
use Rattle.tb_serve.specs.Ports.{PortValue}
use Rattle.tb_serve.specs.Serves.{HasServed}
use Rattle.tb_worker.specs.Visits.{AreVisits, Visit}

-- a line that isn't forged: where it ends a message, that is one of the leader's own
abbrev pub IsGenuineStep : List (List Edit) → SetupValue → LaneValue → List ℕ → ReplyValue
    → LaneValue → Type 0
IsGenuineStep lists setup lane line reply next =
    IsMirrorStep setup lane line reply next × IsGenuine lists lane (asks_of line)

-- a line after which the mirror's chain is a beginning of the leader's, and whose reply refuses no
-- batch
pub record IsLedStep (lists : List (List Edit)) (setup : SetupValue) (base : ReleaseValue)
    (lane : LaneValue) (line : List ℕ) (reply : ReplyValue) (next : LaneValue) : Type 0 where
  pub step : IsMirrorStep setup lane line reply next
  pub begins : IsPrefix next.follower.chain.batches (chain_of base lists)
  pub unrefused : (edit : ℕ) (name : FaultNameValue)
      → ¬ (reply.text ≡ batch_refusal_line edit name)

-- where a leader's lists of edits can lead on the mirror's release 0, and no line of any session of
-- its first port is forged: each is one after which the mirror's chain is a beginning of the
-- leader's, and whose reply refuses no batch; and so is the chain at the end
abbrev pub MirrorsAreLed : Type 0
MirrorsAreLed =
    (lists : List (List Edit)) (setup : SetupValue) (base : ReleaseValue) (last : LaneValue)
    (visits : List Visit) → CanLead base lists
    → AreVisits (Lead (IsGenuineStep lists setup)) without_message (first_mirror setup base) visits
    last
    → AreVisits (Lead (IsLedStep lists setup base)) without_message (first_mirror setup base)
    visits last
    × IsPrefix last.follower.chain.batches (chain_of base lists)

-- an analyst's port of a mirror whose chain is a beginning of the leader's was served along the
-- leader's
abbrev pub AnalystsSeeTheLeadersChain : Type 0
AnalystsSeeTheLeadersChain =
    (setup : SetupValue) (base : ReleaseValue) (most i : ℕ) (chain whole : List BatchValue)
    (before after : PortValue) → IsPrefix chain whole
    → HasServed setup base most [] chain (suc i) before after
    → HasServed setup base most [] whole (suc i) before after
