-- The sessions of a server that keeps a journal, and what a stop after them may leave of its file.
use Rattle.std.specs.Prelude.{◌≡◌, ℕ, zero, suc, List, Bool, false, None, Some, is_none}
use Rattle.std.specs.Prelude.{length}
use Rattle.tb_ahead.specs.Keepers.{KeeperValue, Reaches}
use Rattle.tb_ahead.specs.Keeping.{KeptState}
use Rattle.tb_ahead.specs.Publishing.{let_go}
use Rattle.tb_ahead.specs.Puts.{FileStands}
use Rattle.tb_base.specs.declared.status.Status.{Status}
use Rattle.tb_disk.specs.Images.{WhereTold}
use Rattle.tb_journal_file.specs.Files.{EachStandsBetween, EachStandsFor, all_of}
use Rattle.tb_keep.specs.Chains.{IsOwnKeptStep, IsTheirs}
use Rattle.tb_keep.specs.KeptRuns.{StandsAt}
use Rattle.tb_keep.specs.Seen.{JournalSeen}
use Rattle.tb_lines.specs.Outputs.{Lead}
use Rattle.tb_model.specs.Releases.{ReleaseValue}
use Rattle.tb_model.specs.Setups.{SetupValue}
use Rattle.tb_host.specs.Endings.{IsHostReported}
use Rattle.tb_serve.specs.Each.{Each}
use Rattle.tb_serve.specs.Places.{number_at}
use Rattle.tb_serve.specs.Ports.{PortValue}
use Rattle.tb_serve.specs.Serves.{HasServed, IsVisited, Output}
use Rattle.tb_serve.specs.declared.places.Places.{Places}

-- where a custodian stands that begins a session: it lets go of the edits that it held
abbrev pub at_session : KeptState → KeptState
at_session at = record at { state = let_go at.state }

-- the sessions of the first port led the custodian, who writes each batch ahead, from where it
-- stood to where it stands; those of each other port led an analyst from the batches at which the
-- custodian began to a beginning of those at which it stands
abbrev pub IsHosted : SetupValue → ReleaseValue → ℕ → (first last : KeptState) → ℕ
    → PortValue → PortValue → Type 0
IsHosted setup base most first last zero before after =
    IsVisited (Lead (IsOwnKeptStep setup base)) at_session most first last before after
IsHosted setup base most first last (suc i) before after =
    HasServed setup base most first.state.chain last.state.chain (suc i) before after

-- of what batches are written ahead into it is told what all calls keep of it, whether it is live,
-- the disk's count of faults, and what the file stands for after a stop: wherever a custodian
-- stood, the sessions of all ports led it to where it stands then, over one release 0
abbrev pub HostsFrom : {W : Type 0} → (Continues : W → W → Type 0) → (live : W → Bool)
    → (faults : W → ℕ) → (standing : W → FileStands) → SetupValue → ℕ → (old new : KeeperValue W)
    → (before after : List PortValue) → Type 0
HostsFrom Continues live faults standing setup most old new before after =
    (new.base ≡ old.base)
    × Continues old.ahead new.ahead
    × Reaches (StandsAt live faults standing old) (StandsAt live faults standing new)
    (λ first last. Each (IsHosted setup old.base most first last) before after)

-- All ports were served from where the custodian stood first, and that was reported. Each file that
-- a stop now may leave stands for the batches to which its sessions led, whose chain the custodian
-- has, and at most one further batch; and what a stop since then may have left, for a beginning of
-- them that has all that he had then.
pub record AreHostedFrom (first : KeptState) (setup : SetupValue) (base : ReleaseValue)
    (places : Places) (most : ℕ) (before after : List PortValue) (saw : JournalSeen)
    (out : Output) (ended : Status) : Type 0 where
  pub last : KeptState
  pub sessions : Each (IsHosted setup base most first last) before after
  pub chain : IsTheirs base last
  pub left : EachStandsFor saw.may_leave last.batches last.further
  pub ever : WhereTold saw.content_after
      (λ _. EachStandsBetween saw.left_since first.since (all_of last.batches last.further))
  pub counted : last.faults ≡ saw.faults_after
  pub reported : IsHostReported (is_none last.further) places after (length last.state.chain) out
      ended

-- port i is left without a party and a reader of lines, its listener bound to its number
pub record IsLeftAt (places : Places) (i : ℕ) (after : PortValue) : Type 0 where
  pub port : after.listener.port ≡ Some (number_at places i)
  pub party : after.party ≡ None
  pub lines : after.has_lines ≡ false
