-- What a server did that keeps a journal.
use Rattle.std.specs.Prelude.{◌≡◌, ◌≤◌, ◌⊎◌, ℕ, List, None, Result, Ok, Err}
use Rattle.tb_base.specs.declared.status.Status.{Status}
use Rattle.tb_base.specs.declared.status.Status.TheVariants as status
use Rattle.tb_disk.specs.Images.{WhereTold}
use Rattle.tb_io.specs.Faults.{HasRisen}
use Rattle.tb_journal_file.specs.Files.{EachStandsFor}
use Rattle.tb_keep.specs.JournalRuns.{AreRecovered, IsJournalFault, after_playing}
use Rattle.tb_keep.specs.Seen.{IsAsItWas, JournalSeen, StandsAsBefore, StandsAsBeforeUntil}
use Rattle.tb_keep.specs.declared.recovery.JournalFault.{JournalFault}
use Rattle.tb_model.specs.Releases.{ReleaseValue}
use Rattle.tb_model.specs.Setups.{SetupValue}
use Rattle.tb_host.specs.Endings.{disk_line}
use Rattle.tb_host.specs.Sessions.{AreHostedFrom, IsLeftAt}
use Rattle.tb_release.specs.declared.edits.Edit.{Edit}
use Rattle.tb_serve.specs.Each.{Each}
use Rattle.tb_serve.specs.Places.{number_at}
use Rattle.tb_serve.specs.Ports.{PortValue}
use Rattle.tb_serve.specs.Serves.{IsEnded, IsOutOfMemory, IsUnbound, Output}
use Rattle.tb_serve.specs.declared.places.Places.{Places}

-- the batches of the journal's file were published, and a stop then left it as a file of them
pub record IsRecovered (setup : SetupValue) (base : ReleaseValue) (saw : JournalSeen) : Type 0 where
  pub batches : List (List Edit)
  pub all : AreRecovered setup base saw.content batches
  pub left : EachStandsFor saw.may_leave batches None
  pub ever : StandsAsBefore saw

-- The batches of the journal's file were published, at a moment before the first bind; until then
-- each stop left a file that stands as one that a stop at the beginning could leave. Then all
-- listeners were bound, and their ports were served from there with a live journal.
pub record HostsAll (setup : SetupValue) (base : ReleaseValue) (places : Places) (most : ℕ)
    (before after : List PortValue) (saw : JournalSeen) (out : Output) (ended : Status)
    : Type 0 where
  pub batches : List (List Edit)
  pub recovered : AreRecovered setup base saw.content batches
  pub first_moment : ℕ
  pub first_faults : ℕ
  pub since : saw.faults ≤ first_faults
  pub until : StandsAsBeforeUntil first_moment saw
  pub hosted : AreHostedFrom (after_playing base batches first_moment first_faults) setup base places
      most before after saw out ended
  pub bound : Each (λ i _. IsLeftAt places i) before after

-- What a call wrote and did that ended by its last line: memory was refused, and the file is left
-- as it was; or the disk failed before the first bind; or the batches of the file were published,
-- and a bind failed; or all was served.
abbrev pub HostsUntil : SetupValue → ReleaseValue → Places → ℕ → List PortValue → List PortValue
    → JournalSeen → Output → Status → Type 0
HostsUntil setup base places most before after saw out ended =
    IsOutOfMemory (number_at places) before after out ended × IsAsItWas saw
    ⊎ ((after ≡ before) × HasRisen saw.faults saw.faults_after × StandsAsBefore saw
    × IsEnded disk_line status.DiskFault out ended
    ⊎ (IsUnbound (number_at places) before after out ended × IsRecovered setup base saw
    ⊎ HostsAll setup base places most before after saw out ended))

-- What a call did with its ports, each of which is to serve so many sessions, and with the
-- journal's file: it ended by its last line; or the file is refused by its first fault and left as
-- it was, and nothing was written and no listener bound.
abbrev pub Hosts : SetupValue → ReleaseValue → Places → ℕ → List PortValue → List PortValue
    → JournalSeen → Output → Result Status JournalFault → Type 0
Hosts setup base places most before after saw out (Ok ended) =
    HostsUntil setup base places most before after saw out ended
Hosts setup base places most before after saw out (Err fault) =
    (after ≡ before) × (out.after ≡ out.before) × (out.faults_after ≡ out.faults) × IsAsItWas saw
    × WhereTold saw.content (λ file. IsJournalFault setup base file fault)
