-- A party that writes its batches ahead, beside what it writes them into, and where its lines lead.
use Rattle.std.specs.Prelude.{◌≡◌, ℕ, Bool, List, is_none}
use Rattle.tb_lines.specs.Outputs.{ReplyValue}
use Rattle.tb_model.specs.Releases.{ReleaseValue}
use Rattle.tb_ahead.specs.Keeping.{IsKeptStep, KeptState}
use Rattle.tb_ahead.specs.Publishing.{StateValue, let_go}
use Rattle.tb_ahead.specs.Puts.{FileStands}

-- such a party: release 0 of its chain, where it stands itself, and what it writes ahead into
pub record KeeperValue (W : Type 0) : Type 0 where
  pub base : ReleaseValue
  pub state : StateValue
  pub ahead : W

-- the same, of its three parts
abbrev pub keeper : {W : Type 0} → ReleaseValue → StateValue → W → KeeperValue W
keeper base state ahead = record { base = base; state = state; ahead = ahead }

-- the same party as it begins: it holds no edits
abbrev pub at_start : {W : Type 0} → KeeperValue W → KeeperValue W
at_start one = record one { state = let_go one.state }

-- a party of this state, with a journal that is live or not, whose file stands for this after a
-- stop, and a disk with that count of faults, stands here
pub record IsAt (standing : FileStands) (live : Bool)
    (faults : ℕ) (state : StateValue) (at : KeptState) : Type 0 where
  pub same : at.state ≡ state
  pub count : at.faults ≡ faults
  pub lives : is_none at.further ≡ live
  pub stands : standing at.since at.batches at.further

-- wherever it stood, a step leads to where it stands now
abbrev pub Reaches : (old new : KeptState → Type 0) → (KeptState → KeptState → Type 0) → Type 0
Reaches old new Step =
    (first : KeptState) → old first → (last : KeptState) × new last × Step first last

-- of what it writes through it is told what all calls keep of it, whether it is live, the disk's
-- count of faults, and what the file stands for after a stop; and of the party its own replies over
-- a release 0
module _ {W : Type 0} (Continues : W → W → Type 0) (live : W → Bool) (faults : W → ℕ)
    (standing : W → FileStands)
    (Own : ReleaseValue → StateValue → List ℕ → ReplyValue → StateValue → Type 0) where
  -- it stands here
  abbrev pub StandsAt : KeeperValue W → KeptState → Type 0
  StandsAt one at = IsAt (standing one.ahead) (live one.ahead) (faults one.ahead) one.state at

  -- a line that asks to publish, or doesn't, leads from one to the other by a reply; what is
  -- written through continues what it was
  abbrev pub LeadsBy : Bool → KeeperValue W → List ℕ → ReplyValue → KeeperValue W → Type 0
  LeadsBy asks old line reply new =
      (new.base ≡ old.base)
      × Continues old.ahead new.ahead
      × Reaches (StandsAt old) (StandsAt new)
      (λ first last. IsKeptStep asks (Own old.base) old.base first line reply last)

  -- a line does, where it is told which lines ask to publish
  abbrev pub KeepsTo : (List ℕ → Bool) → KeeperValue W → List ℕ → ReplyValue → KeeperValue W
      → Type 0
  KeepsTo publishes old line reply new = LeadsBy (publishes line) old line reply new
