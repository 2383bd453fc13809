-- What a custodian kept at some place stays kept.
use Rattle.std.proofs.Common.{◌≡◌, ◌∙◌, sym, ap, subst, refl, ℕ, Bool, List}
use Rattle.std.specs.Prelude.{Option, None, is_none}
use Rattle.tb_ahead.specs.Keepers.{KeeperValue, Reaches}
use Rattle.tb_ahead.specs.Keeping.{KeptState}
use Rattle.tb_ahead.specs.Publishing.{StateValue}
use Rattle.tb_ahead.specs.Puts.{Since}
use Rattle.tb_journal_file.specs.Files.{EachStandsBetween, EachStandsFor, all_of}
use Rattle.tb_journal_file.proofs.Putting.{left_from_now}
use Rattle.tb_keep.specs.Chains.{IsTheirs, batches_of}
use Rattle.tb_keep.specs.KeptRuns.{IsKeptReply, StandsAt}
use Rattle.tb_keep.specs.Staying.{BeginsWith, LinesStayKept, LinesStayPublished, StayKept, StayPublished, standing}
use Rattle.tb_keep.proofs.Chains.{any-line, lines-keep}
use Rattle.tb_keep.proofs.KeptRunning.{all_lines, lead_since}
use Rattle.tb_lines.specs.Outputs.{AtPrice, Charged, Lead, ReplyValue, charged}
use Rattle.tb_model.specs.Releases.{ReleaseValue}
use Rattle.tb_model.specs.Setups.{SetupValue}
use Rattle.tb_release.specs.declared.edits.Edit.{Edit}
use Rattle.tb_script.specs.Scripts.{ScriptLine, role_of_lane}

module _ {W D : Type 0} (disk : W → D) (content : D → Option (List ℕ)) (may_leave : D → List ℕ → Type 0) (moment : D → ℕ) (left_since : D → ℕ → List ℕ → Type 0)
    (only : (d : D) (image : List ℕ) → left_since d (moment d) image → may_leave d image) (Continues : W → W → Type 0) (live : W → Bool) (faults : W → ℕ) where
  abbrev Here : KeeperValue W → KeptState → Type 0
  Here = StandsAt live faults (standing disk content may_leave moment left_since Continues live faults)

  abbrev Stay : List (List Edit) → KeeperValue W → KeeperValue W → Type 0
  Stay = StayKept disk content may_leave moment left_since Continues live faults

  -- from where a custodian stands now, by any way on which it stays the same since when stops are watched
  pub stays : (old new : KeeperValue W) (batches : List (List Edit)) (further : Option (List Edit)) → is_none further ≡ live old.ahead
      → EachStandsFor (may_leave (disk old.ahead)) batches further
      → (Goes : KeptState → KeptState → Type 0) → ((first last : KeptState) → Goes first last → last.since ≡ first.since)
      → Reaches (Here old) (Here new) Goes → Stay batches old new
  stays old new batches further lives stands Goes watched reaches =
      let at = disk old.ahead in
      let since : Since = record { moment = moment at; batches = batches } in
      let first : KeptState = record { state = old.state; batches = batches; further = further; faults = faults old.ahead; since = since } in
      let left = left_from_now (content at) (may_leave at) (moment at) (left_since at) (only at) batches further stands in
      let (last, here, goes) = reaches first (record { same = refl; count = refl; lives = lives; stands = left }) in
      let same = watched first last goes in record {
        last = last;
        stands = here;
        ever = λ file told. subst (λ (s : Since). EachStandsBetween (left_since (disk new.ahead)) s (all_of last.batches last.further)) same (here.stands.ever file told).each;
      }

  -- and what it has published there stays, where it began with a recovered journal
  pub published : (first old new : KeeperValue W) (batches : List (List Edit)) → BeginsWith disk content may_leave moment left_since Continues live faults batches first
      → old.base ≡ first.base
      → (Came : KeptState → KeptState → Type 0) → ((a b : KeptState) → Came a b → IsTheirs first.base a → IsTheirs first.base b) → Reaches (Here first) (Here old) Came
      → (Goes : KeptState → KeptState → Type 0) → ((a b : KeptState) → Goes a b → b.since ≡ a.since) → Reaches (Here old) (Here new) Goes
      → StayPublished disk content may_leave moment left_since Continues live faults old new
  published first old new batches begins base Came theirs came Goes watched goes =
      let at = disk first.ahead in
      let since : Since = record { moment = moment at; batches = batches } in
      let start : KeptState = record { state = first.state; batches = batches; further = None; faults = faults first.ahead; since = since } in
      let left = left_from_now (content at) (may_leave at) (moment at) (left_since at) (only at) batches None begins.stands in
      let (there, here, lead) = came start (record { same = refl; count = refl; lives = sym begins.lives; stands = left }) in
      let own : there.state.chain ≡ batches_of first.base there.batches = theirs start there lead begins.theirs in record {
        batches = there.batches;
        theirs = ap (λ (s : StateValue). s.chain) (sym here.same) ∙ own ∙ ap (λ (b : ReleaseValue). batches_of b there.batches) (sym base);
        stay = stays old new there.batches there.further here.lives here.stands.now Goes watched goes;
      }

-- ---- the lines of a script
module _ (setup : SetupValue) (base : ReleaseValue) (from to : ℕ) (lines : List ScriptLine) (replies : List ReplyValue) where
  abbrev Goes : KeptState → KeptState → Type 0
  Goes first last = Lead (AtPrice (IsKeptReply setup base)) (charged first from) lines replies (charged last to)

  since_in_lines : (first last : KeptState) → Goes first last → last.since ≡ first.since
  since_in_lines first last goes = lead_since setup base (charged first from) (charged last to) lines replies goes

  theirs_in_lines : (first last : KeptState) → Goes first last → IsTheirs base first → IsTheirs base last
  theirs_in_lines first last goes =
      lines-keep (AtPrice (IsKeptReply setup base)) (λ (c : Charged KeptState). IsTheirs base c.at)
      (λ old next line reply step so. any-line (role_of_lane line.lane) setup base old.at next.at line.line reply step.0 so)
      (charged first from) (charged last to) lines replies goes

module _ {W D : Type 0} (disk : W → D) (content : D → Option (List ℕ)) (may_leave : D → List ℕ → Type 0) (moment : D → ℕ) (left_since : D → ℕ → List ℕ → Type 0)
    (only : (d : D) (image : List ℕ) → left_since d (moment d) image → may_leave d image) (Continues : W → W → Type 0) (itself : (one : W) → Continues one one)
    (further_on : (old mid new : W) → Continues old mid → Continues mid new → Continues old new) (live : W → Bool) (faults : W → ℕ) where
  pub lines_stay_kept : LinesStayKept disk content may_leave moment left_since Continues live faults
  lines_stay_kept setup old new later replies batches further lives stands lead =
      let (base, into, reaches) = all_lines Continues itself further_on live faults (standing disk content may_leave moment left_since Continues live faults) setup old later replies new lead in
      stays disk content may_leave moment left_since only Continues live faults old.at new.at batches further lives stands
      (Goes setup old.at.base old.steps new.steps later replies) (since_in_lines setup old.at.base old.steps new.steps later replies) reaches

  pub lines_stay_published : LinesStayPublished disk content may_leave moment left_since Continues live faults
  lines_stay_published setup first old new earlier later before after batches begins came lead =
      let there = standing disk content may_leave moment left_since Continues live faults in
      let (base, into, reached) = all_lines Continues itself further_on live faults there setup first earlier before old came in
      let (same, on, reaches) = all_lines Continues itself further_on live faults there setup old later after new lead in
      published disk content may_leave moment left_since only Continues live faults first.at old.at new.at batches begins base
      (Goes setup first.at.base first.steps old.steps earlier before) (theirs_in_lines setup first.at.base first.steps old.steps earlier before) reached
      (Goes setup old.at.base old.steps new.steps later after) (since_in_lines setup old.at.base old.steps new.steps later after) reaches
