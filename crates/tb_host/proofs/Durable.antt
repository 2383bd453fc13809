-- What analysts saw is on the disk.
use Rattle.std.proofs.Common.{◌≡◌, ◌∙◌, sym, subst, refl, Bool, List, [], ◌∷◌, ◌++◌, inl, inr, ℕ}
use Rattle.std.specs.Prelude.{◌⊎◌, Option, None, Some}
use Rattle.tb_ahead.specs.Keepers.{KeeperValue, Reaches, at_start}
use Rattle.tb_ahead.specs.Keeping.{KeptState}
use Rattle.tb_ahead.specs.Publishing.{StateValue, let_go}
use Rattle.tb_ahead.specs.Puts.{FileStands}
use Rattle.tb_front.proofs.Prefixes.{prefix_more, prefix_self, prefix_trans}
use Rattle.tb_host.specs.Laws.{HasAll, HasCome, HasGoneOn, HasStood, IsDurable, StaysKept, StaysPublished}
use Rattle.tb_host.specs.Sessions.{at_session}
use Rattle.tb_host.proofs.Visits.{begun, lines as own_lines, lines_since, visits, visits_since, visits_theirs}
use Rattle.tb_journal_file.specs.Files.{EachStandsFor, IsFileOf}
use Rattle.tb_keep.specs.Chains.{IsOwnKeptStep, IsTheirs, batches_of}
use Rattle.tb_keep.specs.KeptRuns.{StandsAt}
use Rattle.tb_keep.specs.Staying.{standing}
use Rattle.tb_keep.proofs.Chains.{batches_of-more, stays_theirs}
use Rattle.tb_keep.proofs.Staying.{published, stays}
use Rattle.tb_lines.specs.Outputs.{Lead, ReplyValue}
use Rattle.tb_model.specs.Releases.{ReleaseValue}
use Rattle.tb_model.specs.Setups.{SetupValue}
use Rattle.tb_release.specs.Batches.{BatchValue, batch_of}
use Rattle.tb_release.specs.Chains.{release_after}
use Rattle.tb_release.specs.declared.edits.Edit.{Edit}
use Rattle.tb_session.specs.Transcripts.{IsLegal}
use Rattle.tb_session.specs.declared.party.Role.TheVariants as role
use Rattle.tb_session.specs.Laws.{NumbersNeverFall}
use Rattle.tb_worker.specs.Visits.{AreVisits, Visit}
use Rattle.tb_worker.proofs.Visiting.{replied}
use mathlib.Core.List.{IsPrefix}

-- ---- what an analyst has seen it sees in all sessions after
module _ (never_fall : NumbersNeverFall) (setup : SetupValue) (base : ReleaseValue) where
  visits_begin : (first last : StateValue) (vs : List Visit) → AreVisits (IsLegal role.Analyst setup base) let_go first vs last → IsPrefix first.chain last.chain
  visits_begin first last [] h = subst (λ (s : StateValue). IsPrefix first.chain s.chain) (sym h) (prefix_self first.chain)
  visits_begin first last (v ∷ vs) (next, one, others) =
      let (lines, replies, legal) = replied (IsLegal role.Analyst setup base) v.end v.came.left v.went.left v.came.taken v.went.taken (let_go first) next one.session in
      prefix_trans first.chain next.chain last.chain (never_fall role.Analyst setup base (let_go first) next lines replies legal).0 (visits_begin next last vs others)

  seen_at_end : (here last : StateValue) → HasStood setup base here last → IsPrefix here.chain last.chain
  seen_at_end here last h = prefix_trans here.chain h.ended.chain last.chain (never_fall role.Analyst setup base here h.ended h.lines h.replies h.legal).0 (visits_begin h.ended last h.later h.lead)

-- ---- what the custodian has is in each file
module _ (base : ReleaseValue) (batches : List (List Edit)) (seen : List BatchValue) (file : List ℕ) (begins : IsPrefix seen (batches_of base batches)) where
  -- with one batch more, or without
  with_or_without : (last : List Edit) → IsFileOf batches file ⊎ IsFileOf (batches ++ last ∷ []) file → HasAll base seen file
  with_or_without last (inl is) = (batches, is, begins)
  with_or_without last (inr is) = (
    batches ++ last ∷ [],
    is,
    subst (λ (chain : List BatchValue). IsPrefix seen chain) (sym (batches_of-more base batches last))
        (prefix_more seen (batches_of base batches) (batch_of (release_after base (batches_of base batches)) last ∷ []) begins),
  )

  has_all : (further : Option (List Edit)) → EachStandsFor (λ image. image ≡ file) batches further → HasAll base seen file
  has_all None stands = (batches, stands file refl, begins)
  has_all (Some last) stands = with_or_without last (stands file refl)

pub is_durable : NumbersNeverFall → IsDurable
is_durable never_fall setup base at here last file theirs stood ends stands =
    let begins = prefix_trans here.chain last.chain at.state.chain (seen_at_end never_fall setup base here last stood) ends in
    has_all base at.batches here.chain file (subst (λ (chain : List BatchValue). IsPrefix here.chain chain) theirs begins) at.further stands

-- ---- what a session kept stays kept
-- lines, and then sessions, leave it as it was since when stops are watched
module _ (setup : SetupValue) (base : ReleaseValue) (ls : List (List ℕ)) (rs : List ReplyValue) (vs : List Visit) where
  abbrev Kept : KeptState → List (List ℕ) → List ReplyValue → KeptState → Type 0
  Kept = Lead (IsOwnKeptStep setup base)

  abbrev Goes : KeptState → KeptState → Type 0
  Goes first last = (ended : KeptState) × Kept first ls rs ended × AreVisits Kept at_session ended vs last

  since_on : (first last : KeptState) → Goes first last → last.since ≡ first.since
  since_on first last (ended, lead, sessions) = visits_since setup base ended last vs sessions ∙ lines_since setup base first ended ls rs lead

  -- sessions, and then lines of one more, leave a chain that of its batches
  abbrev Came : KeptState → KeptState → Type 0
  Came first last = (before : KeptState) × AreVisits Kept at_session first vs before × Kept (at_session before) ls rs last

  theirs_on : (first last : KeptState) → Came first last → IsTheirs base first → IsTheirs base last
  theirs_on first last (before, sessions, lead) theirs =
      stays_theirs setup base (at_session before) last ls rs lead (visits_theirs setup base first before vs sessions theirs)

module _ {W D : Type 0} (disk : W → D) (content : D → Option (List ℕ)) (may_leave : D → List ℕ → Type 0) (moment : D → ℕ) (left_since : D → ℕ → List ℕ → Type 0)
    (only : (d : D) (image : List ℕ) → left_since d (moment d) image → may_leave d image) (Continues : W → W → Type 0) (itself : (one : W) → Continues one one)
    (further_on : (old mid new : W) → Continues old mid → Continues mid new → Continues old new) (live : W → Bool) (faults : W → ℕ) where
  abbrev There : W → FileStands
  There = standing disk content may_leave moment left_since Continues live faults

  pub stays_kept : StaysKept disk content may_leave moment left_since Continues live faults
  stays_kept setup old new later batches further lives stands sessions =
      let (base, into, reaches) = visits Continues itself further_on live faults There setup old new later sessions in
      stays disk content may_leave moment left_since only Continues live faults old new batches further lives stands
      (λ first last. AreVisits (Lead (IsOwnKeptStep setup old.base)) at_session first later last)
      (λ first last lead. visits_since setup old.base first last later lead) reaches

  -- from a place at a line's return
  goes_on : (setup : SetupValue) (here new : KeeperValue W) (on : HasGoneOn disk content may_leave moment left_since Continues live faults setup here new)
      → Reaches (StandsAt live faults There here) (StandsAt live faults There new) (Goes setup here.base on.lines on.replies on.later)
  goes_on setup here new on first at =
      let (base, into, reaches) = own_lines Continues itself further_on live faults There setup here on.lines on.replies on.ended on.lead in
      let (same, still, more) = visits Continues itself further_on live faults There setup on.ended new on.later on.sessions in
      let (ended, between, lead) = reaches first at in
      let (last, end, sessions) = more ended between in (
        last,
        end,
        (ended, lead, subst (λ (b : ReleaseValue). AreVisits (Lead (IsOwnKeptStep setup b)) at_session ended on.later last) base sessions),
      )

  -- and to it
  came_to : (setup : SetupValue) (first here : KeeperValue W) (to : HasCome disk content may_leave moment left_since Continues live faults setup first here)
      → (here.base ≡ first.base)
      × Reaches (StandsAt live faults There first) (StandsAt live faults There here) (Came setup first.base to.lines to.replies to.earlier)
  came_to setup first here to =
      let (base, into, reaches) = visits Continues itself further_on live faults There setup first to.before to.earlier to.sessions in
      let (same, still, more) = own_lines Continues itself further_on live faults There setup (at_start to.before) to.lines to.replies here to.lead in (
        same ∙ base,
        λ start at.
            let (before, between, sessions) = reaches start at in
            let (last, end, lead) = more (at_session before) (begun Continues itself further_on live faults There setup to.before before between) in (
              last,
              end,
              (before, sessions, subst (λ (b : ReleaseValue). Lead (IsOwnKeptStep setup b) (at_session before) to.lines to.replies last) base lead),
            ),
      )

  pub stays_published : StaysPublished disk content may_leave moment left_since Continues live faults
  stays_published setup first here new batches begins to on =
      let (base, came) = came_to setup first here to in
      published disk content may_leave moment left_since only Continues live faults first here new batches begins base
      (Came setup first.base to.lines to.replies to.earlier) (theirs_on setup first.base to.lines to.replies to.earlier) came
      (Goes setup here.base on.lines on.replies on.later) (since_on setup here.base on.lines on.replies on.later) (goes_on setup here new on)
