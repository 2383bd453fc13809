-- The sessions of a custodian who writes ahead, one after another.
use Rattle.std.proofs.Common.{◌≡◌, ◌∙◌, sym, ap, subst, refl, ℕ, Bool, List, [], ◌∷◌, Option, inl, inr, ◌≤◌, arith}
use Rattle.tb_ahead.specs.Keepers.{KeeperValue, KeepsTo, Reaches, at_start}
use Rattle.tb_ahead.specs.Keeping.{KeptState}
use Rattle.tb_ahead.specs.Publishing.{let_go}
use Rattle.tb_ahead.specs.Puts.{FileStands}
use Rattle.tb_ahead.proofs.Kept.{lines_kept}
use Rattle.tb_host.specs.Sessions.{at_session}
use Rattle.tb_keep.specs.Chains.{IsOwnKeptStep, IsTheirs}
use Rattle.tb_keep.specs.KeptRuns.{StandsAt}
use Rattle.tb_keep.specs.Publishers.{IsOwnStep, asks_to_publish}
use Rattle.tb_keep.proofs.Chains.{lines-keep, stays_theirs}
use Rattle.tb_keep.proofs.KeptRunning.{own_counts, own_since}
use Rattle.tb_lines.specs.Outputs.{Lead, ReplyValue}
use Rattle.tb_lines.specs.Sessions.{IsSession}
use Rattle.tb_lines.specs.declared.session_end.SessionEnd.{SessionEnd}
use Rattle.tb_lines.specs.declared.session_end.SessionEnd.TheVariants.{Ended, Foreign, LineTooLong, TooManyLines, ReadFault, WriteFault}
use Rattle.tb_model.specs.Releases.{ReleaseValue}
use Rattle.tb_model.specs.Setups.{SetupValue}
use Rattle.tb_serve.specs.Ports.{PortValue}
use Rattle.tb_serve.specs.Serves.{IsVisited}
use Rattle.tb_worker.specs.Visits.{AreVisits, IsVisit, Visit}
use Rattle.tb_worker.proofs.Visiting.{replied}

module _ {W : Type 0} (Continues : W → W → Type 0) (itself : (one : W) → Continues one one) (further_on : (old mid new : W) → Continues old mid → Continues mid new → Continues old new)
    (live : W → Bool) (faults : W → ℕ) (standing : W → FileStands) (setup : SetupValue) where
  abbrev Legal : KeeperValue W → List (List ℕ) → List ReplyValue → KeeperValue W → Type 0
  Legal = Lead (KeepsTo Continues live faults standing (IsOwnStep setup) asks_to_publish)

  abbrev Kept : ReleaseValue → KeptState → List (List ℕ) → List ReplyValue → KeptState → Type 0
  Kept base = Lead (IsOwnKeptStep setup base)

  abbrev Here : KeeperValue W → KeptState → Type 0
  Here = StandsAt live faults standing

  -- from wherever it stood
  abbrev Says : KeeperValue W → KeeperValue W → (KeptState → KeptState → Type 0) → Type 0
  Says old new P = (new.base ≡ old.base) × Continues old.ahead new.ahead × Reaches (Here old) (Here new) P

  pub lines : (old : KeeperValue W) (ls : List (List ℕ)) (rs : List ReplyValue) (new : KeeperValue W) → Legal old ls rs new → Says old new (λ first last. Kept old.base first ls rs last)
  lines old ls rs new h = lines_kept (λ (k : KeeperValue W). k.base) (λ (a b : KeeperValue W). Continues a.ahead b.ahead)
      (λ (k : KeeperValue W). itself k.ahead) (λ (a b c : KeeperValue W). further_on a.ahead b.ahead c.ahead) Here (λ base. IsOwnKeptStep setup base) old ls rs new h

  session : (end : SessionEnd) (left now before after : Option (List ℕ)) (old new : KeeperValue W) → IsSession Legal end left now old new before after
      → Says old new (λ first last. IsSession (Kept old.base) end left now first last before after)
  session Ended left now before after old new h =
      let (base, into, reaches) = lines old _ _ new h.legal in (
        base,
        into,
        λ first at.
            let (last, end, legal) = reaches first at in
            (last, end, record { lines = h.lines; of_source = h.of_source; is_end = h.is_end; at_end = h.at_end; gave = h.gave; replies = h.replies; legal = legal; took = h.took }),
      )
  session Foreign left now before after old new h =
      let (base, into, reaches) = lines old _ _ new h.legal in (
        base,
        into,
        λ first at.
            let (last, end, legal) = reaches first at in
            (last, end, record { lines = h.lines; of_source = h.of_source; is_end = h.is_end; at_end = h.at_end; gave = h.gave; replies = h.replies; legal = legal; took = h.took }),
      )
  session LineTooLong left now before after old new h =
      let (base, into, reaches) = lines old _ _ new h.legal in (
        base,
        into,
        λ first at.
            let (last, end, legal) = reaches first at in
            (last, end, record { lines = h.lines; of_source = h.of_source; is_end = h.is_end; at_end = h.at_end; gave = h.gave; replies = h.replies; legal = legal; took = h.took }),
      )
  session TooManyLines left now before after old new h =
      let (base, into, reaches) = lines old _ _ new h.legal in (
        base,
        into,
        λ first at.
            let (last, end, legal) = reaches first at in
            (last, end, record { lines = h.lines; of_source = h.of_source; is_end = h.is_end; at_end = h.at_end; gave = h.gave; replies = h.replies; legal = legal; took = h.took }),
      )
  session ReadFault left now before after old new h =
      let (base, into, reaches) = lines old _ _ new h.legal in (
        base,
        into,
        λ first at.
            let (last, end, legal) = reaches first at in
            (last, end, record { lines = h.lines; given = h.given; none_ends = h.none_ends; few = h.few; gave = h.gave; replies = h.replies; legal = legal; took = h.took }),
      )
  session WriteFault left now before after old new (inl h) =
      let (base, into, reaches) = lines old _ _ new h.legal in (
        base,
        into,
        λ first at.
            let (last, end, legal) = reaches first at in
            (last, end, inl (record { lines = h.lines; of_source = h.of_source; count = h.count; among = h.among; gave = h.gave; replies = h.replies; cut = h.cut; legal = legal; part = h.part; took = h.took })),
      )
  session WriteFault left now before after old new (inr h) =
      let (base, into, reaches) = lines old _ _ new h.legal in (
        base,
        into,
        λ first at.
            let (last, end, legal) = reaches first at in
            (last, end, inr (record { lines = h.lines; of_source = h.of_source; is_end = h.is_end; gave = h.gave; replies = h.replies; legal = legal; part = h.part; took = h.took })),
      )

  -- it lets go of the edits that it held
  pub begun : (one : KeeperValue W) (first : KeptState) → Here one first → Here (at_start one) (at_session first)
  begun one first at = record { same = ap let_go at.same; count = at.count; lives = at.lives; stands = at.stands }

  visit : (old new : KeeperValue W) (v : Visit) → IsVisit Legal at_start old v new → Says old new (λ first last. IsVisit (Kept old.base) at_session first v last)
  visit old new v h =
      let (base, into, reaches) = session v.end v.came.left v.went.left v.came.taken v.went.taken (at_start old) new h.session in (
        base,
        into,
        λ first at.
            let (last, end, is) = reaches (at_session first) (begun old first at) in
            (last, end, record { session = is; cause = h.cause }),
      )

  pub visits : (old new : KeeperValue W) (vs : List Visit) → AreVisits Legal at_start old vs new → Says old new (λ first last. AreVisits (Kept old.base) at_session first vs last)
  visits old new [] h = subst (λ (k : KeeperValue W). Says old k (λ first last. AreVisits (Kept old.base) at_session first [] last)) (sym h) (refl, itself old.ahead, λ first at. (first, at, refl))
  visits old new (v ∷ vs) (next, one, others) =
      let (base, into, reaches) = visit old next v one in
      let (further, still, rest) = visits next new vs others in (
        further ∙ base,
        further_on old.ahead next.ahead new.ahead into still,
        λ first at.
            let (middle, there, is) = reaches first at in
            let (last, end, more) = rest middle there in
            (last, end, (middle, is, subst (λ (b : ReleaseValue). AreVisits (Kept b) at_session middle vs last) base more)),
      )

  -- the sessions of a port
  pub visited : (most : ℕ) (old new : KeeperValue W) (before after : PortValue) → IsVisited Legal at_start most old new before after
      → Says old new (λ first last. IsVisited (Kept old.base) at_session most first last before after)
  visited most old new before after h =
      let (base, into, reaches) = visits old new h.visits h.lead in (
        base,
        into,
        λ first at.
            let (last, end, lead) = reaches first at in
            (last, end, record { visits = h.visits; given = h.given; counted = h.counted; enough = h.enough; lead = lead }),
      )

-- ---- what each line keeps, all sessions keep
module _ (setup : SetupValue) (base : ReleaseValue) where
  abbrev Lines : KeptState → List (List ℕ) → List ReplyValue → KeptState → Type 0
  Lines = Lead (IsOwnKeptStep setup base)

  module _ (P : KeptState → Type 0) (begins : (at : KeptState) → P at → P (at_session at))
      (all : (first last : KeptState) (ls : List (List ℕ)) (rs : List ReplyValue) → Lines first ls rs last → P first → P last) where
    keep : (first last : KeptState) (vs : List Visit) → AreVisits Lines at_session first vs last → P first → P last
    keep first last [] h so = subst P (sym h) so
    keep first last (v ∷ vs) (next, one, others) so =
        let (ls, rs, legal) = replied Lines v.end v.came.left v.went.left v.came.taken v.went.taken (at_session first) next one.session in
        keep next last vs others (all (at_session first) next ls rs legal (begins first so))

  -- the chain stays that of the batches
  pub visits_theirs : (first last : KeptState) (vs : List Visit) → AreVisits Lines at_session first vs last → IsTheirs base first → IsTheirs base last
  visits_theirs = keep (IsTheirs base) (λ at so. so) (stays_theirs setup base)

  -- the disk's count doesn't fall
  pub visits_counted : (first last : KeptState) (vs : List Visit) → AreVisits Lines at_session first vs last → first.faults ≤ last.faults
  visits_counted first last vs h =
      keep (λ (at : KeptState). first.faults ≤ at.faults) (λ at so. so)
      (λ one other ls rs lead so.
      lines-keep (IsOwnKeptStep setup base) (λ (at : KeptState). first.faults ≤ at.faults)
      (λ old next line reply step so_far. omega (arith, so_far, own_counts setup base (asks_to_publish line) old next line reply step)) one other ls rs lead so)
      first last vs h (omega arith)

  -- since when it is watched what a stop leaves stays
  pub lines_since : (first last : KeptState) (ls : List (List ℕ)) (rs : List ReplyValue) → Lines first ls rs last → last.since ≡ first.since
  lines_since first last ls rs lead =
      lines-keep (IsOwnKeptStep setup base) (λ (at : KeptState). at.since ≡ first.since)
      (λ old next line reply step so_far. own_since setup base (asks_to_publish line) old next line reply step ∙ so_far) first last ls rs lead refl

  pub visits_since : (first last : KeptState) (vs : List Visit) → AreVisits Lines at_session first vs last → last.since ≡ first.since
  visits_since first last vs h =
      keep (λ (at : KeptState). at.since ≡ first.since) (λ at so. so)
      (λ one other ls rs lead so. lines_since one other ls rs lead ∙ so)
      first last vs h refl
