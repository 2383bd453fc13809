-- What a call keeps says that each table that a lane prints is counted over one release of the one chain.
use Rattle.std.proofs.Common.{◌≡◌, sym, subst, refl, ℕ, zero, suc, ◌<◌, List, [], ◌++◌, length, arith, below_more, inl, inr}
use Rattle.std.specs.Prelude.{◌⊎◌, Option, Ok}
use mathlib.Core.List.{IsPrefix}
use Rattle.tb_ahead.specs.Publishing.{after_seeing}
use Rattle.tb_base.specs.declared.status.Status.{Status}
use Rattle.tb_base.specs.declared.status.Status.TheVariants as status
use Rattle.tb_endings.specs.Endings.{last_line}
use Rattle.tb_endings.specs.declared.endings.End.TheVariants as end
use Rattle.tb_front.proofs.Prefixes.{prefix_self, prefix_trans}
use Rattle.tb_lanes.specs.Phases.{LaneGoes, PhaseGoes, PhasesGo, Progress, Standing, begun_with, lane_at, lines_at}
use Rattle.tb_lines.specs.Outputs.{Lead, ReplyValue}
use Rattle.tb_release.specs.Batches.{BatchValue}
use Rattle.tb_release.specs.Chains.{IsChain}
use Rattle.tb_script.specs.Scripts.{ScriptValue, lanes_of, role_of_lane}
use Rattle.tb_session.specs.Laws.{NumbersNeverFall}
use Rattle.tb_session.specs.Transcripts.{IsLegal, IsStep}
use Rattle.tb_session.specs.declared.party.Role.{Role}
use Rattle.tb_session.specs.declared.party.Role.TheVariants as role
use Rattle.tb_top.specs.Asking.{AskedValue, CensusValue, asked_of, asked_with, base_of}
use Rattle.tb_top.specs.declared.asked.AskedLines.TheVariants as lines
use Rattle.tb_command.specs.declared.command.Owner.{Owner}
use Rattle.tb_top.specs.Calls.{Call}
use Rattle.tb_top.specs.Counted.{IsAlong}
use Rattle.tb_top.specs.Talks.{ArePhasesAlong, HasPrinted, PhasesAlong}
use Rattle.tb_top.specs.LaneOutputs.{IsTextOfPhases}
use Rattle.tb_top.specs.Outputs.{IsOutput, IsOutputToMemory}
use Rattle.tb_top.specs.Promises.{IsAskedOutput, IsMemoryText, Tells}
use Rattle.tb_top.proofs.Headline.{IsLast, lines_along, lines_grow, printed, step_counts}
use Rattle.tb_top.proofs.HeadlineSessions.{chain_of, own_grows}

-- what a lane has seen between two phases
abbrev seen_by : Role → Standing → ℕ → List BatchValue
seen_by role.Custodian standing n = standing.custodian.chain
seen_by role.Analyst standing n = standing.seen n

abbrev seen_at : ScriptValue → Standing → ℕ → List BatchValue
seen_at script standing n = seen_by (role_of_lane (lane_at script n)) standing n

-- at first nothing
nothing_seen : (who : Role) (n : ℕ) → seen_by who (begun_with (after_seeing [])).standing n ≡ []
nothing_seen role.Custodian n = refl
nothing_seen role.Analyst n = refl

-- ---- whether some lane is the custodian's
abbrev NoneIs : ScriptValue → ℕ → Type 0
NoneIs script m = (n : ℕ) → n < m → role_of_lane (lane_at script n) ≡ role.Analyst

abbrev SomeIs : ScriptValue → ℕ → Type 0
SomeIs script m = (n : ℕ) × (n < m) × (role_of_lane (lane_at script n) ≡ role.Custodian)

one_more_lane : (script : ScriptValue) (m : ℕ) (who : Role) → role_of_lane (lane_at script m) ≡ who → NoneIs script m → NoneIs script (suc m) ⊎ SomeIs script (suc m)
one_more_lane script m role.Analyst is none =
    inl (λ n below. below_more (λ (k : ℕ). role_of_lane (lane_at script k) ≡ role.Analyst) m none is n (omega (arith, below)))
one_more_lane script m role.Custodian is none = inr (m, omega arith, is)

some_lane : (script : ScriptValue) (m : ℕ) → NoneIs script m ⊎ SomeIs script m
some_lane script zero = inl (λ n below. absurd (omega arith))
some_lane script (suc m) = elim (some_lane script m) [
  | inl none ↦ one_more_lane script m (role_of_lane (lane_at script m)) refl none
  | inr some ↦ inr (some.0, omega (arith, some.1), some.2)
]

module _ (never_fall : NumbersNeverFall) (census : CensusValue) (script : ScriptValue) where
  -- some lines lead the custodian through a phase
  custodian_goes : (phase : ℕ) (replies : ℕ → List ReplyValue) (old new : Standing) → PhaseGoes census.setup (base_of census) script phase replies old new
      → (lines : List (List ℕ)) × (rs : List ReplyValue) × IsLegal role.Custodian census.setup (base_of census) old.custodian lines rs new.custodian
  custodian_goes phase replies old new h = elim (some_lane script (length (lanes_of script.lines))) [
    | inl none ↦ ([], [], h.none none)
    | inr some ↦ (
      lines_at script phase some.0,
      replies some.0,
      subst (λ (who : Role). LaneGoes who census.setup (base_of census) (lines_at script phase some.0) (replies some.0) old new some.0) some.2
          (h.lanes some.0 some.1),
    )
  ]

  -- so the batches are a chain
  phases_grow : (n : ℕ) (last : Progress) → PhasesGo census.setup (base_of census) script n (begun_with (after_seeing [])) last
      → IsChain (base_of census) last.standing.custodian.chain
  phases_grow zero last e = subst (λ (p : Progress). IsChain (base_of census) p.standing.custodian.chain) (sym e) tt
  phases_grow (suc n) last (at, before, phase) =
      let (lines, rs, legal) = custodian_goes (suc n) phase.replies at.standing last.standing phase.goes in
      lines_grow chain_of (IsStep role.Custodian census.setup (base_of census)) (λ (c : List BatchValue). IsChain (base_of census) c) (own_grows census.setup (base_of census))
      at.standing.custodian last.standing.custodian lines rs legal (phases_grow n at before)

  -- the lines of a lane in a phase
  lane_along : (who : Role) (chain : List BatchValue) (lines : List (List ℕ)) (replies : List ReplyValue) (old new : Standing) (n : ℕ)
      → IsPrefix new.custodian.chain chain → LaneGoes who census.setup (base_of census) lines replies old new n
      → (from : List BatchValue) × IsPrefix (seen_by who old n) from
      × Lead (IsAlong census.setup (base_of census) chain who) from lines replies (seen_by who new n)
  lane_along role.Custodian chain lines replies old new n p h = (
    old.custodian.chain,
    prefix_self old.custodian.chain,
    lines_along census.setup (base_of census) (λ (l : List ℕ). role.Custodian) (λ (l : List ℕ). l) chain_of (IsStep role.Custodian census.setup (base_of census))
        (step_counts never_fall role.Custodian census.setup (base_of census)) chain old.custodian new.custodian lines replies p h,
  )
  lane_along role.Analyst chain lines replies old new n p h = (
    h.from,
    h.own,
    lines_along census.setup (base_of census) (λ (l : List ℕ). role.Analyst) (λ (l : List ℕ). l) chain_of (IsStep role.Analyst census.setup (base_of census))
        (step_counts never_fall role.Analyst census.setup (base_of census)) chain (after_seeing h.from) (after_seeing (new.seen n)) lines replies
        (prefix_trans (new.seen n) new.custodian.chain chain h.within p) h.legal,
  )

  phases_along : (chain : List BatchValue) (n : ℕ) (last : Progress) → IsPrefix last.standing.custodian.chain chain
      → PhasesGo census.setup (base_of census) script n (begun_with (after_seeing [])) last
      → PhasesAlong census script chain n (seen_at script last.standing) last.text
  phases_along chain zero last p e =
      subst (λ (q : Progress). PhasesAlong census script chain zero (seen_at script q.standing) q.text) (sym e)
      (λ n. nothing_seen (role_of_lane (lane_at script n)) n, refl)
  phases_along chain (suc n) last p (at, before, phase) =
      let (lines, rs, legal) = custodian_goes (suc n) phase.replies at.standing last.standing phase.goes in
      let begins : IsPrefix at.standing.custodian.chain last.standing.custodian.chain =
      (never_fall role.Custodian census.setup (base_of census) at.standing.custodian last.standing.custodian lines rs legal).0 in (
        seen_at script at.standing,
        at.text,
        phase.replies,
        phases_along chain n at (prefix_trans at.standing.custodian.chain last.standing.custodian.chain chain begins p) before,
        (λ k below. lane_along (role_of_lane (lane_at script k)) chain (lines_at script (suc n) k) (phase.replies k) at.standing last.standing k p (phase.goes.lanes k below)),
        phase.added,
      )

  -- the text of all phases, and of some first ones where memory ran out
  all_along : (text : List ℕ) → IsTextOfPhases census script script.phases text → ArePhasesAlong census script text
  all_along text (last, go, is) = (
    last.standing.custodian.chain,
    script.phases,
    seen_at script last.standing,
    last.text,
    phases_grow script.phases last go,
    phases_along last.standing.custodian.chain script.phases last (prefix_self last.standing.custodian.chain) go,
    inl (refl, is),
  )

  some_along : (n : ℕ) (before text : List ℕ) → IsTextOfPhases census script n before → text ≡ before ++ last_line end.Memory → ArePhasesAlong census script text
  some_along n before text (last, go, is) line = (
    last.standing.custodian.chain,
    n,
    seen_at script last.standing,
    last.text,
    phases_grow n last go,
    phases_along last.standing.custodian.chain n last (prefix_self last.standing.custodian.chain) go,
    inr (subst (λ (b : List ℕ). text ≡ b ++ last_line end.Memory) is line),
  )

-- ---- a whole run
module _ (never_fall : NumbersNeverFall) (call : Call) (at : List ℕ → Option (List ℕ)) (census : CensusValue) (who : Owner)
    (script : ScriptValue) (asks : asked_of at call.words ≡ Ok (asked_with census who (lines.Lanes script))) where
  asked_lanes : (s : Status) (text : List ℕ) → IsAskedOutput call at s text → ArePhasesAlong census script text
  asked_lanes s text (other, h, out) =
      let same : other ≡ asked_with census who (lines.Lanes script) = cc (h, asks) in
      all_along never_fall census script text (subst (λ (a : AskedValue). IsOutput a call.ports call.ports_after s text) same out).1

  memory_lanes : (text : List ℕ) → IsMemoryText call at text → IsLast status.Memory text ⊎ ArePhasesAlong census script text
  memory_lanes text (inl line) = inl (λ e. cc, status.Memory, inl (end.Memory, refl, line))
  memory_lanes text (inr (other, h, out)) =
      let same : other ≡ asked_with census who (lines.Lanes script) = cc (h, asks) in
      let (n, before, low, phases, line) : IsOutputToMemory (asked_with census who (lines.Lanes script)) text = subst (λ (a : AskedValue). IsOutputToMemory a text) same out in
      inr (some_along never_fall census script n before text phases line)

  pub lanes_printed : (s : Status) → Tells call at s → HasPrinted call s (ArePhasesAlong census script)
  lanes_printed = printed call at (ArePhasesAlong census script) asked_lanes memory_lanes
