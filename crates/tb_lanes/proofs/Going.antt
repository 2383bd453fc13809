-- One phase more of a run.
use Rattle.std.proofs.Common.{◌≡◌, ◌⊎◌, ◌∙◌, sym, ap, subst, refl, ℕ, zero, suc, ◌+◌, ◌<◌, ◌≤◌, List, [], ◌∷◌, ◌++◌, length, map, get_or, add-one, arith, inl, inr}
use Rattle.std.proofs.lemmas.Bool.{cases_lt}
use Rattle.std.proofs.lemmas.List.{get_or-map}
use mathlib.Core.List.{IsPrefix}
use Rattle.tb_board.specs.Starts.{StartValue}
use Rattle.tb_front.specs.Holders.{Name}
use Rattle.tb_front.proofs.Prefixes.{prefix_self, prefix_trans}
use Rattle.tb_lanes.specs.declared.lane.Lane.{Lane}
use Rattle.tb_lanes.specs.Lanes.{Ran, has_some}
use Rattle.tb_lanes.specs.Phases.{AnalystGoes, IsPhase, LaneGoes, PhaseGoes, PhasesGo, Progress, Standing, begun_with, lane_at, lane_text, lanes_text, lines_at, phase_line, phase_text}
use Rattle.tb_lanes.specs.Runs.{AnalystRan, KnowLines, LaneRan, PhaseRan, Stand, Tell}
use Rattle.tb_lanes.proofs.Lanes.{told_text}
use Rattle.tb_session.proofs.LegalParties.{lines_legal}
use Rattle.tb_model.specs.Releases.{ReleaseValue}
use Rattle.tb_model.specs.Setups.{SetupValue}
use Rattle.tb_release.specs.Batches.{BatchValue}
use Rattle.tb_script.specs.Scripts.{ScriptValue, lanes_of, role_of_lane}
use Rattle.tb_lines.specs.Outputs.{ReplyValue, text_of}
use Rattle.tb_session.specs.Parties.{IsOwnerOf, role_of, seen_by, state_of}
use Rattle.tb_ahead.specs.Publishing.{StateValue, after_seeing}
use Rattle.tb_session.specs.Transcripts.{IsLegal}
use Rattle.tb_session.specs.declared.party.Party.{Party}
use Rattle.tb_session.specs.declared.party.Party.TheVariants as party
use Rattle.tb_session.specs.declared.party.Role.{Role}
use Rattle.tb_session.specs.declared.party.Role.TheVariants as role

-- one value for each number below another, out of what holds of each
picked : {X : Type 0} (P : ℕ → X → Type 0) (d : X) (len : ℕ) → ((n : ℕ) → n < len → (x : X) × P n x) → (n : ℕ) → (n < len) ⊎ (len ≤ n) → X
picked P d len h n (inl lt) = (h n lt).0
picked P d len h n (inr le) = d

picked_is : {X : Type 0} (P : ℕ → X → Type 0) (d : X) (len : ℕ) (h : (n : ℕ) → n < len → (x : X) × P n x) (n : ℕ) → n < len
    → (c : (n < len) ⊎ (len ≤ n)) → P n (picked P d len h n c)
unfolding picked
picked_is P d len h n lt (inl at) = (h n at).1
picked_is P d len h n lt (inr le) = absurd (omega (arith, lt, le))

pub choose : {X : Type 0} (P : ℕ → X → Type 0) (d : X) (len : ℕ) → ((n : ℕ) → n < len → (x : X) × P n x)
    → (f : ℕ → X) × ((n : ℕ) → n < len → P n (f n))
choose P d len h = (λ n. picked P d len h n (cases_lt n len), λ n lt. picked_is P d len h n lt (cases_lt n len))

-- where an analyst stands
pub analyst_state : (p : Party) → role_of p ≡ role.Analyst → state_of p ≡ after_seeing (seen_by p).list
analyst_state (party.Analyst pass) who = refl
analyst_state (party.Custodian c h) who = let wrong : role.Custodian ≡ role.Analyst = who in absurd (cc)

-- the texts of some replies are those that are told
texts_same : (script : ScriptValue) (phase : ℕ) (texts others : ℕ → List ℕ) (n len : ℕ) → n ≤ len → ((k : ℕ) → k < len → texts k ≡ others k)
    → lanes_text script phase texts n ≡ lanes_text script phase others n
texts_same script phase texts others zero len le same = refl
texts_same script phase texts others (suc n) len le same =
    ap (λ (t : List ℕ). t ++ lane_text (lane_at script n) (lines_at script phase n) (texts n))
    (texts_same script phase texts others n len (omega (arith, le)) same)
    ∙ ap (λ (t : List ℕ). lanes_text script phase others n ++ lane_text (lane_at script n) (lines_at script phase n) t)
    (same n (omega (arith, le)))

pub phase_text_same : (script : ScriptValue) (phase : ℕ) (texts others : ℕ → List ℕ)
    → ((k : ℕ) → k < length (lanes_of script.lines) → texts k ≡ others k) → phase_text script phase texts ≡ phase_text script phase others
phase_text_same script phase texts others same = ap (λ (t : List ℕ). phase_line phase ++ t)
    (texts_same script phase texts others (length (lanes_of script.lines)) (length (lanes_of script.lines)) (omega arith) same)

-- every analyst has seen a beginning of what the custodian published
abbrev pub AreBehind : ScriptValue → Standing → Type 0
AreBehind script standing = (n : ℕ) → n < length (lanes_of script.lines) → role_of_lane (lane_at script n) ≡ role.Analyst
    → IsPrefix (standing.seen n) standing.custodian.chain

module _ {G : Type 0} (setup : SetupValue) (base : ReleaseValue) (script : ScriptValue) (phase : ℕ) (own own' : Party)
    (lanes lanes' : List (Lane G)) (standing : Standing) (texts : ℕ → List ℕ)
    (all : length lanes ≡ length (lanes_of script.lines)) (ran : PhaseRan setup script phase own own' lanes lanes')
    (stand : Stand base script own lanes standing) (tell : Tell texts lanes') where
  -- where all stand then
  parties : List Party
  parties = map (λ (lane : Lane G). lane.party) lanes'

  next : Standing
  next = record { custodian = state_of own'; seen = λ n. (seen_by (get_or parties n own')).list }

  long' : length lanes' ≡ length (lanes_of script.lines)
  long' = ran.same_length ∙ all

  seen_next : (n : ℕ) (d : Lane G) → n < length lanes' → next.seen n ≡ (seen_by (get_or lanes' n d).party).list
  unfolding next parties
  seen_next n d lt = ap (λ (p : Party). (seen_by p).list) (get_or-map (λ (lane : Lane G). lane.party) lanes' n d own' lt)

  -- what is said of a lane's replies
  abbrev Says : ℕ → List ReplyValue → Type 0
  Says n replies = LaneGoes (role_of_lane (lane_at script n)) setup base (lines_at script phase n) replies standing next n ×
      (texts n ≡ text_of replies)

  own_says : (n : ℕ) (d : Lane G) → n < length lanes → Ran setup (lines_at script phase n) own (get_or lanes' n d).sink
      (get_or lanes' n d).spoke own' → role_of_lane (lane_at script n) ≡ role.Custodian
      → role_of own ≡ role.Custodian → (replies : List ReplyValue) × Says n replies
  unfolding next
  own_says n d lt is whose who =
      let legal = (lines_legal setup own (lines_at script phase n) is.replies own' is.legal).1 in
      let by_role : IsLegal role.Custodian setup (seen_by own).start.base (state_of own) (lines_at script phase n) is.replies
      (state_of own') = subst (λ (r : Role). IsLegal r setup (seen_by own).start.base (state_of own) (lines_at script phase n)
      is.replies (state_of own')) who legal in
      let by_base : IsLegal role.Custodian setup base (state_of own) (lines_at script phase n) is.replies (state_of own') = subst
      (λ (b : ReleaseValue). IsLegal role.Custodian setup b (state_of own) (lines_at script phase n) is.replies (state_of own'))
      stand.over by_role in
      let by_state : IsLegal role.Custodian setup base standing.custodian (lines_at script phase n) is.replies (state_of own') = subst
      (λ (s : StateValue). IsLegal role.Custodian setup base s (lines_at script phase n) is.replies (state_of own'))
      (sym stand.custodian) by_base in
      let goes : LaneGoes role.Custodian setup base (lines_at script phase n) is.replies standing next n = by_state in (
        is.replies,
        (
          subst (λ (r : Role). LaneGoes r setup base (lines_at script phase n) is.replies standing next n) (sym whose) goes,
          told_text (get_or lanes' n d).sink (texts n) (text_of is.replies) (tell n d (omega (arith, lt, ran.same_length))) is.took,
        ),
      )

  analyst_says : (n : ℕ) (d : Lane G) → n < length lanes → AnalystRan setup (lines_at script phase n) own own' (get_or lanes n d)
      (get_or lanes' n d) → role_of_lane (lane_at script n) ≡ role.Analyst
      → (replies : List ReplyValue) × Says n replies
  unfolding next
  analyst_says n d lt is whose =
      let lines = lines_at script phase n in
      let replies = is.ran.replies in
      let after : Party = (get_or lanes' n d).party in
      let (goes, legal) = lines_legal setup is.from lines replies after is.ran.legal in
      let still : role_of after ≡ role.Analyst = goes.who ∙ is.analyst in
      let by_role : IsLegal role.Analyst setup (seen_by is.from).start.base (state_of is.from) lines replies (state_of after) = subst
      (λ (r : Role). IsLegal r setup (seen_by is.from).start.base (state_of is.from) lines replies (state_of after)) is.analyst legal in
      let start : (seen_by is.from).start.base ≡ base = ap (λ (s : StartValue). s.base) is.told.base ∙ stand.over in
      let by_base : IsLegal role.Analyst setup base (state_of is.from) lines replies (state_of after) = subst
      (λ (b : ReleaseValue). IsLegal role.Analyst setup b (state_of is.from) lines replies (state_of after)) start by_role in
      let by_from : IsLegal role.Analyst setup base (after_seeing (seen_by is.from).list) lines replies (state_of after) = subst
      (λ (s : StateValue). IsLegal role.Analyst setup base s lines replies (state_of after)) (analyst_state is.from is.analyst) by_base
      in
      let lt' : n < length lanes' = omega (arith, lt, ran.same_length) in
      let there : state_of after ≡ after_seeing (next.seen n) = analyst_state after still ∙ ap after_seeing (sym (seen_next n d lt')) in
      let by_last : IsLegal role.Analyst setup base (after_seeing (seen_by is.from).list) lines replies (after_seeing (next.seen n)) = subst
      (λ (s : StateValue). IsLegal role.Analyst setup base (after_seeing (seen_by is.from).list) lines replies s) there by_from in
      let chain : standing.custodian.chain ≡ (seen_by own).list = ap (λ (s : StateValue). s.chain) stand.custodian in
      let goes_here : AnalystGoes setup base lines replies standing.custodian.chain next.custodian.chain (standing.seen n) (next.seen n) =
      record {
        from = (seen_by is.from).list;
        told = subst (λ (l : List BatchValue). IsPrefix l (seen_by is.from).list) (sym chain) is.told.begins;
        own = prefix_trans (standing.seen n) (seen_by (get_or lanes n d).party).list (seen_by is.from).list (stand.analysts n d lt whose)
            is.before.begins;
        legal = by_last;
        within = subst (λ (l : List BatchValue). IsPrefix l (seen_by own').list) (sym (seen_next n d lt')) is.behind.begins;
      } in (
        replies,
        (
          subst (λ (r : Role). LaneGoes r setup base lines replies standing next n) (sym whose) goes_here,
          told_text
              (get_or lanes' n d).sink (texts n) (text_of replies) (tell n d lt') is.ran.took,
        ),
      )

  lane_says : (n : ℕ) (d : Lane G) → n < length lanes → role_of own ≡ role.Custodian → (r : Role) → role_of_lane (lane_at script n) ≡ r
      → LaneRan r setup (lines_at script phase n) own own' (get_or lanes n d) (get_or lanes' n d)
      → (replies : List ReplyValue) × Says n replies
  lane_says n d lt who role.Custodian is h = own_says n d lt h is who
  lane_says n d lt who role.Analyst is h = analyst_says n d lt h is

  some_lane : (xs : List (Lane G)) (i : ℕ) → i < length xs → Lane G
  some_lane [] i h = absurd (omega (arith, h))
  some_lane (x ∷ xs) i h = x

  all_say : role_of own ≡ role.Custodian → (n : ℕ) → n < length (lanes_of script.lines) → (replies : List ReplyValue) × Says n replies
  all_say who n lt =
      let below : n < length lanes = omega (arith, lt, all) in
      let d : Lane G = some_lane lanes n below in
      lane_says n d below who (role_of_lane (lane_at script n)) refl (ran.lanes_ran n d below)

  goes_next : (replies : ℕ → List ReplyValue) → ((n : ℕ) → n < length (lanes_of script.lines) → Says n (replies n))
      → PhaseGoes setup base script phase replies standing next
  unfolding next
  goes_next replies says = record {
    lanes = λ n lt. (says n lt).0;
    none = λ none. ap state_of (ran.none none) ∙ sym stand.custodian;
  }

  stands_next : Stand base script own' lanes' next
  unfolding next
  stands_next = record {
    over = ap (λ (s : StartValue). s.base) ran.goes_on.start ∙ stand.over;
    custodian = refl;
    analysts = λ n d lt who. subst (λ (l : List BatchValue). IsPrefix (next.seen n) l) (seen_next n d lt) (prefix_self (next.seen n));
  }

  behind_of : (r : Role) (replies : List ReplyValue) (n : ℕ) → r ≡ role.Analyst
      → LaneGoes r setup base (lines_at script phase n) replies standing next n → IsPrefix (next.seen n) next.custodian.chain
  behind_of role.Custodian replies n who goes = absurd (cc)
  behind_of role.Analyst replies n who goes = goes.within

  -- a phase's replies, and where all stand then
  pub phase_goes : role_of own ≡ role.Custodian
      → (after : Standing) × (replies : ℕ → List ReplyValue) × PhaseGoes setup base script phase replies standing after × Stand base script
      own' lanes' after × AreBehind script after × (phase_text script phase texts ≡ phase_text script phase (λ k. text_of (replies k)))
  phase_goes who =
      let (replies, says) = choose Says [] (length (lanes_of script.lines)) (all_say who) in (
        next,
        replies,
        goes_next replies says,
        stands_next,
        λ n lt analyst. behind_of (role_of_lane (lane_at script n)) (replies n) n analyst (says n lt).0,
        phase_text_same script phase texts (λ k. text_of (replies k)) (λ n lt. (says n lt).1),
      )

pub know_lines : {G : Type 0} (setup : SetupValue) (script : ScriptValue) (phase : ℕ) (own own' : Party) (lanes lanes' : List (Lane G))
    → PhaseRan setup script phase own own' lanes lanes' → KnowLines script phase lanes'
know_lines {G} setup script phase own own' lanes lanes' ran n d lt = knows (role_of_lane (lane_at script n))
    (ran.lanes_ran n d (omega (arith, lt, ran.same_length))) where
      knows : (r : Role) → LaneRan r setup (lines_at script phase n) own own' (get_or lanes n d) (get_or lanes' n d)
          → (get_or lanes' n d).spoke ≡ has_some (lines_at script phase n)
      knows role.Custodian h = h.had_lines
      knows role.Analyst h = h.ran.had_lines

-- how far a run has come with one phase more
abbrev pub advanced : Progress → List ℕ → Standing → Progress
advanced at more next = record { text = at.text ++ more; standing = next }

-- the phases so far, and one more
pub one_more : (setup : SetupValue) (base : ReleaseValue) (script : ScriptValue) (n : ℕ) (first at : Progress) (next : Standing) (more : List ℕ)
    (replies : ℕ → List ReplyValue) → PhasesGo setup base script n first at
    → PhaseGoes setup base script (n + 1) replies at.standing next → more ≡ phase_text script (n + 1) (λ k. text_of (replies k))
    → PhasesGo setup base script (n + 1) first (advanced at more next)
one_more setup base script n first at next more replies so_far goes is =
    let here : n + 1 ≡ suc n = add-one n in
    let phase : IsPhase setup base script (n + 1) at (advanced at more next) = record {
      replies = replies;
      goes = goes;
      added = ap (λ (t : List ℕ). at.text ++ t) is;
    } in
    subst (λ (k : ℕ). PhasesGo setup base script k first (advanced at more next)) (sym here) (
      at,
      so_far,
      subst (λ (k : ℕ). IsPhase setup base script k at (advanced at more next)) here phase,
    )

pub owner_role : (name : Name) (shape : List ℕ) (p : Party) → IsOwnerOf name shape p → role_of p ≡ role.Custodian
owner_role name shape (party.Analyst pass) is = absurd is
owner_role name shape (party.Custodian c h) is = refl

-- before the first phase
pub stand_first : {G : Type 0} (script : ScriptValue) (own : Party) (lanes : List (Lane G))
    → Stand (seen_by own).start.base script own lanes (begun_with (state_of own)).standing
stand_first script own lanes = record {
  over = refl;
  custodian = refl;
  analysts = λ n d lt who. ((seen_by (get_or lanes n d).party).list, refl);
}
