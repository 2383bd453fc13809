-- A run can always go on: each line has a reply after which its party stands where it stood.
use Rattle.std.proofs.Common.{◌≡◌, sym, subst, refl, ℕ, zero, suc, ◌+◌, ◌-◌, ◌≤◌, List, [], ◌∷◌, ◌++◌, length, inr, arith, append-nil, append_assoc}
use mathlib.Core.List.{IsPrefix}
use Rattle.tb_core.specs.declared.desk.Stats.{Stats}
use Rattle.tb_front.proofs.Prefixes.{prefix_self}
use Rattle.tb_lanes.specs.Phases.{LaneGoes, PhaseGoes, PhasesGo, Progress, Standing, lane_at, lines_at, phase_text}
use Rattle.tb_lanes.proofs.Going.{AreBehind, advanced, one_more}
use Rattle.tb_model.specs.Releases.{ReleaseValue}
use Rattle.tb_model.specs.Setups.{SetupValue}
use Rattle.tb_script.specs.Scripts.{ScriptValue, role_of_lane}
use Rattle.tb_session.specs.Asks.{asks_of}
use Rattle.tb_session.specs.declared.asks.Asks.{Asks}
use Rattle.tb_session.specs.declared.asks.Asks.TheVariants as asks
use Rattle.tb_lines.specs.Outputs.{ReplyValue, text_of}
use Rattle.tb_ahead.specs.Publishing.{StateValue, after_seeing}
use Rattle.tb_session.specs.Replies.{IsReplyTo}
use Rattle.tb_session.specs.ReplyLines.{cleared_line, stats_line}
use Rattle.tb_session.specs.Transcripts.{IsLegal}
use Rattle.tb_session.proofs.Analysts.{sees_itself}
use Rattle.tb_session.specs.declared.party.Role.{Role}
use Rattle.tb_session.specs.declared.party.Role.TheVariants as role
use Rattle.tb_tables.specs.Answers.{free_reply}
use Rattle.tb_tables.specs.ReplyLines.{memory_line}

-- a reply to a line after which the party stands where it stood
reply_in_place : (what : Asks) (setup : SetupValue) (base : ReleaseValue) (state : StateValue) (line : List ℕ)
    → (reply : ReplyValue) × IsReplyTo what setup base state line reply state
reply_in_place asks.Nothing setup base state line = (free_reply [], (refl, refl))
reply_in_place asks.Description setup base state line = (free_reply memory_line, ((refl, inr refl), refl))
reply_in_place asks.Table setup base state line = (free_reply memory_line, (inr (refl, inr refl), refl))
reply_in_place (asks.At n) setup base state line = (free_reply memory_line, (inr (refl, inr refl), refl))
reply_in_place asks.Edit setup base state line = (free_reply memory_line, (refl, refl, inr (refl, inr (inr refl))))
reply_in_place asks.Publish setup base state line = (free_reply memory_line, (refl, inr (inr (refl, refl))))
reply_in_place asks.Stats setup base state line =
    let stats : Stats = record { release = length state.chain; looks = 0; hits = 0; entries = 0; capacity = 1 } in (
      free_reply (stats_line stats),
      (
        refl,
        (
          stats,
          record {
            release = refl;
            hits = omega arith;
            entries = omega arith;
            some = omega arith;
            few = omega arith;
          },
          refl,
        ),
        refl,
      ),
    )
reply_in_place asks.Clear setup base state line = (free_reply cleared_line, (refl, refl))
reply_in_place (asks.Cache capacity) setup base state line = (free_reply memory_line, (refl, inr refl, refl))

-- and replies to all lines
stays : (who : Role) (setup : SetupValue) (base : ReleaseValue) (state : StateValue) (lines : List (List ℕ))
    → (replies : List ReplyValue) × IsLegal who setup base state lines replies state
stays who setup base state [] = ([], refl)
stays who setup base state (line ∷ lines) =
    let (reply, is) = reply_in_place (asks_of who line) setup base state line in
    let (replies, others) = stays who setup base state lines in
    (reply ∷ replies, (state, (state, sees_itself who line state, is), others))

-- where all stand after a phase in which all stay: each analyst has learnt what the custodian published
after_staying : Standing → Standing
after_staying s = record { custodian = s.custodian; seen = λ n. s.custodian.chain }

module _ (setup : SetupValue) (base : ReleaseValue) (script : ScriptValue) where
  stay_replies : (r : Role) → ℕ → ℕ → Standing → List ReplyValue
  stay_replies role.Custodian phase n s = (stays role.Custodian setup base s.custodian (lines_at script phase n)).0
  stay_replies role.Analyst phase n s = (stays role.Analyst setup base (after_seeing s.custodian.chain) (lines_at script phase n)).0

  stay_lane : (r : Role) (phase n : ℕ) (s : Standing) → (r ≡ role.Analyst → IsPrefix (s.seen n) s.custodian.chain)
      → LaneGoes r setup base (lines_at script phase n) (stay_replies r phase n s) s (after_staying s) n
  unfolding after_staying stay_replies
  stay_lane role.Custodian phase n s behind = (stays role.Custodian setup base s.custodian (lines_at script phase n)).1
  stay_lane role.Analyst phase n s behind = record {
    from = s.custodian.chain;
    told = prefix_self s.custodian.chain;
    own = behind refl;
    legal = (stays role.Analyst setup base (after_seeing s.custodian.chain) (lines_at script phase n)).1;
    within = prefix_self s.custodian.chain;
  }

  stay_phase : (phase : ℕ) (s : Standing) → AreBehind script s
      → (replies : ℕ → List ReplyValue) × PhaseGoes setup base script phase replies s (after_staying s)
  unfolding after_staying
  stay_phase phase s behind = (
    λ n. stay_replies (role_of_lane (lane_at script n)) phase n s,
    record {
      lanes = λ n lt. stay_lane (role_of_lane (lane_at script n)) phase n s (λ who. behind n lt who);
      none = λ none. refl;
    },
  )

  staying_behind : (s : Standing) → AreBehind script (after_staying s)
  unfolding after_staying
  staying_behind s n lt who = prefix_self s.custodian.chain

  -- so many phases more
  pub go_on : (m n : ℕ) (first at : Progress) → AreBehind script at.standing → PhasesGo setup base script n first at
      → (more : List ℕ) × (last : Standing) × PhasesGo setup base script (n + m) first (advanced at more last)
  go_on zero n first at behind goes =
      let same : n + 0 ≡ n = omega arith in (
        [],
        at.standing,
        subst (λ (k : ℕ). PhasesGo setup base script k first (advanced at [] at.standing)) (sym same)
            (subst (λ (t : List ℕ). PhasesGo setup base script n first (record { text = t; standing = at.standing })) (sym (append-nil at.text)) goes),
      )
  go_on (suc m) n first at behind goes =
      let (replies, phase) = stay_phase (n + 1) at.standing behind in
      let here : List ℕ = phase_text script (n + 1) (λ k. text_of (replies k)) in
      let next : Standing = after_staying at.standing in
      let (more, last, all) = go_on m (n + 1) first (advanced at here next) (staying_behind at.standing)
      (one_more setup base script n first at next here replies goes phase refl) in
      let count : n + 1 + m ≡ n + suc m = omega arith in (
        here ++ more,
        last,
        subst (λ (k : ℕ). PhasesGo setup base script k first (advanced at (here ++ more) last)) count
            (subst (λ (t : List ℕ). PhasesGo setup base script (n + 1 + m) first (record { text = t; standing = last })) (append_assoc at.text here more) all),
      )

  -- the first phases can be led to all
  pub go_to_end : (n phases : ℕ) (first at : Progress) → n ≤ phases → AreBehind script at.standing
      → PhasesGo setup base script n first at → (more : List ℕ) × (last : Standing) × PhasesGo setup base script phases first (advanced at more last)
  go_to_end n phases first at le behind goes =
      let is : n + (phases - n) ≡ phases = omega (arith, le) in
      let (more, last, all) = go_on (phases - n) n first at behind goes in
      (more, last, subst (λ (k : ℕ). PhasesGo setup base script k first (advanced at more last)) is all)
