-- The lines of a script whose custodian writes its batches ahead, one after another.
use Rattle.std.proofs.Common.{◌≡◌, ◌∙◌, sym, ap, subst, refl, ℕ, Bool, true, false, List, [], ◌∷◌, ◌++◌, Option, take, ◌+◌, ◌≤◌, arith}
use Rattle.tb_ahead.specs.Keepers.{KeeperValue, KeepsTo, Reaches, at_start, keeper}
use Rattle.tb_ahead.specs.Keeping.{IsKeptStep, KeptState}
use Rattle.tb_ahead.specs.Publishing.{StateValue}
use Rattle.tb_ahead.specs.Puts.{FileStands}
use Rattle.tb_keep.specs.JournalOwners.{keeper_of}
use Rattle.tb_keep.specs.KeptRuns.{IsKeptReply, IsKeptRun, IsKeptStepOf, RunsFrom, StandsAt}
use Rattle.tb_keep.specs.Publishers.{IsOwnStep, asks_to_publish}
use Rattle.tb_keep.proofs.Chains.{lines-keep}
use Rattle.tb_lines.specs.Outputs.{AtPrice, Charged, Lead, ReplyValue, charged}
use Rattle.tb_model.specs.Releases.{ReleaseValue}
use Rattle.tb_model.specs.Setups.{SetupValue}
use Rattle.tb_release.specs.Batches.{BatchValue}
use Rattle.tb_release.specs.declared.edits.Edit.{Edit}
use Rattle.tb_script.specs.Runs.{IsOwnedReply, IsOwnedRun, IsOwnedStep}
use Rattle.tb_script.specs.Scripts.{ScriptLine, role_of_lane}
use Rattle.tb_script.specs.declared.run.RunEnd.{RunEnd}
use Rattle.tb_script.specs.declared.run.RunEnd.TheVariants as run_end
use Rattle.tb_session.specs.Parties.{held_by, seen_by, state_at}
use Rattle.tb_session.specs.Replies.{IsReply}
use Rattle.tb_session.specs.declared.party.Party.{Party}
use Rattle.tb_session.specs.declared.party.Role.{Role}
use Rattle.tb_session.specs.declared.party.Role.TheVariants as role

-- who holds no edits is as it begins
pub none_held : {W : Type 0} (one : Party) (ahead : W) → held_by one ≡ [] → at_start (keeper_of one ahead) ≡ keeper_of one ahead
none_held {W = W} one ahead none =
    ap (λ (held : List Edit). keeper (seen_by one).start.base (state_at (seen_by one) held) ahead) (sym none)

module _ {W : Type 0} (Continues : W → W → Type 0) (itself : (w : W) → Continues w w) (further_on : (old mid new : W) → Continues old mid → Continues mid new → Continues old new)
    (live : W → Bool) (faults : W → ℕ) (standing : W → FileStands) (setup : SetupValue) where
  abbrev Step : KeeperValue W → List ℕ → ReplyValue → KeeperValue W → Type 0
  Step = KeepsTo Continues live faults standing (IsOwnStep setup) asks_to_publish

  abbrev base_of : KeeperValue W → ReleaseValue
  base_of one = one.base

  abbrev chain_of : KeeperValue W → List BatchValue
  chain_of one = one.state.chain

  abbrev Here : KeeperValue W → KeptState → Type 0
  Here = StandsAt live faults standing

  -- one line of a lane
  one_line : (who : Role) (old new : KeeperValue W) (line : List ℕ) (reply : ReplyValue) → IsOwnedStep setup base_of chain_of Step who old line reply new
      → (new.base ≡ old.base) × Continues old.ahead new.ahead × Reaches (Here old) (Here new) (λ first last. IsKeptStepOf who setup old.base first line reply last)
  one_line role.Custodian old new line reply leads = leads
  one_line role.Analyst old new line reply (same, is) = (
    ap base_of same,
    subst (λ (one : KeeperValue W). Continues old.ahead one.ahead) (sym same) (itself old.ahead),
    λ first here. (
      first,
      subst (λ (one : KeeperValue W). Here one first) (sym same) here,
      (refl, subst (λ (s : StateValue). IsReply role.Analyst setup old.base s line reply s) (sym here.same) (is old.state.held)),
    ),
  )

  -- all lines
  pub all_lines : (p : Charged (KeeperValue W)) (lines : List ScriptLine) (replies : List ReplyValue) (q : Charged (KeeperValue W)) → Lead (AtPrice (IsOwnedReply setup base_of chain_of Step)) p lines replies q
      → (q.at.base ≡ p.at.base) × Continues p.at.ahead q.at.ahead
      × Reaches (Here p.at) (Here q.at) (λ first last. Lead (AtPrice (IsKeptReply setup p.at.base)) (charged first p.steps) lines replies (charged last q.steps))
  all_lines p [] [] q e = (
    ap (λ (c : Charged (KeeperValue W)). c.at.base) e,
    subst (λ (c : Charged (KeeperValue W)). Continues p.at.ahead c.at.ahead) (sym e) (itself p.at.ahead),
    λ first here. (first, subst (λ (c : Charged (KeeperValue W)). Here c.at first) (sym e) here, ap (λ (c : Charged (KeeperValue W)). charged first c.steps) e),
  )
  all_lines p [] (reply ∷ replies) q e = absurd e
  all_lines p (line ∷ lines) [] q e = absurd e
  all_lines p (line ∷ lines) (reply ∷ replies) q (next, (step, cost), others) =
      let (base, same, reach) = one_line (role_of_lane line.lane) p.at next.at line.line reply step in
      let (later, still, onward) = all_lines next lines replies q others in (
        later ∙ base,
        further_on p.at.ahead next.at.ahead q.at.ahead same still,
        λ first here.
            let (mid, there, kept) = reach first here in
            let (last, at, lead) = onward mid there in (
              last,
              at,
              (
                charged mid next.steps,
                (kept, cost),
                subst (λ (b : ReleaseValue). Lead (AtPrice (IsKeptReply setup b)) (charged mid next.steps) lines replies (charged last q.steps)) base lead,
              ),
            ),
      )

  module _ (lines : List ScriptLine) (old new : Charged (KeeperValue W)) (a b : Option (List ℕ)) (none : at_start old.at ≡ old.at) where
    begun : (first : KeptState) → Here old.at first → Here (at_start old.at) first
    begun first here = subst (λ (one : KeeperValue W). Here one first) (sym none) here

    -- by how it ended
    pub kept_run : (end : RunEnd) → IsOwnedRun (IsOwnedReply setup base_of chain_of Step) at_start lines end old new a b → RunsFrom Continues live faults standing setup lines end old new a b
    kept_run run_end.Done h =
        let (base, same, reach) = all_lines (charged (at_start old.at) old.steps) lines h.replies new h.legal in (
          base,
          same,
          λ first here.
              let (last, at, lead) = reach first (begun first here) in
              (last, at, record { replies = h.replies; legal = lead; took = h.took }),
        )
    kept_run run_end.WriteFault h =
        let (base, same, reach) = all_lines (charged (at_start old.at) old.steps) (take (h.count + 1) lines) (h.replies ++ h.cut ∷ []) new h.legal in (
          base,
          same,
          λ first here.
              let (last, at, lead) = reach first (begun first here) in
              (last, at, record { count = h.count; among = h.among; replies = h.replies; cut = h.cut; legal = lead; part = h.part; took = h.took }),
        )
    kept_run run_end.Memory (none_taken, stays) = (
      ap (λ (c : Charged (KeeperValue W)). c.at.base) stays,
      subst (λ (c : Charged (KeeperValue W)). Continues old.at.ahead c.at.ahead) (sym stays) (itself old.at.ahead),
      λ first here. (
        first,
        subst (λ (c : Charged (KeeperValue W)). Here c.at first) (sym stays) here,
        (none_taken, ap (λ (c : Charged (KeeperValue W)). charged first c.steps) stays),
      ),
    )

  -- before the first line nothing is written
  pub unwritten : (lines : List ScriptLine) (old new : Charged (KeeperValue W)) (a b : Option (List ℕ)) (end : RunEnd) → IsOwnedRun (IsOwnedReply setup base_of chain_of Step) at_start lines end old new a b
      → end ≡ run_end.Memory → new.at.ahead ≡ old.at.ahead
  unwritten lines old new a b run_end.Done h is = absurd cc
  unwritten lines old new a b run_end.WriteFault h is = absurd cc
  unwritten lines old new a b run_end.Memory (none_taken, stays) is = ap (λ (c : Charged (KeeperValue W)). c.at.ahead) stays

-- ---- the disk's count doesn't fall
module _ (setup : SetupValue) (base : ReleaseValue) where
  pub own_counts : (asks : Bool) (old next : KeptState) (line : List ℕ) (reply : ReplyValue) → IsKeptStep asks (IsOwnStep setup base) base old line reply next → old.faults ≤ next.faults
  own_counts true old next line reply (price, (counts, since, is)) = counts
  own_counts false old next line reply (is, same) = omega (arith, ap (λ (s : KeptState). s.faults) same)

  role_counts : (who : Role) (old next : KeptState) (line : List ℕ) (reply : ReplyValue) → IsKeptStepOf who setup base old line reply next → old.faults ≤ next.faults
  role_counts role.Custodian old next line reply step = own_counts (asks_to_publish line) old next line reply step
  role_counts role.Analyst old next line reply (same, is) = omega (arith, ap (λ (s : KeptState). s.faults) same)

  module _ (first last : Charged KeptState) where
    lead_counts : (lines : List ScriptLine) (replies : List ReplyValue) → Lead (AtPrice (IsKeptReply setup base)) first lines replies last → first.at.faults ≤ last.at.faults
    lead_counts lines replies lead =
        lines-keep (AtPrice (IsKeptReply setup base)) (λ (c : Charged KeptState). first.at.faults ≤ c.at.faults)
        (λ old next line reply step so_far. omega (arith, so_far, role_counts (role_of_lane line.lane) old.at next.at line.line reply step.0))
        first last lines replies lead (omega arith)

    pub run_counts : (lines : List ScriptLine) (end : RunEnd) (a b : Option (List ℕ)) → IsKeptRun setup base lines end first last a b → first.at.faults ≤ last.at.faults
    run_counts lines run_end.Done a b h = lead_counts _ _ h.legal
    run_counts lines run_end.WriteFault a b h = lead_counts _ _ h.legal
    run_counts lines run_end.Memory a b (none, same) = omega (arith, ap (λ (c : Charged KeptState). c.at.faults) same)

-- ---- since when it is watched what a stop leaves stays
module _ (setup : SetupValue) (base : ReleaseValue) where
  pub own_since : (asks : Bool) (old next : KeptState) (line : List ℕ) (reply : ReplyValue) → IsKeptStep asks (IsOwnStep setup base) base old line reply next → next.since ≡ old.since
  own_since true old next line reply (price, (counts, since, is)) = since
  own_since false old next line reply (is, same) = ap (λ (s : KeptState). s.since) same

  role_since : (who : Role) (old next : KeptState) (line : List ℕ) (reply : ReplyValue) → IsKeptStepOf who setup base old line reply next → next.since ≡ old.since
  role_since role.Custodian old next line reply step = own_since (asks_to_publish line) old next line reply step
  role_since role.Analyst old next line reply (same, is) = ap (λ (s : KeptState). s.since) same

  module _ (first last : Charged KeptState) where
    pub lead_since : (lines : List ScriptLine) (replies : List ReplyValue) → Lead (AtPrice (IsKeptReply setup base)) first lines replies last → last.at.since ≡ first.at.since
    lead_since lines replies lead =
        lines-keep (AtPrice (IsKeptReply setup base)) (λ (c : Charged KeptState). c.at.since ≡ first.at.since)
        (λ old next line reply step so_far. role_since (role_of_lane line.lane) old.at next.at line.line reply step.0 ∙ so_far)
        first last lines replies lead refl

    pub run_since : (lines : List ScriptLine) (end : RunEnd) (a b : Option (List ℕ)) → IsKeptRun setup base lines end first last a b → last.at.since ≡ first.at.since
    run_since lines run_end.Done a b h = lead_since _ _ h.legal
    run_since lines run_end.WriteFault a b h = lead_since _ _ h.legal
    run_since lines run_end.Memory a b (none, same) = ap (λ (c : Charged KeptState). c.at.since) same
