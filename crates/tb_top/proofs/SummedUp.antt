-- How a run ends that sums up the replies to a generated script.
use Rattle.std.proofs.Common.{◌≡◌, ◌≢◌, subst, ℕ, List, [], Option, Some, inl, inr}
use Rattle.tb_base.specs.declared.status.Status.{Status}
use Rattle.tb_base.specs.declared.status.Status.TheVariants as status
use Rattle.tb_io.proofs.FaultLemmas.{HasRisen-zero}
use Rattle.tb_script.specs.Scripts.{ScriptValue}
use Rattle.tb_endings.specs.declared.endings.End.TheVariants as end
use Rattle.tb_top.specs.Asking.{CensusValue}
use Rattle.tb_endings.specs.Endings.{IsEnded}
use Rattle.tb_top.specs.Outputs.{AreScriptReplies, IsGenAnswered, IsScriptAnswered, IsSummedUp}
use Rattle.tb_command.specs.Populations.{Population}

module _ (population : Population) (census : CensusValue) (script : ScriptValue) {s : Status} {f f' : ℕ} (t t' : Option (List ℕ))
    {steps steps' : ℕ} where
  -- a script that was answered to its end, and the text that its sink took
  pub summed : (answered : Status) (text : List ℕ) → answered ≡ status.Done
      → IsScriptAnswered (AreScriptReplies census script) answered 0 0 (Some []) (Some text) steps steps'
      → IsSummedUp population text s f f' t t' → IsGenAnswered population census script s f f' t t' steps steps'
  summed answered text done (inl (is, (replies, answers, took, cost))) written =
      let P : List ℕ → Type 0 = λ x. IsSummedUp population x s f f' t t' in
      inl (replies, answers, cost, subst P took written)
  summed answered text done (inr (inl (is, risen, rest))) written = cc
  summed answered text done (inr (inr (free, inl (is, took)))) written = cc
  summed answered text done (inr (inr (free, inr (is, risen, part)))) written = cc

  -- a script that wasn't, in a sink that never fails, found no memory before its first line
  pub unsummed : (answered : Status) (text : List ℕ) → answered ≢ status.Done
      → IsScriptAnswered (AreScriptReplies census script) answered 0 0 (Some []) (Some text) steps steps'
      → IsEnded end.Memory s f f' t t' → IsGenAnswered population census script s f f' t t' steps steps'
  unsummed answered text other (inl (is, rest)) ended = absurd (other is)
  unsummed answered text other (inr (inl (is, risen, rest))) ended = absurd (HasRisen-zero risen)
  unsummed answered text other (inr (inr (free, rest))) ended = inr (free, ended)
