-- What is seen while lines are answered, and what the answer to one line makes of it.
use Rattle.std.specs.Prelude.{◌≤◌, ◌+◌, ℕ, List, Option}
use Rattle.tb_io.specs.Taken.{IsWritten}
use Rattle.tb_io.specs.declared.answers.Wrote.{Wrote}
use Rattle.tb_lines.specs.Outputs.{ReplyValue}

-- what is seen at a moment: where one stands who answers lines, how far the counter of steps has
-- come, what the sink has taken, where it tells that, and how many faults it counts
pub record Moment (S : Type 0) : Type 0 where
  pub at : S
  pub steps : ℕ
  pub taken : Option (List ℕ)
  pub faults : ℕ

-- the same, of its four parts
abbrev pub moment : {S : Type 0} → S → ℕ → Option (List ℕ) → ℕ → Moment S
moment at steps taken faults =
    record { at = at; steps = steps; taken = taken; faults = faults }

-- a line was answered: its reply leads from where one stood to where one stands then, it was
-- written, or a part of it where the write failed, and it cost no more than its price
pub record IsReplied {S L : Type 0} (Step : S → L → ReplyValue → S → Type 0) (line : L)
    (result : Wrote) (old new : Moment S) : Type 0 where
  pub reply : ReplyValue
  pub step : Step old.at line reply new.at
  pub written : IsWritten result old.faults new.faults old.taken new.taken reply.text
  pub cost : new.steps ≤ old.steps + reply.price
