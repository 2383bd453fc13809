use Rattle.std.proofs.Common.{◌≡◌, length}
use Rattle.tb_base.specs.Bytes.{after_blanks}
use Rattle.tb_base.proofs.bytes.skip_blanks.Given as goal

-- what follows the blanks of the rest is what follows those of the text
abbrev pub invariant-loop-rest : goal.invariant-loop-rest
invariant-loop-rest l = after_blanks l.rest ≡ after_blanks l.text

abbrev pub decreases-loop-rest : goal.decreases-loop-rest
decreases-loop-rest l = length l.rest
