use Rattle.std.proofs.Common.{◌%◌, ◌∙◌, ap, inl, inr, arith}
use Rattle.std.proofs.lemmas.Bool.Decides.{eqb_tells}
use Rattle.std.proofs.lemmas.List.{get_or-set_same, get_or-set_other}
use Rattle.tb_base.specs.Cells.{empty_cell}
use Rattle.tb_base.specs.Parts.{part, modulus}
use Rattle.tb_base.proofs.cells.reduce_keys.Goals as goal

pub loop-i-preserved : goal.loop-i-preserved
loop-i-preserved c = record {
  reduced = λ p k below within. elim (eqb_tells k c.loop-i.i) [
    | inl h ↦
        rw (h.1, get_or-set_same c.loop-i.cells c.loop-i.i c.reduce.new.self empty_cell (omega (arith, c.loop-i-test.true)))
        (c.reduce.ensures p ∙ ap (λ n. n % modulus p) (c.loop-i.invariant.rest p c.loop-i.i (omega arith)))
    | inr h ↦ ap (part p) (get_or-set_other c.loop-i.cells c.loop-i.i k c.reduce.new.self empty_cell h.1) ∙ c.loop-i.invariant.reduced p k (omega (arith, below, h.1)) within
  ];
  rest = λ p k above. ap (part p) (get_or-set_other c.loop-i.cells c.loop-i.i k c.reduce.new.self empty_cell (λ e. omega (arith, e, above))) ∙ c.loop-i.invariant.rest p k (omega (arith, above));
}
