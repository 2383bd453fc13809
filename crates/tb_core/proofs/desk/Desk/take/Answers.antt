use Rattle.std.proofs.Common.{◌≡◌, ℕ, List, Some, sym, ap, subst, ◌∙◌}
use Rattle.std.specs.Option.{option_copied}
use Rattle.std.specs.Arc.{arc_value}
use Rattle.tb_core.specs.Desks.{current_of}
use Rattle.tb_core.specs.Takes.{IsTaken}
use Rattle.tb_core.specs.declared.desk.Taken.{Taken}
use Rattle.tb_core.proofs.TakeLemmas.{current_fits, taken_is}
use Rattle.tb_core.proofs.desk.Desk.take.Goals as goal

pub returns-in_default-clause-fit : goal.returns-in_default-clause-fit
returns-in_default-clause-fit c =
    current_fits c.args.self.now (arc_value c.in_ok-release.release) c.soundness.ensures (c.in_ok-release.ensures ∙ c.self.invariant.current_is ∙ ap current_of c.self.view_is)

pub returns-clause-fit : goal.returns-clause-fit
returns-clause-fit c =
    current_fits c.args.self.now (arc_value c.in_ok-release.release) c.soundness.ensures (c.in_ok-release.ensures ∙ c.self.invariant.current_is ∙ ap current_of c.self.view_is)

pub returns-clause-taken : goal.returns-clause-taken
returns-clause-taken c = λ set is.
    let d = c.args.self.now in
    let taken : Taken = record { release = c.in_ok-release.release; hit = c.in_ok-hit.hit } in
    let both : Some c.in-Some.vars.now ≡ Some set = sym (ap option_copied c.in-Some.is) ∙ is in
    let same : c.in-Some.vars.now ≡ set = cc in
    subst (λ (vars : List ℕ). IsTaken d.shape d.base d.chain vars taken) same
    (taken_is d c.in-Some.vars.now taken c.soundness.ensures (c.in_ok-release.ensures ∙ c.self.invariant.current_is ∙ ap current_of c.self.view_is) c.in_ok-hit.ensures)
