use Rattle.std.proofs.Common.{◌≡◌, List, ap, sym, subst, ◌∙◌, arith}
use Rattle.tb_base.specs.Records.{category_at, Fits}
use Rattle.tb_cube.specs.declared.axes.Axis.{Axis}
use Rattle.tb_cube.specs.Axes.{number_by}
use Rattle.tb_cube.specs.Cubes.{place_of, CubeValue}
use Rattle.tb_cube.specs.Forms.{seen_as}
use Rattle.tb_cube.proofs.Grid.{leads-in}
use Rattle.tb_cube.proofs.cube.Cube.place_for.Goals as goal

pub number_of-requires : goal.number_of-requires
number_of-requires c =
    let old : CubeValue = seen_as c.self.inside.shape c.self.inside.vars c.self.inside.form in
    let fits : Fits c.self.inside.shape c.args.one.now = subst (λ (v : CubeValue). Fits v.shape c.args.one.now) (sym c.self.view_is)
    c.requires in
    rw c.deref.ensures.value (leads-in old c.self.inside.axes.items c.args.one.now c.self.invariant.cube fits).low

pub returns-clause-place : goal.returns-clause-place
returns-clause-place c =
    let old : CubeValue = seen_as c.self.inside.shape c.self.inside.vars c.self.inside.form in
    let fits : Fits c.self.inside.shape c.args.one.now = subst (λ (v : CubeValue). Fits v.shape c.args.one.now) (sym c.self.view_is)
    c.requires in
    c.number_of.ensures ∙ ap (λ (xs : List Axis). number_by xs (category_at c.args.one.now)) c.deref.ensures.value
    ∙ (leads-in old c.self.inside.axes.items c.args.one.now c.self.invariant.cube fits).number
    ∙ ap (λ (v : CubeValue). place_of v.shape v.vars (category_at c.args.one.now)) c.self.view_is

pub returns-clause-there : goal.returns-clause-there
returns-clause-there c =
    let old : CubeValue = seen_as c.self.inside.shape c.self.inside.vars c.self.inside.form in
    let fits : Fits c.self.inside.shape c.args.one.now = subst (λ (v : CubeValue). Fits v.shape c.args.one.now) (sym c.self.view_is)
    c.requires in
    let number : c.number_of.result ≡ number_by c.self.inside.axes.items (category_at c.args.one.now) = c.number_of.ensures ∙ ap
    (λ (xs : List Axis). number_by xs (category_at c.args.one.now)) c.deref.ensures.value in
    rw (← c.self.view_is) (omega (arith, (leads-in old c.self.inside.axes.items c.args.one.now c.self.invariant.cube fits).lead.low, number))
