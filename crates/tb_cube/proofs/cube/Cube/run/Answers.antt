use Rattle.std.proofs.Common.{◌+◌, ◌<◌, List, length, drop, get_or, ap, sym, subst, ◌∙◌, arith}
use Rattle.tb_grid.specs.Products.{cells_over}
use Rattle.tb_cube.specs.declared.axes.Axis.{Axis}
use Rattle.tb_cube.specs.Cubes.{CubeValue}
use Rattle.tb_cube.proofs.Grid.{length-axes, stride-at}
use Rattle.tb_cube.proofs.cube.Cube.run.Goals as goal

pub index-requires : goal.index-requires
index-requires c =
    let below : c.args.j < length c.self.inside.vars = subst (λ (v : CubeValue). c.args.j < length v.vars) (sym c.self.view_is) c.requires in
    omega (arith, below, ap length c.self.invariant.cube.axes_are, length-axes c.self.inside.shape c.self.inside.vars, c.self.inside.axes.ok.0)

pub returns : goal.returns
returns c =
    let below : c.args.j < length c.self.inside.vars = subst (λ (v : CubeValue). c.args.j < length v.vars) (sym c.self.view_is) c.requires in
    ap (λ (a : Axis). a.stride) c.index.ensures
    ∙ ap (λ (xs : List Axis). (get_or xs c.args.j c.index.result.now).stride) c.self.invariant.cube.axes_are
    ∙ stride-at c.self.inside.shape c.self.inside.vars c.args.j c.index.result.now below
    ∙ ap (λ (v : CubeValue). cells_over v.shape (drop (c.args.j + 1) v.vars)) c.self.view_is
