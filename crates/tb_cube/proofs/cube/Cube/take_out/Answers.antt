use Rattle.std.proofs.Common.{◌≡◌, Option, Bor, ap, sym, ◌∙◌}
use Rattle.std.specs.Option.{option_copied}
use Rattle.tb_base.specs.declared.cells.Cell.{Cell}
use Rattle.tb_base.specs.declared.records.Record.{Record}
use Rattle.tb_base.specs.Cells.{without_key}
use Rattle.tb_cube.specs.Cubes.{taken_out, CubeValue, CanTakeOut}
use Rattle.tb_cube.specs.declared.packing.Form.TheVariants.{Dense}
use Rattle.tb_cube.specs.Forms.{seen_as}
use Rattle.tb_cube.proofs.Changes.{change-at, of-given}
use Rattle.tb_cube.proofs.cube.Cube.take_out.Goals as goal

pub place_for-place-requires : goal.place_for-place-requires
place_for-place-requires c = (of-given (CanTakeOut c.args.self.now) c.args.gone c.in-Some.gone c.in-Some.is c.requires.can).fits

pub returns-in-Dense : goal.returns-in-Dense
returns-in-Dense c =
    let old : CubeValue = seen_as c.self.inside.shape c.self.inside.vars (Dense c.in-Dense.cells) in
    let view : old ≡ c.args.self.now = ap (seen_as c.self.inside.shape c.self.inside.vars) (sym c.in-Dense.is) ∙ c.self.view_is in
    let one : Record = c.in-Some.gone.now in
    let can = of-given (CanTakeOut c.args.self.now) c.args.gone c.in-Some.gone c.in-Some.is c.requires.can in
    change-at old c.args.self.now view one c.place_for-place.result c.place_for-place.ensures.place
    c.place_for-place.ensures.there c.index_mut.result.now c.index_mut.ensures.value (λ (cell : Cell). without_key cell one.key)
    c.take_out.new.self c.place_for-place.ensures.cube can.fits c.take_out.ensures
    ∙ sym (ap (λ (o : Option (Bor Record)). taken_out (option_copied o) c.args.self.now) c.in-Some.is)
