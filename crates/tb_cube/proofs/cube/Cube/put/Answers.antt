use Rattle.std.proofs.Common.{◌≡◌, Option, Bor, ap, sym, ◌∙◌, arith}
use Rattle.std.specs.Option.{option_copied}
use Rattle.tb_base.specs.declared.cells.Cell.{Cell}
use Rattle.tb_base.specs.declared.records.Record.{Record}
use Rattle.tb_base.specs.Cells.{with_key}
use Rattle.tb_cube.specs.Cubes.{put_in, CubeValue, CanPutIn}
use Rattle.tb_cube.specs.declared.packing.Form.TheVariants.{Dense}
use Rattle.tb_cube.specs.Forms.{seen_as}
use Rattle.tb_cube.proofs.Changes.{change-at, count-at, of-given}
use Rattle.tb_cube.proofs.cube.Cube.put.Goals as goal

pub place_for-place-requires : goal.place_for-place-requires
place_for-place-requires c = (of-given (CanPutIn c.args.self.now) c.args.new c.in-Some.new c.in-Some.is c.requires.can).fits

pub returns-in-Dense : goal.returns-in-Dense
returns-in-Dense c =
    let old : CubeValue = seen_as c.self.inside.shape c.self.inside.vars (Dense c.in-Dense.cells) in
    let view : old ≡ c.args.self.now = ap (seen_as c.self.inside.shape c.self.inside.vars) (sym c.in-Dense.is) ∙ c.self.view_is in
    let one : Record = c.in-Some.new.now in
    let can = of-given (CanPutIn c.args.self.now) c.args.new c.in-Some.new c.in-Some.is c.requires.can in
    change-at old c.args.self.now view one c.place_for-place.result c.place_for-place.ensures.place
    c.place_for-place.ensures.there c.index_mut.result.now c.index_mut.ensures.value (λ (cell : Cell). with_key cell one.key)
    c.put.new.self c.place_for-place.ensures.cube can.fits
    (c.put.ensures.exact (omega (
      arith,
      can.room,
      count-at old c.args.self.now view one c.place_for-place.result
          c.place_for-place.ensures.place c.place_for-place.ensures.there c.index_mut.result.now c.index_mut.ensures.value,
    )))
    ∙ sym (ap (λ (o : Option (Bor Record)). put_in (option_copied o) c.args.self.now) c.in-Some.is)
