use Rattle.std.proofs.Common.{◌≡◌, ◌∙◌, refl, sym, subst, true, arith}
use Rattle.tb_base.specs.Records.{AllFit}
use Rattle.tb_base.specs.Sets.{includes_all}
use Rattle.tb_cube.specs.Cubes.{CubeValue, Holds, unpacked}
use Rattle.tb_plan.specs.Plans.{vars_of}
use Rattle.tb_rollup.proofs.Own.{includes-own, there-own}
use Rattle.std.proofs.lemmas.List.{take_at}
use Rattle.tb_tables.proofs.Cubed.{cube-counts}
use Rattle.tb_tables.proofs.count.roll_up_at.Goals as goal

pub roll_into-requires-clause-among : goal.roll_into-requires-clause-among
roll_into-requires-clause-among c =
    let (release, is) = c.requires in
    subst (λ (v : CubeValue). includes_all v.vars (vars_of c.args.plan.now) ≡ true) (sym is.counted) (includes-own (vars_of c.args.plan.now))

pub roll_into-requires-clause-few : goal.roll_into-requires-clause-few
roll_into-requires-clause-few c =
    let (release, is) = c.requires in
    omega (arith, cube-counts c.args.plan.now.shape (vars_of c.args.plan.now) release.records (unpacked c.args.cube.now) is.counted (there-own c.args.plan.now) is.fit, is.sound.few, is.sound.most)

-- whichever release it is
pub returns : goal.returns
returns c = λ release is. record {
  sound = is.sound;
  number = is.number;
  rules = is.same_rules;
  cells = λ schema query e.
      let records = release.records in
      let fit : AllFit c.args.cube.now.shape records = subst (λ (v : CubeValue). AllFit v.shape records) (sym is.counted) is.fit in
      let held : Holds c.args.cube.now records = subst (λ (v : CubeValue). Holds v records) (sym is.counted) refl in
      take_at c.roll_into.new.cells _ c.in_ok-cells.cells.len (omega (arith, c.roll_into.auto.cells, c.deref_mut.ensures.len, c.in_ok-cells.cells.ok))
      ∙ c.roll_into.ensures.counted schema query records e fit held;
}
