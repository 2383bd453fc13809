use Rattle.std.proofs.Common.{◌≡◌, ◌<◌, ◌-◌, ◌∙◌, ℕ, List, ap, subst, map, arith}
use Rattle.std.specs.Prelude.{IfOk}
use Rattle.std.specs.List.{range_with_len}
use Rattle.rayon.specs.Numbers.{nat_range}
use Rattle.rayon.proofs.ToStd.{nat_range-All}
use Rattle.tb_cube.specs.Cubes.{CubeValue, cube_over}
use Rattle.tb_build.specs.declared.cutting.TheConstants.{MOST_PARTS}
use Rattle.tb_build.specs.Parts.{part_of, records_in}
use Rattle.tb_build.proofs.PartLemmas.{collected}
use Rattle.tb_build.proofs.cutting.cubes_of.Goals as goal

pub collect-requires-clause-ready : goal.collect-requires-clause-ready
collect-requires-clause-ready g c κs within =
    let ends = c.into_par_iter.ensures in
    let inside = nat_range-All (λ k. k < MOST_PARTS) 0 c.args.parts (λ k low high. omega (arith, high, c.requires.parts)) in
    rw (c.map.ensures.base, c.with_min_len.ensures.base, c.map.ensures.f, ends.0, ends.1)
    (λ k d lt. ((inside k d lt, (c.requires.size, (c.requires.has, (c.requires.fit, c.requires.few)))), λ y p. tt))

pub returns : goal.returns
returns g c =
    let ends = c.into_par_iter.ensures in
    let whole : c.args.parts - 0 ≡ c.args.parts = omega arith in
    let G : ℕ → CubeValue = λ k. cube_over c.args.shape.now c.args.vars.now (part_of c.args.size (records_in c.args.lent.now) k) in
    let h = rw (c.map.ensures.base, c.with_min_len.ensures.base, c.map.ensures.f) at c.in_ok-collect.ensures in
    let chain = h.1 in
    let places = chain.1 ∙ (λ i. nat_range (ends.0 i) (ends.1 i)) ∙ ap (range_with_len 0) whole in
    let P : List ℕ → Type 0 = λ ks. IfOk c.in_ok-collect.field-0 (λ cubes. cubes.items ≡ map G ks) in
    subst P places (collected G chain.0 h.0 c.in_ok-collect.field-0 chain.2 h.2)
