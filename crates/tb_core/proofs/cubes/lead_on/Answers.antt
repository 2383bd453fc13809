use Rattle.std.proofs.Common.{◌≡◌, true, false, ◌∙◌, ap, refl, sym, arith}
use Rattle.tb_core.specs.Desks.{release_at}
use Rattle.tb_core.specs.Got.{is_own}
use Rattle.tb_core.specs.Takes.{shape_of_hit}
use Rattle.tb_core.specs.Views.{hit_of}
use Rattle.tb_cube.specs.Cubes.{unpacked}
use Rattle.tb_model.specs.Releases.{ReleaseValue}
use Rattle.tb_core.proofs.TakeLemmas.{can_follow_on, copied, cost_kept, cube_kept, few_cells, holds_some, follows_on, new_by, none_missing, own_by, wide_found}
use Rattle.tb_core.proofs.cubes.lead_on.Goals as goal

-- the one that was found is kept
pub returns-then-is_own-clause-cost : goal.returns-then-is_own-clause-cost
returns-then-is_own-clause-cost g c =
    let t = c.requires.taken in
    let number = c.number.ensures ∙ ap (λ (r : ReleaseValue). r.number) c.deref.ensures in
    let own = ap (λ n. is_own n c.args.vars.now ((hit_of c.args.hit.now).cube.vars, c.args.hit.now.number)) (sym number) ∙ sym c.if-is_own.ensures in
    let cost = cost_kept (shape_of_hit c.args.hit.now) t.0 t.1 c.args.vars.now c.args.taken.now t.2 c.args.hit.now c.requires.hit own in
    omega (arith, cost)

pub returns-then-is_own-clause-cube : goal.returns-then-is_own-clause-cube
returns-then-is_own-clause-cube g c =
    let t = c.requires.taken in
    let number = c.number.ensures ∙ ap (λ (r : ReleaseValue). r.number) c.deref.ensures in
    let own = ap (λ n. is_own n c.args.vars.now ((hit_of c.args.hit.now).cube.vars, c.args.hit.now.number)) (sym number) ∙ sym c.if-is_own.ensures in
    ap unpacked c.in_ok-try_clone.ensures ∙ cube_kept (shape_of_hit c.args.hit.now) t.0 t.1 c.args.vars.now c.args.taken.now t.2 c.args.hit.now c.requires.hit own

pub returns-then-is_own-clause-made : goal.returns-then-is_own-clause-made
returns-then-is_own-clause-made g c =
    let t = c.requires.taken in
    let number = c.number.ensures ∙ ap (λ (r : ReleaseValue). r.number) c.deref.ensures in
    let own = ap (λ n. is_own n c.args.vars.now ((hit_of c.args.hit.now).cube.vars, c.args.hit.now.number)) (sym number) ∙ sym c.if-is_own.ensures in
    sym (new_by (shape_of_hit c.args.hit.now) t.0 t.1 c.args.vars.now c.args.taken.now t.2 c.args.hit.now true c.requires.hit own)

pub returns-then-is_own-clause-kept : goal.returns-then-is_own-clause-kept
returns-then-is_own-clause-kept g c =
    let t = c.requires.taken in
    let number = c.number.ensures ∙ ap (λ (r : ReleaseValue). r.number) c.deref.ensures in
    let own = ap (λ n. is_own n c.args.vars.now ((hit_of c.args.hit.now).cube.vars, c.args.hit.now.number)) (sym number) ∙ sym c.if-is_own.ensures in
    (λ _. none_missing (shape_of_hit c.args.hit.now) t.0 t.1 c.args.vars.now c.args.taken.now t.2 c.args.hit.now c.requires.hit own, λ _. refl)

-- else a copy is made and advanced
pub copy_over-requires-clause-among : goal.copy_over-requires-clause-among
copy_over-requires-clause-among g c =
    let t = c.requires.taken in wide_found (shape_of_hit c.args.hit.now) t.0 t.1 c.args.vars.now c.args.taken.now t.2 c.args.hit.now c.deref-2.result.now c.requires.hit c.deref-2.ensures

pub copy_over-requires-clause-holds : goal.copy_over-requires-clause-holds
copy_over-requires-clause-holds g c =
    let t = c.requires.taken in
    holds_some (shape_of_hit c.args.hit.now) t.0 t.1 c.args.vars.now c.args.taken.now t.2 c.args.hit.now c.deref-2.result.now c.requires.hit c.deref-2.ensures

pub copy_over-requires-clause-fits : goal.copy_over-requires-clause-fits
copy_over-requires-clause-fits g c =
    let t = c.requires.taken in few_cells (shape_of_hit c.args.hit.now) t.0 t.1 c.args.vars.now c.args.taken.now t.2 c.args.hit.now c.deref-2.result.now c.requires.hit c.deref-2.ensures c.requires.has

pub advance_along-requires : goal.advance_along-requires
advance_along-requires g c =
    let t = c.requires.taken in (
      release_at t.0 t.1 c.args.hit.now.number,
      can_follow_on (shape_of_hit c.args.hit.now) t.0 t.1 c.args.vars.now c.args.taken.now t.2 c.args.hit.now c.in_ok-cube.cube c.requires.hit
          (copied (shape_of_hit c.args.hit.now) t.0 t.1 c.args.vars.now c.args.taken.now t.2 c.args.hit.now c.deref-2.result.now c.in_ok-cube.cube c.requires.hit c.deref-2.ensures c.in_ok-cube.ensures),
    )

pub returns-clause-cube : goal.returns-clause-cube
returns-clause-cube g c =
    let t = c.requires.taken in
    let shape = shape_of_hit c.args.hit.now in
    let same = copied shape t.0 t.1 c.args.vars.now c.args.taken.now t.2 c.args.hit.now c.deref-2.result.now c.in_ok-cube.cube c.requires.hit c.deref-2.ensures c.in_ok-cube.ensures in
    let can = can_follow_on shape t.0 t.1 c.args.vars.now c.args.taken.now t.2 c.args.hit.now c.in_ok-cube.cube c.requires.hit same in
    ap unpacked (follows_on shape t.0 t.1 c.args.vars.now c.args.taken.now t.2 c.args.hit.now c.in_ok-cube.cube c.advance_along.new.cube c.requires.hit same
    (c.advance_along.ensures.cube (release_at t.0 t.1 c.args.hit.now.number) can))

pub returns-clause-made : goal.returns-clause-made
returns-clause-made g c =
    let t = c.requires.taken in
    let number = c.number.ensures ∙ ap (λ (r : ReleaseValue). r.number) c.deref.ensures in
    let own = ap (λ n. is_own n c.args.vars.now ((hit_of c.args.hit.now).cube.vars, c.args.hit.now.number)) (sym number) ∙ sym c.if-is_own.ensures in
    sym (new_by (shape_of_hit c.args.hit.now) t.0 t.1 c.args.vars.now c.args.taken.now t.2 c.args.hit.now false c.requires.hit own)

pub returns-clause-kept : goal.returns-clause-kept
returns-clause-kept g c =
    let t = c.requires.taken in
    let number = c.number.ensures ∙ ap (λ (r : ReleaseValue). r.number) c.deref.ensures in
    let own = ap (λ n. is_own n c.args.vars.now ((hit_of c.args.hit.now).cube.vars, c.args.hit.now.number)) (sym number) ∙ sym c.if-is_own.ensures in
    (λ h. cc, λ both. let no : true ≡ false = sym (own_by (shape_of_hit c.args.hit.now) t.0 t.1 c.args.vars.now c.args.taken.now t.2 c.args.hit.now c.requires.hit both) ∙ own in cc)
