use Rattle.std.proofs.Common.{◌≡◌, ℕ, Option, sym, subst, List, arith}
use Rattle.tb_lanes.specs.declared.lane.Lane.{Lane}
use Rattle.tb_lanes.specs.Runs.{IsSwapped, PhaseRan}
use Rattle.tb_lanes.proofs.Phasing.{analysts_as_seen, analysts_back, analysts_over_setup, confirmed_analysts, owner_as_seen, owner_back, phase_ran, swapped_parties}
use Rattle.tb_lanes.proofs.Swapping.{owner_within}
use Rattle.tb_model.specs.Schemas.{shape_of}
use Rattle.tb_session.specs.Parties.{IsOwnerOf}
use Rattle.tb_session.specs.declared.party.Party.{Party}
use Rattle.tb_lanes.proofs.phase.run_phase.Goals as goal

-- the first exchange, from the custodian as it was before it told what it has seen
swapped_from : {G : Type 0} (o : Option ℕ) (own told new : Party) (lanes lanes' : List (Lane G)) → told ≡ own
    → IsSwapped o told new lanes lanes' → IsSwapped o own new lanes lanes'
swapped_from o own told new lanes lanes' same h = subst (λ (p : Party). IsSwapped o p new lanes lanes') same h

pub tell_all-requires-clause-own : goal.tell_all-requires-clause-own
tell_all-requires-clause-own g c = owner_as_seen g.B.Named.name (shape_of c.args.setup.now.schema) c.args.own.now c.requires.own

pub tell_all-requires-clause-analysts : goal.tell_all-requires-clause-analysts
tell_all-requires-clause-analysts g c = analysts_as_seen g.B.Named.name (shape_of c.args.setup.now.schema) c.args.own.now c.args.lanes.now
    c.requires.own c.requires.analysts

pub swap_owner-requires : goal.swap_owner-requires
swap_owner-requires g c = owner_within c.args.script.now c.args.owner _ (omega (arith, c.tell_all.ensures.told.same_length, c.requires.all))
    c.requires.owner

pub run_each-requires-clause-own : goal.run_each-requires-clause-own
run_each-requires-clause-own g c = λ κs within_κs.
    let name = g.B.Named.name in
    let shape = shape_of c.args.setup.now.schema in
    let analysts = analysts_over_setup name shape c.args.own.now c.tell_all.new.lanes c.requires.own c.tell_all.ensures.analysts in
    let swapped = swapped_from c.args.owner c.args.own.now c.tell_all.new.own _ _ _ c.tell_all.ensures.same c.swap_owner.ensures in
    swapped_parties name shape c.args.setup.now c.args.script.now c.args.phase c.args.owner c.args.own.now c.swap_owner.new.own
    c.tell_all.new.lanes c.swap_owner.new.lanes swapped c.requires.own analysts

pub confirm_all-requires-clause-own : goal.confirm_all-requires-clause-own
confirm_all-requires-clause-own g c =
    let name = g.B.Named.name in
    let shape = shape_of c.args.setup.now.schema in
    let analysts = analysts_over_setup name shape c.args.own.now c.tell_all.new.lanes c.requires.own c.tell_all.ensures.analysts in
    let swapped = swapped_from c.args.owner c.args.own.now c.tell_all.new.own _ _ _ c.tell_all.ensures.same c.swap_owner.ensures in
    owner_as_seen name shape c.swap_owner-2.new.own
    (owner_back name shape c.args.setup.now c.args.script.now c.args.phase c.args.owner c.requires.owner c.args.own.now
    c.swap_owner.new.own c.swap_owner-2.new.own c.args.lanes.now c.tell_all.new.lanes c.swap_owner.new.lanes c.run_each.new.lanes
    c.swap_owner-2.new.lanes c.swap_owner-2.new.lanes
    c.requires.all c.requires.own analysts c.tell_all.ensures.told swapped c.run_each.ensures.run c.run_each.ensures.own
    c.swap_owner-2.ensures)

pub confirm_all-requires-clause-analysts : goal.confirm_all-requires-clause-analysts
confirm_all-requires-clause-analysts g c =
    let name = g.B.Named.name in
    let shape = shape_of c.args.setup.now.schema in
    let analysts = analysts_over_setup name shape c.args.own.now c.tell_all.new.lanes c.requires.own c.tell_all.ensures.analysts in
    let swapped = swapped_from c.args.owner c.args.own.now c.tell_all.new.own _ _ _ c.tell_all.ensures.same c.swap_owner.ensures in
    let owner = owner_back name shape c.args.setup.now c.args.script.now c.args.phase c.args.owner c.requires.owner c.args.own.now
    c.swap_owner.new.own c.swap_owner-2.new.own c.args.lanes.now c.tell_all.new.lanes c.swap_owner.new.lanes c.run_each.new.lanes
    c.swap_owner-2.new.lanes c.swap_owner-2.new.lanes
    c.requires.all c.requires.own analysts c.tell_all.ensures.told swapped c.run_each.ensures.run c.run_each.ensures.own
    c.swap_owner-2.ensures in
    analysts_as_seen name shape c.swap_owner-2.new.own c.swap_owner-2.new.lanes owner
    (analysts_back name shape c.args.setup.now c.args.script.now c.args.phase c.args.owner c.requires.owner c.args.own.now
    c.swap_owner.new.own c.swap_owner-2.new.own c.args.lanes.now c.tell_all.new.lanes c.swap_owner.new.lanes c.run_each.new.lanes
    c.swap_owner-2.new.lanes c.swap_owner-2.new.lanes
    c.requires.all c.requires.own analysts c.tell_all.ensures.told swapped c.run_each.ensures.run c.run_each.ensures.own
    c.swap_owner-2.ensures)

pub returns-clause-own : goal.returns-clause-own
returns-clause-own g c =
    let name = g.B.Named.name in
    let shape = shape_of c.args.setup.now.schema in
    let analysts = analysts_over_setup name shape c.args.own.now c.tell_all.new.lanes c.requires.own c.tell_all.ensures.analysts in
    let swapped = swapped_from c.args.owner c.args.own.now c.tell_all.new.own _ _ _ c.tell_all.ensures.same c.swap_owner.ensures in
    subst (λ (p : Party). IsOwnerOf name shape p) (sym c.confirm_all.ensures.same)
    (owner_back name shape c.args.setup.now c.args.script.now c.args.phase c.args.owner c.requires.owner c.args.own.now
    c.swap_owner.new.own c.swap_owner-2.new.own c.args.lanes.now c.tell_all.new.lanes c.swap_owner.new.lanes c.run_each.new.lanes
    c.swap_owner-2.new.lanes c.swap_owner-2.new.lanes
    c.requires.all c.requires.own analysts c.tell_all.ensures.told swapped c.run_each.ensures.run c.run_each.ensures.own
    c.swap_owner-2.ensures)

pub returns-clause-analysts : goal.returns-clause-analysts
returns-clause-analysts g c =
    let name = g.B.Named.name in
    let shape = shape_of c.args.setup.now.schema in
    let analysts = analysts_over_setup name shape c.args.own.now c.tell_all.new.lanes c.requires.own c.tell_all.ensures.analysts in
    let swapped = swapped_from c.args.owner c.args.own.now c.tell_all.new.own _ _ _ c.tell_all.ensures.same c.swap_owner.ensures in
    confirmed_analysts name shape c.args.setup.now c.args.script.now c.args.phase c.args.owner c.requires.owner c.args.own.now
    c.swap_owner.new.own c.swap_owner-2.new.own c.args.lanes.now c.tell_all.new.lanes c.swap_owner.new.lanes c.run_each.new.lanes
    c.swap_owner-2.new.lanes c.confirm_all.new.lanes
    c.requires.all c.requires.own analysts c.tell_all.ensures.told swapped c.run_each.ensures.run c.run_each.ensures.own
    c.swap_owner-2.ensures c.confirm_all.ensures.confirmed

pub returns-clause-ran : goal.returns-clause-ran
returns-clause-ran g c =
    let name = g.B.Named.name in
    let shape = shape_of c.args.setup.now.schema in
    let analysts = analysts_over_setup name shape c.args.own.now c.tell_all.new.lanes c.requires.own c.tell_all.ensures.analysts in
    let swapped = swapped_from c.args.owner c.args.own.now c.tell_all.new.own _ _ _ c.tell_all.ensures.same c.swap_owner.ensures in
    subst (λ (p : Party). PhaseRan c.args.setup.now c.args.script.now c.args.phase c.args.own.now p c.args.lanes.now
    c.confirm_all.new.lanes) (sym c.confirm_all.ensures.same)
    (phase_ran name shape c.args.setup.now c.args.script.now c.args.phase c.args.owner c.requires.owner c.args.own.now
    c.swap_owner.new.own c.swap_owner-2.new.own c.args.lanes.now c.tell_all.new.lanes c.swap_owner.new.lanes c.run_each.new.lanes
    c.swap_owner-2.new.lanes c.confirm_all.new.lanes
    c.requires.all c.requires.own analysts c.tell_all.ensures.told swapped c.run_each.ensures.run c.run_each.ensures.own
    c.swap_owner-2.ensures c.confirm_all.ensures.confirmed)
