use Rattle.std.proofs.Common.{◌≡◌, ℤ, rules, arith, get_or, sym, subst, w16, SFits}
use Rattle.std.proofs.lemmas.Int.{ints, to_z-of_z}
use Rattle.tb_ptable.specs.declared.slots.TheConstants.{NO_PVALUE}
use Rattle.tb_ptable.proofs.Listing.{length-slots, slots_more}
use Rattle.tb_ptable.proofs.slots.Slots.add.Goals as goal

-- a line was added to the list, and its pvalue to the array that reaches its slot
pub invariant_of-self-2 : goal.invariant_of-self-2
invariant_of-self-2 c =
    let line = c.args.line in
    let slots = c.reach.new.slots.items in
    let fits : SFits w16 line.pvalue = search rules in
    let fit : SFits w16 c.index_mut-slot.result.now = search rules in
    let none : c.index_mut-slot.result.now ≡ NO_PVALUE = omega (arith, ints, c.if-slot.false) in
    let free = subst (λ (d : ℤ). get_or slots c.slot_of-at.result d ≡ d) none (sym c.index_mut-slot.ensures.value) in
    rw (c.and-self-inside.ensures, to_z-of_z w16 line.pvalue fits, c.slot_of-at.ensures)
    (slots_more c.self.inside.list.lines slots line c.requires.row c.requires.safe (c.in_ok-reach.ensures.kept _ c.self.invariant)
    (rw (← c.slot_of-at.ensures) c.in_ok-reach.ensures.there) (rw (← c.slot_of-at.ensures) free))

pub returns-clause-few : goal.returns-clause-few
returns-clause-few c = length-slots _ _ (invariant_of-self-2 c)
