use Rattle.std.proofs.Common.{◌≡◌, ◌∙◌, ℕ, List, ap, length, refl, subst, sym}
use Rattle.std.specs.Prelude.{flat_map}
use Rattle.std.specs.List.Sorted.{IsPermutation, IsSorted}
use Rattle.std.specs.Ordering.{nat_cmp}
use Rattle.tb_records.proofs.OnePerson.{distinct-risen, stand-sorted, written-anew}
use Rattle.tb_records.proofs.distinct.may_stand.Goals as goal

pub returns-then-ascend : goal.returns-then-ascend
returns-then-ascend g c = (distinct-risen (flat_map (λ list. list.items) c.args.lists.now) (c.if-ascend.ensures refl), c.if-not-are_few.ensures)

pub returns : goal.returns
returns g c =
    let after : c.par_sort.new.s ≡ c.deref.result.now = sym (c.deref.ensures.value ∙ written-anew c.in_ok-persons.persons.items c.par_sort.new.s c.in_ok-persons.persons.len c.in_ok-persons.persons.ok.0 (c.in_ok-par_sort.ensures.len ∙ ap length c.deref_mut.ensures.value)) in
    let same : IsPermutation c.in_ok-persons.persons.items c.deref.result.now = subst (λ (ns : List ℕ). IsPermutation ns c.deref.result.now) c.deref_mut.ensures.value (subst (λ (ns : List ℕ). IsPermutation c.deref_mut.result.now ns) after c.in_ok-par_sort.ensures.permutation) in
    stand-sorted c.args.most (flat_map (λ list. list.items) c.args.lists.now) c.in_ok-persons.persons.items c.deref.result.now c.rise.result c.in_ok-persons.ensures c.if-not-are_few.ensures same (subst (λ (ns : List ℕ). IsSorted nat_cmp ns) after c.in_ok-par_sort.ensures.sorted) c.rise.ensures
