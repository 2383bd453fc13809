use Rattle.std.proofs.Common.{◌≡◌, ◌∙◌, ◌+◌, ◌<◌, ap, sym, subst, length, arith}
use Rattle.std.specs.Prelude.{slice_set}
use Rattle.std.proofs.lemmas.List.{length-replicate, length-set}
use Rattle.tb_model.specs.Units.{PairValue}
use Rattle.tb_units.specs.Pairs.{pair_at}
use Rattle.tb_units.specs.Slots.{AreSlots}
use Rattle.tb_units.proofs.SlotLemmas.{slots-more, slots-none}
use Rattle.tb_units.proofs.slots.slots_of.Goals as goal

pub loop-k-init : goal.loop-k-init
loop-k-init c = record {
  long = ap length c.in_ok-slots.ensures ∙ length-replicate c.args.count 0;
  are = subst (AreSlots c.args.links.now 0) (sym c.in_ok-slots.ensures) (slots-none c.args.links.now c.args.count);
}

pub loop-k-preserved : goal.loop-k-preserved
loop-k-preserved c =
    let ls = c.args.links.now in
    let k = c.loop-k.k in
    let slots = c.loop-k.slots.items in
    let below : k < length ls = omega (arith, c.loop-k-test.true, c.len-k-end.ensures) in
    let at : c.at-person.result.0 ≡ (pair_at ls k).0 = ap (λ (p : PairValue). p.0) c.at-person.ensures in
    let reach : (pair_at ls k).0 < c.args.count = c.requires.reach k below in
    let within : (pair_at ls k).0 < length slots = omega (arith, reach, c.loop-k.invariant.long) in
    record {
      long = length-set slots c.at-person.result.0 (k + 1) ∙ c.loop-k.invariant.long;
      are = subst (λ i. AreSlots ls (k + 1) (slice_set slots i (k + 1))) (sym at) (slots-more ls slots k within c.loop-k.invariant.are);
    }
