use Rattle.std.proofs.Common.{◌≤◌, length, ap₂, ◌∙◌, arith}
use Rattle.std.proofs.lemmas.List.{take_all}
use Rattle.tb_base.specs.Tallies.{tally_of}
use Rattle.tb_base.proofs.LaneSums.{tally-pass, tally-put}
use Rattle.tb_base.proofs.tallies.tally.Goals as goal
use Rattle.tb_base.proofs.tallies.tally.Goals.{then-places-i, else-places-i}

pub loop-i-preserved : goal.loop-i-preserved
loop-i-preserved c = elim c.if-places-i.branch [
  | then-places-i w ↦
      tally-put c.args.place c.args.places.now c.args.keys.now c.loop-i.i c.loop-i.cell c.if-places-i.cell c.requires.same c.requires.few c.loop-i-test.true
      w.if-places-i.true c.loop-i.invariant (λ small. w.cell-is ∙ w.put.ensures.exact small)
  | else-places-i w ↦
      tally-pass c.args.place c.args.places.now c.args.keys.now c.loop-i.i c.if-places-i.cell c.requires.same c.loop-i-test.true w.if-places-i.false (w.cell-is ∙ c.loop-i.invariant)
]

pub returns : goal.returns
returns c =
    let done : length c.args.places.now ≤ c.loop-i.i = omega (arith, c.loop-i-test.false) in
    c.loop-i.invariant ∙ ap₂ (tally_of c.args.place) (take_all c.loop-i.i c.args.places.now done) (take_all c.loop-i.i c.args.keys.now (omega (arith, done, c.requires.same)))
