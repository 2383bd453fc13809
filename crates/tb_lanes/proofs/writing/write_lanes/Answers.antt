use Rattle.std.proofs.Common.{◌∙◌, ap, length, arith}
use Rattle.tb_lanes.specs.declared.lane.Lane.{Lane}
use Rattle.tb_script.specs.Scripts.{lanes_of}
use Rattle.tb_lanes.proofs.Texts.{all_lanes_written, lane_cut, lane_written, none_written}
use Rattle.tb_lanes.proofs.writing.write_lanes.Goals as goal

pub loop-n-init : goal.loop-n-init
loop-n-init g c = λ texts tell. none_written c.args.script.now c.args.phase texts _ _

pub write_one-requires-clause-knows : goal.write_one-requires-clause-knows
write_one-requires-clause-knows g c = ap (λ (l : Lane g.row.G.Denot). l.spoke) c.index-lanes-n.is ∙ c.requires.know c.loop-n.n
    c.index-lanes-n.result c.loop-n-test.true

pub write_one-requires-clause-tells : goal.write_one-requires-clause-tells
write_one-requires-clause-tells g c =
    let (texts, tell) = c.requires.tell in (
      texts c.loop-n.n,
      ap (λ (l : Lane g.row.G.Denot). l.sink) c.index-lanes-n.is ∙ tell c.loop-n.n
          c.index-lanes-n.result c.loop-n-test.true,
    )

pub loop-n-preserved : goal.loop-n-preserved
loop-n-preserved g c = λ texts tell.
    let told = ap (λ (l : Lane g.row.G.Denot). l.sink) c.index-lanes-n.is ∙ tell c.loop-n.n c.index-lanes-n.result c.loop-n-test.true in
    lane_written c.args.script.now c.args.phase texts c.loop-n.n (c.loop-n.invariant texts tell)
    (c.in-All.ensures (texts c.loop-n.n) told)

pub returns-in-Failed : goal.returns-in-Failed
returns-in-Failed g c = λ texts tell.
    let told = ap (λ (l : Lane g.row.G.Denot). l.sink) c.index-lanes-n.is ∙ tell c.loop-n.n c.index-lanes-n.result c.loop-n-test.true in
    lane_cut c.args.script.now c.args.phase texts c.loop-n.n (length (lanes_of c.args.script.now.lines)) (omega (arith, c.loop-n-test.true, c.requires.all))
    (c.loop-n.invariant texts tell) (c.in-Failed.ensures (texts c.loop-n.n) told)

pub returns : goal.returns
returns g c = λ texts tell. all_lanes_written c.args.script.now c.args.phase texts _ _ _ _ c.loop-n.n (length (lanes_of c.args.script.now.lines))
    (omega (arith, c.loop-n-test.false, c.requires.all)) (c.loop-n.invariant texts tell)
