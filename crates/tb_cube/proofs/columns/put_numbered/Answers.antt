use Rattle.std.proofs.Common.{◌≡◌, ◌<◌, ◌≤◌, List, ap, sym, length, get_or, drop, ◌∙◌, arith}
use Rattle.std.proofs.lemmas.List.{drop_all}
use Rattle.tb_base.specs.declared.records.Record.{Record}
use Rattle.tb_cube.specs.Axes.{with_all}
use Rattle.tb_cube.proofs.Adding.{made-with, room-left}
use Rattle.tb_cube.proofs.ByColumn.{as-many, rest-numbered}
use Rattle.tb_cube.proofs.columns.put_numbered.Goals as goal

pub loop-k-preserved : goal.loop-k-preserved
loop-k-preserved c =
    let n = get_or c.args.numbers.now c.loop-k.k 0 in
    let key = get_or c.args.keys.now c.loop-k.k 0 in
    let there : n < length c.loop-k.cells = omega (arith, c.requires.there c.loop-k.k 0 (omega (arith, c.loop-k-test.true, c.requires.same)), c.loop-k.auto.cells) in
    let made = made-with c.loop-k.cells n c.loop-k.k (length c.args.keys.now) key c.put.new.self there c.loop-k-test.true c.loop-k.invariant.room c.put.ensures.exact in
    record {
      with_them = λ axes records are. rest-numbered c.args.cells.now c.loop-k.cells c.args.numbers.now c.args.keys.now c.loop-k.k c.put.new.self c.loop-k-test.true made axes records are (c.loop-k.invariant.with_them axes records are);
      room = room-left c.loop-k.cells n c.loop-k.k (length c.args.keys.now) key c.put.new.self there c.loop-k-test.true c.loop-k.invariant.room made;
    }

pub returns : goal.returns
returns c = λ axes records are.
    let all : length records ≤ c.loop-k.k = omega (arith, c.loop-k-test.false, as-many axes records (length c.args.cells.now) c.args.numbers.now c.args.keys.now are) in
    ap (λ (rs : List Record). with_all axes c.loop-k.cells rs) (sym (drop_all c.loop-k.k records all)) ∙ c.loop-k.invariant.with_them axes records are
