use Rattle.std.proofs.Common.{◌≡◌, ◌≤◌, ◌++◌, List, [], length, rules, subst, ap, sym, ◌∙◌, All, append_assoc, append-nil, arith}
use Rattle.std.specs.Slice.Iter.{chunks_rest}
use Rattle.std.proofs.lemmas.List.{nil_from_length}
use Rattle.tb_base.specs.declared.records.Record.{Record}
use Rattle.tb_base.specs.Records.{Fits}
use Rattle.tb_base.proofs.TallyLemmas.{chunk-fits, chunk-put, none-put, ArePutBy}
use Rattle.tb_scan.proofs.Stepping.{short_number, short-put}
use Rattle.tb_scan.proofs.tallied.put_by_tallies.Goals as goal

pub numbers_of-numbers-requires-clause-fit : goal.numbers_of-numbers-requires-clause-fit
numbers_of-numbers-requires-clause-fit c =
    let so_far = c.loop-chunk.invariant.3 in
    chunk-fits (Fits c.args.plan.now.shape) so_far.0 c.in-Some.chunk.now (chunks_rest c.next.new.self) c.args.piece.now (so_far.1 ∙ ap (λ rs. so_far.0 ++ rs) c.in-Some.ensures.steps.1.0) c.requires.fit

pub loop-chunk-init : goal.loop-chunk-init
loop-chunk-init c = (search rules, tt, search rules, ([], search rules, none-put (short_number c.args.plan.now) c.args.cells.now))

pub loop-chunk-preserved : goal.loop-chunk-preserved
loop-chunk-preserved c =
    let so_far = c.loop-chunk.invariant.3 in
    let steps = c.in-Some.ensures.steps in (
      search rules,
      tt,
      steps.0 ∙ c.loop-chunk.invariant.2,
      (
        so_far.0 ++ c.in-Some.chunk.now,
        so_far.1 ∙ ap (λ rs. so_far.0 ++ rs) steps.1.0 ∙ sym (append_assoc so_far.0 c.in-Some.chunk.now (chunks_rest c.next.new.self)),
        chunk-put (short_number c.args.plan.now) c.args.cells.now c.loop-chunk.cells c.add_tallies.new.cells so_far.0 c.in-Some.chunk.now _ _ c.loop-chunk.auto.cells
            c.numbers_of-numbers.ensures c.write_keys.ensures c.add_tallies.ensures.tallied so_far.2,
      ),
    )

pub returns : goal.returns
returns c =
    let so_far = c.loop-chunk.invariant.3 in
    let none : chunks_rest c.loop-chunk.chunk-iterator ≡ [] = nil_from_length (chunks_rest c.loop-chunk.chunk-iterator) c.in-None.ensures.steps.1.0 in
    short-put c.args.plan.now c.args.cells.now c.loop-chunk.cells c.args.piece.now c.requires.few
    (subst (λ rs. ArePutBy (short_number c.args.plan.now) c.args.cells.now rs c.loop-chunk.cells) (sym (so_far.1 ∙ ap (λ rs. so_far.0 ++ rs) none ∙ append-nil so_far.0)) so_far.2)
