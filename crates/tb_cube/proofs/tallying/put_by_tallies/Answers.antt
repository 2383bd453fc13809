use Rattle.std.proofs.Common.{◌≡◌, ◌++◌, [], length, rules, subst, ap, sym, ◌∙◌, append_assoc, append-nil}
use Rattle.std.specs.Slice.Iter.{chunks_rest}
use Rattle.std.proofs.lemmas.List.{nil_from_length}
use Rattle.tb_base.specs.declared.tallies.TheConstants.{MOST_TALLIED}
use Rattle.tb_base.proofs.TallyLemmas.{chunk-fits, chunk-put, none-put, ArePutBy}
use Rattle.tb_cube.specs.Axes.{LeadsBelow}
use Rattle.tb_cube.proofs.Grid.{leads-wider}
use Rattle.tb_cube.proofs.Tallied.{number, tallied-all}
use Rattle.tb_cube.proofs.tallying.put_by_tallies.Goals as goal

pub write_columns-requires-clause-lead : goal.write_columns-requires-clause-lead
write_columns-requires-clause-lead c =
    let so_far = c.loop-chunk.invariant.3 in
    let lead = chunk-fits (LeadsBelow (length c.args.cells.now) c.args.axes.now) so_far.0 c.in-Some.chunk.now (chunks_rest c.next.new.self) c.args.piece.now (so_far.1 ∙ ap (λ rs. so_far.0 ++ rs) c.in-Some.ensures.steps.1.0) c.requires.lead in
    λ k one below. leads-wider (length c.args.cells.now) MOST_TALLIED c.args.axes.now _ c.requires.few (lead k one below)

pub loop-chunk-init : goal.loop-chunk-init
loop-chunk-init c = (search rules, tt, search rules, ([], search rules, (none-put (number c.args.axes.now) c.args.cells.now, c.requires.reduced)))

pub loop-chunk-preserved : goal.loop-chunk-preserved
loop-chunk-preserved c =
    let so_far = c.loop-chunk.invariant.3 in
    let steps = c.in-Some.ensures.steps in (
      search rules,
      tt,
      steps.0 ∙ c.loop-chunk.invariant.2,
      (
        so_far.0 ++ c.in-Some.chunk.now,
        so_far.1 ∙ ap (λ rs. so_far.0 ++ rs) steps.1.0 ∙ sym (append_assoc so_far.0 c.in-Some.chunk.now (chunks_rest c.next.new.self)),
        (
          chunk-put (number c.args.axes.now) c.args.cells.now c.loop-chunk.cells c.add_tallies.new.cells so_far.0 c.in-Some.chunk.now _ _ c.loop-chunk.auto.cells
              c.write_columns.ensures.numbers c.write_columns.ensures.keys c.add_tallies.ensures.tallied so_far.2.0,
          c.add_tallies.ensures.reduced,
        ),
      ),
    )

pub returns : goal.returns
returns c =
    let so_far = c.loop-chunk.invariant.3 in
    let none : chunks_rest c.loop-chunk.chunk-iterator ≡ [] = nil_from_length (chunks_rest c.loop-chunk.chunk-iterator) c.in-None.ensures.steps.1.0 in
    tallied-all c.args.axes.now c.args.cells.now c.loop-chunk.cells c.args.piece.now c.loop-chunk.auto.cells c.requires.lead c.requires.room (c.know_cells.ensures c.requires.reduced) (c.know_cells-2.ensures so_far.2.1)
    (subst (λ rs. ArePutBy (number c.args.axes.now) c.args.cells.now rs c.loop-chunk.cells) (sym (so_far.1 ∙ ap (λ rs. so_far.0 ++ rs) none ∙ append-nil so_far.0)) so_far.2.0)
