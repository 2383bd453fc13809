use Rattle.std.proofs.Common.{◌≡◌, ◌++◌, [], rules, subst, ap, sym, ◌∙◌, append_assoc, append-nil}
use Rattle.std.specs.Slice.Iter.{chunks_rest}
use Rattle.std.proofs.lemmas.List.{nil_from_length}
use Rattle.tb_base.specs.Records.{Fits}
use Rattle.tb_base.proofs.TallyLemmas.{chunk-fits}
use Rattle.tb_unit_cells.specs.Noting.{number_in, AreNoted}
use Rattle.tb_unit_cells.proofs.Noted.{noted-none, noted-then}
use Rattle.tb_unit_cells.proofs.noting.note_piece.Goals as goal

pub note_chunk-guess-requires-clause-fit : goal.note_chunk-guess-requires-clause-fit
note_chunk-guess-requires-clause-fit c =
    let so_far = c.loop-chunk.invariant.3 in
    chunk-fits (Fits c.args.plan.now.shape) so_far.0 c.in-Some.chunk.now (chunks_rest c.next.new.self) c.args.piece.now (so_far.1 ∙ ap (λ rs. so_far.0 ++ rs) c.in-Some.ensures.steps.1.0) c.requires.fit

pub loop-chunk-init : goal.loop-chunk-init
loop-chunk-init c = (search rules, tt, search rules, ([], search rules, noted-none (number_in c.args.plan.now) c.args.units.now.links c.args.numbers.now))

pub loop-chunk-preserved : goal.loop-chunk-preserved
loop-chunk-preserved c =
    let so_far = c.loop-chunk.invariant.3 in
    let steps = c.in-Some.ensures.steps in (
      search rules,
      tt,
      steps.0 ∙ c.loop-chunk.invariant.2,
      (
        so_far.0 ++ c.in-Some.chunk.now,
        so_far.1 ∙ ap (λ rs. so_far.0 ++ rs) steps.1.0 ∙ sym (append_assoc so_far.0 c.in-Some.chunk.now (chunks_rest c.next.new.self)),
        noted-then (number_in c.args.plan.now) c.args.units.now.links so_far.0 c.in-Some.chunk.now c.args.numbers.now c.loop-chunk.numbers c.note_chunk-guess.new.numbers so_far.2 c.note_chunk-guess.ensures,
      ),
    )

pub returns : goal.returns
returns c =
    let so_far = c.loop-chunk.invariant.3 in
    let none : chunks_rest c.loop-chunk.chunk-iterator ≡ [] = nil_from_length (chunks_rest c.loop-chunk.chunk-iterator) c.in-None.ensures.steps.1.0 in
    subst (λ rs. AreNoted (number_in c.args.plan.now) c.args.units.now.links rs c.args.numbers.now c.loop-chunk.numbers) (sym (so_far.1 ∙ ap (λ rs. so_far.0 ++ rs) none ∙ append-nil so_far.0)) so_far.2
