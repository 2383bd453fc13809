use Rattle.std.proofs.Common.{Option, sym, ap, subst, ◌∙◌}
use Rattle.std.specs.Option.{ForSome, option_copied}
use Rattle.tb_base.specs.declared.records.Record.{Record}
use Rattle.tb_cube.specs.Cubes.{put_in, taken_out, CanPutIn, CanTakeOut}
use Rattle.tb_delta.proofs.advancing.make.Goals as goal

pub apply-requires-clause-before : goal.apply-requires-clause-before
apply-requires-clause-before c = subst (λ (o : Option Record). ForSome o (CanTakeOut c.args.cube.now)) (sym c.as_ref.ensures.value) c.requires.before

pub apply-requires-clause-after : goal.apply-requires-clause-after
apply-requires-clause-after c =
    subst (λ (o : Option Record). ForSome o (CanPutIn (taken_out (option_copied c.as_ref.result) c.args.cube.now))) (sym c.as_ref-2.ensures.value)
    (subst (λ (o : Option Record). ForSome c.args.change.now.after (CanPutIn (taken_out o c.args.cube.now))) (sym c.as_ref.ensures.value) c.requires.after)

pub returns : goal.returns
returns c =
    c.apply.ensures.cells
    ∙ ap (λ (o : Option Record). put_in (option_copied c.as_ref-2.result) (taken_out o c.args.cube.now)) c.as_ref.ensures.value
    ∙ ap (λ (o : Option Record). put_in o (taken_out c.args.change.now.before c.args.cube.now)) c.as_ref-2.ensures.value
