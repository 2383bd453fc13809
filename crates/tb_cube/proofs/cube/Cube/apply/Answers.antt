use Rattle.std.proofs.Common.{ap, sym, subst, ◌∙◌}
use Rattle.std.specs.Option.{ForSome, option_copied}
use Rattle.tb_cube.specs.Cubes.{put_in, CanPutIn, CubeValue}
use Rattle.tb_cube.proofs.Changes.{dense-taken, held-applied}
use Rattle.tb_cube.proofs.cube.Cube.apply.Goals as goal

pub put-requires : goal.put-requires
put-requires c = record {
  dense = ap (λ (v : CubeValue). v.dense) c.take_out.ensures ∙ dense-taken (option_copied c.args.before) c.args.self.now ∙ c.requires.dense;
  can = subst (λ (v : CubeValue). ForSome (option_copied c.args.after) (CanPutIn v)) (sym c.take_out.ensures) c.requires.after;
}

pub returns-clause-cells : goal.returns-clause-cells
returns-clause-cells c = c.put.ensures ∙ ap (put_in (option_copied c.args.after)) c.take_out.ensures

pub returns-clause-held : goal.returns-clause-held
returns-clause-held c = λ first rest held. held-applied c.args.self.now c.put.new.self (option_copied c.args.before) (option_copied c.args.after) first rest (returns-clause-cells c) c.requires.before held
