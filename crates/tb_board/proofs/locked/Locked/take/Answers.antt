use Rattle.std.proofs.Common.{◌∙◌}
use Rattle.std.specs.Option.{option_copied}
use Rattle.tb_board.proofs.Chains.{chain_seen}
use Rattle.tb_board.proofs.Taking.{if_taken}
use Rattle.tb_board.proofs.locked.Locked.take.Goals as goal

pub returns-clause-taken : goal.returns-clause-taken
returns-clause-taken g c =
    if_taken c.catch_up.new.self g.B.Named.name c.self.inside.desk (option_copied c.args.vars) c.take.result
    (c.catch_up.ensures.list ∙ c.self.invariant) c.take.ensures.sound c.take.ensures.release c.take.ensures.hit

pub returns-clause-chain : goal.returns-clause-chain
returns-clause-chain g c =
    chain_seen c.catch_up.new.self g.B.Named.name c.self.inside.desk (c.catch_up.ensures.list ∙ c.self.invariant) c.take.ensures.sound
