use Rattle.std.proofs.Common.{sym, subst}
use Rattle.tb_board.specs.Holders.{IsChainSeen}
use Rattle.tb_board.proofs.Chains.{chain_before}
use Rattle.tb_board.proofs.board.Board.confirm.Goals as goal

pub returns-clause-chain : goal.returns-clause-chain
returns-clause-chain g c =
    subst IsChainSeen (sym c.confirm.ensures.same.1)
    (chain_before c.args.pass.now c.custodian.inside.writer c.confirm.ensures.behind c.custodian.invariant.2)
