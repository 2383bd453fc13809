use Rattle.std.proofs.Common.{◌≡◌, ◌∙◌, ap}
use Rattle.tb_board.specs.Starts.{StartValue}
use Rattle.tb_session.specs.PastTaken.{base_in, chain_in}
use Rattle.tb_session.proofs.PastTaking.{for_later}
use Rattle.tb_session.proofs.count_past.look.Goals as goal

pub returns-clause-past : goal.returns-clause-past
returns-clause-past g c =
    let mid = c.take.new.pass in
    let seen = c.chain.new.pass in
    let whole = c.in_ok-chain.ensures.chain in
    let shape : seen.start.shape ≡ c.args.plan.now.shape = ap (λ (s : StartValue). s.shape) (c.in_ok-chain.ensures.later.base ∙ c.in_ok-taken.ensures.later.base) ∙ c.requires.fits in record {
      taken = for_later c.args.plan.now c.in_ok-taken.taken mid seen _ _ c.in_ok-taken.ensures.taken c.in_ok-chain.ensures.later c.in_ok-chain.ensures.seen shape whole.base whole.batches;
      base = whole.base;
      batches = whole.batches;
    }
