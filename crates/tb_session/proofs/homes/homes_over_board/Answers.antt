use Rattle.std.proofs.Common.{◌≡◌, IfOk, rules, subst}
use Rattle.tb_board.specs.Holders.{release_seen}
use Rattle.tb_model.specs.Releases.{ReleaseValue}
use Rattle.tb_tables.specs.Homes.{homes_text}
use Rattle.tb_session.proofs.homes.homes_over_board.Goals as goal

pub returns-clause-text : goal.returns-clause-text
returns-clause-text g c =
    let is : c.deref.result.now ≡ release_seen c.take.new.pass = search rules in
    subst (λ (r : ReleaseValue). IfOk c.homes_table.result (λ text. text ≡ homes_text c.args.setup.now c.args.units.now r c.args.query.now)) is c.homes_table.ensures.text
