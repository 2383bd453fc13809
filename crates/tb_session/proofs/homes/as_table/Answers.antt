use Rattle.std.proofs.Common.{◌≡◌, ◌≤◌, ℕ, List, length, rules, subst, sym}
use Rattle.tb_session.specs.Dwellings.{as_table}
use Rattle.tb_session.proofs.HomeTexts.{no_longer}
use Rattle.tb_session.proofs.PastTexts.{blanks_le}
use Rattle.tb_session.proofs.homes.as_table.Goals as goal

pub overflow_sub-line : goal.overflow_sub-line
overflow_sub-line c = rw c.skip_blanks-rest.ensures (blanks_le c.args.line.now)

pub returns-clause-shorter : goal.returns-clause-shorter
returns-clause-shorter c =
    let is : c.extend_from_slice-2.new.self.items ≡ as_table c.args.line.now = search rules in
    subst (λ (t : List ℕ). length t ≤ length c.args.line.now) (sym is) (no_longer c.args.line.now c.requires)
