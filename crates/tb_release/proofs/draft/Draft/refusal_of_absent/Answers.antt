use Rattle.std.proofs.Common.{sym}
use Rattle.tb_release.proofs.Made.{absent, present}
use Rattle.tb_release.proofs.draft.Draft.refusal_of_absent.Goals as goal

pub returns-then-has : goal.returns-then-has
returns-then-has c = present c.args.self.now c.args.person (sym c.if-has.ensures)

pub returns : goal.returns
returns c = absent c.args.self.now c.args.person (sym c.if-has.ensures)
