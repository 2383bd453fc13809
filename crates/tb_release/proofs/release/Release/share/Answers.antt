use Rattle.std.specs.Arc.{arc_value}
use Rattle.tb_release.proofs.First.{shared, few_pages_kept}
use Rattle.tb_release.proofs.release.Release.share.Goals as goal

pub share-requires-clause-stock : goal.share-requires-clause-stock
share-requires-clause-stock c = c.self.invariant.0.whole

pub share-requires-clause-few : goal.share-requires-clause-few
share-requires-clause-few c = few_pages_kept c.self.inside.stock c.self.inside.most c.self.inside.number c.self.inside.changes c.self.inside.edits (arc_value c.self.inside.rules) c.self.invariant.0

pub returns : goal.returns
returns c =
    let made = c.in_ok-register.ensures in
    shared c.self.inside.stock c.self.inside.most c.self.inside.number c.self.inside.changes c.self.inside.edits (arc_value c.self.inside.rules) c.args.self.now c.in_ok-register.register c.self.invariant.0 c.self.view_is made.pages made.keys made.whole
