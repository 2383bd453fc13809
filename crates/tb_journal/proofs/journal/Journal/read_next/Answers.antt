use Rattle.std.proofs.Common.{◌∙◌, drop, sym, subst}
use Rattle.tb_journal.specs.Reading.{TellsFound}
use Rattle.tb_journal.specs.States.{JournalState}
use Rattle.tb_journal.proofs.Taking.{on-next, tells-next}
use Rattle.tb_journal.proofs.journal.Journal.read_next.Goals as goal

pub returns-clause-told : goal.returns-clause-told
returns-clause-told g c = λ file told.
    tells-next file _ c.args.self.now (c.requires.on file told) c.take.new.self c.find-found.result c.take.result
    (subst (λ (j : JournalState). TellsFound (drop j.place file) c.find-found.result) c.self.view_is (c.find-found.ensures.told file told)) c.take.ensures.taken c.take.ensures.state

pub returns-clause-on : goal.returns-clause-on
returns-clause-on g c = λ file now.
    let told = sym c.find-found.ensures.quiet.same ∙ now in
    on-next file _ c.args.self.now (c.requires.on file told) _ c.find-found.ensures.quiet.stop c.take.new.self c.find-found.result c.take.result
    (subst (λ (j : JournalState). TellsFound (drop j.place file) c.find-found.result) c.self.view_is (c.find-found.ensures.told file told)) c.take.ensures.taken c.take.ensures.state
