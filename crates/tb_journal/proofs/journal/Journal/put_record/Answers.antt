use Rattle.std.proofs.Common.{◌≡◌, ◌+◌, ◌-◌, ◌^◌, min, length, refl, subst, sym, rules}
use Rattle.tb_disk.proofs.Telling.{Leads-same}
use Rattle.tb_journal.specs.Records.{payload_behind}
use Rattle.tb_journal.specs.States.{JournalState}
use Rattle.tb_journal.specs.Through.{IsReady}
use Rattle.tb_journal.proofs.Keeping.{ready, kept}
use Rattle.tb_journal.proofs.journal.Journal.put_record.Goals as goal

pub write_record-requires-clause-ready : goal.write_record-requires-clause-ready
write_record-requires-clause-ready g c = λ file told.
    subst (λ (j : JournalState). IsReady (g.D.Disk.may_leave c.args.disk.now) j.place file) (sym c.self.view_is) (ready file _ c.args.self.now c.requires.at_end (c.requires.on file told))

pub returns-in-All-clause-kept : goal.returns-in-All-clause-kept
returns-in-All-clause-kept g c = λ _.
    let sum : c.saturating_add-self-inside.result ≡ min (c.self.inside.place + length c.args.behind.now) (2 ^ 64 - 1) = search rules in
    Leads-same _ _ _ _ _ (c.in-All.ensures.put refl) refl
    (λ file next was told put. kept file next _ c.self.inside.place (payload_behind c.args.behind.now) c.args.behind.now _ c.requires.behind put sum)
