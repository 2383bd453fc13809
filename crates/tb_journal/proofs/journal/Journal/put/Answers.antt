use Rattle.std.proofs.Common.{List, ℕ, take, inl, refl, sym, subst}
use Rattle.tb_disk.specs.Moments.{LeavesOnly}
use Rattle.tb_disk.proofs.Going.{starts}
use Rattle.tb_disk.proofs.Past.{past-none}
use Rattle.tb_disk.proofs.Telling.{back, Leads-same}
use Rattle.tb_spelling.specs.Spelling.{spelled}
use Rattle.tb_journal.specs.Records.{stands_for}
use Rattle.tb_journal.specs.Stops.{Ends, EndsWithOrWithout, IsKept}
use Rattle.tb_journal.proofs.Keeping.{behind-so, ends-on, payload-of}
use Rattle.tb_journal.proofs.journal.Journal.put.Goals as goal

pub put_record-requires-clause-behind : goal.put_record-requires-clause-behind
put_record-requires-clause-behind g c = behind-so c.as_slice.result.now c.in-Ok.behind.items (spelled c.args.edits.now) c.as_slice.ensures.value c.in-Ok.ensures.behind

pub returns-in-Ok-clause-kept : goal.returns-in-Ok-clause-kept
returns-in-Ok-clause-kept g c = λ is.
    Leads-same _ _ _ _ _ (c.put_record.ensures.kept is) refl
    (λ old new was told kept. subst (λ (p : List ℕ). IsKept p old new) (payload-of c.as_slice.result.now c.in-Ok.behind.items (spelled c.args.edits.now) c.as_slice.ensures.value c.in-Ok.ensures.behind) kept.ends)

pub returns-in-Ok-clause-on : goal.returns-in-Ok-clause-on
returns-in-Ok-clause-on g c = λ is file now. (back _ _ _ (c.put_record.ensures.kept is) file now).2.on

pub returns-in-Ok-clause-any_moment : goal.returns-in-Ok-clause-any_moment
returns-in-Ok-clause-any_moment g c = λ file told.
    subst (λ (p : List ℕ). LeavesOnly g.D.Disk.moment g.D.Disk.left_since c.args.disk.now c.put_record.new.disk (EndsWithOrWithout file p)) (payload-of c.as_slice.result.now c.in-Ok.behind.items (spelled c.args.edits.now) c.as_slice.ensures.value c.in-Ok.ensures.behind) (c.put_record.ensures.any_moment file told)

pub returns-in-Err-clause-any_moment : goal.returns-in-Err-clause-any_moment
returns-in-Err-clause-any_moment g c = λ file told.
    let on = c.requires.on file told in
    starts g.D.Disk.moment g.D.Disk.left_since c.args.disk.now (EndsWithOrWithout file (spelled c.args.edits.now))
    (λ image left. inl (subst (Ends (take 8 file) (stands_for file)) (sym (on.durable image (g.met.D.Disk.only_now c.args.disk.now image left))) (ends-on file _ c.args.self.now c.requires.at_end on)))

pub returns-in-Err-clause-past : goal.returns-in-Err-clause-past
returns-in-Err-clause-past g c = past-none g.D.Disk.may_leave g.D.Disk.moment g.D.Disk.left_since g.met.D.Disk.counts_now c.args.disk.now (g.met.D.Disk.only_now c.args.disk.now)
