use Rattle.std.proofs.Common.{length, refl, sym, ◌∙◌, ap}
use Rattle.std.specs.Prelude.{is_none}
use Rattle.tb_disk.specs.Images.{Torn}
use Rattle.tb_disk.proofs.Going.{starts, goes_on}
use Rattle.tb_disk.proofs.Past.{past-call, past-then}
use Rattle.tb_disk.proofs.Telling.{Leads-same, Leads-tells}
use Rattle.tb_disk.proofs.Tearing.{Torn-follows, Torn-start}
use Rattle.tb_journal.proofs.through.write_through.Goals as goal

pub returns-in-Failed-clause-any_moment : goal.returns-in-Failed-clause-any_moment
returns-in-Failed-clause-any_moment g c = λ file told.
    let P = Torn c.args.at (length c.args.bytes.now) file in
    let only = c.requires.durable file told in
    let began = starts g.D.Disk.moment g.D.Disk.left_since c.args.disk.now P (λ image left. Torn-start c.args.at (length c.args.bytes.now) file image (only image (g.met.D.Disk.only_now c.args.disk.now image left))) in
    goes_on g.D.Disk.moment g.D.Disk.left_since c.args.disk.now c.args.disk.now c.write_at.new.self P _ began c.write_at.ensures.time
    (Torn-follows c.args.at (length c.args.bytes.now) file _ _ only c.write_at.ensures.stop)

pub returns-in-All-clause-any_moment : goal.returns-in-All-clause-any_moment
returns-in-All-clause-any_moment g c = λ file told.
    let P = Torn c.args.at (length c.args.bytes.now) file in
    let only = c.requires.durable file told in
    let began = starts g.D.Disk.moment g.D.Disk.left_since c.args.disk.now P (λ image left. Torn-start c.args.at (length c.args.bytes.now) file image (only image (g.met.D.Disk.only_now c.args.disk.now image left))) in
    let torn = Torn-follows c.args.at (length c.args.bytes.now) file _ _ only c.write_at.ensures.stop in
    let written = goes_on g.D.Disk.moment g.D.Disk.left_since c.args.disk.now c.args.disk.now c.write_at.new.self P _ began c.write_at.ensures.time torn in
    goes_on g.D.Disk.moment g.D.Disk.left_since c.args.disk.now c.write_at.new.self c.sync.new.self P _ written c.sync.ensures.time
    (λ image now. torn image (c.sync.ensures.stop image now))

pub returns-in-All-clause-through : goal.returns-in-All-clause-through
returns-in-All-clause-through g c = λ all.
    Leads-same _ _ _ _ _ (c.in-All.ensures.written refl) c.sync.ensures.same
    (λ file next was told written. record { written = written; durable = c.sync.ensures.durable all next (sym c.sync.ensures.same ∙ told) })

pub returns-in-Failed-clause-tells : goal.returns-in-Failed-clause-tells
returns-in-Failed-clause-tells g c = Leads-tells _ _ _ (c.in-Failed.ensures.outside refl)

pub returns-in-All-clause-tells : goal.returns-in-All-clause-tells
returns-in-All-clause-tells g c = ap is_none c.sync.ensures.same ∙ Leads-tells _ _ _ (c.in-All.ensures.written refl)

pub returns-in-Failed-clause-past : goal.returns-in-Failed-clause-past
returns-in-Failed-clause-past g c = past-call g.D.Disk.may_leave g.D.Disk.moment g.D.Disk.left_since g.met.D.Disk.counts_now c.args.disk.now (g.met.D.Disk.only_now c.args.disk.now) c.write_at.new.self c.write_at.ensures.time

pub returns-in-All-clause-past : goal.returns-in-All-clause-past
returns-in-All-clause-past g c =
    past-then g.D.Disk.moment g.D.Disk.left_since c.args.disk.now c.write_at.new.self c.sync.new.self
    (past-call g.D.Disk.may_leave g.D.Disk.moment g.D.Disk.left_since g.met.D.Disk.counts_now c.args.disk.now (g.met.D.Disk.only_now c.args.disk.now) c.write_at.new.self c.write_at.ensures.time)
    (past-call g.D.Disk.may_leave g.D.Disk.moment g.D.Disk.left_since g.met.D.Disk.counts_now c.write_at.new.self (g.met.D.Disk.only_now c.write_at.new.self) c.sync.new.self c.sync.ensures.time)
