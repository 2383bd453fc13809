use Rattle.std.proofs.Common.{refl}
use Rattle.tb_disk.proofs.Going.{joins, weaker}
use Rattle.tb_disk.proofs.Past.{past-then}
use Rattle.tb_disk.proofs.Telling.{forward, back, Leads-then}
use Rattle.tb_journal.specs.Records.{payload_behind}
use Rattle.tb_journal.specs.Stops.{EndsWithOrWithout}
use Rattle.tb_journal.proofs.Recording.{second-within, puts, first-leaves, second-leaves}
use Rattle.tb_journal.proofs.through.write_record.Goals as goal

pub write_through-requires-in-All-clause-within : goal.write_through-requires-in-All-clause-within
write_through-requires-in-All-clause-within g c = λ next told.
    let was = back _ _ _ (c.in-All.ensures.through refl) next told in
    second-within was.0 c.args.place (payload_behind c.args.behind.now) c.args.behind.now c.saturating_add.result _ (c.requires.ready was.0 was.1) c.requires.payload c.requires.behind c.saturating_add.ensures next _ was.2

pub write_through-requires-in-All-clause-durable : goal.write_through-requires-in-All-clause-durable
write_through-requires-in-All-clause-durable g c = λ next told. let was = back _ _ _ (c.in-All.ensures.through refl) next told in was.2.durable

pub returns-in-All-clause-put : goal.returns-in-All-clause-put
returns-in-All-clause-put g c = λ all.
    Leads-then _ _ (c.in-All.ensures.through refl) (c.write_through-in-All.ensures.through all)
    (λ file next last was first second. puts file c.args.place (payload_behind c.args.behind.now) c.args.behind.now c.saturating_add.result _ (c.requires.ready file was) c.requires.payload c.requires.behind c.saturating_add.ensures next _ first last _ second)

pub returns-in-All-clause-any_moment : goal.returns-in-All-clause-any_moment
returns-in-All-clause-any_moment g c = λ file told.
    let P = EndsWithOrWithout file (payload_behind c.args.behind.now) in
    let ready = c.requires.ready file told in
    let next = forward _ _ _ (c.in-All.ensures.through refl) file told in
    let first = weaker g.D.Disk.moment g.D.Disk.left_since c.args.disk.now c.write_through.new.disk _ P (c.write_through.ensures.any_moment file told)
    (first-leaves file c.args.place (payload_behind c.args.behind.now) c.args.behind.now c.saturating_add.result _ ready c.requires.payload c.requires.behind c.saturating_add.ensures) in
    let second = weaker g.D.Disk.moment g.D.Disk.left_since c.write_through.new.disk c.write_through-in-All.new.disk _ P (c.write_through-in-All.ensures.any_moment next.0 next.1)
    (second-leaves file c.args.place (payload_behind c.args.behind.now) c.args.behind.now c.saturating_add.result _ ready c.requires.payload c.requires.behind c.saturating_add.ensures next.0 _ next.2) in
    joins g.D.Disk.moment g.D.Disk.left_since c.args.disk.now c.write_through.new.disk c.write_through-in-All.new.disk P first second

pub returns-in-Failed-clause-any_moment : goal.returns-in-Failed-clause-any_moment
returns-in-Failed-clause-any_moment g c = λ file told.
    weaker g.D.Disk.moment g.D.Disk.left_since c.args.disk.now c.write_through.new.disk _ (EndsWithOrWithout file (payload_behind c.args.behind.now)) (c.write_through.ensures.any_moment file told)
    (first-leaves file c.args.place (payload_behind c.args.behind.now) c.args.behind.now c.saturating_add.result _ (c.requires.ready file told) c.requires.payload c.requires.behind c.saturating_add.ensures)

pub returns-in-All-clause-past : goal.returns-in-All-clause-past
returns-in-All-clause-past g c =
    past-then g.D.Disk.moment g.D.Disk.left_since c.args.disk.now c.write_through.new.disk c.write_through-in-All.new.disk c.write_through.ensures.past c.write_through-in-All.ensures.past
