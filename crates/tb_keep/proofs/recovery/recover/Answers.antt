use Rattle.std.proofs.Common.{refl}
use Rattle.tb_disk.proofs.Past.{past-then}
use Rattle.tb_io.proofs.FaultLemmas.{HasRisen-earlier}
use Rattle.tb_keep.proofs.JournalRunning.{all-recovered, bad-record, does-not-follow, left-foreign, left-opened, stood-opening, stood-reading}
use Rattle.tb_keep.proofs.recovery.recover.Goals as goal

pub returns-in-NotJournal-default-clause-recovered : goal.returns-in-NotJournal-default-clause-recovered
returns-in-NotJournal-default-clause-recovered g c = (
  record {
    now = left-foreign (g.D.Disk.content c.args.disk.now) (g.D.Disk.may_leave c.open.new.disk) (c.open.ensures.foreign c.in-NotJournal-default.is-0) (c.open.ensures.durable c.in-NotJournal-default.is-0);
    ever = stood-opening g.D.Disk.content g.D.Disk.may_leave g.D.Disk.moment g.D.Disk.left_since c.args.disk.now c.open.new.disk c.open.ensures.any_moment;
  },
  c.open.ensures.foreign c.in-NotJournal-default.is-0,
)

pub returns-in-DiskFault-default-clause-recovered : goal.returns-in-DiskFault-default-clause-recovered
returns-in-DiskFault-default-clause-recovered g c = (
  c.open.ensures.failed c.in-DiskFault-default.is-0,
  stood-opening g.D.Disk.content g.D.Disk.may_leave g.D.Disk.moment g.D.Disk.left_since c.args.disk.now c.open.new.disk c.open.ensures.any_moment,
)

pub returns-in-All-clause-recovered : goal.returns-in-All-clause-recovered
returns-in-All-clause-recovered g c =
    all-recovered g.D.Disk.content g.D.Disk.may_leave g.D.Disk.moment g.D.Disk.left_since g.D.Disk.faults c.args.setting.now.setup.now c.args.custodian.now c.play-played.new.custodian c.requires.first
    c.args.disk.now c.open.new.disk c.play-played.new.disk (c.open.ensures.opened c.in-Open-Some.is-0) (c.open.ensures.ours c.in-Open-Some.is-0) c.in-All.ensures.played
    c.play-played.new.journal c.in-All.ensures.quiet.same (g.met.D.Disk.told_beside c.play-played.new.disk) c.in-All.ensures.on (c.in-All.ensures.at_end refl)
    (stood-reading g.D.Disk.content g.D.Disk.may_leave g.D.Disk.moment g.D.Disk.left_since c.args.disk.now g.met.D.Disk.counts_now c.open.new.disk c.play-played.new.disk c.open.ensures.any_moment c.in-All.ensures.quiet.any_moment)

pub returns-in-BadRecord-clause-recovered : goal.returns-in-BadRecord-clause-recovered
returns-in-BadRecord-clause-recovered g c = (
  record {
    now = left-opened (g.D.Disk.content c.args.disk.now) (g.D.Disk.content c.open.new.disk) (g.D.Disk.content c.play-played.new.disk) (c.open.ensures.opened c.in-Open-Some.is-0) c.in-BadRecord.ensures.quiet.same (g.D.Disk.may_leave c.play-played.new.disk) c.play-played.new.journal c.in-BadRecord.ensures.on;
    ever = stood-reading g.D.Disk.content g.D.Disk.may_leave g.D.Disk.moment g.D.Disk.left_since c.args.disk.now g.met.D.Disk.counts_now c.open.new.disk c.play-played.new.disk c.open.ensures.any_moment c.in-BadRecord.ensures.quiet.any_moment;
  },
  bad-record c.args.setting.now.setup.now (g.D.Disk.content c.args.disk.now) (g.D.Disk.content c.open.new.disk) (c.open.ensures.opened c.in-Open-Some.is-0) c.args.custodian.now c.play-played.new.custodian c.requires.first (c.open.ensures.ours c.in-Open-Some.is-0) c.in-BadRecord.r c.in-BadRecord.ensures.played,
)

pub returns-in-DoesNotFollow-clause-recovered : goal.returns-in-DoesNotFollow-clause-recovered
returns-in-DoesNotFollow-clause-recovered g c = (
  record {
    now = left-opened (g.D.Disk.content c.args.disk.now) (g.D.Disk.content c.open.new.disk) (g.D.Disk.content c.play-played.new.disk) (c.open.ensures.opened c.in-Open-Some.is-0) c.in-DoesNotFollow.ensures.quiet.same (g.D.Disk.may_leave c.play-played.new.disk) c.play-played.new.journal c.in-DoesNotFollow.ensures.on;
    ever = stood-reading g.D.Disk.content g.D.Disk.may_leave g.D.Disk.moment g.D.Disk.left_since c.args.disk.now g.met.D.Disk.counts_now c.open.new.disk c.play-played.new.disk c.open.ensures.any_moment c.in-DoesNotFollow.ensures.quiet.any_moment;
  },
  does-not-follow c.args.setting.now.setup.now (g.D.Disk.content c.args.disk.now) (g.D.Disk.content c.open.new.disk) (c.open.ensures.opened c.in-Open-Some.is-0) c.args.custodian.now c.play-played.new.custodian c.requires.first (c.open.ensures.ours c.in-Open-Some.is-0) c.in-DoesNotFollow.r c.in-DoesNotFollow.ensures.played,
)

pub returns-in-Memory-clause-recovered : goal.returns-in-Memory-clause-recovered
returns-in-Memory-clause-recovered g c = record {
  now = left-opened (g.D.Disk.content c.args.disk.now) (g.D.Disk.content c.open.new.disk) (g.D.Disk.content c.play-played.new.disk) (c.open.ensures.opened c.in-Open-Some.is-0) c.in-Memory.ensures.quiet.same (g.D.Disk.may_leave c.play-played.new.disk) c.play-played.new.journal c.in-Memory.ensures.on;
  ever = stood-reading g.D.Disk.content g.D.Disk.may_leave g.D.Disk.moment g.D.Disk.left_since c.args.disk.now g.met.D.Disk.counts_now c.open.new.disk c.play-played.new.disk c.open.ensures.any_moment c.in-Memory.ensures.quiet.any_moment;
}

pub returns-in-DiskFault-clause-recovered : goal.returns-in-DiskFault-clause-recovered
returns-in-DiskFault-clause-recovered g c = (
  HasRisen-earlier (g.D.Disk.faults c.args.disk.now) (g.D.Disk.faults c.open.new.disk) (g.D.Disk.faults c.play-played.new.disk) c.open.ensures.count (c.in-DiskFault.ensures.failed refl) c.in-DiskFault.ensures.count,
  stood-reading g.D.Disk.content g.D.Disk.may_leave g.D.Disk.moment g.D.Disk.left_since c.args.disk.now g.met.D.Disk.counts_now c.open.new.disk c.play-played.new.disk c.open.ensures.any_moment c.in-DiskFault.ensures.quiet.any_moment,
)

pub returns-in-All-clause-past : goal.returns-in-All-clause-past
returns-in-All-clause-past g c = past-then g.D.Disk.moment g.D.Disk.left_since c.args.disk.now c.open.new.disk c.play-played.new.disk c.open.ensures.past c.in-All.ensures.quiet.past

pub returns-in-BadRecord-clause-past : goal.returns-in-BadRecord-clause-past
returns-in-BadRecord-clause-past g c = past-then g.D.Disk.moment g.D.Disk.left_since c.args.disk.now c.open.new.disk c.play-played.new.disk c.open.ensures.past c.in-BadRecord.ensures.quiet.past

pub returns-in-DoesNotFollow-clause-past : goal.returns-in-DoesNotFollow-clause-past
returns-in-DoesNotFollow-clause-past g c = past-then g.D.Disk.moment g.D.Disk.left_since c.args.disk.now c.open.new.disk c.play-played.new.disk c.open.ensures.past c.in-DoesNotFollow.ensures.quiet.past

pub returns-in-Memory-clause-past : goal.returns-in-Memory-clause-past
returns-in-Memory-clause-past g c = past-then g.D.Disk.moment g.D.Disk.left_since c.args.disk.now c.open.new.disk c.play-played.new.disk c.open.ensures.past c.in-Memory.ensures.quiet.past

pub returns-in-DiskFault-clause-past : goal.returns-in-DiskFault-clause-past
returns-in-DiskFault-clause-past g c = past-then g.D.Disk.moment g.D.Disk.left_since c.args.disk.now c.open.new.disk c.play-played.new.disk c.open.ensures.past c.in-DiskFault.ensures.quiet.past
