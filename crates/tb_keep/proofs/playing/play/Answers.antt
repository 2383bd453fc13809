use Rattle.std.proofs.Common.{◌+◌, ap, arith, refl, Some}
use Rattle.tb_disk.proofs.Quietly.{quiet-then}
use Rattle.tb_io.proofs.FaultLemmas.{HasRisen-earlier}
use Rattle.tb_keep.specs.declared.playing.Played.{Played}
use Rattle.tb_keep.proofs.Recovering.{ends-live, ends-played, none-read, one-read}
use Rattle.tb_keep.proofs.playing.play.Goals as goal

pub play_next-requires-clause-few : goal.play_next-requires-clause-few
play_next-requires-clause-few g c = omega (arith, c.loop-read.invariant.few, c.loop-read.invariant.read_so)

pub loop-read-init : goal.loop-read-init
loop-read-init g c =
    none-read g.D.Disk.content g.D.Disk.may_leave g.D.Disk.moment g.D.Disk.left_since g.D.Disk.faults g.D.Disk.attached g.B.Named.name c.args.setup.now c.args.custodian.now c.args.disk.now
    c.args.journal.now c.requires.own c.requires.attached c.requires.opened c.requires.on g.met.D.Disk.counts_now (g.met.D.Disk.only_now c.args.disk.now)

pub loop-read-preserved : goal.loop-read-preserved
loop-read-preserved g c =
    let done = c.play_next.ensures in
    one-read g.D.Disk.content g.D.Disk.may_leave g.D.Disk.moment g.D.Disk.left_since g.D.Disk.faults g.D.Disk.attached g.B.Named.name c.args.setup.now c.args.custodian.now c.args.disk.now
    c.loop-read.custodian c.play_next.new.custodian c.loop-read.disk c.play_next.new.disk c.loop-read.journal c.play_next.new.journal c.loop-read.read c.loop-read.invariant
    (c.loop-read.read + 1) c.in_default.ensures.next done.own done.attached done.on done.quiet done.count

pub returns-in-Some-clause-played : goal.returns-in-Some-clause-played
returns-in-Some-clause-played g c =
    ends-played g.D.Disk.content g.D.Disk.may_leave g.D.Disk.moment g.D.Disk.left_since g.D.Disk.faults g.D.Disk.attached g.B.Named.name c.args.setup.now c.args.custodian.now c.args.disk.now
    c.loop-read.custodian c.play_next.new.custodian c.loop-read.disk c.play_next.new.disk c.loop-read.journal c.play_next.new.journal c.loop-read.read c.loop-read.invariant
    (c.loop-read.read + 1) c.in-Some.played refl c.in-Some.ensures.next

pub returns-in-Some-clause-live : goal.returns-in-Some-clause-live
returns-in-Some-clause-live g c = λ is.
    (ends-live g.D.Disk.content g.D.Disk.may_leave g.D.Disk.moment g.D.Disk.left_since g.D.Disk.faults g.D.Disk.attached g.B.Named.name c.args.setup.now c.args.custodian.now c.args.disk.now
    c.loop-read.custodian c.play_next.new.custodian c.loop-read.disk c.play_next.new.disk c.loop-read.journal c.play_next.new.journal c.loop-read.read c.loop-read.invariant
    (c.loop-read.read + 1) c.in-Some.played c.in-Some.ensures.next is).0

pub returns-in-Some-clause-at_end : goal.returns-in-Some-clause-at_end
returns-in-Some-clause-at_end g c = λ is.
    (ends-live g.D.Disk.content g.D.Disk.may_leave g.D.Disk.moment g.D.Disk.left_since g.D.Disk.faults g.D.Disk.attached g.B.Named.name c.args.setup.now c.args.custodian.now c.args.disk.now
    c.loop-read.custodian c.play_next.new.custodian c.loop-read.disk c.play_next.new.disk c.loop-read.journal c.play_next.new.journal c.loop-read.read c.loop-read.invariant
    (c.loop-read.read + 1) c.in-Some.played c.in-Some.ensures.next is).1

pub returns-in-Some-clause-quiet : goal.returns-in-Some-clause-quiet
returns-in-Some-clause-quiet g c =
    quiet-then g.D.Disk.content g.D.Disk.may_leave g.D.Disk.moment g.D.Disk.left_since c.args.disk.now c.loop-read.disk c.play_next.new.disk c.loop-read.invariant.quiet c.play_next.ensures.quiet

pub returns-in-Some-clause-count : goal.returns-in-Some-clause-count
returns-in-Some-clause-count g c = omega (arith, c.loop-read.invariant.count, c.play_next.ensures.count)

pub returns-in-Some-clause-failed : goal.returns-in-Some-clause-failed
returns-in-Some-clause-failed g c = λ is.
    HasRisen-earlier (g.D.Disk.faults c.args.disk.now) (g.D.Disk.faults c.loop-read.disk) (g.D.Disk.faults c.play_next.new.disk) c.loop-read.invariant.count
    (c.in-Some.ensures.failed (ap (λ (p : Played). Some p) is)) c.play_next.ensures.count
