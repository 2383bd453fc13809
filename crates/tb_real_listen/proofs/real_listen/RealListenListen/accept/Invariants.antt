use Rattle.std.proofs.Common.{◌<◌}
use Rattle.tb_io.specs.Faults.{HasRisen}
use Rattle.tb_io.specs.Listeners.{IsSameBut}
use Rattle.tb_real_listen.proofs.real_listen.RealListenListen.accept.Given as goal

-- nothing changed but the count of faults, which rose where an accept is tried again
abbrev pub invariant-loop : goal.invariant-loop
invariant-loop g l = record {
  same : IsSameBut l.initial.self l.self;
  risen : 0 < l.counter → HasRisen l.initial.self.faults l.self.faults;
}
