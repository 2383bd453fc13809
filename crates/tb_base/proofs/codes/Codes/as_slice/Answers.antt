use Rattle.std.proofs.Common.{subst}
use Rattle.tb_base.specs.Codes.{IsWithin}
use Rattle.tb_base.proofs.codes.Codes.as_slice.Goals as goal

pub shared_ref_as_front-result : goal.shared_ref_as_front-result
shared_ref_as_front-result c = subst IsWithin c.in-Few.is c.self.invariant
