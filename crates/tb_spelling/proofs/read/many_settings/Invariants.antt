use Rattle.std.proofs.Common.{◌≡◌, ◌-◌}
use Rattle.std.specs.Int.{w16}
use Rattle.tb_spelling.specs.Fields.{number_at, pair_at, many_at}
use Rattle.tb_spelling.proofs.Rereading.{with_front}
use Rattle.tb_spelling.proofs.read.many_settings.Given as goal

abbrev pub invariant-loop : goal.invariant-loop
invariant-loop l = with_front (pair_at (number_at w16) (number_at w16)) l.sets.items (many_at (pair_at (number_at w16) (number_at w16)) (l.count - l.counter) l.rest) ≡ many_at (pair_at (number_at w16) (number_at w16)) l.count l.bytes
