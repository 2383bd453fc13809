use Rattle.std.proofs.Common.{◌≡◌, ◌≤◌, ◌*◌, drop}
use Rattle.std.specs.Prelude.{map, nat_lt}
use Rattle.tb_model.specs.RowMajor.{product}
use Rattle.tb_model.proofs.TableLemmas.{size_of}
use Rattle.tb_query.specs.Faults.{is_too_large}
use Rattle.tb_query.proofs.check.is_too_large.Given as goal

abbrev pub invariant-loop-of : goal.invariant-loop-of
invariant-loop-of l =
    record {
      capped : l.places ≤ 1000001;
      rest : nat_lt 1000000 (l.places * product (map (size_of l.schema l.query) (drop l.of-index l.dimensions))) ≡ is_too_large l.schema l.query;
    }
