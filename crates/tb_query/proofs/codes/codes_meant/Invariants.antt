use Rattle.std.proofs.Common.{◌≡◌, take, drop}
use Rattle.std.specs.Prelude.{map}
use Rattle.tb_query.specs.Views.{token_views}
use Rattle.tb_query.specs.Meanings.{code_meant}
use Rattle.tb_query.specs.Faults.{unknown_among}
use Rattle.tb_query.proofs.codes.codes_meant.Given as goal

abbrev pub invariant-loop-t : goal.invariant-loop-t
invariant-loop-t l =
    record {
      meant : l.numbers.items ≡ map (code_meant l.schema l.of) (token_views (take l.t-index l.codes));
      rest : unknown_among l.schema l.of (token_views (drop l.t-index l.codes)) ≡ unknown_among l.schema l.of (token_views l.codes);
    }
