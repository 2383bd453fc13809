use Rattle.std.proofs.Common.{◌≡◌, take, drop}
use Rattle.std.specs.Prelude.{map, All}
use Rattle.tb_query.specs.Views.{token_views}
use Rattle.tb_query.specs.Meanings.{name_meant}
use Rattle.tb_schema.specs.Names.{IsName}
use Rattle.tb_query.specs.Faults.{unknown_in}
use Rattle.tb_query.proofs.names.names_meant.Given as goal

abbrev pub invariant-loop-t : goal.invariant-loop-t
invariant-loop-t l =
    record {
      meant : l.meant.items ≡ map (name_meant l.schema) (token_views (take l.t-index l.names));
      known : All (IsName l.schema) l.meant.items;
      rest : unknown_in l.schema (token_views (drop l.t-index l.names)) ≡ unknown_in l.schema (token_views l.names);
    }
