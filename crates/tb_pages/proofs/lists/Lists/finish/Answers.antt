use Rattle.std.proofs.Common.{map, ◌∙◌}
use Rattle.std.specs.Arc.{arc_value}
use Rattle.tb_pages.specs.Books.{entries_of}
use Rattle.tb_pages.proofs.ListLemmas.{sorted_shards, sorted_book}
use Rattle.tb_pages.proofs.lists.Lists.finish.Goals as goal

pub of-requires : goal.of-requires
of-requires c = sorted_shards (map entries_of c.self.inside.lists.items) (map arc_value c.in_ok-shards.shards.items) c.in_ok-shards.ensures c.self.invariant.shards

pub returns : goal.returns
returns c =
    c.of.ensures ∙ sorted_book (map entries_of c.self.inside.lists.items) (map arc_value c.in_ok-shards.shards.items) c.in_ok-shards.ensures c.self.invariant.shards ∙ c.self.view_is
