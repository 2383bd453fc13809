use Rattle.std.proofs.Common.{rules}
use Rattle.std.proofs.lemmas.List.Sorted.{IsNonDecreasingBy-from_sort_by_key}
use Rattle.tb_pages.specs.declared.shard.Entry.{Entry}
use Rattle.tb_pages.proofs.shard.sort.Goals as goal

pub returns-clause-up : goal.returns-clause-up
returns-clause-up c = IsNonDecreasingBy-from_sort_by_key (λ (e : Entry). e.person) _ c.sort_unstable_by_key.ensures.sorted (λ a r q k. search rules)
