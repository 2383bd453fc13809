use Rattle.std.proofs.Common.{◌≡◌, [], length, take, map, sym, ap, ◌∙◌, subst, refl, arith}
use Rattle.std.specs.Arc.{arc_value}
use Rattle.std.proofs.lemmas.Iterator.Adapters.{YieldsList-from_vec}
use Rattle.std.proofs.lemmas.Iterator.Consumers.{YieldsList-turn, YieldsList-end}
use Rattle.std.proofs.lemmas.List.{length_push, take_all}
use Rattle.tb_pages.specs.Books.{AreSorted, HoldSame, entries_of}
use Rattle.tb_pages.proofs.ListLemmas.{further, none_sorted, one_sorted_more, list_apart}
use Rattle.tb_pages.proofs.lists.shards_of.Goals as goal

pub of-shard-requires : goal.of-shard-requires
of-shard-requires c =
    let all = c.args.lists.items in
    let into = c.into_iter-list-iterator.ensures.into_iter_gives in
    let road = YieldsList-from_vec {s = c.into_iter-list-iterator.result} all into.0 (into.1 ∙ c.args.lists.ok.0) in
    let turn = YieldsList-turn road c.loop-list.yielded c.loop-list.list-iterator c.loop-list.yielded_by c.next.result c.next.new.self c.in-Some.list c.in-Some.is c.next.ensures.steps in
    list_apart entries_of all (length c.loop-list.yielded) c.in-Some.list c.requires turn.0 turn.1

pub loop-list-init : goal.loop-list-init
loop-list-init c = record { sorted = subst (AreSorted []) (sym (ap (map arc_value) c.in_ok-shards.ensures.items)) none_sorted; so_far = refl }

pub loop-list-preserved : goal.loop-list-preserved
loop-list-preserved c =
    let all = c.args.lists.items in
    let into = c.into_iter-list-iterator.ensures.into_iter_gives in
    let road = YieldsList-from_vec {s = c.into_iter-list-iterator.result} all into.0 (into.1 ∙ c.args.lists.ok.0) in
    let turn = YieldsList-turn road c.loop-list.yielded c.loop-list.list-iterator c.loop-list.yielded_by c.next.result c.next.new.self c.in-Some.list c.in-Some.is c.next.ensures.steps in
    let here : HoldSame c.in-Some.list.items (arc_value c.in_ok-new.field-0) = subst (HoldSame c.in-Some.list.items) (sym c.in_ok-new.ensures.ok) c.of-shard.ensures in record {
      sorted = one_sorted_more entries_of arc_value c.loop-list.yielded c.loop-list.shards.items c.push.new.self.items c.in-Some.list c.in_ok-new.field-0 c.loop-list.invariant.sorted here c.in_ok-push.ensures.items;
      so_far =
          further c.loop-list.yielded all c.in-Some.list c.loop-list.invariant.so_far turn
          ∙ ap (λ n. take n all) (sym (length_push c.loop-list.yielded c.in-Some.list));
    }

pub returns : goal.returns
returns c =
    let all = c.args.lists.items in
    let into = c.into_iter-list-iterator.ensures.into_iter_gives in
    let road = YieldsList-from_vec {s = c.into_iter-list-iterator.result} all into.0 (into.1 ∙ c.args.lists.ok.0) in
    let over = YieldsList-end road c.loop-list.yielded c.loop-list.list-iterator c.loop-list.yielded_by c.next.result c.next.new.self c.in-None.is c.next.ensures.steps in
    let are : c.loop-list.yielded ≡ all = c.loop-list.invariant.so_far ∙ take_all (length c.loop-list.yielded) all (omega (arith, over.1)) in
    subst (λ ls. AreSorted (map entries_of ls) (map arc_value c.loop-list.shards.items)) are c.loop-list.invariant.sorted
