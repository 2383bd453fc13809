use Rattle.std.proofs.Common.{nat_lt, rules}
use Rattle.std.proofs.lemmas.List.Sorted.{answers_always}
use Rattle.tb_records.proofs.OnePerson.{rise-told}
use Rattle.tb_records.proofs.distinct.rise.Goals as goal

pub returns : goal.returns
returns c =
    rise-told c.args.numbers.now c.is_sorted_by.result (c.is_sorted_by.ensures.cases nat_lt (answers_always _ _ _ (λ f a r g called. search rules)))
