use Rattle.std.proofs.Common.{◌≡◌, ◌∙◌, ◌+◌, ◌++◌, ◌∷◌, [], take, sym, subst, ap}
use Rattle.std.proofs.lemmas.List.{take_all, take_more}
use Rattle.tb_base.specs.Persons.{HasPersonsOf}
use Rattle.tb_base.proofs.PersonLemmas.{HasPersonsOf-push}
use Rattle.tb_base.proofs.people.persons_of.Goals as goal

pub loop-record-preserved : goal.loop-record-preserved
loop-record-preserved c =
    let xs = take c.loop-record.record-index c.args.records.now in
    let more : take (c.loop-record.record-index + 1) c.args.records.now ≡ xs ++ c.record-item.result ∷ [] =
    take_more c.args.records.now c.loop-record.record-index c.record-item.result c.loop-record-test.true ∙ ap (λ x. xs ++ x ∷ []) (sym c.record-item.is) in
    rw more (HasPersonsOf-push c.loop-record.persons c.insert.new.self xs c.record-item.result c.loop-record.invariant c.in_ok-insert.ensures.updates)

pub returns : goal.returns
returns c = subst (HasPersonsOf c.loop-record.persons) (take_all c.loop-record.record-index c.args.records.now c.loop-record-test.false) c.loop-record.invariant
