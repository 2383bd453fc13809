use Rattle.std.proofs.Common.{◌≡◌, ◌∙◌, ℕ, ◌+◌, ◌<◌, List, [], ◌∷◌, ◌++◌, append_assoc, map, take, subst, sym, ap, arith}
use Rattle.std.proofs.lemmas.List.{map_more, take_all}
use Rattle.tb_base.specs.declared.records.Record.{Record}
use Rattle.tb_records.specs.Rising.{RiseTo}
use Rattle.tb_records.proofs.Rising.{RiseTo-push}
use Rattle.tb_records.proofs.distinct.last_risen.Goals as goal

pub loop-one-preserved : goal.loop-one-preserved
loop-one-preserved c = λ before up.
    let rs = c.args.records.now in
    let i = c.loop-one.one-index in
    let one = c.one-item.result in
    let ps : List ℕ = map (λ (r : Record). r.person) (take i rs) in
    let more : c.loop-one.last < one.person = omega (arith, c.if-one-last.false) in
    let is : map (λ (r : Record). r.person) (take (i + 1) rs) ≡ ps ++ one.person ∷ [] = map_more (λ (r : Record). r.person) rs i one c.loop-one-test.true ∙ ap (λ (r : Record). ps ++ r.person ∷ []) (sym c.one-item.is) in
    subst (λ (ns : List ℕ). RiseTo one.person (before ++ ns)) (sym is)
    (subst (RiseTo one.person) (append_assoc before ps (one.person ∷ [])) (RiseTo-push (before ++ ps) c.loop-one.last one.person (c.loop-one.invariant before up) more))

pub returns : goal.returns
returns c = λ before up.
    subst (λ (rs : List Record). RiseTo c.loop-one.last (before ++ map (λ r. r.person) rs)) (take_all c.loop-one.one-index c.args.records.now c.loop-one-test.false) (c.loop-one.invariant before up)
