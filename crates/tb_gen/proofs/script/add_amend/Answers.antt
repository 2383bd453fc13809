use Rattle.std.proofs.Common.{◌≡◌, ℕ, ◌+◌, ◌%◌, List, ◌++◌, ◌∙◌, ap, subst, codes, decimal, OnOk}
use Rattle.tb_gen.specs.declared.variables.Variable.TheVariants.{Tenure}
use Rattle.tb_gen.specs.Draws.{draw}
use Rattle.tb_gen.specs.Variables.{code_of, categories_of, drawn_code}
use Rattle.tb_gen.proofs.Steps.{next_is, next_value}
use Rattle.tb_gen.proofs.Fields.{five_parts}
use Rattle.tb_gen.proofs.script.add_amend.Goals as goal

pub returns-clause-draws : goal.returns-clause-draws
returns-clause-draws c = next_is 1 c.args.draws.now _ _ c.draw.ensures.state c.draw-tenure.ensures.draws

pub returns-clause-line : goal.returns-clause-line
returns-clause-line c =
    let person = ap (λ v. decimal (1 + v % c.args.n)) c.draw.ensures.value in
    let tenure = ap (λ k. code_of Tenure k) (c.draw-tenure.ensures.category
    ∙ ap (λ v. v % categories_of Tenure) (next_value 1 c.args.draws.now _ c.draw.ensures.state)) in
    let text = five_parts (codes "custodian amend ") (decimal (1 + c.draw.result % c.args.n)) (codes " TENURE=")
    (code_of Tenure c.draw-tenure.result) (codes "\n") _ _ _ _ _ (decimal (1 + draw 1 c.args.draws.now % c.args.n))
    (drawn_code Tenure (draw 2 c.args.draws.now)) c.end-line.ensures c.put_code.ensures.code c.put_text.ensures
    c.put_number.ensures.digits c.put_text-2.ensures person tenure in
    subst (λ (t : List ℕ). OnOk c.add_to.result (c.add_to.new.file.items ≡ c.args.file.now.items ++ t)) text c.add_to.ensures
