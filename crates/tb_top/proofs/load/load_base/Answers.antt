use Rattle.std.proofs.Common.{◌≡◌, ◌∙◌, ap, subst, sym, refl, ℕ, List, Ok}
use Rattle.std.proofs.lemmas.Result.{err_from_is_err_and}
use Rattle.tb_base.specs.declared.records.Record.{Record}
use Rattle.tb_base.specs.Rules.{RulesValue, first_rules}
use Rattle.tb_model.specs.Releases.{ReleaseValue, first_release}
use Rattle.tb_top.specs.Asking.{people_in}
use Rattle.tb_top.specs.Loading.{IsBase}
use Rattle.tb_top.proofs.LoadSteps.{all_of, Loads-ends, Loads-fails, Loads-memory}
use Rattle.tb_top.proofs.load.load_base.Goals as goal

-- release 0 by rules that are new
made : (most limit threshold : ℕ) (rules : RulesValue) (people : List Record) (release : ReleaseValue) → most ≡ limit
    → rules ≡ first_rules threshold → release ≡ first_release most rules.threshold people → release ≡ first_release limit threshold people
made most limit threshold rules people release is new first =
    first ∙ ap (λ (m : ℕ). first_release m rules.threshold people) is
    ∙ ap (λ (r : RulesValue). first_release limit r.threshold people) new

pub returns-in_err-people-clause-loads : goal.returns-in_err-people-clause-loads
returns-in_err-people-clause-loads g c =
    let p = err_from_is_err_and c.from_residual.result c.from_residual.ensures.1 in
    let inputs = c.args.inputs.now in
    rw (p.1, p.2) (Loads-fails all_of (λ base. base) (people_in c.args.schema.now)
    (λ contents (records : List Record). Ok (first_release c.args.schema.now.persons inputs.threshold records)) c.in_err-people.ensures.loads)

pub returns-in_err-release-clause-loads : goal.returns-in_err-release-clause-loads
returns-in_err-release-clause-loads g c =
    let p = err_from_is_err_and c.from_residual-in_err-release.result c.from_residual-in_err-release.ensures.1 in
    let inputs = c.args.inputs.now in
    rw (p.1, p.2) (Loads-memory all_of (λ base. base) (people_in c.args.schema.now)
    (λ contents (records : List Record). Ok (first_release c.args.schema.now.persons inputs.threshold records)) c.in_ok-people.people c.in_ok-people.ensures.loads)

pub returns-clause-loads : goal.returns-clause-loads
returns-clause-loads g c =
    let inputs = c.args.inputs.now in
    let first = made c.persons-most.result c.args.schema.now.persons inputs.threshold c.new-rules.result (all_of c.in_ok-people.people) _ c.persons-most.ensures.limit c.new-rules.ensures c.in_ok-release.ensures in
    Loads-ends all_of (λ base. base) (people_in c.args.schema.now)
    (λ contents (records : List Record). Ok (first_release c.args.schema.now.persons inputs.threshold records)) c.in_ok-people.people _
    (λ contents. ap Ok (sym first)) c.in_ok-people.ensures.loads

pub returns-clause-base : goal.returns-clause-base
returns-clause-base g c =
    let first = made c.persons-most.result c.args.schema.now.persons c.args.inputs.now.threshold c.new-rules.result (all_of c.in_ok-people.people) _ c.persons-most.ensures.limit c.new-rules.ensures c.in_ok-release.ensures in
    subst IsBase (sym first) refl

pub returns-clause-fit : goal.returns-clause-fit
returns-clause-fit g c =
    let first = made c.persons-most.result c.args.schema.now.persons c.args.inputs.now.threshold c.new-rules.result (all_of c.in_ok-people.people) _ c.persons-most.ensures.limit c.new-rules.ensures c.in_ok-release.ensures in
    let same : c.in_ok-release.release.records ≡ all_of c.in_ok-people.people = ap (λ r. r.records) first in
    rw same c.in_ok-people.ensures.fit
