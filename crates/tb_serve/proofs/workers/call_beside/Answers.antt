use Rattle.std.proofs.Common.{rules, ◌≡◌, subst, sym}
use Rattle.tb_serve.specs.Beside.{ChangesBoth}
use Rattle.tb_serve.proofs.workers.call_beside.Goals as goal

pub returns-clause-own : goal.returns-clause-own
returns-clause-own g c =
    let there : ChangesBoth g.F.Fn c.args.own.now c.args.a.now c.join_mut.new.f.1.now c.args.first.now c.join_mut.new.f.2.now = search rules in
    let a : c.a-1.given.0 ≡ c.join_mut.new.f.1.now = search rules in
    let first : c.first-1.given.0 ≡ c.join_mut.new.f.2.now = search rules in
    subst (λ (x : g.row.A.Denot × g.row.P.Denot). ChangesBoth g.F.Fn c.args.own.now c.args.a.now x.0 c.args.first.now x.1) (λ i. (sym a i, sym first i)) there
