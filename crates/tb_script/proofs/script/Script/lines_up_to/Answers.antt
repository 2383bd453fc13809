use Rattle.std.proofs.Common.{leb, sym, subst, rules, List}
use Rattle.std.proofs.lemmas.List.Sorted.{IsPartitionPoint-from_clause, IsPartitionedBy-leb}
use Rattle.std.specs.List.Sorted.{IsNonDecreasingBy}
use Rattle.tb_script.specs.declared.parts.Place.{Place}
use Rattle.tb_script.proofs.Phases.{later, up_to}
use Rattle.tb_script.proofs.script.Script.lines_up_to.Goals as goal

pub returns-clause-within : goal.returns-clause-within
returns-clause-within c =
    let order = subst (IsNonDecreasingBy (λ (p : Place). p.phase)) (sym c.deref.ensures.value) c.self.invariant.order in
    let parted = IsPartitionedBy-leb (λ (p : Place). p.phase) c.deref.result.now c.args.phase order in
    let point = IsPartitionPoint-from_clause (λ (p : Place). leb p.phase c.args.phase) _ _ c.partition_point.ensures.partitioned parted (λ a r q k. search rules) in
    up_to c.self.inside.parts c.args.self.now c.deref.result.now c.args.phase c.partition_point.result c.self.view_is c.deref.ensures.value c.partition_point.ensures.bound point

pub returns-clause-rest : goal.returns-clause-rest
returns-clause-rest c =
    let order = subst (IsNonDecreasingBy (λ (p : Place). p.phase)) (sym c.deref.ensures.value) c.self.invariant.order in
    let parted = IsPartitionedBy-leb (λ (p : Place). p.phase) c.deref.result.now c.args.phase order in
    let point = IsPartitionPoint-from_clause (λ (p : Place). leb p.phase c.args.phase) _ _ c.partition_point.ensures.partitioned parted (λ a r q k. search rules) in
    later c.self.inside.parts c.args.self.now c.deref.result.now c.args.phase c.partition_point.result c.self.view_is c.deref.ensures.value c.partition_point.ensures.bound point
