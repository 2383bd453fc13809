use Rattle.std.proofs.Common.{◌∙◌, subst}
use Rattle.tb_follow.specs.Chains.{Applies, ChainValue}
use Rattle.tb_follow.proofs.Following.{applied, kept-applied}
use Rattle.tb_follow.proofs.own_chain.OwnChainChainUnit.apply.Goals as goal

pub invariant_of-self : goal.invariant_of-self
invariant_of-self c =
    let inner = c.self.inside in
    let old : ChainValue = record { shape = inner.shape; base = inner.base; batches = inner.list.batches } in
    let kept = c.self.invariant in
    kept-applied old inner.ahead _ _ _ _ _ kept (c.last_of-release.ensures ∙ kept.leads) c.in_ok-release.ensures.next c.in_ok-release.ensures.leads c.in_ok-release.ensures.fit c.and-self-inside.ensures

pub returns-clause-ok : goal.returns-clause-ok
returns-clause-ok c =
    let inner = c.self.inside in
    let old : ChainValue = record { shape = inner.shape; base = inner.base; batches = inner.list.batches } in
    let new : ChainValue = record { shape = inner.shape; base = inner.base; batches = c.and-self-inside.result.batches } in
    subst (λ v. Applies v c.args.edits.now new) c.self.view_is
    (applied old _ _ _ _ _ (c.last_of-release.ensures ∙ c.self.invariant.leads) c.in_ok-release.ensures.next c.and-self-inside.ensures)
