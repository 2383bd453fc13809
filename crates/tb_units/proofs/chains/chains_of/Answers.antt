use Rattle.std.proofs.Common.{◌≡◌, ◌+◌, ◌∙◌, ◌++◌, ◌∷◌, ap, sym, subst, ℕ, [], get_or, length, arith}
use Rattle.std.specs.Prelude.{replicate, slice_set}
use Rattle.std.proofs.lemmas.List.{get_or_default}
use Rattle.tb_model.specs.Units.{PairValue}
use Rattle.tb_units.specs.Chains.{AreChains}
use Rattle.tb_units.specs.Pairs.{pair_at}
use Rattle.tb_units.proofs.ChainLemmas.{chains-more, chains-none}
use Rattle.tb_units.proofs.chains.chains_of.Goals as goal

pub loop-k-init : goal.loop-k-init
loop-k-init c =
    let ds = c.args.dwellings.now in
    let ls = c.args.links.now in
    let heads : c.in_ok-heads.heads.items ≡ replicate (length ds) 0 = c.in_ok-heads.ensures ∙ ap (λ n. replicate n 0) c.len.ensures in
    subst (λ heads. AreChains ds ls 0 heads c.in_ok-nexts.nexts.items) (sym heads)
    (subst (λ nexts. AreChains ds ls 0 (replicate (length ds) 0) nexts) (sym c.in_ok-nexts.ensures.items) (chains-none ds ls))

pub loop-k-preserved : goal.loop-k-preserved
loop-k-preserved c =
    let ds = c.args.dwellings.now in
    let ls = c.args.links.now in
    let at : (pair_at ds c.in-Some.d).0 ≡ (pair_at ls c.loop-k.k).1 = c.in-Some.ensures.some.1 ∙ ap (λ (p : PairValue). p.1) c.at-number.ensures in
    let head : c.index.result.now ≡ get_or c.loop-k.heads.items c.in-Some.d 0 = c.index.ensures ∙ get_or_default c.loop-k.heads.items c.in-Some.d c.index.result.now 0 (omega (arith, c.in-Some.ensures.some.0, c.loop-k.invariant.long)) in
    subst (λ nexts. AreChains ds ls (c.loop-k.k + 1) (slice_set c.loop-k.heads.items c.in-Some.d (c.loop-k.k + 1)) nexts) (sym (c.in_ok-push.ensures.items ∙ ap (λ (n : ℕ). c.loop-k.nexts.items ++ n ∷ []) head))
    (chains-more ds ls c.loop-k.heads.items c.loop-k.nexts.items c.loop-k.k c.in-Some.d c.requires.own c.in-Some.ensures.some.0 at c.loop-k.invariant)
