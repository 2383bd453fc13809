use Rattle.std.proofs.Common.{◌+◌, ◌-◌, ◌^◌, ℕ, min, length, get_or, subst, sym, ap, ◌∙◌, arith}
use Rattle.tb_base.specs.declared.records.Record.{Record}
use Rattle.tb_base.specs.Records.{category_at}
use Rattle.tb_plan.specs.Steps.{step_at}
use Rattle.tb_scan.proofs.Stepping.{all-stepped, none-stepped, step-at, stepped-more}
use Rattle.tb_scan.proofs.tallied.add_steps.Goals as goal

pub loop-k-init : goal.loop-k-init
loop-k-init c = none-stepped (λ r. step_at c.args.plan.now c.args.v (category_at r c.args.v)) c.args.chunk.now c.args.numbers.now

pub loop-k-preserved : goal.loop-k-preserved
loop-k-preserved c =
    let step : Record → ℕ = λ r. step_at c.args.plan.now c.args.v (category_at r c.args.v) in
    stepped-more c.loop-k.k step c.args.chunk.now c.args.numbers.now c.loop-k.numbers c.saturating_add.result (omega (arith, c.told-numbers, c.requires.few)) c.loop-k-test.true
    (λ one. c.saturating_add.ensures ∙ ap (λ s. min (get_or c.loop-k.numbers c.loop-k.k 0 + s) (2 ^ 32 - 1))
    (c.step_of-step.ensures.step ∙ step-at step c.args.chunk.now c.loop-k.k c.index-chunk-k.result one c.loop-k-test.true c.index-chunk-k.is)) c.loop-k.invariant

pub returns : goal.returns
returns c = all-stepped c.loop-k.k (λ r. step_at c.args.plan.now c.args.v (category_at r c.args.v)) c.args.chunk.now c.args.numbers.now c.loop-k.numbers (omega (arith, c.loop-k-test.false)) c.loop-k.invariant
