use Rattle.std.proofs.Common.{ℕ, List, ◌+◌, ◌*◌, ◌%◌, ◌<◌, length, drop, get_or, ap, sym, subst, ◌∙◌, arith}
use Rattle.tb_base.specs.declared.cells.Cell.{Cell}
use Rattle.tb_base.specs.Parts.{part_at, modulus}
use Rattle.tb_cube.specs.declared.narrowing.Step.{Step}
use Rattle.tb_cube.specs.Narrowing.{forks_of}
use Rattle.tb_cube.specs.Walks.{spread, Fork, StandsAt}
use Rattle.tb_cube.proofs.Steps.{fork_of, forks-at, last-step, no_step, stands-at}
use Rattle.tb_cube.proofs.Walks.{all-gone, goes-on, has-room, left-out, one-more}
use Rattle.tb_cube.proofs.narrowing.+add_from.Goals as goal
use Rattle.tb_cube.proofs.narrowing.+add_from.Goals.{then-to-cells, else-to-cells}

pub add_row-requires : goal.add_row-requires
add_row-requires t c =
    subst (λ (ts : List Fork). StandsAt ts (length c.args.all.now) (length c.args.cells.now) c.args.k c.args.base)
    (last-step c.args.steps.now c.args.j c.requires.depth (omega (arith, c.if-j-last.true))) c.requires.stands

pub returns-then-j-last : goal.returns-then-j-last
returns-then-j-last t c = λ p i below.
    c.add_row.ensures p i below
    ∙ ap (λ (ts : List Fork). (part_at p c.args.cells.now i + spread ts (part_at p c.args.all.now) c.args.k c.args.base i) % modulus p)
    (sym (last-step c.args.steps.now c.args.j c.requires.depth (omega (arith, c.if-j-last.true))))

pub overflow_mul-k : goal.overflow_mul-k
overflow_mul-k t c =
    let at = stands-at c.args.steps.now c.args.j (length c.args.all.now) (length c.args.cells.now) c.args.k c.args.base c.requires.depth c.requires.stands in
    omega (arith, c.requires.stands.small, has-room (fork_of (get_or c.args.steps.now c.args.j no_step)) (forks_of (drop (c.args.j + 1) c.args.steps.now)) (length c.args.all.now) (length c.args.cells.now) c.args.k c.args.base at c.loop-c.c c.loop-c-test.true)

pub overflow_add-k : goal.overflow_add-k
overflow_add-k t c =
    let at = stands-at c.args.steps.now c.args.j (length c.args.all.now) (length c.args.cells.now) c.args.k c.args.base c.requires.depth c.requires.stands in
    omega (arith, c.requires.stands.small, has-room (fork_of (get_or c.args.steps.now c.args.j no_step)) (forks_of (drop (c.args.j + 1) c.args.steps.now)) (length c.args.all.now) (length c.args.cells.now) c.args.k c.args.base at c.loop-c.c c.loop-c-test.true)

pub add_from-requires : goal.add_from-requires
add_from-requires t c =
    let at = stands-at c.args.steps.now c.args.j (length c.args.all.now) (length c.args.cells.now) c.args.k c.args.base c.requires.depth c.requires.stands in
    let s : Step = get_or c.args.steps.now c.args.j no_step in (
      omega (arith, c.requires.depth),
      (
        omega (arith, c.requires.depth, c.if-j-last.false),
        goes-on (fork_of s) (forks_of (drop (c.args.j + 1) c.args.steps.now)) (length c.args.all.now) (length c.args.cells.now) c.args.k c.args.base at
            c.loop-c.c (c.args.base + c.loop-c.c * s.stride) (length c.loop-c.cells) c.loop-c-test.true c.loop-c.auto.cells c.if-to-cells.true,
      ),
    )

pub loop-c-preserved : goal.loop-c-preserved
loop-c-preserved t c = λ p i inside.
    let at = stands-at c.args.steps.now c.args.j (length c.args.all.now) (length c.args.cells.now) c.args.k c.args.base c.requires.depth c.requires.stands in
    let s : Step = get_or c.args.steps.now c.args.j no_step in
    let f : ℕ → ℕ = part_at p c.args.all.now in
    let rest : List Fork = forks_of (drop (c.args.j + 1) c.args.steps.now) in
    let before : i < length c.loop-c.cells = omega (arith, inside, c.if-to-cells.auto.cells, c.loop-c.auto.cells) in
    elim c.if-to-cells.branch [
      | then-to-cells w ↦
          one-more (fork_of s) rest (length c.args.all.now) (length c.args.cells.now) c.args.k c.args.base at f (modulus p) i (part_at p c.args.cells.now i)
          c.loop-c.c (part_at p c.loop-c.cells i) (part_at p c.if-to-cells.cells i) (c.loop-c.invariant p i before)
          (ap (λ (cells : List Cell). part_at p cells i % modulus p) w.cells-is ∙ w.add_from.ensures p i before)
      | else-to-cells w ↦
          ap (λ (cells : List Cell). part_at p cells i % modulus p) w.cells-is
          ∙ left-out (fork_of s) rest (length c.args.all.now) (length c.args.cells.now) c.args.k c.args.base at f (modulus p) i (part_at p c.args.cells.now i)
          c.loop-c.c (part_at p c.loop-c.cells i) (omega (arith, before, w.if-to-cells.false)) (c.loop-c.invariant p i before)
    ]

pub returns : goal.returns
returns t c = λ p i inside.
    let at = stands-at c.args.steps.now c.args.j (length c.args.all.now) (length c.args.cells.now) c.args.k c.args.base c.requires.depth c.requires.stands in
    all-gone (fork_of (get_or c.args.steps.now c.args.j no_step)) (forks_of (drop (c.args.j + 1) c.args.steps.now)) (length c.args.all.now) (length c.args.cells.now) c.args.k c.args.base at
    (part_at p c.args.all.now) (modulus p) i (part_at p c.args.cells.now i) c.loop-c.c (part_at p c.loop-c.cells i)
    (omega (arith, c.loop-c-test.false, c.loop-c.auto.c-end)) (c.loop-c.invariant p i (omega (arith, inside, c.loop-c.auto.cells)))
    ∙ ap (λ (ts : List Fork). (part_at p c.args.cells.now i + spread ts (part_at p c.args.all.now) c.args.k c.args.base i) % modulus p) (sym (forks-at c.args.steps.now c.args.j c.requires.depth))
