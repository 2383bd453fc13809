use Rattle.std.proofs.Common.{◌≡◌, ◌+◌, ◌*◌, ◌++◌, ◌∷◌, [], length, length-append, ap, subst, sym, ◌∙◌, arith}
use Rattle.tb_model.specs.RowMajor.{product}
use Rattle.tb_marks.specs.Raised.{AreRaised}
use Rattle.tb_marks.proofs.Filling.{IsFilled, filled-all, filled-more}
use Rattle.tb_marks.proofs.Meeting.{raised-below}
use Rattle.tb_marks.proofs.raised.raised_numbers.Goals as goal

pub loop-x-preserved : goal.loop-x-preserved
loop-x-preserved c =
    let sizes = c.args.sizes.now in
    let places = c.places_from-places.result in
    let more = filled-more sizes places c.loop-d.d c.loop-x.x c.raised.result c.loop-x.ups.items c.loop-x-test.true c.loop-x.invariant.0 c.raised.ensures.raised c.loop-x.invariant.1 in
    let long : length (c.loop-x.ups.items ++ c.raised.result ∷ []) ≡ c.loop-d.d * places + (c.loop-x.x + 1) = omega (arith, c.loop-x.invariant.0, length-append c.loop-x.ups.items (c.raised.result ∷ [])) in
    subst (λ items. (length items ≡ c.loop-d.d * places + (c.loop-x.x + 1)) × IsFilled sizes places items) (sym c.in_ok-push.ensures.items) (long, more)

pub returns : goal.returns
returns c =
    let sizes = c.args.sizes.now in
    let same : c.places_from-places.result ≡ product sizes = c.places_from-places.ensures.places in
    let done : c.loop-d.d ≡ length sizes = omega (arith, c.loop-d-test.false, c.loop-d.auto.d-end) in
    subst (λ places. AreRaised sizes places c.loop-d.ups.items) same
    (filled-all sizes c.places_from-places.result c.loop-d.ups.items (c.loop-d.invariant.0 ∙ ap (λ d. d * c.places_from-places.result) done)
    (λ d x there below. omega (arith, same, raised-below sizes d x c.requires.some there (omega (arith, same, below)))) c.loop-d.invariant.1)
