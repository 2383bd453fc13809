use Rattle.std.proofs.Common.{false, not, sym, ap, ◌∙◌}
use Rattle.std.specs.Prelude.{◌==◌}
use Rattle.std.specs.Option.{option_map_or}
use Rattle.tb_release.proofs.Made.{person_there, key_changed, too_many, may_add}
use Rattle.tb_release.proofs.draft.Draft.refusal_of_add.Goals as goal

pub returns-then-has : goal.returns-then-has
returns-then-has c = person_there c.args.self.now c.args.person c.args.key (sym c.if-has.ensures)

pub returns-then-is_other : goal.returns-then-is_other
returns-then-is_other c =
    key_changed c.args.self.now c.args.person c.args.key (sym c.if-has.ensures)
    (ap (λ o. option_map_or (λ old. not (old == c.args.key)) o false) (sym c.key_of.ensures) ∙ sym c.if-is_other.ensures)

pub returns-then-self : goal.returns-then-self
returns-then-self c =
    too_many c.args.self.now c.args.person c.args.key c.requires (sym c.if-has.ensures)
    (ap (λ o. option_map_or (λ old. not (old == c.args.key)) o false) (sym c.key_of.ensures) ∙ sym c.if-is_other.ensures) c.if-self.true

pub returns : goal.returns
returns c =
    may_add c.args.self.now c.args.person c.args.key c.requires (sym c.if-has.ensures)
    (ap (λ o. option_map_or (λ old. not (old == c.args.key)) o false) (sym c.key_of.ensures) ∙ sym c.if-is_other.ensures) c.if-self.false
