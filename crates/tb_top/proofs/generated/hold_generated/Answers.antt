use Rattle.std.proofs.Common.{◌∙◌, ap, ap₂}
use Rattle.tb_gen.specs.Generated.{generated_people, generated_ptable, generated_script}
use Rattle.tb_top.proofs.Generating.{held-as, hold-all}
use Rattle.tb_top.proofs.generated.hold_generated.Goals as goal

pub returns-clause-held : goal.returns-clause-held
returns-clause-held c =
    let made = c.in_ok-generated.ensures in
    hold-all c.args.population.now
    (held-as c.name.ensures (c.deref.ensures.value ∙ made.classes) c.in_ok-hold.ensures.ok)
    (held-as c.name-2.ensures (c.deref-2.ensures.value ∙ made.recodes) c.in_ok-hold-2.ensures.ok)
    (held-as c.name-3.ensures (c.deref-3.ensures.value ∙ made.ptable ∙ ap generated_ptable c.start.ensures)
    c.in_ok-hold-3.ensures.ok)
    (held-as c.name-4.ensures
    (c.deref-4.ensures.value ∙ made.people ∙ ap₂ generated_people c.persons.ensures.persons c.start.ensures) c.in_ok-hold-4.ensures.ok)
    (held-as c.name-5.ensures
    (c.deref-5.ensures.value ∙ made.script ∙ ap₂ generated_script c.persons.ensures.persons c.start.ensures) c.in_ok-hold-5.ensures.ok)
