use Rattle.std.proofs.Common.{◌∙◌, sym, ap}
use Rattle.tb_schema.specs.Names.{place_in}
use Rattle.tb_schema.proofs.Lookups.{names-view}
use Rattle.tb_schema.proofs.schema.Schema.find_variable.Goals as goal

pub returns-clause-place : goal.returns-clause-place
returns-clause-place c =
    rw (← c.self.view_is) (c.number.ensures ∙ c.find_key.ensures.place ∙ sym (ap (λ ts. place_in ts c.args.name.now) (names-view c.self.inside.variables.entries)))
