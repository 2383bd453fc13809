use Rattle.std.proofs.Common.{sym}
use Rattle.tb_schema.proofs.Lookups.{small-entry}
use Rattle.tb_schema.proofs.Within.{are_within}
use Rattle.tb_schema.proofs.schema.guesses_at.Goals as goal

pub of-requires : goal.of-requires
of-requires c =
    small-entry c.args.variables.now.entries c.loop-i.i (c.in-Some.field-0-0.now, c.in-Some.categories.now) (sym c.in-Some.ensures.entry) (are_within _ c.requires).small
