use Rattle.std.proofs.Common.{◌∙◌, ap, map, string_bytes, sym}
use Rattle.tb_schema.specs.Groupings.{with_group}
use Rattle.tb_schema.proofs.Lookups.{place-keys}
use Rattle.tb_schema.proofs.RecodeTaking.{group-pushed}
use Rattle.tb_schema.proofs.recode.add_group.Goals as goal

pub returns-in-Some : goal.returns-in-Some
returns-in-Some c =
    ap (with_group (map string_bytes c.args.groups.now.keys) c.args.group.now) (place-keys c.args.groups.now.keys c.args.group.now ∙ sym c.in-Some.ensures.index)

pub returns-in_ok-g-in-None : goal.returns-in_ok-g-in-None
returns-in_ok-g-in-None c =
    group-pushed c.args.groups.now.keys c.insert_full.new.self.keys c.in_ok-group-in-None.group c.args.group.now c.in_ok-g-in-None.g c.in_ok-group-in-None.ensures.ok
    (place-keys c.args.groups.now.keys c.args.group.now ∙ sym c.in-None.ensures.index) c.in_ok-g-in-None.ensures.keys c.in_ok-g-in-None.ensures.index
