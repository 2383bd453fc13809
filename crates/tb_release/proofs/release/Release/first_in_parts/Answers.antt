use Rattle.std.proofs.Common.{◌∙◌, Global}
use Rattle.std.specs.Prelude.{flat_map}
use Rattle.std.specs.declared.vec.Vec.{Vec}
use Rattle.tb_base.specs.declared.records.Record.{Record}
use Rattle.tb_release.proofs.First.{first_is, first_kept}
use Rattle.tb_release.proofs.release.Release.first_in_parts.Goals as goal

pub zero-requires : goal.zero-requires
zero-requires g c =
    first_kept (flat_map (λ (list : Vec Record Global). list.items) c.args.lists.items) c.in_ok-stock.stock c.args.most c.args.rules c.in_ok-stock.ensures c.requires.distinct c.requires.few c.requires.within

pub returns : goal.returns
returns g c =
    c.in_ok-first.ensures ∙ first_is c.args.most c.args.rules (flat_map (λ (list : Vec Record Global). list.items) c.args.lists.items) c.in_ok-stock.stock c.in_ok-stock.ensures c.requires.none_set c.requires.all_shown
