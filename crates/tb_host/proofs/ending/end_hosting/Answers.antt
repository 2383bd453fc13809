use Rattle.std.proofs.Common.{refl, rules}
use Rattle.tb_serve.proofs.Endings.{ended_badly, ended_well}
use Rattle.tb_host.proofs.Reported.{where_live, where_not_live}
use Rattle.tb_host.proofs.ending.end_hosting.Goals as goal

pub returns-then-live : goal.returns-then-live
returns-then-live g c = record { ended = where_live c.args.live c.args.places c.args.ports.now c.args.release _ _ (search rules) c.end_with_report.ensures.ended }

pub returns-in-All : goal.returns-in-All
returns-in-All g c = record { ended = where_not_live c.args.live c.args.places c.args.ports.now c.args.release _ _ (search rules) (ended_well c.in-All.ensures.written refl) }

pub returns-in-Failed : goal.returns-in-Failed
returns-in-Failed g c = record { ended = where_not_live c.args.live c.args.places c.args.ports.now c.args.release _ _ (search rules) (ended_badly c.in-Failed.ensures.written) }
