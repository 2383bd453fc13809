-- The numbers of a service.
use Rattle.std.proofs.Common.{◌≡◌, ◌≤◌, arith, refl}
use Rattle.tb_command.specs.ServicePorts.{HasPorts, Service}
use Rattle.tb_command.specs.declared.service.Layout.{Layout}
use Rattle.tb_command.specs.declared.service.Layout.TheVariants as layout
use Rattle.tb_command.specs.declared.service.TheConstants.{MOST_DOOR_WORKERS, MOST_WORKERS}

-- there are no more workers than there may be at a door
pub few_workers : (service : Service) → HasPorts service → service.workers ≤ MOST_DOOR_WORKERS
few_workers service has = go service.layout refl
  where
    go : (kind : Layout) → service.layout ≡ kind → service.workers ≤ MOST_DOOR_WORKERS
    go layout.Row is = let few : service.workers ≤ MOST_WORKERS = rw is at has.workers in omega (arith, few)
    go layout.Door is = rw is at has.workers
