-- The report, by whether the journal is live.
use Rattle.std.proofs.Common.{◌≡◌, subst, ℕ, Bool, true, false, List}
use Rattle.tb_base.specs.declared.status.Status.{Status}
use Rattle.tb_base.specs.declared.status.Status.TheVariants as status
use Rattle.tb_host.specs.Endings.{IsHostReported, disk_report}
use Rattle.tb_serve.specs.Ports.{PortValue}
use Rattle.tb_serve.specs.Reports.{report}
use Rattle.tb_serve.specs.Serves.{IsEnded, Output, final_status}
use Rattle.tb_serve.specs.declared.places.Places.{Places}

module _ (live : Bool) (places : Places) (ports : List PortValue) (release : ℕ) (out : Output) (ended : Status) where
  pub where_live : true ≡ live → IsEnded (report places ports release) (final_status ports) out ended → IsHostReported live places ports release out ended
  where_live is reported = subst (λ (b : Bool). IsHostReported b places ports release out ended) is reported

  pub where_not_live : false ≡ live → IsEnded (disk_report places ports release) status.DiskFault out ended → IsHostReported live places ports release out ended
  where_not_live is reported = subst (λ (b : Bool). IsHostReported b places ports release out ended) is reported
