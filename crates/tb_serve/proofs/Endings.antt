-- How `serve` ends.
use Rattle.std.proofs.Common.{◌≡◌, ap, refl, ℕ, Bool, List, [], inl, inr, subst}
use Rattle.std.specs.Prelude.{Option, if◌then◌else◌}
use Rattle.tb_base.specs.declared.status.Status.{Status}
use Rattle.tb_base.specs.declared.status.Status.TheVariants as status
use Rattle.tb_io.specs.Taken.{IsWritten}
use Rattle.tb_io.specs.declared.answers.Wrote.TheVariants as wrote
use Rattle.tb_model.specs.Releases.{ReleaseValue}
use Rattle.tb_model.specs.Setups.{SetupValue}
use Rattle.tb_release.specs.Batches.{BatchValue}
use Rattle.tb_serve.specs.Each.{Each}
use Rattle.tb_serve.specs.Places.{number_at}
use Rattle.tb_serve.specs.declared.places.Places.{Places}
use Rattle.tb_serve.specs.Ports.{PortValue}
use Rattle.tb_serve.specs.Reports.{some_failed}
use Rattle.tb_serve.specs.Serves.{HasServed, IsEnded, IsPortServed, IsReported, Output, ServesAll, final_status, output}
use Rattle.tb_serve.specs.Stages.{GetsReady, IsLeft}
use Rattle.tb_serve.proofs.PortEnds.{port_served}
use Rattle.tb_serve.proofs.Wholes.{each_then}

-- a text was written, and the status is as it is to be then
pub ended_well : {text : List ℕ} {final ended : Status} {t t' : Option (List ℕ)} {f f' : ℕ} → IsWritten wrote.All f f' t t' text
    → ended ≡ final → IsEnded text final (output t t' f f') ended
ended_well written is = inl (is, written.all refl)

-- or a part of it
pub ended_badly : {text : List ℕ} {final : Status} {t t' : Option (List ℕ)} {f f' : ℕ} → IsWritten wrote.Failed f f' t t' text
    → IsEnded text final (output t t' f f') status.WriteFault
ended_badly written = inr (refl, written.part refl, written.failed refl)

-- the status where all was written
pub final_is : (b : Bool) (ports : List PortValue) → b ≡ some_failed ports
    → (if b then status.NetFault else status.Done) ≡ final_status ports
final_is b ports is = ap (λ c. if c then status.NetFault else status.Done) is

-- all was served from the ports as they were made
pub served_all : (setup : SetupValue) (base given : ReleaseValue) (places : Places) (most : ℕ) (o a e : List PortValue) (out : Output)
    (ended : Status) → given ≡ base → Each (GetsReady (number_at places)) o a
    → (chain : List BatchValue) × Each (HasServed setup given most [] chain) a e × IsReported places e chain out ended → Each (λ _. IsLeft) a e
    → ServesAll setup base places most o e out ended
served_all setup base given places most o a e out ended is ready served left =
    let both : Each (λ i p t. HasServed setup given most [] served.0 i p t × IsLeft p t) a e = record {
      same_length = left.same_length;
      at =
          λ i d lt. (served.1.at i d lt, left.at i d lt);
    } in
    subst (λ (b : ReleaseValue). ServesAll setup b places most o e out ended) is (
      served.0,
      each_then (GetsReady (number_at places)) (λ i p t. HasServed setup given most [] served.0 i p t × IsLeft p t)
          (IsPortServed setup given places most served.0) o a e ready both
          (λ i d lt x y. port_served setup given places most served.0 i _ _ _ x y.0 y.1),
      served.2,
    )
