use Rattle.std.proofs.Common.{refl, Ok, Some, List, ℕ}
use Rattle.std.specs.Prelude.{option_map}
use Rattle.std.proofs.lemmas.Result.{err_from_is_err_and}
use Rattle.tb_endings.specs.declared.endings.Input.TheVariants as input
use Rattle.tb_top.specs.Asking.{bytes_in}
use Rattle.tb_top.proofs.LoadSteps.{Loads-ends, Loads-fails}
use Rattle.tb_top.proofs.load.read_recodes.Goals as goal

pub returns-in_err-read_bytes-in-Some : goal.returns-in_err-read_bytes-in-Some
returns-in_err-read_bytes-in-Some g c =
    let p = err_from_is_err_and c.from_residual.result c.from_residual.ensures.1 in
    record {
      loads = rw (c.in-Some.is, p.1, p.2)
          (Loads-fails (λ bytes. bytes.items) (option_map (λ bytes. bytes.items))
          (λ contents. bytes_in input.Recodes (contents input.Recodes))
          (λ contents (bytes : List ℕ). Ok (Some bytes)) c.in_err-read_bytes-in-Some.ensures.loads);
    }

pub returns-in_ok-read_bytes-in-Some : goal.returns-in_ok-read_bytes-in-Some
returns-in_ok-read_bytes-in-Some g c =
    record {
      loads = rw c.in-Some.is (Loads-ends (λ bytes. bytes.items) (option_map (λ bytes. bytes.items))
          (λ contents. bytes_in input.Recodes (contents input.Recodes))
          (λ contents (bytes : List ℕ). Ok (Some bytes)) c.in_ok-read_bytes-in-Some.field-0 (Some c.in_ok-read_bytes-in-Some.field-0)
          (λ contents. refl) c.in_ok-read_bytes-in-Some.ensures.loads);
    }
