use Rattle.std.proofs.Common.{rules, ◌≡◌, ap, Ok, Err}
use Rattle.std.proofs.lemmas.Result.{err_from_is_err_and}
use Rattle.tb_script.specs.Scripts.{script_of}
use Rattle.tb_endings.specs.declared.endings.Input.TheVariants as input
use Rattle.tb_endings.specs.declared.endings.End.TheVariants as end
use Rattle.tb_top.specs.Asking.{bytes_in, or_end}
use Rattle.tb_top.proofs.LoadSteps.{Loads-ends, Loads-fails, Loads-refuses}
use Rattle.tb_top.proofs.load.load_script.Goals as goal

pub returns-in_err-bytes : goal.returns-in_err-bytes
returns-in_err-bytes g c =
    let p = err_from_is_err_and c.from_residual.result c.from_residual.ensures.1 in
    record {
      loads = rw (p.1, p.2) (Loads-fails (λ bytes. bytes.items) (λ script. script)
          (λ contents. bytes_in input.Script (contents input.Script))
          (λ contents bytes. or_end end.BadLine (script_of bytes)) c.in_err-bytes.ensures.loads);
    }

pub returns-in-Ok : goal.returns-in-Ok
returns-in-Ok g c =
    let read : script_of c.in_ok-bytes.bytes.items ≡ Ok c.in-Ok.script = rw (← c.deref.ensures.value) c.in-Ok.ensures.read in
    record {
      loads = Loads-ends (λ bytes. bytes.items) (λ script. script) (λ contents. bytes_in input.Script (contents input.Script))
          (λ contents bytes. or_end end.BadLine (script_of bytes)) c.in_ok-bytes.bytes c.in-Ok.script
          (λ contents. ap (or_end end.BadLine) read) c.in_ok-bytes.ensures.loads;
    }

pub returns-in-Err-Line : goal.returns-in-Err-Line
returns-in-Err-Line g c =
    let refused : script_of c.in_ok-bytes.bytes.items ≡ Err c.in-Err-Line.line = search rules in
    record {
      loads = Loads-refuses (λ bytes. bytes.items) (λ script. script) (λ contents. bytes_in input.Script (contents input.Script))
          (λ contents bytes. or_end end.BadLine (script_of bytes)) c.in_ok-bytes.bytes (end.BadLine c.in-Err-Line.line) (λ h. cc)
          (λ file h. cc) (λ contents ne. ap (or_end end.BadLine) refused) c.in_ok-bytes.ensures.loads (λ k. cc);
    }
