use Rattle.std.proofs.Common.{◌≡◌, ap, refl, Ok, Err, arith}
use Rattle.std.specs.Prelude.{option_map}
use Rattle.std.proofs.lemmas.Result.{err_from_is_err_and}
use Rattle.tb_schema.specs.Recodes.{schema_of}
use Rattle.tb_endings.specs.declared.endings.Input.TheVariants as input
use Rattle.tb_top.specs.Asking.{◌>>=◌, bytes_in, most_bytes, or_end, recodes_in, schema_in}
use Rattle.tb_endings.specs.Refusals.{schema_end}
use Rattle.tb_top.specs.InputFiles.{recodes_files}
use Rattle.tb_top.proofs.LoadSteps.{Loads-before, Loads-ends, Loads-fails, Loads-refused-schema, Loads-then, skips-bytes}
use Rattle.tb_top.proofs.load.load_schema.Goals as goal

pub returns-in_err-classes : goal.returns-in_err-classes
returns-in_err-classes g c =
    let p = err_from_is_err_and c.from_residual.result c.from_residual.ensures.1 in
    let recodes = c.args.inputs.now.recodes in
    record {
      loads = rw (p.1, p.2) (Loads-before (λ schema. schema) (schema_in recodes) (recodes_files recodes)
          (Loads-fails (λ bytes. bytes.items) (λ schema. schema) (λ contents. bytes_in input.Classes (contents input.Classes))
          (λ contents bytes. recodes_in recodes contents >>= (λ r. or_end schema_end (schema_of bytes r))) c.in_err-classes.ensures.loads));
    }

pub returns-in_err-recodes : goal.returns-in_err-recodes
returns-in_err-recodes g c =
    let p = err_from_is_err_and c.from_residual-in_err-recodes.result c.from_residual-in_err-recodes.ensures.1 in
    let recodes = c.args.inputs.now.recodes in
    let classes = c.in_ok-classes.classes.items in
    record {
      loads = rw (p.1, p.2) (Loads-then (λ bytes. bytes.items) (λ schema. schema)
          (λ contents. bytes_in input.Classes (contents input.Classes))
          (λ contents bytes. recodes_in recodes contents >>= (λ r. or_end schema_end (schema_of bytes r))) c.in_ok-classes.classes (Err _)
          (skips-bytes (most_bytes input.Classes) input.Classes 1 (omega arith)) (omega arith) refl refl refl c.in_ok-classes.ensures.loads
          (Loads-fails (option_map (λ bytes. bytes.items)) (λ schema. schema) (recodes_in recodes)
          (λ contents r. or_end schema_end (schema_of classes r)) c.in_err-recodes.ensures.loads));
    }

pub returns-in_err-read : goal.returns-in_err-read
returns-in_err-read g c =
    let p = err_from_is_err_and c.from_residual-in_err-read.result c.from_residual-in_err-read.ensures.1 in
    let recodes = c.args.inputs.now.recodes in
    let classes = c.in_ok-classes.classes.items in
    record {
      loads = rw (p.1, p.2) (Loads-then (λ bytes. bytes.items) (λ schema. schema)
          (λ contents. bytes_in input.Classes (contents input.Classes))
          (λ contents bytes. recodes_in recodes contents >>= (λ r. or_end schema_end (schema_of bytes r))) c.in_ok-classes.classes (Err _)
          (skips-bytes (most_bytes input.Classes) input.Classes 1 (omega arith)) (omega arith) refl refl refl c.in_ok-classes.ensures.loads
          (Loads-refused-schema (option_map (λ bytes. bytes.items)) classes recodes c.in_ok-recodes.recodes _
          (rw (← c.bytes_of.ensures, ← c.deref.ensures.value) c.in_err-read.ensures.refused) c.in_ok-recodes.ensures.loads));
    }

pub returns : goal.returns
returns g c =
    let recodes = c.args.inputs.now.recodes in
    let classes = c.in_ok-classes.classes.items in
    let read : schema_of classes (option_map (λ bytes. bytes.items) c.in_ok-recodes.recodes) ≡ Ok c.in_ok-read.field-0 = rw
    (← c.bytes_of.ensures, ← c.deref.ensures.value) c.in_ok-read.ensures.ok in
    record {
      loads = Loads-then (λ bytes. bytes.items) (λ schema. schema) (λ contents. bytes_in input.Classes (contents input.Classes))
          (λ contents bytes. recodes_in recodes contents >>= (λ r. or_end schema_end (schema_of bytes r))) c.in_ok-classes.classes
          (Ok c.in_ok-read.field-0)
          (skips-bytes (most_bytes input.Classes) input.Classes 1 (omega arith)) (omega arith) refl refl refl c.in_ok-classes.ensures.loads
          (Loads-ends (option_map (λ bytes. bytes.items)) (λ schema. schema) (recodes_in recodes)
          (λ contents r. or_end schema_end (schema_of classes r)) c.in_ok-recodes.recodes c.in_ok-read.field-0
          (λ contents. ap (or_end schema_end) read) c.in_ok-recodes.ensures.loads);
    }
