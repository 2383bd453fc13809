use Rattle.std.proofs.Common.{◌≡◌, ◌∙◌, refl, ℕ, List, Some, Ok, Err, Result}
use Rattle.std.proofs.lemmas.Result.{err_from_is_err_and}
use Rattle.tb_io.proofs.FaultLemmas.{HasRisen-zero}
use Rattle.tb_io.specs.Faults.{HasRisen}
use Rattle.tb_io.specs.HeldFiles.{HeldFiles, bytes_or_none}
use Rattle.tb_command.specs.declared.command.Inputs.{Inputs}
use Rattle.tb_endings.specs.declared.endings.End.{End}
use Rattle.tb_top.specs.declared.asked.Scripted.{Scripted}
use Rattle.tb_endings.specs.declared.endings.Input.TheVariants as input
use Rattle.tb_top.specs.Asking.{generated_asked, scripted_in, sums_over}
use Rattle.tb_top.specs.InputFiles.{scripted_files}
use Rattle.tb_endings.specs.Endings.{input_name}
use Rattle.tb_top.specs.GeneratedFiles.{HoldGenerated, generated_contents, generated_inputs}
use Rattle.tb_top.specs.Loading.{Loads, Makes, Reading, asked_value, scripted_value}
use Rattle.tb_command.specs.Populations.{Population}
use Rattle.tb_top.proofs.Generating.{accepted-made, gen_of, holds-generated, loads-gen, makes-of}
use Rattle.tb_top.proofs.generated.load_generated.Goals as goal

-- what is made of a census and a script that were read, or weren't
made_of : (p q : Population) (files : HeldFiles) (inputs : Inputs) (name : List ℕ) (read : Result Scripted End) {saw : Reading}
    → saw.content ≡ Some (λ name. Some (bytes_or_none files name)) → (HasRisen saw.faults saw.faults_after → ⊥)
    → HoldGenerated p files → q ≡ p → inputs ≡ generated_inputs → name ≡ input_name input.Script
    → Loads saw 0 (scripted_files inputs name) scripted_value (scripted_in inputs) read
    → Makes asked_value (generated_asked p) (gen_of q read)
made_of p q files inputs name read content sure held is one two h =
    makes-of asked_value (sums_over p generated_inputs) (generated_contents p) (λ name. Some (bytes_or_none files name))
    (scripted_files generated_inputs (input_name input.Script)) 0 (gen_of q read) content sure (holds-generated p files held)
    (loads-gen p q inputs generated_inputs name (input_name input.Script) read is one two h)

pub returns-clause-makes : goal.returns-clause-makes
returns-clause-makes g c =
    made_of c.args.population.now c.copy-population.result c.in_ok-files.files _ _ (Ok c.in_ok-read.read) refl HasRisen-zero
    c.in_ok-files.ensures.held c.copy-population.ensures c.generated_inputs-inputs.ensures (c.of-script.ensures ∙ c.name.ensures)
    c.in_ok-read.ensures.loads

pub returns-in_err-read-clause-makes : goal.returns-in_err-read-clause-makes
returns-in_err-read-clause-makes g c =
    let p = err_from_is_err_and c.from_residual-in_err-read.result c.from_residual-in_err-read.ensures.1 in
    let made = made_of c.args.population.now c.args.population.now c.in_ok-files.files _ _ (Err _) refl HasRisen-zero
    c.in_ok-files.ensures.held refl c.generated_inputs-inputs.ensures (c.of-script.ensures ∙ c.name.ensures)
    c.in_err-read.ensures.loads in
    rw (p.1, p.2) made

pub returns-in_err-read-clause-accepted : goal.returns-in_err-read-clause-accepted
returns-in_err-read-clause-accepted g c =
    let p = err_from_is_err_and c.from_residual-in_err-read.result c.from_residual-in_err-read.ensures.1 in
    let made = made_of c.args.population.now c.args.population.now c.in_ok-files.files _ _ (Err _) refl HasRisen-zero
    c.in_ok-files.ensures.held refl c.generated_inputs-inputs.ensures (c.of-script.ensures ∙ c.name.ensures)
    c.in_err-read.ensures.loads in
    rw (p.1, p.2) (accepted-made c.args.population.now c.hold_generated.ensures.some asked_value (Err _) made)
