-- The generated files of a population, in place of files that are read.
use Rattle.std.specs.Prelude.{◌≡◌, ℕ, List, IfSome, Option, None, Some}
use Rattle.tb_gen.specs.Generated.{generated_classes, generated_people, generated_ptable, generated_recodes, generated_script}
use Rattle.tb_io.specs.HeldFiles.{HeldFiles, bytes_of}
use Rattle.tb_command.specs.declared.command.Inputs.{Inputs}
use Rattle.tb_top.specs.declared.generated.TheConstants.{GENERATED_THRESHOLD}
use Rattle.tb_endings.specs.declared.endings.Input.{Input}
use Rattle.tb_endings.specs.declared.endings.Input.TheVariants as input
use Rattle.tb_endings.specs.Endings.{input_name}
use Rattle.tb_command.specs.Populations.{Population}

-- what each file holds
abbrev pub generated_contents : Population → Input → Option (List ℕ)
generated_contents population input.Classes = Some generated_classes
generated_contents population input.Recodes = Some generated_recodes
generated_contents population input.Ptable = Some (generated_ptable population.start)
generated_contents population input.People =
    Some (generated_people population.persons population.start)
generated_contents population input.Dwellings = None
generated_contents population input.Links = None
generated_contents population input.Script =
    Some (generated_script population.persons population.start)

-- the inputs of these files, each under the name that it has in a last line
abbrev pub generated_inputs : Inputs
generated_inputs = record {
  classes = input_name input.Classes;
  recodes = Some (input_name input.Recodes);
  ptable = input_name input.Ptable;
  people = input_name input.People;
  threshold = GENERATED_THRESHOLD;
}

-- files in memory that hold them
abbrev pub HoldGenerated : Population → HeldFiles → Type 0
HoldGenerated population files =
    (file : Input)
    → IfSome (generated_contents population file)
    (λ bytes. bytes_of files (input_name file) ≡ Some bytes)
