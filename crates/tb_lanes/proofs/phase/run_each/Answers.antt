use Rattle.std.proofs.Common.{◌≡◌, ℕ, subst}
use Rattle.std.specs.Prelude.{slice_index_or}
use Rattle.tb_lanes.specs.declared.lane.Lane.{Lane}
use Rattle.tb_lanes.specs.Lanes.{HasRun}
use Rattle.tb_model.specs.Setups.{SetupValue}
use Rattle.tb_script.specs.Scripts.{ScriptValue}
use Rattle.tb_lanes.proofs.phase.run_each.Goals as goal

-- what a call was given and left
moved : {G : Type 0} (setup : SetupValue) (script : ScriptValue) (phase n : ℕ) (x y a b : Lane G) → a ≡ x → b ≡ y
    → HasRun setup script phase n a b → HasRun setup script phase n x y
moved {G} setup script phase n x y a b p q h = subst (λ (l : Lane G). HasRun setup script phase n x l) q
    (subst (λ (l : Lane G). HasRun setup script phase n l b) p h)

pub returns-clause-run : goal.returns-clause-run
returns-clause-run g c = record {
  same_length = c.for_each_mut.auto.s;
  at = λ i d lt.
      let k = (c.for_each_mut.ensures i d lt).1 in
      moved c.args.setup.now c.args.script.now c.args.phase i (slice_index_or c.args.lanes.now i d)
      (slice_index_or c.for_each_mut.new.s i d) k.argument.now k.after_call.now k.argument_is k.left k.call.1;
}
