use Rattle.std.proofs.Common.{◌≡◌, ◌+◌, ◌≤◌, drop}
use Rattle.tb_cube.specs.Narrowing.{forks_of, AreRuns}
use Rattle.tb_cube.specs.Walks.{led_to}
use Rattle.tb_cube.proofs.narrowing.number_at.Given as goal

abbrev pub invariant-loop-step : goal.invariant-loop-step
invariant-loop-step l = record {
  led : l.number + led_to (forks_of (drop l.step-index l.steps)) l.rest ≡ led_to (forks_of l.steps) l.place;
  runs : AreRuns (drop l.step-index l.steps);
  low : l.number ≤ l.limit;
}
