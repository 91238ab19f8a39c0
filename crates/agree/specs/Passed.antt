-- A module's elements that stages 5 and 6 let pass (document 01, "Refusal numbers"). Assumes nothing.
use Rattle.std.specs.Prelude.{◌≡◌, ℕ, ◌≤◌}
use Rattle.trees.specs.Layout.{Elements}
use Rattle.circuit.specs.StageFive.{stage_five}
use Rattle.circuit.specs.StageFive.Verdict.{fine}
use Rattle.outputs.specs.Outputs.{stage_six}

pub record Passed (e : Elements) : Type 0 where
  -- as they are read there are 64 at most (law `few_read`)
  pub few : (i : ℕ) → 64 ≤ i → e.class i ≡ 0
  -- none of the refusals 7 to 12
  pub five : stage_five e ≡ fine
  pub six : stage_six e ≡ fine
