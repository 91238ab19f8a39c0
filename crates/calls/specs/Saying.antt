-- What a call that says bytes of a text's map is given. Assumes nothing.
use Rattle.std.specs.Prelude.{◌≡◌, ℕ, List}
use Rattle.trees.specs.Layout.{elements_of}
use Rattle.circuit.specs.StageFive.{stage_five}
use Rattle.circuit.specs.StageFive.Verdict.{fine}
use Rattle.outputs.specs.Outputs.{stage_six, map_for}
use Rattle.outmap.specs.Sixth.{facts_of}

-- the map of elements that all stages let pass, and what stage 6 counted of it
pub record Mapped (map facts : List ℕ) : Type 0 where
  pub parts : List ℕ
  pub five : stage_five (elements_of parts) ≡ fine
  pub six : stage_six (elements_of parts) ≡ fine
  pub map_is : map ≡ map_for (elements_of parts)
  pub facts_are : facts ≡ facts_of (elements_of parts)
