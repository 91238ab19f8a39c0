-- The meaning of a text: the circuit that it describes (document 01, 'The language we take'). Assumes nothing.
use Rattle.std.specs.Prelude.{ℕ, ◌+◌, Bool, not, ◌&&◌, ◌||◌, List, eqb, ltb}
use Rattle.basics.specs.Choice.{bit}
use Rattle.basics.specs.Below.{listed}
use Rattle.trees.specs.Layout.{elements_of}
use Rattle.meaning.specs.Circuit.{Circuit, circuit_of}
use Rattle.gal.specs.Map.{is_cell}
use Rattle.texts.specs.Stages.{Front, stays, refused, front_of}

-- a circuit, or a refusal's number and place
pub data Meaning : Type 0 where
  means : Circuit → Meaning
  nothing : ℕ → ℕ → Meaning

abbrev pub circuit_in : Front → Meaning
circuit_in (stays parts) = means (circuit_of (elements_of parts))
circuit_in (refused n p) = nothing n p

-- the circuit of a text that stages 1 to 5 let pass
unfoldable pub meaning : List ℕ → Meaning
meaning s = circuit_in (front_of s)

-- 'The device', the caller's pins: 2 to 11, 13, and those of cells that show no OUT of the circuit
unfoldable pub is_given : Circuit → ℕ → Bool
is_given c p = (ltb 1 p && ltb p 12) || (eqb p 13 || (is_cell p && not (c.out p)))

-- the values of pins 1 to 24 as the caller gives them in one cycle: its own pins by the setting, all others 0
unfoldable pub setting_for : Circuit → (ℕ → Bool) → List ℕ
setting_for c ins = listed (λ i. bit (is_given c (i + 1) && ins (i + 1))) 24
