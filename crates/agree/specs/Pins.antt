-- Between the device's signals and a module's pins (document 01, "The device": feedback, the caller's pins; decision 40). Assumes nothing.
use Rattle.std.specs.Prelude.{Bool, true, false, not, ◌&&◌, ◌||◌, List, ℕ, ◌+◌, ◌-◌, eqb, ltb, get_or}
use Rattle.basics.specs.Choice.{bit, xor}
use Rattle.basics.specs.Below.{listed}
use Rattle.trees.specs.Layout.{Elements}
use Rattle.meaning.specs.Circuit.{Circuit, circuit_of}
use Rattle.tables.specs.Tables.{flip_at}
use Rattle.device.specs.Device.{pair_of}
use Rattle.gal.specs.Map.{is_cell}
use Rattle.gal.specs.Model.{Answer, Verdict}
use Rattle.gal.specs.Model.Verdict.{Shown}

-- the value of each pin where the twenty-two variables are s: variable i is that of column pair 21 - i
unfoldable pub pins_at : Elements → List Bool → ℕ → Bool
pins_at e s p = xor (flip_at e true p) (get_or s (21 - pair_of p) false)

-- the caller's pins: 2 to 11, 13, and those of cells without OUT
unfoldable pub is_callers : Elements → ℕ → Bool
is_callers e p = (ltb 1 p && ltb p 12) || (eqb p 13 || (is_cell p && not ((circuit_of e).out p)))

-- the values of pins 1 to 24 as the caller gives them: at its own pins those of the setting, at all others 0
unfoldable pub pins_for : Elements → (ℕ → Bool) → List ℕ
pins_for e ins = listed (λ i. bit (is_callers e (i + 1) && ins (i + 1))) 24

-- what is seen of one cycle: the verdict, and for pins 1 to 24 which are shown, and their values
pub record Cycle : Type 0 where
  pub verdict : Verdict
  pub shown : List ℕ
  pub values : List ℕ

-- of the model's answer
abbrev pub seen : Answer → Cycle
seen a = record { verdict = a.verdict; shown = a.shown; values = a.values }

-- of a circuit whose OUT pins show v: never a refusal, and just the OUT pins are shown
abbrev pub seen_of : Circuit → (ℕ → Bool) → Cycle
seen_of c v = record { verdict = Shown; shown = listed (λ i. bit (c.out (i + 1))) 24; values = listed (λ i. bit (v (i + 1))) 24 }
