-- Refusal 10 by the counts of given numbers alone, and stage 5 with it. Document 01, refusal 10: two on one pin; decision 26.
use Rattle.std.specs.Prelude.{Bool, false, not, ℕ, eqb}
use Rattle.basics.specs.Choice.{pick}
use Rattle.trees.specs.Layout.{Elements}
use Rattle.circuit.specs.Pins.{role_of}
use Rattle.circuit.specs.StageFive.{misassigned, misplaced, looped, Verdict, fine, pass}

-- as `positioned_right`, but whether another element stands at the pin is not looked at: its number was given once, to any element or statement
unfoldable pub positioned_once : Elements → ℕ → Bool
positioned_once e i =
    pick (not (eqb (e.positioned i) 1)) false
    (pick (e.miscounted i) false
    (pick (not (eqb (role_of (e.pin i)) (e.class i))) false
    (eqb (e.given (e.pin i)) 1)))

unfoldable pub mispositioned_once : Elements → ℕ → Bool
mispositioned_once e i =
    pick (eqb (e.class i) 1) (not (positioned_once e i))
    (pick (eqb (e.class i) 2) (not (positioned_once e i))
    (pick (eqb (e.class i) 3) (not (eqb (e.positioned i) 0)) false))

unfoldable pub counted_five : Elements → Verdict
counted_five e = pass 7 e (misassigned e) (pass 8 e (misplaced e) (pass 9 e (looped e) (pass 10 e (mispositioned_once e) fine)))
