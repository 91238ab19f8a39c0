-- Demand 2 over a module's elements: the model of the map, run from power-up, shows what the module's circuit shows. Assumes nothing.
use mathlib.Core.Path.{◌≡◌, refl, sym, ap, ap₂, ◌∙◌}
use mathlib.Core.Bool.{Bool, true, false, not, ◌&&◌, ◌||◌}
use mathlib.Core.List.{List, [], ◌∷◌, map}
use Prim.Native.Nat.{ℕ, zero, suc, ◌+◌, ◌-◌}
use native.Mathlib.Omega.{arith}
use lib.ListN.{length, get_or, replicate}
use lib.Seq.{ext_get_or}
use borrow.Author.Tests.{lt-ltb}
use Rattle.basics.specs.Choice.{bit, on}
use Rattle.basics.specs.Below.{listed}
use Rattle.basics.proofs.Truth.{clash}
use Rattle.basics.proofs.Folds.{listed_at, listed_length, any_none}
use Rattle.trees.specs.Layout.{Elements}
use Rattle.meaning.specs.Circuit.{circuit_of, clocked, run_from, runs}
use Rattle.gal.specs.Refuse.{callers, wrong, wrong_pins}
use Rattle.gal.specs.Model.{run_from as modelFrom, runs as modelRuns}
use Rattle.outputs.specs.Outputs.{map_for}
use Rattle.agree.specs.Passed.{Passed}
use Rattle.agree.specs.Pins.{is_callers, pins_for, Cycle, seen, seen_of}
use Rattle.agree.proofs.Cycles.{bits_for, Held, seen_is, next_held, clocked_held, callers_are}

from : (e : Elements) (ok : Passed e) (q : ℕ → Bool) → Held e ok q → (inputs : List (ℕ → Bool))
    → map seen (modelFrom (map_for e) (bits_for q) (map (pins_for e) inputs)) ≡ map (seen_of (circuit_of e)) (run_from (circuit_of e) q inputs)
unfolding modelFrom run_from
from e ok q r [] = refl
from e ok q r (ins ∷ later) =
    ap₂ (λ (c : Cycle) (l : List Cycle). c ∷ l) (seen_is e ok ins q r)
    (ap (λ (b : List ℕ). map seen (modelFrom (map_for e) b (map (pins_for e) later))) (next_held e ok ins q r) ∙ from e ok (clocked (circuit_of e) ins q) (clocked_held e ok ins q) later)

power_up : replicate 10 0 ≡ bits_for (λ p. false)
unfolding bits_for listed
power_up = refl

-- THE THEOREM: for every list of settings of the caller's pins, cycle by cycle, the model refuses nothing, shows just the OUT pins, and shows there what
-- the circuit shows. (A setting's values at pins that are not the caller's do not count: the caller gives 0 there, and of these pins equations name only
-- those of registers, whose values are the registers'.)
pub agrees : (e : Elements) → Passed e → (inputs : List (ℕ → Bool))
    → map seen (modelRuns (map_for e) (map (pins_for e) inputs)) ≡ map (seen_of (circuit_of e)) (runs (circuit_of e) inputs)
unfolding modelRuns
agrees e ok inputs =
    ap (λ (b : List ℕ). map seen (modelFrom (map_for e) b (map (pins_for e) inputs))) power_up ∙ from e ok (λ p. false) (record { says = λ p t. absurd (clash (sym t)) }) inputs

-- and these are all the pins that the model takes: twenty-four values that are the caller's to give are those of a setting
pub all_pins : (e : Elements) → Passed e → (pins : List ℕ) → length pins ≡ 24 → wrong_pins (map_for e) pins ≡ false → pins ≡ pins_for e (λ p. on (get_or pins (p - 1) 0))
unfolding wrong_pins pins_for
all_pins e ok pins z w =
    ext_get_or 0 pins (listed (λ i. bit (is_callers e (i + 1) && on (get_or pins (i + 1 - 1) 0))) 24) (z ∙ sym (listed_length (λ i. bit (is_callers e (i + 1) && on (get_or pins (i + 1 - 1) 0))) 24))
    (λ i h.
    let y : i + 1 - 1 ≡ i = omega arith in
    own (is_callers e (i + 1)) (get_or pins i 0) (ap (λ (b : Bool). wrong b (get_or pins i 0)) (sym (callers_are e ok (i + 1))) ∙ any_none (λ i. wrong (callers (map_for e) (i + 1)) (get_or pins i 0)) 24 w i (omega (arith, z, h)))
    ∙ ap (λ (j : ℕ). bit (is_callers e (i + 1) && on (get_or pins j 0))) (sym y)
    ∙ sym (listed_at (λ i. bit (is_callers e (i + 1) && on (get_or pins (i + 1 - 1) 0))) 24 i (omega (arith, z, h))))
  where
    own : (b : Bool) (v : ℕ) → wrong b v ≡ false → v ≡ bit (b && on v)
    own true zero t = refl
    own false zero t = refl
    own true (suc zero) t = refl
    own false (suc zero) t = absurd (clash t)
    own b (suc (suc v)) t = absurd (clash (sym (ap (λ (x : Bool). x || (on (suc (suc v)) && not b)) (lt-ltb 1 (suc (suc v)) (omega arith))) ∙ t))
