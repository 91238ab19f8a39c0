-- The model of the emitted map, run from power-up, answers cycle after cycle as the cells' functions do.
-- Assumes nothing.
use mathlib.Core.Path.{◌≡◌, refl, ap, ap₂, ◌∙◌}
use mathlib.Core.Bool.{Bool, true, false, not, ◌&&◌, ◌||◌}
use mathlib.Core.List.{List, [], ◌∷◌}
use Prim.Native.Nat.{ℕ, ◌+◌, ◌-◌}
use native.Mathlib.Omega.{arith}
use lib.Dec.{eqb, ltb}
use lib.ListN.{get_or, replicate, get_or-replicate}
use Rattle.basics.specs.Choice.{bit}
use Rattle.basics.specs.Below.{listed}
use Rattle.basics.proofs.Folds.{any_same, listed_at}
use Rattle.sums.proofs.Named.{Each}
use Rattle.gal.specs.Map.{registered, enabled, is_cell}
use Rattle.gal.specs.Refuse.{callers, wrong, wrong_pins, wrong_bits, no_values}
use Rattle.gal.specs.Model.{Answer, run_from, runs}
use Rattle.cells.specs.Map.{map_of}
use Rattle.behave.specs.Cells.{in_use, holds, Cells, value, Fits, Grounded, setting_for, next_of, answer_of, givable, refused_pins, cycles_of}
use Rattle.behave.proofs.Emitted.{none_of}
use Rattle.behave.proofs.Behaves.{under, cell_low, held_is, use_is, behaves}

module _ (c : Cells) (all : List (List ℕ)) (counts kinds s0s : List ℕ) (w : Fits c all counts kinds s0s) where
  callers-is : (x : ℕ) → callers (map_of all counts kinds s0s) x ≡ givable c x
  unfolding callers
  callers-is x =
      ap (λ (b : Bool). (ltb 1 x && ltb x 12) || (eqb x 13 || b))
      (under (is_cell x) (not (enabled (map_of all counts kinds s0s) (23 - x)) && not (registered (map_of all counts kinds s0s) (23 - x))) (not (in_use (c.kind (23 - x))) && not (holds (c.kind (23 - x))))
      (λ e. ap₂ (λ (a b : Bool). not a && not b) (use_is c all counts kinds s0s w (23 - x) (cell_low x e)) (held_is c all counts kinds s0s w (23 - x) (cell_low x e))))

  -- the model takes the pin values that the cells take
  pub pins_are : (pins : List ℕ) → wrong_pins (map_of all counts kinds s0s) pins ≡ refused_pins c pins
  unfolding wrong_pins refused_pins
  pins_are pins =
      any_same (λ i. wrong (callers (map_of all counts kinds s0s) (i + 1)) (get_or pins i 0)) (λ i. wrong (givable c (i + 1)) (get_or pins i 0)) 24
      (λ i h. ap (λ (b : Bool). wrong b (get_or pins i 0)) (callers-is (i + 1)))

  -- a register's bit may be given, and no other is 1
  bit-taken : (r x : Bool) → wrong r (bit (r && x)) ≡ false
  bit-taken true true = refl
  bit-taken true false = refl
  bit-taken false x = refl

  next-taken : (s : List Bool) → wrong_bits (map_of all counts kinds s0s) (listed (λ b. bit (next_of c s b)) 10) ≡ false
  unfolding wrong_bits
  next-taken s =
      none_of (λ b. wrong (registered (map_of all counts kinds s0s) (9 - b)) (get_or (listed (λ b. bit (next_of c s b)) 10) b 0)) 10
      (λ b h.
      ap₂ wrong (held_is c all counts kinds s0s w (9 - b) (omega arith)) (listed_at (λ b. bit (next_of c s b)) 10 b h)
      ∙ bit-taken (holds (c.kind (9 - b))) (value c (9 - b) s))

  none-taken : wrong_bits (map_of all counts kinds s0s) (replicate 10 0) ≡ false
  unfolding wrong_bits
  none-taken =
      none_of (λ b. wrong (registered (map_of all counts kinds s0s) (9 - b)) (get_or (replicate 10 0) b 0)) 10
      (λ b h. ap (wrong (registered (map_of all counts kinds s0s) (9 - b))) (get_or-replicate 10 b 0 0 h))

  taken : (bits pins : List ℕ) → wrong_bits (map_of all counts kinds s0s) bits ≡ false → refused_pins c pins ≡ false → no_values (map_of all counts kinds s0s) bits pins ≡ false
  unfolding no_values
  taken bits pins b p = ap₂ (λ (x y : Bool). x || y) (pins_are pins ∙ p) b

  from : Grounded c → (inputs : List (List ℕ)) (bits : List ℕ) → Each (λ pins. refused_pins c pins ≡ false) inputs → wrong_bits (map_of all counts kinds s0s) bits ≡ false
      → run_from (map_of all counts kinds s0s) bits inputs ≡ cycles_of c bits inputs
  unfolding run_from cycles_of Each
  from g [] bits e b = refl
  from g (pins ∷ rest) bits e b =
      let a = behaves c all counts kinds s0s w g bits pins (taken bits pins b e.0) in
      ap (λ (x : Answer). x ∷ run_from (map_of all counts kinds s0s) x.next rest) a
      ∙ ap (λ (l : List Answer). answer_of c bits (setting_for c bits pins) ∷ l)
      (from g rest (listed (λ b. bit (next_of c (setting_for c bits pins) b)) 10) e.1 (next-taken (setting_for c bits pins)))

  -- THE THEOREM: from power-up, for every list of pin values that may be given
  pub cycles : Grounded c → (inputs : List (List ℕ)) → Each (λ pins. refused_pins c pins ≡ false) inputs → runs (map_of all counts kinds s0s) inputs ≡ cycles_of c (replicate 10 0) inputs
  unfolding runs
  cycles g inputs e = from g inputs (replicate 10 0) e none-taken
