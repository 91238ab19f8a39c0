-- The function of a cell over the twenty-two variables is what its OUT takes next, where the pins have the values that the variables give them.
-- Assumes nothing.
use mathlib.Core.Path.{◌≡◌, sym, ap, ◌∙◌, subst}
use mathlib.Core.Logic.{◌⊎◌, inl, inr}
use mathlib.Core.Bool.{Bool, true, false, ◌&&◌}
use mathlib.Core.List.{List}
use Prim.Native.Nat.{ℕ, ◌-◌, ◌^◌}
use native.Mathlib.Omega.{arith}
use lib.Dec.{T, ltb}
use lib.ListN.{length, get_or}
use Rattle.basics.specs.Choice.{bit, on, xor}
use Rattle.basics.proofs.Folds.{listed_at}
use Rattle.basics.proofs.Truth.{true_of}
use Rattle.trees.specs.Layout.{Elements}
use Rattle.trees.proofs.Stack.{on_bit}
use Rattle.reach.specs.Uses.{registers}
use Rattle.meaning.specs.Meaning.{takes_next}
use Rattle.meaning.specs.Circuit.{out_at, circuit_of}
use Rattle.pins.specs.Named.{names_pin}
use Rattle.pins.specs.Variables.{variable_pin, names_variable, variables_of, count_of}
use Rattle.tables.specs.Tables.{flip_at, setting_at, entry_of}
use Rattle.device.specs.Device.{pair_of}
use Rattle.behave.specs.Cells.{in_use, value}
use Rattle.outputs.specs.Outputs.{out_of, kind_of, table_of, cells_of}
use Rattle.agree.specs.Passed.{Passed}
use Rattle.agree.specs.Pins.{pins_at}
use Rattle.agree.proofs.Basic.{and_first}
use Rattle.agree.proofs.Positions.{is_in, out_is, out_cell, right_placed}
use Rattle.agree.proofs.Bits.{number_in, number_small, set_at}
use Rattle.agree.proofs.Speaking.{named_is}
use Rattle.agree.proofs.Depends.{takes_same}
use Rattle.agree.proofs.Fitting.{kind_use, cell_pin}
use Rattle.agree.proofs.Columns.{Column, column_in, column_cell, variable_pin_lem, own_pin}

module _ (e : Elements) (ok : Passed e) where
  -- a pin that is an IN's or a register's has a column pair
  pub spoken_column : (p : ℕ) → (is_in p ≡ true) ⊎ ((circuit_of e).registered p ≡ true) → Column p
  spoken_column p (inl t) = column_in p t
  spoken_column p (inr t) = column_cell p (out_cell e ok p (and_first (ltb (out_at e p) 64) (registers (e.nodes (out_at e p))) t))

  -- the OUT at pin p takes the same on settings that agree at the pins of INs and registers
  pub next_same : (p : ℕ) → (circuit_of e).out p ≡ true → (s t : ℕ → Bool) → ((x : ℕ) → (is_in x ≡ true) ⊎ ((circuit_of e).registered x ≡ true) → s x ≡ t x)
      → takes_next e (out_at e p) s ≡ takes_next e (out_at e p) t
  next_same p u s t same =
      let o = out_is e ok p u in
      takes_same e ok.few (out_at e p) s t (λ x n. same x (named_is e ok (out_at e p) x o.small o.class n)) (right_placed e ok (out_at e p) o.small o.class)

  -- entry of the table that a setting of all variables leads to
  entry : (o : ℕ) (s : List Bool) → length s ≡ 22
      → on (get_or (table_of e o) (number_in (names_variable e true o) 22 s) 0) ≡ takes_next e o (setting_at e true (variables_of e true o) (number_in (names_variable e true o) 22 s))
  unfolding table_of
  entry o s z =
      ap on (listed_at (λ k. bit (entry_of e true o k)) (2 ^ count_of e true o) (number_in (names_variable e true o) 22 s) (number_small (names_variable e true o) 22 s z))
      ∙ on_bit (entry_of e true o (number_in (names_variable e true o) 22 s))

  -- it sets each named pin as its variable says
  setting : (o : ℕ) (s : List Bool) → length s ≡ 22 → (p : ℕ) → Column p → T (names_pin e o p)
      → setting_at e true (variables_of e true o) (number_in (names_variable e true o) 22 s) p ≡ pins_at e s p
  unfolding pins_at
  setting o s z p c n =
      let q = variable_pin_lem p c in
      subst (λ (x : ℕ). setting_at e true (variables_of e true o) (number_in (names_variable e true o) 22 s) x ≡ xor (flip_at e true x) (get_or s (21 - pair_of p) false)) q
      (set_at (flip_at e true) 22 (names_variable e true o) (variable_pin true) s (flip_at e true) (21 - pair_of p) z (omega arith) (ap (names_pin e o) q ∙ true_of _ n) own_pin)

  -- THE THEOREM: the function of a cell in use is what its OUT takes next
  pub function_is : (k : ℕ) → in_use (kind_of e k) ≡ true → (s : List Bool) → length s ≡ 22 → value (cells_of e) k s ≡ takes_next e (out_of e k) (pins_at e s)
  function_is k u s z =
      let t = sym (kind_use e k) ∙ u in
      let o = out_is e ok (23 - k) t in
      entry (out_of e k) s z
      ∙ takes_same e ok.few (out_of e k) (setting_at e true (variables_of e true (out_of e k)) (number_in (names_variable e true (out_of e k)) 22 s)) (pins_at e s)
      (λ p n. setting (out_of e k) s z p (spoken_column p (named_is e ok (out_of e k) p o.small o.class n)) n)
      (right_placed e ok (out_of e k) o.small o.class)

  -- the same by pins: what the circuit's OUT pin takes next
  pub next_is : (x : ℕ) → (circuit_of e).out x ≡ true → (s : List Bool) → length s ≡ 22 → value (cells_of e) (23 - x) s ≡ (circuit_of e).next x (pins_at e s)
  next_is x u s z =
      let q = cell_pin x (out_cell e ok x u) in
      function_is (23 - x) (kind_use e (23 - x) ∙ ap (λ (p : ℕ). ltb (out_at e p) 64) q ∙ u) s z
      ∙ ap (λ (p : ℕ). takes_next e (out_at e p) (pins_at e s)) q
      ∙ sym (ap (λ (b : Bool). b && takes_next e (out_at e x) (pins_at e s)) u)
