-- The circuit at the pin of an OUT is that OUT's equation, and its table for rows says so. Assumes nothing.
use mathlib.Core.Path.{◌≡◌, sym, ap, ◌∙◌}
use mathlib.Core.Bool.{Bool, true, ◌&&◌}
use mathlib.Core.List.{List}
use Prim.Native.Nat.{ℕ, ◌<◌}
use lib.Dec.{ltb}
use borrow.Author.Tests.{lt-ltb}
use Rattle.trees.specs.Layout.{elements_of}
use Rattle.reach.specs.Uses.{inverts, registers}
use Rattle.circuit.specs.StageFive.{stage_five}
use Rattle.circuit.specs.StageFive.Verdict.{fine}
use Rattle.meaning.specs.Meaning.{takes_next}
use Rattle.meaning.specs.Circuit.{circuit_of, out_at}
use Rattle.meaning.proofs.Fine.{fine_is}
use Rattle.meaning.proofs.Standing.{out_at_lem}
use Rattle.pins.specs.Variables.{variables_of}
use Rattle.tables.specs.Tables.{flip_at, entry_of}
use Rattle.tables.proofs.Reading.{number_of, table_says}

module _ (parts : List ℕ) (ok : stage_five (elements_of parts) ≡ fine) (o : ℕ) (ho : o < 64) (out : (elements_of parts).class o ≡ 2) where
  here : out_at (elements_of parts) ((elements_of parts).pin o) ≡ o
  here = out_at_lem (elements_of parts) (fine_is (elements_of parts) ok) o ho out

  -- what holds of the element at the pin
  at_pin : (f : ℕ → Bool) → (ltb (out_at (elements_of parts) ((elements_of parts).pin o)) 64 && f (out_at (elements_of parts) ((elements_of parts).pin o))) ≡ f o
  at_pin f = ap (λ (k : ℕ). ltb k 64 && f k) here ∙ ap (λ (b : Bool). b && f o) (lt-ltb o 64 ho)

  pub cell_out : (circuit_of (elements_of parts)).out ((elements_of parts).pin o) ≡ true
  cell_out = ap (λ (k : ℕ). ltb k 64) here ∙ lt-ltb o 64 ho

  pub cell_registered : (circuit_of (elements_of parts)).registered ((elements_of parts).pin o) ≡ registers ((elements_of parts).nodes o)
  cell_registered = at_pin (λ k. registers ((elements_of parts).nodes k))

  pub cell_inverted : (circuit_of (elements_of parts)).inverted ((elements_of parts).pin o) ≡ inverts ((elements_of parts).nodes o)
  cell_inverted = at_pin (λ k. inverts ((elements_of parts).nodes k))

  pub cell_next : (s : ℕ → Bool) → (circuit_of (elements_of parts)).next ((elements_of parts).pin o) s ≡ takes_next (elements_of parts) o s
  cell_next s = at_pin (λ k. takes_next (elements_of parts) k s)

  -- the table for rows, at the number of a setting, is the circuit's function on it
  pub rows_say : (s : ℕ → Bool)
      → entry_of (elements_of parts) true o (number_of (flip_at (elements_of parts) true) s (variables_of (elements_of parts) true o)) ≡ (circuit_of (elements_of parts)).next ((elements_of parts).pin o) s
  rows_say s = table_says parts ok o ho out true s ∙ sym (cell_next s)
