-- What the model refuses (document 01, "The device" and "Refusal numbers": 31, 30, 32; decision 40).
-- Assumes nothing.
use Rattle.std.specs.Prelude.{Bool, not, ◌&&◌, ◌||◌, List, ℕ, ◌+◌, ◌-◌, ◌*◌, eqb, ltb, length, get_or}
use Rattle.basics.specs.Choice.{bit, on}
use Rattle.basics.specs.Below.{any_below, listed}
use Rattle.device.specs.Device.{enable_of, products_of, column_of}
use Rattle.rows.specs.Row.{joins, dead_row}
use Rattle.gal.specs.Map.{fuse, row_is, registered, enabled, is_cell}

-- ---- 31: not 5,892 bytes of 0 and 1

unfoldable pub no_map : List ℕ → Bool
no_map m = not (eqb (length m) 5892) || any_below (λ i. ltb 1 (get_or m i 0)) 5892

-- ---- 30: outside the model

-- row r joins both columns of a pair
unfoldable pub dead : List ℕ → ℕ → Bool
dead m r = dead_row (fuse m r)

-- no live product may read pin 1, nor the pin of an enabled combinational cell
unfoldable pub forbidden : List ℕ → ℕ → Bool
forbidden m x = eqb x 1 || (is_cell x && (enabled m (23 - x) && not (registered m (23 - x))))

unfoldable pub forbidden_pairs : List ℕ → List ℕ
forbidden_pairs m = listed (λ p. bit (forbidden m (column_of p))) 22

-- row r joins a column of one of the pairs marked in bad
unfoldable pub reads : List ℕ → ℕ → List ℕ → Bool
reads m r bad = any_below (λ p. on (get_or bad p 0) && (joins (fuse m r (p * 2)) || joins (fuse m r (p * 2 + 1)))) 22

-- it is live and does so
unfoldable pub strays : List ℕ → ℕ → List ℕ → Bool
strays m r bad = not (dead m r) && reads m r bad

-- some product of cell k strays, and the cell is enabled or registered
unfoldable pub strays_cell : List ℕ → ℕ → List ℕ → Bool
strays_cell m k bad = any_below (λ i. strays m (enable_of k + 1 + i) bad) (products_of k)

unfoldable pub cell_faulty : List ℕ → ℕ → List ℕ → Bool
cell_faulty m k bad = (enabled m k || registered m k) && strays_cell m k bad

-- cell k's enable row is neither all 0 nor all 1
unfoldable pub bad_enable : List ℕ → ℕ → Bool
bad_enable m k = not (row_is m (enable_of k) 0) && not (row_is m (enable_of k) 1)

-- rows 0 and 131 are not all 0, or an enable row or a cell is at fault
unfoldable pub outside : List ℕ → Bool
outside m = not (row_is m 0 0) || (not (row_is m 131 0) || (any_below (bad_enable m) 10 || any_below (λ k. cell_faulty m k (forbidden_pairs m)) 10))

-- ---- 32: a value that is not the caller's to give

-- the caller's pins: 2 to 11, 13, and those of combinational cells that are not enabled. The caller's bits: those of registered cells, enabled or not
unfoldable pub callers : List ℕ → ℕ → Bool
callers m x = (ltb 1 x && ltb x 12) || (eqb x 13 || (is_cell x && (not (enabled m (23 - x)) && not (registered m (23 - x)))))

-- no value is above 1, and 1 is the caller's only
abbrev pub wrong : Bool → ℕ → Bool
wrong own v = ltb 1 v || (on v && not own)

unfoldable pub wrong_pins : List ℕ → List ℕ → Bool
wrong_pins m pins = any_below (λ i. wrong (callers m (i + 1)) (get_or pins i 0)) 24

unfoldable pub wrong_bits : List ℕ → List ℕ → Bool
wrong_bits m bits = any_below (λ b. wrong (registered m (9 - b)) (get_or bits b 0)) 10

unfoldable pub no_values : List ℕ → List ℕ → List ℕ → Bool
no_values m bits pins = wrong_pins m pins || wrong_bits m bits
