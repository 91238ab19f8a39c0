-- A map and its cells (document 01, "The device"). Cells are counted from 0, pin 23 first; column pairs from 0, pin 1 first.
-- Assumes nothing.
use Rattle.std.specs.Prelude.{Bool, not, ◌&&◌, List, ℕ, ◌+◌, ◌-◌, ◌*◌, eqb, ltb, get_or}
use Rattle.basics.specs.Choice.{bit, on, pick}
use Rattle.basics.specs.Below.{any_below, all_below, listed}
use Rattle.device.specs.Device.{enable_of, products_of, column_of}
use Rattle.rows.specs.Row.{true_row}

-- rows have 44 fuses; row r starts at fuse 44r
abbrev pub fuse : List ℕ → ℕ → ℕ → ℕ
fuse m r c = get_or m (r * 44 + c) 0

-- every fuse of row r is v
unfoldable pub row_is : List ℕ → ℕ → ℕ → Bool
row_is m r v = all_below (λ c. eqb (fuse m r c) v) 44

-- S0 and S1 of pins 23 down to 14 stand from fuse 5,808. S0 1 shows cell k true, 0 inverted; S1 1 makes it combinational, 0 registered
abbrev pub plain_out : List ℕ → ℕ → Bool
plain_out m k = on (get_or m (5808 + k * 2) 0)

abbrev pub registered : List ℕ → ℕ → Bool
registered m k = not (on (get_or m (5809 + k * 2) 0))

-- cell k is enabled: its enable row is open, and so always true
unfoldable pub enabled : List ℕ → ℕ → Bool
enabled m k = row_is m (enable_of k) 1

-- pin x has a cell, which is cell 23 - x
abbrev pub is_cell : ℕ → Bool
is_cell x = ltb 13 x && ltb x 24

-- what pin x feeds to its column pair: a combinational cell, and a pin without a cell, the pin itself; a registered cell the inverse of Q.
-- Register bits stand by pins 14 to 23, pin values by pins 1 to 24
unfoldable pub signal : List ℕ → List ℕ → List ℕ → ℕ → Bool
signal m bits pins x = pick (is_cell x && registered m (23 - x)) (not (on (get_or bits (x - 14) 0))) (on (get_or pins (x - 1) 0))

-- the signals of all column pairs
unfoldable pub signals : List ℕ → List ℕ → List ℕ → List ℕ
signals m bits pins = listed (λ p. bit (signal m bits pins (column_of p))) 22

-- row r is true at the signals sig
unfoldable pub row_true : List ℕ → ℕ → List ℕ → Bool
row_true m r sig = true_row (fuse m r) sig

-- some product of cell k is true
unfoldable pub total : List ℕ → ℕ → List ℕ → Bool
total m k sig = any_below (λ i. row_true m (enable_of k + 1 + i) sig) (products_of k)
