-- What the device shows (document 01, "The device"; decision 40: the values are those before the clock).
-- Assumes nothing.
use Rattle.std.specs.Prelude.{Bool, not, ◌&&◌, List, ℕ, ◌+◌, ◌-◌, get_or}
use Rattle.basics.specs.Choice.{bit, on, pick, xor}
use Rattle.basics.specs.Below.{listed}
use Rattle.gal.specs.Map.{plain_out, registered, enabled, is_cell, total}

-- pin x is shown: it has a cell that is enabled
unfoldable pub shown_at : List ℕ → ℕ → Bool
shown_at m x = is_cell x && enabled m (23 - x)

-- what cell k shows, with register bit q and signals sig: its register or its sum, inverted where S0 is 0
unfoldable pub cell_value : List ℕ → ℕ → ℕ → List ℕ → Bool
cell_value m k q sig = xor (not (plain_out m k)) (pick (registered m k) (on q) (total m k sig))

-- the value of pin x: 0 where it is not shown
unfoldable pub value_at : List ℕ → List ℕ → List ℕ → ℕ → Bool
value_at m bits sig x = shown_at m x && cell_value m (23 - x) (get_or bits (x - 14) 0) sig

-- for pins 1 to 24, which are shown, and their values
unfoldable pub shown_pins : List ℕ → List ℕ
shown_pins m = listed (λ i. bit (shown_at m (i + 1))) 24

unfoldable pub value_pins : List ℕ → List ℕ → List ℕ → List ℕ
value_pins m bits sig = listed (λ i. bit (value_at m bits sig (i + 1))) 24
