-- The registers after the clock (document 01, "The device"). Bit b is that of pin 14 + b, which is cell 9 - b.
-- Assumes nothing.
use Rattle.std.specs.Prelude.{Bool, ◌&&◌, List, ℕ, ◌-◌}
use Rattle.basics.specs.Choice.{bit}
use Rattle.basics.specs.Below.{listed}
use Rattle.gal.specs.Map.{registered, total}

-- a registered cell takes its sum, with either S0, enabled or not; the bit of another cell is 0
unfoldable pub next_at : List ℕ → List ℕ → ℕ → Bool
next_at m sig b = registered m (9 - b) && total m (9 - b) sig

unfoldable pub next_bits : List ℕ → List ℕ → List ℕ
next_bits m sig = listed (λ b. bit (next_at m sig b)) 10
