-- The map of ten fitted cells (document 01, "From equation to rows", on the device's rows). Arrays stand by cell, that of pin 23 first: the
-- masks of each cell's products in their order, how many they are, the cell's kind (0 unused, 1 combinational, 2 registered) and its S0.
-- Assumes nothing.
use Rattle.std.specs.Prelude.{◌≡◌, Bool, not, ◌||◌, List, [], ℕ, ◌+◌, ◌-◌, ◌*◌, ◌/◌, ◌%◌, ◌<◌, eqb, leb, ltb, length, get_or, replicate}
use Rattle.basics.specs.Choice.{bit, on, pick}
use Rattle.basics.specs.Below.{tally, listed}
use Rattle.device.specs.Device.{enable_of}
use Rattle.rows.specs.Row.{product_row}

abbrev pub used : List ℕ → ℕ → Bool
used kinds k = not (eqb (get_or kinds k 0) 0)

abbrev pub clocked : List ℕ → ℕ → Bool
clocked kinds k = eqb (get_or kinds k 0) 2

-- Row a of a cell, its enable row being row 0: a used cell has its enable row open, then its n products, and behind them rows that are all 0;
-- every row of an unused cell is all 0
unfoldable pub cell_row : Bool → ℕ → List ℕ → ℕ → List ℕ
cell_row in_use n masks a =
    pick (not in_use) (replicate 44 0) (pick (eqb a 0) (replicate 44 1) (pick (leb a n) (product_row (get_or masks (a - 1) 0)) (replicate 44 0)))

-- the cell that row r belongs to: as many cells as begin at row r or before, the first not counted
unfoldable pub cell_at : ℕ → ℕ
cell_at r = tally (λ k. leb (enable_of (k + 1)) r) 9

-- rows 0 and 131 are all 0, every other row is one of a cell
unfoldable pub row_at : List (List ℕ) → List ℕ → List ℕ → ℕ → List ℕ
row_at all counts kinds r =
    pick (eqb r 0 || eqb r 131) (replicate 44 0)
    (cell_row (used kinds (cell_at r)) (get_or counts (cell_at r) 0) (get_or all (cell_at r) []) (r - enable_of (cell_at r)))

-- fuse i is in row i / 44
abbrev pub row_fuse : List (List ℕ) → List ℕ → List ℕ → ℕ → ℕ
row_fuse all counts kinds i = get_or (row_at all counts kinds (i / 44)) (i % 44) 0

-- S0 and S1 of each cell in turn: an unused cell has both 1
abbrev pub s0_fuse : List ℕ → List ℕ → ℕ → ℕ
s0_fuse kinds s0s k = pick (used kinds k) (bit (on (get_or s0s k 0))) 1

abbrev pub s1_fuse : List ℕ → ℕ → ℕ
s1_fuse kinds k = pick (clocked kinds k) 0 1

abbrev pub switch_fuse : List ℕ → List ℕ → ℕ → ℕ
switch_fuse kinds s0s j = pick (eqb (j % 2) 0) (s0_fuse kinds s0s (j / 2)) (s1_fuse kinds (j / 2))

-- rows, then S0 and S1 from fuse 5,808, then 64 signature fuses, 0
unfoldable pub fuse_at : List (List ℕ) → List ℕ → List ℕ → List ℕ → ℕ → ℕ
fuse_at all counts kinds s0s i = pick (ltb i 5808) (row_fuse all counts kinds i) (pick (ltb i 5828) (switch_fuse kinds s0s (i - 5808)) 0)

unfoldable pub map_of : List (List ℕ) → List ℕ → List ℕ → List ℕ → List ℕ
map_of all counts kinds s0s = listed (fuse_at all counts kinds s0s) 5892

-- the map so far: the fuses below i are those of f
pub record Begun (f : ℕ → ℕ) (m : List ℕ) (i : ℕ) : Type 0 where
  pub size : length m ≡ 5892
  pub says : (j : ℕ) → j < i → get_or m j 0 ≡ f j

-- row r has become fs, and the fuses before it are as they were
pub record Written (m₀ m : List ℕ) (r : ℕ) (fs : List ℕ) : Type 0 where
  pub size : length m ≡ 5892
  pub here : (c : ℕ) → c < 44 → get_or m (r * 44 + c) 0 ≡ get_or fs c 0
  pub rest : (j : ℕ) → j < r * 44 → get_or m j 0 ≡ get_or m₀ j 0
