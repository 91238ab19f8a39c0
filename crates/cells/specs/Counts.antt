-- What a fit line counts (document 01, "The fuse file", on the fit program; decision 31), by the rows that were emitted.
-- Assumes nothing.
use Rattle.std.specs.Prelude.{not, List, [], ◌∷◌, ℕ, zero, suc, ◌+◌, ◌%◌}
use Rattle.std.specs.Int.Count.{ones}
use Rattle.basics.specs.Choice.{pick}
use Rattle.basics.specs.Below.{tally}
use Rattle.device.specs.Device.{enable_of, products_of}
use Rattle.rows.specs.Row.{joins}
use Rattle.gal.specs.Map.{fuse, row_is}

-- product rows of cell k that are not all 0
unfoldable pub products_in : List ℕ → ℕ → ℕ
products_in m k = tally (λ i. not (row_is m (enable_of k + 1 + i) 0)) (products_of k)

unfoldable pub sum_below : (ℕ → ℕ) → ℕ → ℕ
sum_below f zero = 0
sum_below f (suc n) = f n + sum_below f n

-- fuses that join in these rows together; the row of a product without factors is open and joins none
unfoldable pub factors_in : List ℕ → ℕ → ℕ
factors_in m k = sum_below (λ i. pick (row_is m (enable_of k + 1 + i) 0) 0 (tally (λ c. joins (fuse m (enable_of k + 1 + i) c)) 44)) (products_of k)

-- the same from masks: ones among the variables picked, the low half of a mask, summed over a cell's products
unfoldable pub picks : List ℕ → ℕ
picks [] = 0
picks (m ∷ ms) = ones (m % 4294967296) + picks ms
