-- What the fit program prints of a map (document 01, "The fuse file", on the fit program; decision 31). Cells are counted from 0, that of pin 23
-- first. Assumes nothing.
use Rattle.std.specs.Prelude.{List, [], ◌++◌, ℕ, zero, suc, ◌+◌, ◌-◌, get_or}
use Rattle.basics.specs.Choice.{pick}
use Rattle.basics.specs.Text.{text}
use Rattle.lines.specs.Decimal.{decimal}
use Rattle.gal.specs.Map.{plain_out, registered, enabled}
use Rattle.cells.specs.Counts.{products_in, factors_in}

-- C or R, and H or L (S0 is 1 or 0), each with a space behind it
unfoldable pub kind_of : List ℕ → ℕ → List ℕ
kind_of m k = pick (registered m k) (text "R ") (text "C ")

unfoldable pub level_of : List ℕ → ℕ → List ℕ
level_of m k = pick (plain_out m k) (text "H ") (text "L ")

-- the line of cell k: its pin, its kind and its level; its products, and the factors of all of them together
unfoldable pub head_of : List ℕ → ℕ → List ℕ
head_of m k = decimal (23 - k) ++ text " " ++ kind_of m k ++ level_of m k

unfoldable pub line_of : List ℕ → ℕ → ℕ → ℕ → List ℕ
line_of m k products factors = head_of m k ++ decimal products ++ text " " ++ decimal factors ++ text "\n"

-- a line for a cell that is enabled, none for another
unfoldable pub line_if : List ℕ → ℕ → ℕ → ℕ → List ℕ
line_if m k products factors = pick (enabled m k) (line_of m k products factors) []

-- the lines of the first n cells from pin 14 on, rising, with the products and factors of each
unfoldable pub lines_of : List ℕ → (ℕ → ℕ) → (ℕ → ℕ) → ℕ → List ℕ
lines_of m products factors zero = []
lines_of m products factors (suc n) = lines_of m products factors n ++ line_if m (9 - n) (products (9 - n)) (factors (9 - n))

-- the lines of a map: products and factors are counted in its rows
unfoldable pub fit_lines : List ℕ → List ℕ
fit_lines m = lines_of m (products_in m) (factors_in m) 10

-- the same with the products of the ten cells, and then their factors, given
unfoldable pub lines_by : List ℕ → List ℕ → List ℕ
lines_by m facts = lines_of m (λ k. get_or facts k 0) (λ k. get_or facts (10 + k) 0) 10
