-- A line of 0 and 1 as the programs take it. Assumes nothing.
use Rattle.std.specs.Prelude.{List, [], ◌∷◌, ◌++◌, ℕ, ◌-◌, length, get_or, eqb}
use Rattle.basics.specs.Choice.{pick}

-- how long a text is without one LF (10) at its end, and without a CR (13) just before that. (Where it is a byte long, `length s - 2`
-- is 0, and that byte is the LF.)
unfoldable pub line_length : List ℕ → ℕ
line_length s =
    pick (eqb (get_or s (length s - 1) 0) 10)
    (pick (eqb (get_or s (length s - 2) 0) 13) (length s - 2) (length s - 1))
    (length s)

-- the digits 0 and 1 as fuses, and 2, which is no fuse, for any other byte
unfoldable pub fuses_in : List ℕ → List ℕ
fuses_in [] = []
fuses_in (x ∷ xs) = pick (eqb x 48) 0 (pick (eqb x 49) 1 2) ∷ fuses_in xs

-- fuses as the digits 0 and 1
unfoldable pub shown : List ℕ → List ℕ
shown [] = []
shown (x ∷ xs) = pick (eqb x 1) 49 48 ∷ shown xs

-- and as a line
unfoldable pub shown_line : List ℕ → List ℕ
shown_line xs = shown xs ++ (10 ∷ [])
