-- Settings of variables in place of signals of column pairs (document 01, "From equation to rows": the order of rows).
-- Twenty-two variables stand for the twenty-two column pairs: variable i is the complement of the signal of pair 21 - i, so the last pair comes first.
-- With this choice products that rise as numbers are rows that rise at the first fuse that differs.
-- Assumes nothing.
use Rattle.std.specs.Prelude.{Bool, not, List, [], ◌∷◌, ℕ}
use Rattle.basics.specs.Choice.{on}

-- the setting behind s of the pairs that are left, in their order: each next pair's variable stands before those of the pairs before it
unfoldable pub setting_from : List Bool → List ℕ → List Bool
setting_from s [] = s
setting_from s (x ∷ sig) = setting_from (not (on x) ∷ s) sig

-- the setting of the signals of all pairs
unfoldable pub setting_of : List ℕ → List Bool
setting_of sig = setting_from [] sig
