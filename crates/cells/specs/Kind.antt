-- Kinds of cells by their numbers. Assumes nothing.
use Rattle.std.specs.Prelude.{List, [], ◌∷◌, ℕ, eqb, get_or, map}
use Rattle.basics.specs.Choice.{pick}
use Rattle.cells.specs.declared.Kind.{Kind}
use Rattle.cells.specs.declared.Kind.TheVariants.{Unused, Combinational, Registered}

abbrev pub kind_number : Kind → ℕ
kind_number Unused = 0
kind_number Combinational = 1
kind_number Registered = 2

abbrev pub numbers : List Kind → List ℕ
numbers kinds = map kind_number kinds

-- the kind that a number stands for: `map_of` asks whether it is 0 and whether it is 2
unfoldable pub kind_of : ℕ → Kind
kind_of n = pick (eqb n 0) Unused (pick (eqb n 2) Registered Combinational)

abbrev pub kinds_of : List ℕ → List Kind
kinds_of ns =
    kind_of (get_or ns 0 0) ∷ kind_of (get_or ns 1 0) ∷ kind_of (get_or ns 2 0) ∷ kind_of (get_or ns 3 0) ∷ kind_of (get_or ns 4 0)
    ∷ kind_of (get_or ns 5 0) ∷ kind_of (get_or ns 6 0) ∷ kind_of (get_or ns 7 0) ∷ kind_of (get_or ns 8 0) ∷ kind_of (get_or ns 9 0) ∷ []
