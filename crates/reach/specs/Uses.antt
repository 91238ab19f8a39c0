-- What an equation names, and which elements are replaced by their equations (document 01, "The language we take": a combinational name means
-- its equation; what remains are IN pins and registered OUT pins). Assumes nothing.
use Rattle.std.specs.Prelude.{Bool, true, false, not, ◌&&◌, ◌||◌, List, [], ◌∷◌, ℕ, ◌+◌, ◌-◌, eqb, ltb, length, get_or}
use Rattle.basics.specs.Choice.{pick}
use Rattle.trees.specs.Layout.{Elements}

abbrev pub is_reg : ℕ → Bool
is_reg c = eqb c 7 || eqb c 8

-- the k-th node from the end, 0 where there is none
unfoldable pub from_end : List ℕ → ℕ → ℕ
from_end ns k = pick (ltb k (length ns)) (get_or ns (length ns - 1 - k) 0) 0

-- the equation is ~REG
unfoldable pub inverts : List ℕ → Bool
inverts ns = pick (eqb (from_end ns 0) 2) (is_reg (from_end ns 1)) false

-- the equation is REG or ~REG
unfoldable pub registers : List ℕ → Bool
registers ns = pick (is_reg (from_end ns 0)) true (inverts ns)

-- it is so with a REG of two parts, which keeps its value
unfoldable pub keeps : List ℕ → Bool
keeps ns = pick (eqb (from_end ns 0) 8) true (pick (eqb (from_end ns 0) 2) (eqb (from_end ns 1) 8) false)

-- an equation's nodes name element j
unfoldable pub names : List ℕ → ℕ → Bool
names [] j = false
names (c ∷ ns) j = eqb c (9 + j) || names ns j

-- element i is replaced by its equation: a VAR, or an OUT without register
unfoldable pub replaced : Elements → ℕ → Bool
replaced e i = pick (eqb (e.class i) 3) true (pick (eqb (e.class i) 2) (not (registers (e.nodes i))) false)

-- element i remains: an IN, or an OUT with register
unfoldable pub remains : Elements → ℕ → Bool
remains e i = pick (eqb (e.class i) 1) true (pick (eqb (e.class i) 2) (registers (e.nodes i)) false)

-- the equation of element i names element j
unfoldable pub writes : Elements → ℕ → ℕ → Bool
writes e i j = ltb j 64 && names (e.nodes i) j

-- element i is replaced, and its equation names j; what a REG contains is left out, since an OUT with register is not replaced
unfoldable pub uses : Elements → ℕ → ℕ → Bool
uses e i j = replaced e i && writes e i j
