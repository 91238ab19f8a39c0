-- A relation of elements as a table of 64 rows of 64 bytes. Assumes nothing.
use Rattle.std.specs.Prelude.{◌≡◌, Bool, ◌&&◌, ◌||◌, List, [], ◌∷◌, ℕ, ◌+◌, ◌-◌, ◌*◌, ◌/◌, ◌%◌, ◌<◌, ltb, length, get_or, set}
use Rattle.basics.specs.Choice.{pick, bit, on}

-- what a table says of row i, column j
abbrev pub cell : List ℕ → ℕ → ℕ → Bool
cell t i j = on (get_or t (i * 64 + j) 0)

-- a table says v
pub record Matrix (t : List ℕ) (v : ℕ → ℕ → Bool) : Type 0 where
  pub size : length t ≡ 4096
  pub says : (p : ℕ) → p < 4096 → get_or t p 0 ≡ bit (v (p / 64) (p % 64))

-- one round: by way of k too
abbrev pub through : ℕ → (ℕ → ℕ → Bool) → ℕ → ℕ → Bool
through k v i j = v i j || (v i k && v k j)

-- row i of a table with a 1 at the element that a node names, and at those that nodes name
abbrev pub mark1 : List ℕ → ℕ → ℕ → List ℕ
mark1 m i c = pick (ltb c 9) m (pick (ltb c 73) (set m (i * 64 + (c - 9)) 1) m)

unfoldable pub marked : List ℕ → ℕ → List ℕ → List ℕ
marked m i [] = m
marked m i (c ∷ ns) = marked (mark1 m i c) i ns
