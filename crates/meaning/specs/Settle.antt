-- The values of all elements in memory, each found once, those that it uses before it. Assumes nothing.
use Rattle.std.specs.Prelude.{◌≡◌, Bool, false, ◌&&◌, List, [], ◌∷◌, ◌++◌, ℕ, zero, suc, ◌/◌, ◌%◌, ◌≤◌, eqb, ltb, length, get_or, set, take}
use Rattle.basics.specs.Choice.{pick, bit}
use Rattle.basics.specs.Below.{tally}
use Rattle.trees.specs.Machine.{value_of, env_of}
use Rattle.trees.specs.Layout.{Elements}
use Rattle.reach.specs.Table.{cell}
use Rattle.reach.specs.Uses.{replaced}

-- element i is given its value
abbrev pub settled1 : Elements → List ℕ → ℕ → List ℕ
settled1 e v i = pick (ltb i 64) (set v i (bit (value_of (env_of v) false (e.nodes i)))) v

unfoldable pub settle_all : Elements → List ℕ → List ℕ → List ℕ
settle_all e v [] = v
settle_all e v (i ∷ is) = settle_all e (settled1 e v i) is

-- how many elements element i meets, by a table of what meets what
abbrev pub rank_in : List ℕ → ℕ → ℕ
rank_in m i = tally (cell m i) 64

-- the elements that are replaced, by rank, and by number where ranks are equal: element i has its turn at rank i * 64 + i
abbrev pub its_turn : Elements → List ℕ → ℕ → Bool
its_turn e ranks p = eqb (get_or ranks (p % 64) 0) (p / 64) && replaced e (p % 64)

unfoldable pub order_of : Elements → List ℕ → ℕ → List ℕ
order_of e ranks zero = []
order_of e ranks (suc p) = pick (its_turn e ranks p) (order_of e ranks p ++ (p % 64 ∷ [])) (order_of e ranks p)

-- the first n of a list are the elements in order
pub record Ordered (e : Elements) (ranks out : List ℕ) (n : ℕ) : Type 0 where
  pub size : length out ≡ 4160
  pub fits : n ≤ 4160
  pub says : take n out ≡ order_of e ranks 4160
