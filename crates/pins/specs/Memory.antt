-- The names of an equation and the variables of its table in memory. Assumes nothing.
use Rattle.std.specs.Prelude.{◌≡◌, Bool, ◌&&◌, ◌||◌, List, ℕ, ◌≤◌, length, take}
use Rattle.basics.specs.Below.{any_below}
use Rattle.trees.specs.Layout.{Elements}
use Rattle.reach.specs.Table.{cell}
use Rattle.pins.specs.Variables.{variables_of, count_of, mask_of}

-- element j is written in equation o, or met from one that is: d has a row of names for each equation, m says what meets what
unfoldable pub named_in : List ℕ → List ℕ → ℕ → ℕ → Bool
named_in d m o j = cell d o j || any_below (λ k. cell d o k && cell m k j) 64

-- the first n of a list are the pins of the variables
pub record Variables (e : Elements) (rows : Bool) (o : ℕ) (vars : List ℕ) (n mask : ℕ) : Type 0 where
  pub size : length vars ≡ 22
  pub fits : n ≤ 22
  pub pins : take n vars ≡ variables_of e rows o
  pub count : n ≡ count_of e rows o
  pub which : mask ≡ mask_of e rows o
