-- Which element of a module meets which (document 01, refusal 9 and refusal 11: names replaced). Assumes nothing.
use Rattle.std.specs.Prelude.{Bool, ℕ, zero, suc}
use Rattle.basics.specs.Choice.{pick}
use Rattle.trees.specs.Layout.{Elements}
use Rattle.reach.specs.Uses.{replaced, uses}
use Rattle.reach.specs.Reach.{via}

-- above all numbers below n that pass
unfoldable pub top_below : (ℕ → Bool) → ℕ → ℕ
top_below f zero = 0
top_below f (suc n) = pick (f n) (suc n) (top_below f n)

-- element i meets element j: by way of elements that are replaced, all of which stand below the bound
unfoldable pub meets : Elements → ℕ → ℕ → Bool
meets e i j = via (uses e) (top_below (replaced e) 64) i j
