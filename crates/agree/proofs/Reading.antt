-- Elements in memory are 64 at most. Assumes nothing.
use mathlib.Core.Path.{◌≡◌}
use mathlib.Core.List.{List}
use Prim.Native.Nat.{ℕ, ◌≤◌}
use borrow.Author.Tests.{le-ltb}
use Rattle.trees.specs.Layout.{class_of, elements_of}

pub few_read : (parts : List ℕ) (i : ℕ) → 64 ≤ i → (elements_of parts).class i ≡ 0
unfolding class_of
few_read parts i h = simp (le-ltb i 64 h)
