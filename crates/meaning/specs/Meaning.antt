-- What the elements of a module mean on a setting of its pins (document 01, "The language we take": a combinational name means its equation;
-- what remains speaks of IN pins and registered OUT pins). A setting gives each pin its value: that of a registered OUT is what its pin shows.
-- Assumes nothing.
use Rattle.std.specs.Prelude.{◌≡◌, Bool, false, ◌&&◌, ℕ, zero, suc}
use Rattle.basics.specs.Choice.{pick, xor}
use Rattle.trees.specs.Machine.{value_of}
use Rattle.trees.specs.Layout.{Elements}
use Rattle.reach.specs.Uses.{inverts, replaced, remains}

-- the value of an element that is not replaced
abbrev pub known : Elements → (ℕ → Bool) → ℕ → Bool
known e s i = remains e i && s (e.pin i)

-- v gives each element its value where the pins have the values s: the unknowns of as many equations. Where no element meets itself there is
-- exactly one such v, `meaning e s` (laws `unique`, `exists`)
pub record Solves (e : Elements) (s v : ℕ → Bool) : Type 0 where
  pub says : (i : ℕ) → v i ≡ pick (replaced e i) (value_of v false (e.nodes i)) (known e s i)

-- the value with names replaced d deep
unfoldable pub value : Elements → (ℕ → Bool) → ℕ → ℕ → Bool
value e s zero i = known e s i
value e s (suc d) i = pick (replaced e i) (value_of (value e s d) false (e.nodes i)) (known e s i)

-- 65 deep is deep enough for 64 elements
abbrev pub meaning : Elements → (ℕ → Bool) → ℕ → Bool
meaning e s = value e s 65

-- what the pin of OUT o shows: without register, its equation; with one, what it shows after the next clock. A register that keeps its value
-- keeps Q, which is the inverse of its pin for ~REG (decisions 28, 29)
unfoldable pub shows_next : Elements → ℕ → (ℕ → Bool) → Bool
shows_next e o s = value_of (meaning e s) (xor (inverts (e.nodes o)) (s (e.pin o))) (e.nodes o)

-- the equation's value without register, and what Q takes next with one: ~REG shows the inverse of Q
abbrev pub takes_next : Elements → ℕ → (ℕ → Bool) → Bool
takes_next e o s = xor (inverts (e.nodes o)) (shows_next e o s)
