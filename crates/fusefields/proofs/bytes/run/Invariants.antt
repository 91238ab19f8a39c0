use mathlib.Core.Path.{◌≡◌}
use mathlib.Core.Bool.{Bool}
use Prim.Native.Nat.{ℕ, ◌+◌}
use lib.ListN.{length, drop}
use Rattle.fusefields.specs.Bytes.{front}
use Rattle.fusetext.specs.Put.{Computes}
use Rattle.fusefields.proofs.bytes.run.Given as goal

abbrev pub invariant-loop-j : goal.invariant-loop-j
invariant-loop-j g l = (p : ℕ → Bool) → Computes (goal.F-post g l.test) p → l.j + length (front p (drop l.j l.s)) ≡ length (front p l.s)
