use Rattle.parts.specs.Parts.{miscounted_from}
use Prim.Native.Nat.{◌+◌, ◌-◌}
use lib.ListN.{length}
use mathlib.Core.Path.{◌≡◌}
use Rattle.parts.proofs.miscount.Given as goal

abbrev pub invariant-loop-i : goal.invariant-loop-i
invariant-loop-i l = (length l.room ≡ length l.initial.room) × (miscounted_from l.room (l.k + l.i) (l.n - l.i) ≡ miscounted_from l.initial.room l.k l.n)
