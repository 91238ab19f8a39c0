use Rattle.parts.specs.Parts.{declared_from}
use Prim.Native.Nat.{◌+◌, ◌-◌}
use lib.ListN.{length}
use mathlib.Core.Path.{◌≡◌}
use Rattle.parts.proofs.declare_from.Given as goal

abbrev pub invariant-loop-i : goal.invariant-loop-i
invariant-loop-i l = (length l.room ≡ length l.initial.room) × (declared_from l.room l.class l.place (l.k + l.i) (l.n - l.i) ≡ declared_from l.initial.room l.class l.place l.k l.n)
