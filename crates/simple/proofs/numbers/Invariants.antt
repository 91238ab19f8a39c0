use mathlib.Core.Path.{◌≡◌}
use Prim.Native.Nat.{◌-◌}
use lib.ListN.{length}
use Rattle.integers.specs.Integers.{num}
use Rattle.simple.proofs.Laws.{rest}
use Rattle.simple.proofs.numbers.Given as goal

abbrev pub invariant-loop-past : goal.invariant-loop-past
invariant-loop-past l =
    rest l.scope.text.now l.scope.names.now l.depth l.on l.first (num l.read.value) l.read.next.at (l.room, l.count)
    ≡ rest l.scope.text.now l.scope.names.now l.depth l.on l.first (num l.initial.read.value) l.initial.read.next.at (l.initial.room, l.initial.count)

abbrev pub decreases-loop-past : goal.decreases-loop-past
decreases-loop-past l = length l.scope.text.now - l.read.next.at
