use mathlib.Core.Path.{◌≡◌}
use Prim.Native.Nat.{◌-◌}
use lib.ListN.{length}
use Rattle.unroll.specs.Loops.{passed_of}
use Rattle.unroll.proofs.Laws.{passing}
use Rattle.unroll.proofs.pass_over.Given as goal

abbrev pub invariant-loop-open : goal.invariant-loop-open
invariant-loop-open l = passing l.text l.level l.at.at ≡ passed_of l.text l.initial.at.at

abbrev pub decreases-loop-open : goal.decreases-loop-open
decreases-loop-open l = length l.text - l.at.at
