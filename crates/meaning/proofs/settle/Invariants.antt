use Rattle.meaning.proofs.Ordering.{Following}
use Rattle.trees.specs.Layout.{elements_of}
use Rattle.meaning.proofs.settle.Given as goal

abbrev pub invariant-loop-i : goal.invariant-loop-i
invariant-loop-i l = Following (elements_of l.parts) l.initial.vals l.order l.vals l.i-index
