use Rattle.meaning.proofs.Ordering.{Ordering}
use Rattle.trees.specs.Layout.{elements_of}
use Rattle.meaning.proofs.order.Given as goal

abbrev pub invariant-loop-p : goal.invariant-loop-p
invariant-loop-p l = Ordering (elements_of l.parts) l.ranks l.out l.n l.p
