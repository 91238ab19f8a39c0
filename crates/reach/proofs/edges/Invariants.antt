use Rattle.reach.proofs.Marking.{Edging}
use Rattle.trees.specs.Layout.{elements_of}
use Rattle.reach.proofs.edges.Given as goal

abbrev pub invariant-loop-i : goal.invariant-loop-i
invariant-loop-i l = Edging (elements_of l.parts) l.m l.i
