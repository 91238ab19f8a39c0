use Rattle.pins.proofs.Choosing.{Choosing}
use Rattle.trees.specs.Layout.{elements_of}
use Rattle.pins.proofs.choose.Given as goal

abbrev pub invariant-loop-i : goal.invariant-loop-i
invariant-loop-i l = Choosing (elements_of l.parts) l.rows l.o l.vars l.count l.mask l.i
