use Rattle.reach.specs.Table.{Matrix, cell}
use Rattle.reach.specs.Reach.{via}
use Rattle.reach.proofs.close.Given as goal

abbrev pub invariant-loop-k : goal.invariant-loop-k
invariant-loop-k l = Matrix l.m (via (cell l.initial.m) l.k)
