use Rattle.basics.proofs.Folds.{None}
use Rattle.reach.specs.Table.{cell}
use Rattle.reach.proofs.names_any.Given as goal

abbrev pub invariant-loop-j : goal.invariant-loop-j
invariant-loop-j l = None (cell l.m l.k) 64 l.j
