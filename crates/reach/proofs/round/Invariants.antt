use Rattle.reach.proofs.Warshall.{Rounding}
use Rattle.reach.proofs.round.Given as goal

abbrev pub invariant-loop-p : goal.invariant-loop-p
invariant-loop-p l = Rounding l.initial.m l.m l.k l.p
