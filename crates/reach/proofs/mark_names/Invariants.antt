use Rattle.reach.proofs.Marking.{Naming}
use Rattle.reach.proofs.mark_names.Given as goal

abbrev pub invariant-loop-c : goal.invariant-loop-c
invariant-loop-c l = Naming l.initial.m l.i l.nodes l.m l.c-index
