use Rattle.verbs.proofs.Asking.{Upto}
use Rattle.verbs.proofs.put_answers.Given as goal

abbrev pub invariant-loop-i : goal.invariant-loop-i
invariant-loop-i l = Upto l.map l.s l.initial.out l.out l.start l.i l.o
