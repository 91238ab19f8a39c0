use Rattle.outmap.specs.Sixth.{fact_at}
use Rattle.basics.proofs.Folds.{Listing}
use Rattle.outmap.proofs.write_facts.Given as goal

abbrev pub invariant-loop-j : goal.invariant-loop-j
invariant-loop-j l = Listing (fact_at l.cells.masks l.cells.counts) 20 l.facts l.j
