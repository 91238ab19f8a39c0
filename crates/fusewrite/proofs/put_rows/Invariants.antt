use Rattle.fusetext.specs.File.{rows}
use Rattle.fusetext.specs.Put.{Wrote}
use Rattle.fusewrite.proofs.put_rows.Given as goal

abbrev pub invariant-loop-r : goal.invariant-loop-r
invariant-loop-r l = Wrote l.initial.out l.at (rows l.r l.map) l.out l.o
