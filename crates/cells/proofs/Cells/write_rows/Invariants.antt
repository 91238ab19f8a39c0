use Rattle.cells.specs.Kind.{numbers}
use Rattle.cells.proofs.Writing.{Rows}
use Rattle.cells.proofs.Cells.write_rows.Given as goal

abbrev pub invariant-loop-r : goal.invariant-loop-r
invariant-loop-r l = Rows l.self.masks l.self.counts (numbers l.self.kinds) l.map l.r
