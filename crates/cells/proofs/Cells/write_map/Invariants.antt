use Rattle.basics.proofs.Folds.{Listing}
use Rattle.cells.specs.Kind.{numbers}
use Rattle.cells.proofs.Writing.{last_fuse}
use Rattle.cells.proofs.Cells.write_map.Given as goal

abbrev pub invariant-loop-i : goal.invariant-loop-i
invariant-loop-i l = Listing (last_fuse (numbers l.self.kinds) l.self.s0s l.initial.map) 5892 l.map l.i
