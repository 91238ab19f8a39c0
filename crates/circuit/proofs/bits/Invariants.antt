use Rattle.circuit.proofs.Bytes.{Filled}
use Rattle.circuit.proofs.bits.Given as goal

abbrev pub invariant-loop-i : goal.invariant-loop-i
invariant-loop-i g l = Filled (goal.F-post g l.test) g.row.N l.bits l.i
