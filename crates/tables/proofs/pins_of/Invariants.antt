use Rattle.tables.proofs.Setting.{Placing}
use Rattle.tables.proofs.pins_of.Given as goal

abbrev pub invariant-loop-var : goal.invariant-loop-var
invariant-loop-var l = Placing l.flips l.vars l.k l.pins l.var-index l.left
