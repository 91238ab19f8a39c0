use Rattle.engine.specs.Table.{Sized}
use Rattle.engine.specs.Steps.{Filled}
use Rattle.engine.proofs.fill.Given as goal

-- Assumes nothing.
abbrev pub invariant-loop-p : goal.invariant-loop-p
invariant-loop-p l = record { sized : Sized l.f l.t l.n; filled : Filled l.f l.t l.n l.p }
