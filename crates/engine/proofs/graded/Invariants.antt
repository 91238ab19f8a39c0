use Prim.Native.Nat.{◌-◌}
use Rattle.engine.specs.Steps.{live}
use Rattle.engine.proofs.Dropping.{Rest}
use Rattle.engine.proofs.graded.Given as goal

-- Assumes nothing.
abbrev pub invariant-loop : goal.invariant-loop
invariant-loop l = Rest (live l.t) l.n l.p (l.n - l.counter) l.q l.pow
