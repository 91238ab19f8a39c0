use Prim.Native.Nat.{◌-◌}
use Rattle.engine.specs.Table.{holds}
use Rattle.engine.proofs.Place.{Place}
use Rattle.engine.proofs.implicant.Given as goal

-- Assumes nothing.
abbrev pub invariant-loop : goal.invariant-loop
invariant-loop l = Place (holds l.f) l.n l.p (l.n - l.counter) l.q l.pow l.s l.w
