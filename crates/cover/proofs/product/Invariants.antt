use Prim.Native.Nat.{◌-◌}
use Rattle.cover.proofs.Masking.{Masks}
use Rattle.cover.proofs.product.Given as goal

-- Assumes nothing.
abbrev pub invariant-loop : goal.invariant-loop
invariant-loop l = Masks l.named l.p (22 - l.counter) l.m l.q l.w l.a
