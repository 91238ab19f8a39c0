use Rattle.cover.proofs.Collecting.{Collecting}
use Rattle.cover.proofs.collect.Given as goal

-- Assumes nothing.
abbrev pub invariant-loop-p : goal.invariant-loop-p
invariant-loop-p l = Collecting l.t l.named l.masks l.n l.p
