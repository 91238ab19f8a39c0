use Rattle.engine.specs.Steps.{Room, Graded}
use Rattle.engine.proofs.mark.Given as goal

-- Assumes nothing.
abbrev pub invariant-loop-p : goal.invariant-loop-p
invariant-loop-p l = record { room : Room l.t l.n; graded : Graded l.initial.t l.t l.n l.p }
