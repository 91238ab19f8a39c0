use Prim.Native.Nat.{ℕ}
use lib.ListN.{length, get_or}
use Rattle.gallines.proofs.Writing.{Writing}
use Rattle.gallines.specs.Lines.{digit}
use Rattle.gallines.proofs.map_in.Given as goal

abbrev pub invariant-loop-b : goal.invariant-loop-b
invariant-loop-b l = Writing (λ (j : ℕ). digit (get_or l.initial.line j 0)) (length l.initial.line) l.initial.line l.line l.b-index
