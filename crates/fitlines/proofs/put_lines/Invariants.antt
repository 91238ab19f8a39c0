use Prim.Native.Nat.{ℕ, ◌+◌}
use lib.ListN.{get_or}
use Rattle.fusetext.specs.Put.{Wrote}
use Rattle.fitlines.specs.Lines.{lines_of}
use Rattle.fitlines.proofs.put_lines.Given as goal

abbrev pub invariant-loop-n : goal.invariant-loop-n
invariant-loop-n l = Wrote l.initial.out 0 (lines_of l.map (λ (k : ℕ). get_or l.facts k 0) (λ (k : ℕ). get_or l.facts (10 + k) 0) l.n) l.out l.at
