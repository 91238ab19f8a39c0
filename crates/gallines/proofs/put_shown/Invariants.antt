use lib.ListN.{length}
use Prim.Native.Nat.{◌≤◌}
use Rattle.gallines.proofs.Writing.{Writing}
use Rattle.gallines.specs.Lines.{shown_byte}
use Rattle.gallines.proofs.put_shown.Given as goal

abbrev pub invariant-loop-i : goal.invariant-loop-i
invariant-loop-i l = (61 ≤ length l.initial.out) × Writing (shown_byte l.shown l.values l.next) 61 l.initial.out l.out l.i
