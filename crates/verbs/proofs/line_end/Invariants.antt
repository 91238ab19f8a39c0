use mathlib.Core.Path.{◌≡◌}
use lib.ListN.{drop}
use Prim.Native.Nat.{◌+◌}
use Rattle.verbs.specs.Printed.{line_end}
use Rattle.verbs.proofs.line_end.Given as goal

abbrev pub invariant-loop-i : goal.invariant-loop-i
invariant-loop-i l = l.i + line_end (drop l.i l.s) ≡ line_end l.s
