use mathlib.Core.Bool.{not}
use lib.ListN.{length}
use Rattle.basics.specs.Choice.{bit}
use Rattle.basics.proofs.Folds.{Listing}
use Rattle.engine.specs.Table.{holds}
use Rattle.fit.proofs.turn.Given as goal

-- Assumes nothing.
abbrev pub invariant-loop-i : goal.invariant-loop-i
invariant-loop-i l = Listing (λ j. bit (not (holds l.f j))) (length l.f) l.g l.i
