use mathlib.Core.Path.{◌≡◌}
use Rattle.trees.specs.Layout.{elements_of}
use Rattle.outmap.proofs.Turns.{Turned}
use Rattle.outmap.proofs.fit_all.Given as goal

abbrev pub invariant-loop-i : goal.invariant-loop-i
invariant-loop-i l = (l.room ≡ l.initial.room) × Turned (elements_of l.parts) l.cells l.i
