use mathlib.Core.Path.{◌≡◌}
use Prim.Native.Nat.{◌-◌, ◌≤◌}
use lib.ListN.{length, drop}
use Rattle.fusefields.specs.Fields.{unseen}
use Rattle.fuseread.specs.Walk.{walk, pieces}
use Rattle.fuseread.proofs.fields.Given as goal

abbrev pub invariant-loop-piece : goal.invariant-loop-piece
invariant-loop-piece l = (walk l.seen l.cells l.at (pieces (drop l.at l.s)) ≡ walk unseen l.initial.cells l.start (pieces (drop l.start l.s))) × (l.at ≤ length l.s) × (length l.cells ≡ 5892)

abbrev pub decreases-loop-piece : goal.decreases-loop-piece
decreases-loop-piece l = length l.s - l.at
