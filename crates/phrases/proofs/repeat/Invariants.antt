use mathlib.Core.Path.{◌≡◌}
use Prim.Native.Nat.{◌-◌}
use lib.ListN.{length}
use Rattle.phrases.specs.Turns.{list_of}
use Rattle.phrases.proofs.repeat.Given as goal

abbrev pub invariant-loop-turn : goal.invariant-loop-turn
invariant-loop-turn g l = goal.F-IsAlwaysCallable g l.turn × (l.turn ≡ l.initial.turn) × (list_of g.list l.at.at ≡ list_of g.list l.initial.at.at)

abbrev pub decreases-loop-turn : goal.decreases-loop-turn
decreases-loop-turn g l = length g.list.text - l.at.at
