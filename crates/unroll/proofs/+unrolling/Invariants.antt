-- The cycle of calls that carries out statements. Each measure is six times the levels left, and a rank.
-- Assumes nothing.
use mathlib.Core.Path.{◌≡◌}
use Prim.Native.Nat.{◌+◌, ◌-◌, ◌*◌}
use lib.ListN.{length}
use Rattle.integers.specs.Integers.{num, rounds_of}
use Rattle.unroll.specs.Loops.{turns_of, statements_of}
use Rattle.unroll.proofs.Laws.{rest}
use Rattle.unroll.proofs.+unrolling.Given as goal

abbrev pub decreases-round : goal.decreases-round
decreases-round l = l.depth * 6 + 3

abbrev pub decreases-run_for : goal.decreases-run_for
decreases-run_for l = l.depth * 6

abbrev pub decreases-run_loop : goal.decreases-run_loop
decreases-run_loop l = l.depth * 6 + 5

abbrev pub decreases-statement_turn : goal.decreases-statement_turn
decreases-statement_turn l = l.depth * 6 + 1

abbrev pub decreases-statements : goal.decreases-statements
decreases-statements l = l.depth * 6 + 2

abbrev pub decreases-turns : goal.decreases-turns
decreases-turns l = l.depth * 6 + 4

abbrev pub invariant-statements-loop-read : goal.invariant-statements-loop-read
invariant-statements-loop-read l =
    rest l.scope.text.now l.scope.names.now l.depth l.at.at (l.parts, l.count)
    ≡ rest l.scope.text.now l.scope.names.now l.depth l.initial.at.at (l.initial.parts, l.initial.count)

abbrev pub decreases-statements-loop-read : goal.decreases-statements-loop-read
decreases-statements-loop-read l = length l.scope.text.now - l.at.at

abbrev pub invariant-turns-loop : goal.invariant-turns-loop
invariant-turns-loop l =
    turns_of l.scope.text.now l.scope.names.now (statements_of l.scope.text.now l.depth) l.place l.header.start l.header.end l.header.next.at l.over.at (l.times - l.counter) (num l.value) (l.room, l.count)
    ≡ turns_of l.scope.text.now l.scope.names.now (statements_of l.scope.text.now l.depth) l.place l.header.start l.header.end l.header.next.at l.over.at (rounds_of (num l.header.low) (num l.header.high)) (num l.header.low) (l.initial.room, l.initial.count)
