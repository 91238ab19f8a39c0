-- The cycle of calls of the readers of expressions. Each measure is what is left of the text, which falls wherever a word was
-- taken, and a rank for the calls at one place.
-- Assumes nothing.
use mathlib.Core.Path.{◌≡◌}
use Prim.Native.Nat.{◌+◌, ◌-◌, ◌*◌, ◌≤◌}
use lib.ListN.{length}
use Rattle.integers.specs.Integers.{num}
use Rattle.judging.specs.Judging.{sort_of}
use Rattle.readers.specs.Levels.{chain_of}
use Rattle.readers.proofs.Links.{operand_rank, level_rank}
use Rattle.readers.proofs.+reading.Given as goal

abbrev pub decreases-factor : goal.decreases-factor
decreases-factor l = (length l.scope.text.now - l.from.at) * 16

abbrev pub decreases-index : goal.decreases-index
decreases-index l = (length l.scope.text.now - l.end.at) * 16

abbrev pub decreases-mux : goal.decreases-mux
decreases-mux l = (length l.scope.text.now - l.from.at) * 16

abbrev pub decreases-reg : goal.decreases-reg
decreases-reg l = (length l.scope.text.now - l.from.at) * 16

abbrev pub decreases-turn : goal.decreases-turn
decreases-turn l = (length l.scope.text.now - l.left.next.at) * 16

abbrev pub decreases-chain : goal.decreases-chain
decreases-chain l = (length l.scope.text.now - l.first.next.at) * 16 + 1

abbrev pub decreases-term : goal.decreases-term
decreases-term l = (length l.scope.text.now - l.from.at) * 16 + 3

abbrev pub decreases-operand : goal.decreases-operand
decreases-operand l = (length l.scope.text.now - l.from.at) * 16 + operand_rank l.level

abbrev pub decreases-operands : goal.decreases-operands
decreases-operands l = (length l.scope.text.now - l.from.at) * 16 + level_rank l.level

abbrev pub decreases-expression : goal.decreases-expression
decreases-expression l = (length l.scope.text.now - l.from.at) * 16 + 6

abbrev pub decreases-invert : goal.decreases-invert
decreases-invert l = (length l.scope.text.now - l.from.at) * 16 + 2

abbrev pub decreases-inner : goal.decreases-inner
decreases-inner l = (length l.scope.text.now - l.from.at) * 16 + 7

abbrev pub decreases-part : goal.decreases-part
decreases-part l = (length l.scope.text.now - l.from.at) * 16 + 8

abbrev pub decreases-bracket : goal.decreases-bracket
decreases-bracket l = (length l.scope.text.now - l.from.at) * 16 + 9

abbrev pub invariant-chain-loop-read : goal.invariant-chain-loop-read
invariant-chain-loop-read l =
    record {
      nearer : length l.scope.text.now - l.left.next.at ≤ length l.scope.text.now - l.initial.left.next.at;
      says : chain_of l.scope.text.now l.scope.names.now l.depth l.level (sort_of l.sort) (num l.left.value) l.left.next.at (l.room, l.count)
          ≡ chain_of l.scope.text.now l.scope.names.now l.depth l.level (sort_of l.sort) (num l.initial.left.value) l.initial.left.next.at (l.initial.room, l.initial.count);
    }

abbrev pub decreases-chain-loop-read : goal.decreases-chain-loop-read
decreases-chain-loop-read l = length l.scope.text.now - l.left.next.at
