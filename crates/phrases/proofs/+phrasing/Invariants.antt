-- The cycle of calls that checks statements. Each measure is four times the levels left, and a rank.
-- Assumes nothing.
use mathlib.Core.Path.{◌≡◌}
use Prim.Native.Nat.{◌+◌, ◌-◌, ◌*◌}
use lib.ListN.{length}
use Rattle.grammar.specs.Forms.{checked_statements}
use Rattle.phrases.proofs.+phrasing.Given as goal

abbrev pub decreases-for_loop : goal.decreases-for_loop
decreases-for_loop l = l.depth * 4

abbrev pub decreases-one_statement : goal.decreases-one_statement
decreases-one_statement l = l.depth * 4 + 1

abbrev pub decreases-statement_turn : goal.decreases-statement_turn
decreases-statement_turn l = l.depth * 4 + 2

abbrev pub decreases-statement_list : goal.decreases-statement_list
decreases-statement_list l = l.depth * 4 + 3

abbrev pub invariant-statement_list-loop-next : goal.invariant-statement_list-loop-next
invariant-statement_list-loop-next l = checked_statements l.text l.depth l.at.at ≡ checked_statements l.text l.depth l.initial.at.at

abbrev pub decreases-statement_list-loop-next : goal.decreases-statement_list-loop-next
decreases-statement_list-loop-next l = length l.text - l.at.at
