-- Worked examples of reading an expression, as one theorem over a table: the text has its names in front, and the expression behind them. Document 01, 'The
-- language we take' and 'Marked examples'; decision 14. Assumes nothing.
use mathlib.Core.Path.{◌≡◌, refl}
use mathlib.Core.List.{List, [], ◌∷◌, map}
use Prim.Native.Nat.{ℕ}
use Prim.Native.String.{String}
use lib.IntN.{ℤ, pos}
use Rattle.basics.specs.Text.{text}
use Rattle.words.specs.Bytes.{is_blank, is_letter, is_digit, is_single, is_pair, turn_of}
use Rattle.words.specs.Words.{gap, end_of, prefixed, of_two, of_three, of_four, of_five, of_six, keyword_of, named as wordNamed, name_at, value_of, number_at, pair_kind, pair_at, logic_at, form_at, word_at, next_word}
use Rattle.integers.specs.Integers.{fitted, divided, left_over, powered, combined}
use Rattle.names.specs.Names.{spelling, same_bytes, same, number_of, find, entry, entries, looked_up}
use Rattle.trees.specs.Tree.{Tree, name, low, high, disj, differ, mux}
use Rattle.grammar.specs.Outcome.{Outcome, ok, no, Built, built, bad}
use Rattle.grammar.specs.Grammar.{index_sort, part_sort, closed, turn, chain, level, part, dotted, bracketed, pointed, named, mux_third, mux_second, muxed, kept, regged, inverted, factor, term, expression, nested}
use Rattle.grammar.specs.Trees.{parsed}
use Rattle.grammar.specs.Trees as syntax
use Rattle.judging.specs.Judging.{meaning_of, mark_of, literal_of, logic_of, plain_of, opened_of, element_of, operator_of}
use Rattle.judging.specs.Reading.{State, emitted, reads}
use Rattle.equations.specs.Signals.{equation}

-- a is element 3, v an array of 8 from element 8 on, N the number 7
abbrev pub names : List ℕ
names = 0 ∷ 1 ∷ 2 ∷ 3 ∷ 0 ∷ 2 ∷ 1 ∷ 2 ∷ 8 ∷ 8 ∷ 4 ∷ 1 ∷ 1 ∷ 7 ∷ 0 ∷ []

-- an expression of the text, for a sort, from a place, with 32 levels of nesting, in a room that holds so much; and what it comes to
pub record Example : Type 0 where
  pub found : Outcome State ℤ
  pub expected : Outcome State ℤ

abbrev read_at : List ℕ → ℕ → ℕ → State → Outcome State ℤ
read_at s o at x = expression (reads s names) s (nested (reads s names) s 32) o at x

abbrev row : String → ℕ → ℕ → List ℕ → Outcome State ℤ → Example
row words o at memory e = record { found = read_at (text words) o at (memory, 0); expected = e }

abbrev pub examples : List Example
examples =
    -- an element's node has the element's number and nine
    row "a v N a+v.N" 2 6 (0 ∷ 0 ∷ 0 ∷ 0 ∷ []) (ok (pos 0) 11 (12 ∷ 24 ∷ 4 ∷ 0 ∷ [], 3))
    -- index 7 of 8 is taken, 8 is refused 5 at the index, and so is -1
    ∷ row "a v N v[N]" 2 6 (0 ∷ 0 ∷ []) (ok (pos 0) 10 (24 ∷ 0 ∷ [], 1))
    ∷ row "a v N v[N+1]" 2 6 (0 ∷ 0 ∷ []) (no 5 7 (0 ∷ 0 ∷ [], 0))
    ∷ row "a v N v[6-N]" 2 6 (0 ∷ 0 ∷ []) (no 5 7 (0 ∷ 0 ∷ [], 0))
    -- the parts of a MUX among numbers are judged first, and no node is counted; then 4 at MUX
    ∷ row "a v N MUX('0:~a,REG(a))" 1 6 (0 ∷ []) (no 4 6 (0 ∷ [], 0))
    ∷ row "a v N MUX('0:~a,REG(a))" 2 6 (0 ∷ 0 ∷ 0 ∷ 0 ∷ 0 ∷ 0 ∷ []) (ok (pos 0) 23 (0 ∷ 12 ∷ 2 ∷ 12 ∷ 7 ∷ 6 ∷ [], 6))
    -- as a right side: the operand of the other kind before the operator
    ∷ row "a v N a DIV 2" 2 6 (0 ∷ []) (no 4 12 (12 ∷ [], 1))
    ∷ row "a v N a DIV a" 2 6 (0 ∷ 0 ∷ []) (no 4 8 (12 ∷ 12 ∷ [], 2))
    -- a literal too large is refused 3 at it
    ∷ row "1+65536" 1 0 [] (no 3 2 ([], 0))
    ∷ []

-- the equation of the right side at a place, or what its syntax is refused with
abbrev meant_on : List ℕ → Outcome (Unit {0}) syntax.Tree → Built (Unit {0}) (ℤ × Tree)
meant_on s (ok a e u) = equation s names a
meant_on s (no n p u) = bad n p tt

abbrev meant_at : String → ℕ → Built (Unit {0}) (ℤ × Tree)
meant_at words at = meant_on (text words) (parsed (text words) 32 at)

-- THE THEOREM: every row is as expected; and the equations of two right sides, MUX among literals and operators from the left, are these trees
pub examples_read : (map (λ (r : Example). r.found) examples ≡ map (λ (r : Example). r.expected) examples)
    × (meant_at "MUX('0: '1, '0)" 0 ≡ built (pos 0, mux low high low) tt)
    × (meant_at "a v N a+v.0-v.1" 6 ≡ built (pos 0, differ (disj (name 3) (name 8)) (name 9)) tt)
unfolding is_blank is_letter is_digit is_single is_pair turn_of gap end_of prefixed of_two of_three of_four of_five of_six keyword_of wordNamed name_at value_of number_at pair_kind pair_at logic_at form_at word_at next_word fitted divided left_over powered combined spelling same_bytes same number_of find entry entries looked_up index_sort part_sort closed turn chain level part dotted bracketed pointed named mux_third mux_second muxed kept regged inverted factor term expression nested meaning_of mark_of literal_of logic_of plain_of opened_of element_of operator_of emitted
examples_read = (refl, refl, refl)
