-- Worked examples of statements: index 7 of 8 is taken, 8 refused 5 at the dot; a loop variable is unknown behind its FOR; a body without rounds is
-- not judged; rounds from -1 up. Assumes nothing.
use mathlib.Core.Path.{◌≡◌, refl}
use mathlib.Core.List.{List, [], ◌∷◌}
use Prim.Native.Nat.{ℕ}
use lib.IntN.{ℤ}
use Rattle.basics.specs.Text.{text}
use Rattle.words.specs.Bytes.{is_blank, is_letter, is_digit, is_single, is_pair, turn_of}
use Rattle.words.specs.Words.{gap, end_of, prefixed, of_two, of_three, of_four, of_five, of_six, keyword_of, named as wnamed, name_at, value_of, number_at, pair_kind, pair_at, logic_at, form_at, word_at, next_word}
use Rattle.integers.specs.Integers.{fitted, divided, left_over, powered, combined, rounds_of}
use Rattle.names.specs.Names.{spelling, same_bytes, same, find, entry, entries, looked_up, extended, number_of}
use Rattle.grammar.specs.Outcome.{Outcome, ok, no}
use Rattle.grammar.specs.Grammar.{index_sort, part_sort, closed, turn, chain, level, dotted, pointed, part, bracketed, named, factor, term, expression, nested}
use Rattle.grammar.specs.Modules.{repeat}
use Rattle.judging.specs.Judging.{meaning_of, mark_of, literal_of, logic_of, plain_of, opened_of, element_of, operator_of}
use Rattle.judging.specs.Reading.{State, emitted}
use Rattle.parts.specs.Parts.{raised, noted, allows, one_more, assigned_in}
use Rattle.simple.specs.Statements.{target_of, assignment_of, act_of, simple_of}
use Rattle.unroll.specs.Loops.{pass_turn, passed_of, upper_of, lower_of, range_of, header_of, round_of, turns_of, loop_of, for_from, statement_turn, statements_with, for_of, statements_of}

-- an array v of 8 elements, whose name is the first byte of each text; memory for four nodes
abbrev pub standing : List ℕ
standing = 0 ∷ 1 ∷ 2 ∷ 0 ∷ 8 ∷ []

abbrev pub room : List ℕ
room = 0 ∷ 0 ∷ 0 ∷ 0 ∷ []

-- where statements end and how many nodes there are then; or the refusal and its place
pub data Seen : Type 0 where
  ended : ℕ → ℕ → Seen
  refused : ℕ → ℕ → Seen

abbrev pub shown : Outcome State ℤ → Seen
shown (ok v at x) = ended at x.1
shown (no n p x) = refused n p

abbrev pub ran : List ℕ → Seen
ran s = shown (statements_of s 32 standing 0 (room, 0))

pub statements_meant : ◌≡◌ {A = List Seen}
    (ran (text "v.7:='1 END") ∷ ran (text "v.8:='1 END") ∷ ran (text "v:='1 END")
    ∷ ran (text "v.0:='1;FOR i:=0-1..1 DO v[i+1]:='0 END END") ∷ ran (text "v.0:='1;FOR i:=1..2 DO v.i:='0 END;v.i:='0 END")
    ∷ ran (text "v.0:='1;FOR i:=1..0 DO w:='0 END END") ∷ [])
    (ended 7 1 ∷ refused 5 1 ∷ refused 5 0
    ∷ ended 39 4 ∷ refused 4 37
    ∷ ended 32 1 ∷ [])
unfolding is_blank is_letter is_digit is_single is_pair turn_of gap end_of prefixed of_two of_three of_four of_five of_six keyword_of wnamed name_at value_of number_at pair_kind pair_at logic_at form_at word_at next_word fitted divided left_over powered combined rounds_of spelling same_bytes same find entry entries looked_up extended number_of index_sort part_sort closed turn chain level dotted pointed part bracketed named factor term expression nested repeat meaning_of mark_of literal_of logic_of plain_of opened_of element_of operator_of emitted raised noted allows one_more assigned_in target_of assignment_of act_of simple_of pass_turn passed_of upper_of lower_of range_of header_of round_of turns_of loop_of for_from statement_turn statements_with for_of
statements_meant = refl
