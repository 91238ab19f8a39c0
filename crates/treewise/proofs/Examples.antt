-- Worked examples, computed: the tree of statements with a FOR, and what trees of statements do. Index 7 of 8 is taken, 8 refused 5 at the dot; a loop
-- variable is unknown behind its FOR; a body without rounds is not judged; rounds from -1 up; a list of wrong count is no refusal of stage 4.
-- Assumes nothing.
use mathlib.Core.Path.{◌≡◌, refl}
use mathlib.Core.List.{List, [], ◌∷◌}
use Prim.Native.Nat.{ℕ}
use Rattle.basics.specs.Text.{text}
use Rattle.words.specs.Bytes.{is_blank, is_letter, is_digit, is_single, is_pair, turn_of}
use Rattle.words.specs.Words.{gap, end_of, prefixed, of_two, of_three, of_four, of_five, of_six, keyword_of, named as wordNamed, name_at, value_of, number_at, pair_kind, pair_at, logic_at, form_at, word_at, next_word}
use Rattle.integers.specs.Integers.{fitted, divided, left_over, powered, combined, rounds_of}
use Rattle.names.specs.Names.{spelling, same_bytes, same, find, entry, entries, looked_up, extended, number_of}
use Rattle.grammar.specs.Outcome.{Outcome, ok, no, Built, built, bad}
use Rattle.grammar.specs.Grammar.{index_sort, part_sort, closed, turn, chain, level, dotted, pointed, part, bracketed, named, factor, term, expression, nested}
use Rattle.grammar.specs.Trees.{literal, logic, element, apply, plain, trees}
use Rattle.grammar.specs.Modules.{repeat, up_to, given, number_turn, numbers, positioned, aimed, simple, statement, statement_turn, statements, looped, ranged, for_from, for_of, sequence}
use Rattle.grammar.specs.Forms.{Statements, nothing, and_statement, assign, loop, tree_forms}
use Rattle.judging.specs.Judging.{meaning_of, mark_of, literal_of, logic_of, plain_of, opened_of, element_of, operator_of}
use Rattle.judging.specs.Reading.{State, emitted}
use Rattle.parts.specs.Parts.{raised, noted, allows, one_more, assigned_in, positioned_in, miscounted_from}
use Rattle.treewise.specs.Unrolled.{counted, given_from, rounds_in, target_in, site_in, assigned, placed, values_in, placed_all, carried}

-- an array v of 8 elements, whose name is the first byte of each text; memory for four nodes
abbrev pub standing : List ℕ
standing = 0 ∷ 1 ∷ 2 ∷ 0 ∷ 8 ∷ []

abbrev pub room : List ℕ
room = 0 ∷ 0 ∷ 0 ∷ 0 ∷ []

-- how many nodes there are behind the statements; or the refusal and its place
pub data Seen : Type 0 where
  wrote : ℕ → Seen
  refused : ℕ → ℕ → Seen

abbrev pub shown : Built State (Unit {0}) → Seen
shown (built u x) = wrote x.1
shown (bad n p x) = refused n p

abbrev pub on_tree : List ℕ → Outcome (Unit {0}) Statements → Seen
on_tree s (ok u e v) = shown (carried s standing u (room, 0))
on_tree s (no n p v) = refused n p

abbrev pub ran : List ℕ → Seen
ran s = on_tree s (sequence trees tree_forms s 32 0 tt)

-- the FOR at 8 over the name from 12 to 13; its body is read from 24 on, and is one statement
pub loop_tree : sequence trees tree_forms (text "v.0:='1;FOR i:=0-1..1 DO v[i+1]:='0 END END") 32 0 tt
    ≡ ok (and_statement (and_statement nothing (assign 0 (element 0 1 1 (literal 2 0)) (logic 5 1)))
    (loop 8 12 13 (apply 45 16 (literal 15 0) (literal 17 1)) (literal 20 1) 24
    (and_statement nothing (assign 25 (element 25 26 26 (apply 43 28 (plain 27 28) (literal 29 1))) (logic 33 0))))) 39 tt
unfolding is_blank is_letter is_digit is_single is_pair turn_of gap end_of prefixed of_two of_three of_four of_five of_six keyword_of wordNamed name_at value_of number_at pair_kind pair_at logic_at form_at word_at next_word index_sort part_sort closed turn chain level dotted pointed part bracketed named factor term expression nested repeat up_to given number_turn numbers positioned aimed simple statement statement_turn statements looped ranged for_from for_of
loop_tree = refl

pub trees_meant : ◌≡◌ {A = List Seen}
    (ran (text "v.7:='1 END") ∷ ran (text "v.8:='1 END") ∷ ran (text "v:='1 END")
    ∷ ran (text "v.0:='1;FOR i:=0-1..1 DO v[i+1]:='0 END END") ∷ ran (text "v.0:='1;FOR i:=1..2 DO v.i:='0 END;v.i:='0 END")
    ∷ ran (text "v.0:='1;FOR i:=1..0 DO w:='0 END END") ∷ ran (text "v::[1;2] END") ∷ ran (text "w::3 END") ∷ [])
    (wrote 1 ∷ refused 5 1 ∷ refused 5 0
    ∷ wrote 4 ∷ refused 4 37
    ∷ wrote 1 ∷ wrote 0 ∷ wrote 0 ∷ [])
unfolding is_blank is_letter is_digit is_single is_pair turn_of gap end_of prefixed of_two of_three of_four of_five of_six keyword_of wordNamed name_at value_of number_at pair_kind pair_at logic_at form_at word_at next_word fitted divided left_over powered combined rounds_of spelling same_bytes same find entry entries looked_up extended number_of index_sort part_sort closed turn chain level dotted pointed part bracketed named factor term expression nested repeat up_to given number_turn numbers positioned aimed simple statement statement_turn statements looped ranged for_from for_of meaning_of mark_of literal_of logic_of plain_of opened_of element_of operator_of emitted raised noted allows one_more assigned_in positioned_in miscounted_from counted given_from rounds_in target_in site_in assigned placed values_in placed_all carried
trees_meant = refl
