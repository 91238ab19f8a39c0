-- Worked examples of stage 2, computed (decisions 7 to 13).
-- Assumes nothing.
use mathlib.Core.Path.{◌≡◌, refl}
use Prim.Native.Nat.{ℕ}
use Rattle.basics.specs.Text.{text}
use Rattle.words.specs.Bytes.{is_blank, is_letter, is_digit, is_single, is_pair, turn_of}
use Rattle.words.specs.Words.{gap, end_of, prefixed, of_two, of_three, of_four, of_five, of_six, keyword_of, named as wordNamed, name_at, value_of, number_at, pair_kind, pair_at, logic_at, form_at, word_at, next_word}
use Rattle.names.specs.Names.{spelling, same_bytes, same}
use Rattle.grammar.specs.Outcome.{Outcome, ok, no}
use Rattle.grammar.specs.Grammar.{index_sort, part_sort, closed, turn, chain, level, part, dotted, bracketed, pointed, named, mux_third, mux_second, muxed, kept, regged, inverted, factor, term, expression, nested}
use Rattle.grammar.specs.Trees as syntax
use Rattle.grammar.specs.Modules.{Module, repeat, up_to, given, number_turn, numbers, positioned, aimed, simple, statement, statement_turn, statements, looped, ranged, for_from, for_of, constant_turn, another_name, name_turn, name_list, arrayed, typed, type_of, list_turn, constants, lists, out_and_var, declarations, begun, headed, same_name, ended, headless, whole_text}
use Rattle.grammar.specs.Forms as forms
use Rattle.grammar.specs.Forms.{parsed_text, checked_text}

abbrev pub Verdict : Type 0
Verdict = Outcome (Unit {0}) (Module (Unit {0}) (Unit {0}))

-- accepted: where the declarations and the statements start, and the text's end
abbrev pub starts : ℕ → ℕ → ℕ → Verdict
starts d b e = ok (record { declarations = d; statements = b; declared = tt; body = tt }) e tt

abbrev pub refused : ℕ → ℕ → Verdict
refused n p = no n p tt

-- every section may be empty
pub empty_sections : checked_text (text "MODULE T; CONST IN OUT VAR BEGIN END T.") ≡ starts 9 32 39
unfolding is_blank is_letter is_digit is_single is_pair turn_of gap end_of prefixed of_two of_three of_four of_five of_six keyword_of wordNamed name_at value_of number_at pair_kind pair_at logic_at form_at word_at next_word spelling same_bytes same index_sort part_sort closed turn chain level part dotted bracketed pointed named mux_third mux_second muxed kept regged inverted factor term expression nested repeat up_to given number_turn numbers positioned aimed simple statement statement_turn statements looped ranged for_from for_of constant_turn another_name name_turn name_list arrayed typed type_of list_turn constants lists out_and_var declarations begun headed same_name ended headless whole_text
empty_sections = refl

-- without BEGIN the statements start where END is looked for
pub no_statements : checked_text (text "MODULE T; IN a: BIT; END T. (* end *)") ≡ starts 9 20 37
unfolding is_blank is_letter is_digit is_single is_pair turn_of gap end_of prefixed of_two of_three of_four of_five of_six keyword_of wordNamed name_at value_of number_at pair_kind pair_at logic_at form_at word_at next_word spelling same_bytes same index_sort part_sort closed turn chain level part dotted bracketed pointed named mux_third mux_second muxed kept regged inverted factor term expression nested repeat up_to given number_turn numbers positioned aimed simple statement statement_turn statements looped ranged for_from for_of constant_turn another_name name_turn name_list arrayed typed type_of list_turn constants lists out_and_var declarations begun headed same_name ended headless whole_text
no_statements = refl

pub other_name : checked_text (text "MODULE T; END U.") ≡ refused 2 14
unfolding is_blank is_letter is_digit is_single is_pair turn_of gap end_of prefixed of_two of_three of_four of_five of_six keyword_of wordNamed name_at value_of number_at pair_kind pair_at logic_at form_at word_at next_word spelling same_bytes same index_sort part_sort closed turn chain level part dotted bracketed pointed named mux_third mux_second muxed kept regged inverted factor term expression nested repeat up_to given number_turn numbers positioned aimed simple statement statement_turn statements looped ranged for_from for_of constant_turn another_name name_turn name_list arrayed typed type_of list_turn constants lists out_and_var declarations begun headed same_name ended headless whole_text
other_name = refl

pub two_dots : checked_text (text "MODULE T; END T..") ≡ refused 2 15
unfolding is_blank is_letter is_digit is_single is_pair turn_of gap end_of prefixed of_two of_three of_four of_five of_six keyword_of wordNamed name_at value_of number_at pair_kind pair_at logic_at form_at word_at next_word spelling same_bytes same index_sort part_sort closed turn chain level part dotted bracketed pointed named mux_third mux_second muxed kept regged inverted factor term expression nested repeat up_to given number_turn numbers positioned aimed simple statement statement_turn statements looped ranged for_from for_of constant_turn another_name name_turn name_list arrayed typed type_of list_turn constants lists out_and_var declarations begun headed same_name ended headless whole_text
two_dots = refl

pub behind_the_dot : checked_text (text "MODULE T; END T. T") ≡ refused 2 17
unfolding is_blank is_letter is_digit is_single is_pair turn_of gap end_of prefixed of_two of_three of_four of_five of_six keyword_of wordNamed name_at value_of number_at pair_kind pair_at logic_at form_at word_at next_word spelling same_bytes same index_sort part_sort closed turn chain level part dotted bracketed pointed named mux_third mux_second muxed kept regged inverted factor term expression nested repeat up_to given number_turn numbers positioned aimed simple statement statement_turn statements looped ranged for_from for_of constant_turn another_name name_turn name_list arrayed typed type_of list_turn constants lists out_and_var declarations begun headed same_name ended headless whole_text
behind_the_dot = refl

-- 2 before 3 at one word; 3 where a number may stand
pub large_name : checked_text (text "MODULE 65536; END T.") ≡ refused 2 7
unfolding is_blank is_letter is_digit is_single is_pair turn_of gap end_of prefixed of_two of_three of_four of_five of_six keyword_of wordNamed name_at value_of number_at pair_kind pair_at logic_at form_at word_at next_word spelling same_bytes same index_sort part_sort closed turn chain level part dotted bracketed pointed named mux_third mux_second muxed kept regged inverted factor term expression nested repeat up_to given number_turn numbers positioned aimed simple statement statement_turn statements looped ranged for_from for_of constant_turn another_name name_turn name_list arrayed typed type_of list_turn constants lists out_and_var declarations begun headed same_name ended headless whole_text
large_name = refl

pub large_length : checked_text (text "MODULE T; IN x: [65536] BIT; END T.") ≡ refused 3 17
unfolding is_blank is_letter is_digit is_single is_pair turn_of gap end_of prefixed of_two of_three of_four of_five of_six keyword_of wordNamed name_at value_of number_at pair_kind pair_at logic_at form_at word_at next_word spelling same_bytes same index_sort part_sort closed turn chain level part dotted bracketed pointed named mux_third mux_second muxed kept regged inverted factor term expression nested repeat up_to given number_turn numbers positioned aimed simple statement statement_turn statements looped ranged for_from for_of constant_turn another_name name_turn name_list arrayed typed type_of list_turn constants lists out_and_var declarations begun headed same_name ended headless whole_text
large_length = refl

-- one index at most, one length at most
pub two_indices : checked_text (text "MODULE T; BEGIN x.0.1 := '0 END T.") ≡ refused 2 19
unfolding is_blank is_letter is_digit is_single is_pair turn_of gap end_of prefixed of_two of_three of_four of_five of_six keyword_of wordNamed name_at value_of number_at pair_kind pair_at logic_at form_at word_at next_word spelling same_bytes same index_sort part_sort closed turn chain level part dotted bracketed pointed named mux_third mux_second muxed kept regged inverted factor term expression nested repeat up_to given number_turn numbers positioned aimed simple statement statement_turn statements looped ranged for_from for_of constant_turn another_name name_turn name_list arrayed typed type_of list_turn constants lists out_and_var declarations begun headed same_name ended headless whole_text
two_indices = refl

pub two_lengths : checked_text (text "MODULE T; IN x: [2][2] BIT; END T.") ≡ refused 2 19
unfolding is_blank is_letter is_digit is_single is_pair turn_of gap end_of prefixed of_two of_three of_four of_five of_six keyword_of wordNamed name_at value_of number_at pair_kind pair_at logic_at form_at word_at next_word spelling same_bytes same index_sort part_sort closed turn chain level part dotted bracketed pointed named mux_third mux_second muxed kept regged inverted factor term expression nested repeat up_to given number_turn numbers positioned aimed simple statement statement_turn statements looped ranged for_from for_of constant_turn another_name name_turn name_list arrayed typed type_of list_turn constants lists out_and_var declarations begun headed same_name ended headless whole_text
two_lengths = refl

-- a list has one number or more, for any designator
pub list_of_one : checked_text (text "MODULE T; BEGIN z.0 :: [5] END T.") ≡ starts 9 15 33
unfolding is_blank is_letter is_digit is_single is_pair turn_of gap end_of prefixed of_two of_three of_four of_five of_six keyword_of wordNamed name_at value_of number_at pair_kind pair_at logic_at form_at word_at next_word spelling same_bytes same index_sort part_sort closed turn chain level part dotted bracketed pointed named mux_third mux_second muxed kept regged inverted factor term expression nested repeat up_to given number_turn numbers positioned aimed simple statement statement_turn statements looped ranged for_from for_of constant_turn another_name name_turn name_list arrayed typed type_of list_turn constants lists out_and_var declarations begun headed same_name ended headless whole_text
list_of_one = refl

pub list_of_none : checked_text (text "MODULE T; BEGIN z :: [] END T.") ≡ refused 2 22
unfolding is_blank is_letter is_digit is_single is_pair turn_of gap end_of prefixed of_two of_three of_four of_five of_six keyword_of wordNamed name_at value_of number_at pair_kind pair_at logic_at form_at word_at next_word spelling same_bytes same index_sort part_sort closed turn chain level part dotted bracketed pointed named mux_third mux_second muxed kept regged inverted factor term expression nested repeat up_to given number_turn numbers positioned aimed simple statement statement_turn statements looped ranged for_from for_of constant_turn another_name name_turn name_list arrayed typed type_of list_turn constants lists out_and_var declarations begun headed same_name ended headless whole_text
list_of_none = refl

-- 32 may be open at once, ~ and FOR and brackets together; the word past the limit is refused 6
pub as_deep_as_may_be : checked_text (text "MODULE T; BEGIN y := ((((((((((((((((((((((((((((((((a)))))))))))))))))))))))))))))))) END T.") ≡ starts 9 15 93
unfolding is_blank is_letter is_digit is_single is_pair turn_of gap end_of prefixed of_two of_three of_four of_five of_six keyword_of wordNamed name_at value_of number_at pair_kind pair_at logic_at form_at word_at next_word spelling same_bytes same index_sort part_sort closed turn chain level part dotted bracketed pointed named mux_third mux_second muxed kept regged inverted factor term expression nested repeat up_to given number_turn numbers positioned aimed simple statement statement_turn statements looped ranged for_from for_of constant_turn another_name name_turn name_list arrayed typed type_of list_turn constants lists out_and_var declarations begun headed same_name ended headless whole_text
as_deep_as_may_be = refl

pub too_deep : checked_text (text "MODULE T; BEGIN y := (((((((((((((((((((((((((((((((((a") ≡ refused 6 53
unfolding is_blank is_letter is_digit is_single is_pair turn_of gap end_of prefixed of_two of_three of_four of_five of_six keyword_of wordNamed name_at value_of number_at pair_kind pair_at logic_at form_at word_at next_word spelling same_bytes same index_sort part_sort closed turn chain level part dotted bracketed pointed named mux_third mux_second muxed kept regged inverted factor term expression nested repeat up_to given number_turn numbers positioned aimed simple statement statement_turn statements looped ranged for_from for_of constant_turn another_name name_turn name_list arrayed typed type_of list_turn constants lists out_and_var declarations begun headed same_name ended headless whole_text
too_deep = refl

pub too_deep_together : checked_text (text "MODULE T; BEGIN FOR i := 0 .. 1 DO y := ((((((((((((((((((((((((((((((~~a") ≡ refused 6 71
unfolding is_blank is_letter is_digit is_single is_pair turn_of gap end_of prefixed of_two of_three of_four of_five of_six keyword_of wordNamed name_at value_of number_at pair_kind pair_at logic_at form_at word_at next_word spelling same_bytes same index_sort part_sort closed turn chain level part dotted bracketed pointed named mux_third mux_second muxed kept regged inverted factor term expression nested repeat up_to given number_turn numbers positioned aimed simple statement statement_turn statements looped ranged for_from for_of constant_turn another_name name_turn name_list arrayed typed type_of list_turn constants lists out_and_var declarations begun headed same_name ended headless whole_text
too_deep_together = refl

-- the tree of a small text
pub small-tree
    : parsed_text (text "MODULE T; IN a: BIT; OUT y: BIT; BEGIN a::2; y := ~a END T.")
    ≡ ok
    (record {
      declarations = 9;
      statements = 38;
      declared = forms.signals (forms.signals forms.undeclared 209 (forms.first_name 13 14) forms.bit) 210 (forms.first_name 25 26) forms.bit;
      body = forms.and_statement (forms.and_statement forms.nothing (forms.place 39 (syntax.plain 39 40) (syntax.literal 42 2))) (forms.assign 45 (syntax.plain 45 46) (syntax.invert 50 (syntax.plain 51 52)));
    }) 59 tt
unfolding is_blank is_letter is_digit is_single is_pair turn_of gap end_of prefixed of_two of_three of_four of_five of_six keyword_of wordNamed name_at value_of number_at pair_kind pair_at logic_at form_at word_at next_word spelling same_bytes same index_sort part_sort closed turn chain level part dotted bracketed pointed named mux_third mux_second muxed kept regged inverted factor term expression nested repeat up_to given number_turn numbers positioned aimed simple statement statement_turn statements looped ranged for_from for_of constant_turn another_name name_turn name_list arrayed typed type_of list_turn constants lists out_and_var declarations begun headed same_name ended headless whole_text
small-tree = refl
