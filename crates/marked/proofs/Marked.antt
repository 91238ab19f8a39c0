-- The marked examples are as document 01 says, by computation. Assumes nothing.
use mathlib.Core.Path.{◌≡◌, refl, ap, ◌∙◌}
use Prim.Native.Nat.{ℕ}
use Rattle.marked.specs.Examples.{graded, examples, AllFit, none, more}
use Rattle.basics.specs.Below.{any_below, all_below, tally, listed}
use Rattle.words.specs.Bytes.{is_blank, is_letter, is_digit, is_single, is_pair, turn_of}
use Rattle.words.specs.Words.{gap, end_of, prefixed, of_two, of_three, of_four, of_five, of_six, keyword_of, named, name_at, value_of, number_at, pair_kind, pair_at, logic_at, form_at, word_at, next_word}
use Rattle.integers.specs.Integers.{fitted, divided, left_over, powered, combined, rounds_of}
use Rattle.names.specs.Names.{spelling, same_bytes, alike, same, number_of, find, entry, entries, looked_up, extended}
use Rattle.grammar.specs.Grammar.{index_sort, part_sort, closed, turn, chain, level, dotted, pointed, part, bracketed, named as grammar-named, mux_third, mux_second, muxed, kept, regged, inverted, factor, term, expression, nested}
use Rattle.grammar.specs.Modules.{repeat, up_to, given, number_turn, numbers, positioned, aimed, simple, statement, statement_turn, statements, looped, ranged, for_from, for_of, constant_turn, another_name, name_turn, name_list, arrayed, typed, type_of, list_turn, constants, lists, out_and_var, declarations, begun, headed, same_name, ended, headless, whole_text}
use Rattle.judging.specs.Judging.{meaning_of, mark_of, literal_of, logic_of, plain_of, opened_of, element_of, operator_of}
use Rattle.judging.specs.Reading.{emitted}
use Rattle.parts.specs.Parts.{raised, noted, allows, one_more, declared_from, assigned_in, positioned_in, miscounted_from}
use Rattle.simple.specs.Statements.{target_of, assignment_of, number_turn as simple-numberTurn, numbers_of, list_of, one_of, position_of, act_of, simple_of}
use Rattle.lists.specs.Lists.{back_turn, back_of, fresh_name, fresh_turn, fresh_of, closed_type, length_of, type_of as lists-typeOf}
use Rattle.declare.specs.Declarations.{element_name, constant_end, constant_from, constant_of, element_turn, elements_of, list_end, signals_of, item_of, item_turn, items_of, section_of, sections_of, declarations_of}
use Rattle.unroll.specs.Loops.{pass_turn, passed_of, upper_of, lower_of, range_of, header_of, round_of, turns_of, loop_of, for_from as unroll-forFrom, statement_turn as unroll-statementTurn, statements_with, for_of as unroll-forOf}
use Rattle.trees.specs.Layout.{nodes_at, class_of}
use Rattle.trees.specs.Machine.{run, value_of as trees-valueOf}
use Rattle.trees.specs.Runs.{first_in, end_in}
use Rattle.trees.specs.Stack.{tops}
use Rattle.trees.specs.Tree.{eval, flat}
use Rattle.reach.specs.Meeting.{top_below, meets}
use Rattle.reach.specs.Reach.{via}
use Rattle.reach.specs.Table.{marked}
use Rattle.reach.specs.Uses.{from_end, inverts, registers, keeps, names, replaced, remains, writes, uses}
use Rattle.circuit.specs.Pins.{role_of}
use Rattle.circuit.specs.Placed.{plain, topped, placed, plain_n, placed_n}
use Rattle.circuit.specs.StageFive.{misassigned, misplaced, positioned_right, mispositioned, first_below, stage_five}
use Rattle.meaning.specs.Circuit.{out_at, shows, clocked, run_from}
use Rattle.meaning.specs.Meaning.{value, shows_next}
use Rattle.meaning.specs.Settle.{settle_all, order_of}
use Rattle.pins.specs.Memory.{named_in}
use Rattle.pins.specs.Named.{mentions, names_pin}
use Rattle.device.specs.Device.{column_of}
use Rattle.pins.specs.Variables.{variable_pin, chosen, mask_below}
use Rattle.tables.specs.Tables.{flip_at, set_bits, tabled, table_in}
use Rattle.sums.specs.Named.{keep, spread, count}
use Rattle.sums.specs.Order.{columns, before}
use Rattle.sums.specs.Product.{covers, imp, drops, any, filter, prime, verdict, expand, products, primes, factors, digits, number}
use Rattle.engine.specs.Steps.{drops_n, grade_n}
use Rattle.question.specs.Question.{question_table, asked_of, asked}
use Rattle.texts.specs.Calls.{lent, called}
use Rattle.texts.specs.Meaning.{meaning, is_given, setting_for}
use Rattle.texts.specs.Stages.{fifth, fourth, third, second, front_of}
use Rattle.circuit.specs.StageFive.{Verdict}
use Rattle.circuit.specs.StageFive.Verdict.{fine}
use Rattle.cover.specs.Sum.{bits_of}
use Rattle.device.specs.Device.{products_of}
use Rattle.outputs.specs.Outputs.{table_of, too_many}
use Rattle.askcall.specs.Asking.{graded_of, questioned}
use Rattle.texts.specs.Stages.{Front, unless, fitting, whole_of}
use Rattle.marked.proofs.Fronts.{module_O, parts_O, elements_O, front_O}
use Rattle.marked.proofs.Few.{sixth_few, six_few}

-- O is let pass by stage 6
six_O : sixth_few elements_O ≡ fine
unfolding any_below tally listed nodes_at class_of run trees-valueOf from_end inverts registers keeps names replaced remains writes uses via top_below meets first_below out_at value shows_next mentions names_pin variable_pin column_of chosen mask_below flip_at set_bits count imp drops any filter prime expand products primes number too_many table_of bits_of products_of parts_O
six_O = refl

-- so a question about it goes through all stages
asked_O : (product : ℕ) → graded_of module_O 23 product 65536 ≡ asked elements_O 23 product
unfolding graded_of whole_of
asked_O product =
    ap (λ (f : Front). questioned 23 product (fitting f)) front_O
    ∙ ap (λ (v : Verdict). questioned 23 product (unless v parts_O)) (six_few elements_O ∙ six_O)

-- THE THEOREM: what the definitions find is what is expected, for every row of the table.
pub marked_examples : AllFit examples
unfolding any_below all_below tally listed is_blank is_letter is_digit is_single is_pair turn_of gap end_of prefixed of_two of_three of_four of_five of_six keyword_of named name_at value_of number_at pair_kind pair_at logic_at form_at word_at next_word fitted divided left_over powered combined rounds_of spelling same_bytes alike same number_of find entry entries looked_up extended index_sort part_sort closed turn chain level dotted pointed part bracketed grammar-named mux_third mux_second muxed kept regged inverted factor term expression nested repeat up_to given number_turn numbers positioned aimed simple statement statement_turn statements looped ranged for_from for_of constant_turn another_name name_turn name_list arrayed typed type_of list_turn constants lists out_and_var declarations begun headed same_name ended headless whole_text meaning_of mark_of literal_of logic_of plain_of opened_of element_of operator_of emitted raised noted allows one_more declared_from assigned_in positioned_in miscounted_from target_of assignment_of simple-numberTurn numbers_of list_of one_of position_of act_of simple_of back_turn back_of fresh_name fresh_turn fresh_of closed_type length_of lists-typeOf element_name constant_end constant_from constant_of element_turn elements_of list_end signals_of item_of item_turn items_of section_of sections_of declarations_of pass_turn passed_of upper_of lower_of range_of header_of round_of turns_of loop_of unroll-forFrom unroll-statementTurn statements_with unroll-forOf nodes_at class_of run trees-valueOf first_in end_in tops eval flat top_below meets via marked from_end inverts registers keeps names replaced remains writes uses role_of plain topped placed plain_n placed_n misassigned misplaced positioned_right mispositioned first_below stage_five out_at shows clocked run_from value shows_next settle_all order_of named_in mentions names_pin variable_pin column_of chosen mask_below flip_at set_bits tabled table_in keep spread count columns before covers imp drops any filter prime verdict expand products primes factors digits number drops_n grade_n question_table asked_of asked lent called meaning is_given setting_for fifth fourth third second front_of parts_O
marked_examples = more refl (more refl (more refl (more refl (more refl (more refl (more refl (more refl (more refl (more (ap graded (asked_O 4)) (more (ap graded (asked_O 7)) (more refl (more refl (more refl (more refl none))))))))))))))
