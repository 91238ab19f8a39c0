-- Three small modules and what stays of them behind stages 1 to 5: T, which document 01 prints; S, whose output is 1; and O, the or of two. Computed. Assumes nothing.
use mathlib.Core.Path.{◌≡◌, refl}
use mathlib.Core.List.{List, [], ◌∷◌, ◌++◌}
use Prim.Native.Nat.{ℕ}
use lib.ListN.{replicate}
use Rattle.basics.specs.Text.{text}
use Rattle.trees.specs.Layout.{Elements, elements_of as all_of}
use Rattle.texts.specs.Stages.{stays}
use Rattle.basics.specs.Below.{any_below, all_below, tally, listed}
use Rattle.words.specs.Bytes.{is_blank, is_letter, is_digit, is_single, is_pair, turn_of}
use Rattle.words.specs.Words.{gap, end_of, prefixed, of_two, of_three, of_four, of_five, of_six, keyword_of, named, name_at, value_of, number_at, pair_kind, pair_at, logic_at, form_at, word_at, next_word}
use Rattle.integers.specs.Integers.{fitted, divided, left_over, powered, combined, rounds_of}
use Rattle.names.specs.Names.{spelling, same_bytes, alike, same, number_of, find, entry, entries, looked_up, extended}
use Rattle.grammar.specs.Grammar.{index_sort, part_sort, closed, turn, chain, level, dotted, pointed, part, bracketed, named as grammar-named, mux_third, mux_second, muxed, kept, regged, inverted, factor, term, expression, nested}
use Rattle.grammar.specs.Modules.{repeat, up_to, given, number_turn, numbers, positioned, aimed, simple, statement, statement_turn, statements, looped, ranged, for_from, for_of, constant_turn, another_name, name_turn, name_list, arrayed, typed, type_of, list_turn, constants, lists, out_and_var, declarations, begun, headed, same_name, ended, headless, whole_text}
use Rattle.judging.specs.Judging.{meaning_of, mark_of, literal_of, logic_of, plain_of, opened_of, element_of, operator_of}
use Rattle.judging.specs.Reading.{emitted}
use Rattle.parts.specs.Parts.{raised, noted, allows, one_more, declared_from, assigned_in, positioned_in, miscounted_from}
use Rattle.simple.specs.Statements.{target_of, assignment_of, number_turn as simple-numberTurn, numbers_of, list_of, one_of, position_of, act_of, simple_of}
use Rattle.lists.specs.Lists.{back_turn, back_of, fresh_name, fresh_turn, fresh_of, closed_type, length_of, type_of as lists-typeOf}
use Rattle.declare.specs.Declarations.{element_name, constant_end, constant_from, constant_of, element_turn, elements_of, list_end, signals_of, item_of, item_turn, items_of, section_of, sections_of, declarations_of}
use Rattle.unroll.specs.Loops.{pass_turn, passed_of, upper_of, lower_of, range_of, header_of, round_of, turns_of, loop_of, for_from as unroll-forFrom, statement_turn as unroll-statementTurn, statements_with, for_of as unroll-forOf}
use Rattle.trees.specs.Layout.{nodes_at, class_of}
use Rattle.trees.specs.Machine.{run, value_of as trees-valueOf}
use Rattle.trees.specs.Runs.{first_in, end_in}
use Rattle.trees.specs.Stack.{tops}
use Rattle.trees.specs.Tree.{eval, flat}
use Rattle.reach.specs.Meeting.{top_below, meets}
use Rattle.reach.specs.Reach.{via}
use Rattle.reach.specs.Table.{marked}
use Rattle.reach.specs.Uses.{from_end, inverts, registers, keeps, names, replaced, remains, writes, uses}
use Rattle.circuit.specs.Pins.{role_of}
use Rattle.circuit.specs.Placed.{plain, topped, placed, plain_n, placed_n}
use Rattle.circuit.specs.StageFive.{misassigned, misplaced, positioned_right, mispositioned, first_below, stage_five}
use Rattle.meaning.specs.Circuit.{out_at, shows, clocked, run_from}
use Rattle.meaning.specs.Meaning.{value, shows_next}
use Rattle.meaning.specs.Settle.{settle_all, order_of}
use Rattle.pins.specs.Memory.{named_in}
use Rattle.pins.specs.Named.{mentions, names_pin}
use Rattle.device.specs.Device.{column_of}
use Rattle.pins.specs.Variables.{variable_pin, chosen, mask_below}
use Rattle.tables.specs.Tables.{flip_at, set_bits, tabled, table_in}
use Rattle.sums.specs.Named.{keep, spread, count}
use Rattle.sums.specs.Order.{columns, before}
use Rattle.sums.specs.Product.{covers, imp, drops, any, filter, prime, verdict, expand, products, primes, factors, digits, number}
use Rattle.engine.specs.Steps.{drops_n, grade_n}
use Rattle.texts.specs.Calls.{lent, called}
use Rattle.texts.specs.Meaning.{meaning, is_given, setting_for}
use Rattle.texts.specs.Stages.{fifth, fourth, third, second, front_of, whole_of}

abbrev zeros : ℕ → List ℕ
zeros n = replicate n 0

-- ---- T

-- the module
abbrev pub module_T : List ℕ
module_T = text "MODULE T; IN a: BIT; OUT y: BIT; BEGIN a::2; y::23; y := REG(y - a) END T."

-- the memory that its elements are read from: four nodes, then, of a and y, the tables of their classes, places, starts and sizes of equations, assignments,
-- positions and pins, and which pins were given; last three counts
unfoldable pub parts_T : List ℕ
parts_T =
    (10 ∷ 9 ∷ 5 ∷ 7 ∷ []) ++ zeros 2044
    ++ (1 ∷ 2 ∷ []) ++ zeros 62
    ++ (13 ∷ 25 ∷ []) ++ zeros 62
    ++ zeros 64
    ++ (0 ∷ 4 ∷ []) ++ zeros 62
    ++ (0 ∷ 1 ∷ []) ++ zeros 62
    ++ (1 ∷ 1 ∷ []) ++ zeros 62
    ++ (2 ∷ 23 ∷ []) ++ zeros 62
    ++ zeros 64
    ++ zeros 2 ++ (1 ∷ []) ++ zeros 20 ++ (1 ∷ []) ++ zeros 1
    ++ (3 ∷ 2 ∷ 0 ∷ [])

abbrev pub elements_T : Elements
elements_T = all_of parts_T

-- ---- S

-- a module whose output is 1
abbrev pub module_S : List ℕ
module_S = text "MODULE S; OUT y: BIT; BEGIN y::23; y := '1 END S."

unfoldable pub parts_S : List ℕ
parts_S =
    (1 ∷ []) ++ zeros 2047 ++ (2 ∷ []) ++ zeros 63 ++ (14 ∷ []) ++ zeros 127 ++ (1 ∷ []) ++ zeros 63 ++ (1 ∷ []) ++ zeros 63 ++ (1 ∷ []) ++ zeros 63
    ++ (23 ∷ []) ++ zeros 127 ++ zeros 23 ++ (1 ∷ 0 ∷ []) ++ (2 ∷ 1 ∷ 0 ∷ [])

abbrev pub elements_S : Elements
elements_S = all_of parts_S

-- ---- O

abbrev pub module_O : List ℕ
module_O = text "MODULE T; IN a, b: BIT; OUT y: BIT; BEGIN a::2; b::3; y::23; y := a+b END T."

unfoldable pub parts_O : List ℕ
parts_O =
    (9 ∷ 10 ∷ 4 ∷ []) ++ zeros 2045
    ++ (1 ∷ 1 ∷ 2 ∷ []) ++ zeros 61
    ++ (13 ∷ 16 ∷ 28 ∷ []) ++ zeros 61
    ++ zeros 64
    ++ (0 ∷ 0 ∷ 3 ∷ []) ++ zeros 61
    ++ (0 ∷ 0 ∷ 1 ∷ []) ++ zeros 61
    ++ (1 ∷ 1 ∷ 1 ∷ []) ++ zeros 61
    ++ (2 ∷ 3 ∷ 23 ∷ []) ++ zeros 61
    ++ zeros 64
    ++ zeros 2 ++ (1 ∷ 1 ∷ []) ++ zeros 19 ++ (1 ∷ []) ++ zeros 1
    ++ (4 ∷ 3 ∷ 0 ∷ [])

abbrev pub elements_O : Elements
elements_O = all_of parts_O

-- ---- what stays

fronts : (front_of module_T ≡ stays parts_T) × (front_of module_S ≡ stays parts_S) × (front_of module_O ≡ stays parts_O)
unfolding any_below all_below tally listed is_blank is_letter is_digit is_single is_pair turn_of gap end_of prefixed of_two of_three of_four of_five of_six keyword_of named name_at value_of number_at pair_kind pair_at logic_at form_at word_at next_word fitted divided left_over powered combined rounds_of spelling same_bytes alike same number_of find entry entries looked_up extended index_sort part_sort closed turn chain level dotted pointed part bracketed grammar-named mux_third mux_second muxed kept regged inverted factor term expression nested repeat up_to given number_turn numbers positioned aimed simple statement statement_turn statements looped ranged for_from for_of constant_turn another_name name_turn name_list arrayed typed type_of list_turn constants lists out_and_var declarations begun headed same_name ended headless whole_text meaning_of mark_of literal_of logic_of plain_of opened_of element_of operator_of emitted raised noted allows one_more declared_from assigned_in positioned_in miscounted_from target_of assignment_of simple-numberTurn numbers_of list_of one_of position_of act_of simple_of back_turn back_of fresh_name fresh_turn fresh_of closed_type length_of lists-typeOf element_name constant_end constant_from constant_of element_turn elements_of list_end signals_of item_of item_turn items_of section_of sections_of declarations_of pass_turn passed_of upper_of lower_of range_of header_of round_of turns_of loop_of unroll-forFrom unroll-statementTurn statements_with unroll-forOf nodes_at class_of run trees-valueOf first_in end_in tops eval flat top_below meets via marked from_end inverts registers keeps names replaced remains writes uses role_of plain topped placed plain_n placed_n misassigned misplaced positioned_right mispositioned first_below stage_five out_at shows clocked run_from value shows_next settle_all order_of named_in mentions names_pin variable_pin column_of chosen mask_below flip_at set_bits tabled table_in keep spread count columns before covers imp drops any filter prime verdict expand products primes factors digits number drops_n grade_n lent called meaning is_given setting_for fifth fourth third second front_of whole_of parts_T parts_S parts_O
fronts = (refl, refl, refl)

pub front_T : front_of module_T ≡ stays parts_T
front_T = fronts.0

pub front_S : front_of module_S ≡ stays parts_S
front_S = fronts.1

pub front_O : front_of module_O ≡ stays parts_O
front_O = fronts.2
