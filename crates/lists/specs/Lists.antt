-- A list of signals in a text that is of the grammar: its names are new, and its type. Document 01, 'Refusal numbers', order (3): in one list the
-- names, then the length; decision 18.
use Rattle.std.specs.Prelude.{ℕ, suc, ◌-◌, Bool, true, false, ◌&&◌, List, length, eqb, leb, Result, Ok, Err, ℤ, pos, negsuc}
use Rattle.basics.specs.Choice.{pick}
use Rattle.words.specs.Words.{next_word}
use Rattle.names.specs.Names.{Seen, known, unknown, looked_up, spelling, same}
use Rattle.grammar.specs.Outcome.{Outcome, ok, no, Turn, more, last, on_word, and_then, levels}
use Rattle.grammar.specs.Grammar.{closed}
use Rattle.grammar.specs.Modules.{word_turn, repeat}
use Rattle.judging.specs.Reading.{State}
use Rattle.readers.specs.Readers.{expression_of}
use Rattle.basics.specs.Refusal.{number_of}
use Rattle.basics.specs.declared.refusal.Refusal.{Refusal}
use Rattle.words.specs.declared.Cursor.{Cursor}
use Rattle.lists.specs.declared.Walk.{Walk}
use Rattle.lists.specs.declared.Walk.TheVariants.{On, End}

abbrev pub is_known : Seen → Bool
is_known (known k v n) = true
is_known unknown = false

-- what the code answers as it goes along a list
abbrev pub seen_walk : Result Walk Refusal → Turn (Unit {0}) ℕ
seen_walk (Ok (On c)) = more 0 c.at tt
seen_walk (Ok (End c)) = last (ok 0 c.at tt)
seen_walk (Err r) = last (no (number_of r.reason) r.place tt)

abbrev pub seen_came : Result Cursor Refusal → Outcome (Unit {0}) ℕ
seen_came (Ok c) = ok 0 c.at tt
seen_came (Err r) = no (number_of r.reason) r.place tt

-- whether the name from st to e stands in its list before: 1 if it does; the words of the list are looked at in turn, up to st
unfoldable pub back_turn : List ℕ → ℕ → ℕ → ℕ → ℕ → Unit {0} → Turn (Unit {0}) ℕ
back_turn s st e v at x =
    word_turn x (next_word s at) (λ k q v' nx.
    pick (eqb k 0) (last (no 2 q x))
    (pick (leb st q) (last (ok 0 nx x))
    (pick (same (spelling s q (nx - q)) (spelling s st (e - st))) (last (ok 1 nx x))
    (more 0 nx x))))

unfoldable pub back_of : List ℕ → ℕ → ℕ → ℕ → Outcome (Unit {0}) ℕ
back_of s first st e = repeat (back_turn s st e) (suc (length s)) 0 first tt

abbrev pub is_back : Outcome (Unit {0}) ℕ → Bool
is_back (ok v at x) = eqb v 1
is_back (no n p x) = false

-- a name of the list that begins at first, among the names t: 4 at it if it is known, or stands in the list before
unfoldable pub fresh_name : List ℕ → List ℕ → ℕ → ℕ → ℕ → Turn (Unit {0}) ℕ
fresh_name s t first st nx =
    pick (is_known (looked_up s t st (nx - st))) (last (no 4 st tt)) (pick (is_back (back_of s first st nx)) (last (no 4 st tt)) (more 0 nx tt))

-- the names up to the `:`
unfoldable pub fresh_turn : List ℕ → List ℕ → ℕ → ℕ → ℕ → Unit {0} → Turn (Unit {0}) ℕ
fresh_turn s t first v at x =
    word_turn x (next_word s at) (λ k st v' nx.
    pick (eqb k 1) (fresh_name s t first st nx)
    (pick (eqb k 44) (more 0 nx tt)
    (pick (eqb k 58) (last (ok 0 nx tt))
    (last (no 2 st tt)))))

unfoldable pub fresh_of : List ℕ → List ℕ → ℕ → Outcome (Unit {0}) ℕ
fresh_of s t first = repeat (fresh_turn s t first) (suc (length s)) 0 first tt

-- the length of an array
abbrev pub is_length : ℤ → Bool
is_length (pos n) = leb 1 n && leb n 32
is_length (negsuc n) = false

-- behind a length: `]` and BIT
unfoldable pub closed_type : List ℕ → ℤ → ℕ → State → Outcome State ℤ
closed_type s z e y = and_then (closed s 93 z e y) (closed s 213)

-- behind `[` of a type: 5 at the length's first word, which is the one behind the `[`
abbrev pub length_on : List ℕ → ℕ → ℤ → ℕ → State → Outcome State ℤ
length_on s p z e y = pick (is_length z) (closed_type s z e y) (no 5 p y)

unfoldable pub length_of : List ℕ → List ℕ → ℕ → State → Outcome State ℤ
length_of s t at x = on_word x (next_word s at) (λ k p v nx. and_then (expression_of s t levels 1 at x) (length_on s p))

-- a type: 0 for BIT, else the length
unfoldable pub type_of : List ℕ → List ℕ → ℕ → State → Outcome State ℤ
type_of s t at x =
    on_word x (next_word s at) (λ k p v nx.
    pick (eqb k 213) (ok (pos 0) nx x)
    (pick (eqb k 91) (length_of s t nx x)
    (no 2 p x)))
