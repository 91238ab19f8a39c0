-- Declarations, judged where they stand in a text that is of the grammar. Document 01, 'The language we take' and 'Refusal numbers', order (3): in text
-- order, in one list the names, then the length, then the count of signals; decisions 17, 18. The state is what the memory of the circuit holds and
-- the count of tree nodes; the names that stand there are handed on.
use Rattle.std.specs.Prelude.{ℕ, zero, suc, ◌+◌, ◌-◌, List, [], length, get_or, set, eqb, leb, Result, Ok, Err, ℤ, pos, negsuc}
use Rattle.basics.specs.Choice.{pick}
use Rattle.words.specs.Words.{next_word}
use Rattle.names.specs.Names.{looked_up, extended, held}
use Rattle.grammar.specs.Outcome.{Outcome, ok, no, Turn, more, last, on_word, and_then, levels}
use Rattle.grammar.specs.Grammar.{turned}
use Rattle.grammar.specs.Modules.{word_turn, repeat}
use Rattle.judging.specs.Reading.{State}
use Rattle.readers.specs.Readers.{expression_of}
use Rattle.parts.specs.Parts.{elements_at, constants_at, allows, one_more, declared_from}
use Rattle.simple.specs.Statements.{upward}
use Rattle.lists.specs.Lists.{is_known, fresh_of, type_of}
use Rattle.basics.specs.Refusal.{number_of}
use Rattle.basics.specs.declared.refusal.Refusal.{Refusal}
use Rattle.declare.specs.declared.Made.{Made}
use Rattle.declare.specs.declared.Section.{Section}
use Rattle.declare.specs.declared.Section.TheVariants.{Constants, In, Out, Var}

-- the number of each section: constants 0, of signals the class 1 IN, 2 OUT, 3 VAR
abbrev pub class_of : Section → ℕ
class_of Constants = 0
class_of In = 1
class_of Out = 2
class_of Var = 3

-- what the code answers, with what the memory holds then and the count of nodes
abbrev pub seen_made : Result Made Refusal → State → Outcome State (List ℕ)
seen_made (Ok m) x = ok (held m.table) m.next.at x
seen_made (Err r) x = no (number_of r.reason) r.place x

-- the names with the constant from st to e in front: its value is z
abbrev pub with_constant : List ℕ → ℕ → ℕ → ℤ → List ℕ
with_constant t st e (pos m) = extended t st (e - st) 1 m 0
with_constant t st e (negsuc m) = extended t st (e - st) 1 m 1

-- how many elements a name of a type has: an array's length, or one
abbrev pub width_of : ℕ → ℕ
width_of n = pick (eqb n 0) 1 n

-- the elements of the name from st to e, of class c and length n, behind those that there are: at most 64
unfoldable pub element_name : ℕ → ℕ → List ℕ → ℕ → ℕ → State → Turn State (List ℕ)
element_name c n t st e x =
    let m : ℕ = get_or x.0 elements_at 0 in
    pick (leb (m + width_of n) 64)
    (more (extended t st (e - st) 2 m n) e (set (declared_from x.0 c st m (width_of n)) elements_at (m + width_of n), x.1))
    (last (no 6 st x))

module _ (s : List ℕ) where
  -- behind the value of a constant: it is known from its `;` on
  unfoldable pub constant_end : List ℕ → ℕ → ℕ → ℤ → ℕ → State → Outcome State (List ℕ)
  constant_end t st e z at y = on_word y (next_word s at) (λ k p v nx. pick (eqb k 59) (ok (with_constant t st e z) nx y) (no 2 p y))

  -- behind the name of a constant, from st to e
  unfoldable pub constant_from : List ℕ → ℕ → ℕ → State → Outcome State (List ℕ)
  constant_from t st e x =
      on_word x (next_word s e) (λ k p v nx. pick (eqb k 189) (and_then (expression_of s t levels 1 nx x) (constant_end t st e)) (no 2 p x))

  -- a constant: its name is new, then there are at most 32, then its value
  unfoldable pub constant_of : List ℕ → ℕ → ℕ → State → Outcome State (List ℕ)
  constant_of t st e x =
      pick (is_known (looked_up s t st (e - st))) (no 4 st x)
      (pick (allows x.0 constants_at 32) (constant_from t st e (one_more x.0 constants_at 32, x.1)) (no 6 st x))

  -- the names of a list up to the `:`
  unfoldable pub element_turn : ℕ → ℕ → List ℕ → ℕ → State → Turn State (List ℕ)
  element_turn c n t at x =
      word_turn x (next_word s at) (λ k st v nx.
      pick (eqb k 1) (element_name c n t st nx x)
      (pick (eqb k 44) (more t nx x)
      (last (ok t at x))))

  unfoldable pub elements_of : ℕ → ℕ → List ℕ → ℕ → State → Outcome State (List ℕ)
  elements_of c n t at x = repeat (element_turn c n) (suc (length s)) t at x

  -- behind the type of the list that begins at a place: `;`
  unfoldable pub list_end : ℕ → List ℕ → ℕ → ℤ → ℕ → State → Outcome State (List ℕ)
  list_end c t first z at y =
      on_word y (next_word s at) (λ k p v nx. pick (eqb k 59) (and_then (elements_of c (upward z) t first y) (λ u e y. ok u nx y)) (no 2 p y))

  -- a list of signals of class c that begins at a place: the names are new, then the type, then the count
  abbrev pub signals_from : ℕ → List ℕ → ℕ → State → Outcome (Unit {0}) ℕ → Outcome State (List ℕ)
  signals_from c t first x (ok v at u) = and_then (type_of s t at x) (list_end c t first)
  signals_from c t first x (no n p u) = no n p x

  unfoldable pub signals_of : ℕ → List ℕ → ℕ → State → Outcome State (List ℕ)
  signals_of c t first x = signals_from c t first x (fresh_of s t first)

  -- class 0 is constants, 1 IN, 2 OUT, 3 VAR
  unfoldable pub item_of : ℕ → List ℕ → ℕ → ℕ → ℕ → State → Outcome State (List ℕ)
  item_of c t at st e x = pick (eqb c 0) (constant_of t st e x) (signals_of c t at x)

  unfoldable pub item_turn : ℕ → List ℕ → ℕ → State → Turn State (List ℕ)
  item_turn c t at x = word_turn x (next_word s at) (λ k st v nx. pick (eqb k 1) (turned (item_of c t at st nx x)) (last (ok t at x)))

  unfoldable pub items_of : ℕ → List ℕ → ℕ → State → Outcome State (List ℕ)
  items_of c t at x = repeat (item_turn c) (suc (length s)) t at x

  -- the section of a class: its word, 208 and above, and its declarations
  unfoldable pub section_of : ℕ → List ℕ → ℕ → State → Outcome State (List ℕ)
  section_of c t at x = on_word x (next_word s at) (λ k st v nx. pick (eqb k (208 + c)) (items_of c t nx x) (ok t at x))

  -- n sections, from that of class c on
  unfoldable pub sections_of : ℕ → ℕ → List ℕ → ℕ → State → Outcome State (List ℕ)
  sections_of zero c t at x = ok t at x
  sections_of (suc n) c t at x = and_then (section_of c t at x) (λ u e y. sections_of n (c + 1) u e y)

  -- the declarations of a module, behind its heading
  unfoldable pub declarations_of : ℕ → State → Outcome State (List ℕ)
  declarations_of at x = sections_of 4 0 [] at x
