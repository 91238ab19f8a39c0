-- Simple statements, carried out where they stand in a text that is of the grammar. Document 01, 'The language we take' and 'Refusal numbers',
-- order (4): the target before the expression, a name before its index. decisions 12, 16, 19, 20, 22, 23, 26. The state is what the memory of the
-- circuit holds, and the count of tree nodes in it; the names that stand there are given.
use Rattle.std.specs.Prelude.{ℕ, suc, ◌+◌, ◌-◌, Bool, true, false, List, [], ◌∷◌, length, get_or, eqb, ℤ, pos, negsuc, Result, Ok, Err}
use Rattle.basics.specs.Choice.{pick}
use Rattle.words.specs.Words.{next_word}
use Rattle.integers.specs.Integers.{nextℤ}
use Rattle.grammar.specs.Outcome.{Outcome, ok, no, Turn, more, last, on_word, and_then}
use Rattle.grammar.specs.Modules.{then_turn, word_turn, repeat}
use Rattle.judging.specs.Judging.{Meaning, valued, signal, nothing, meaning_of}
use Rattle.judging.specs.Reading.{State}
use Rattle.readers.specs.Readers.{index_of, expression_of}
use Rattle.parts.specs.Parts.{used_at, allows, one_more, assigned_in, positioned_in, miscounted_from}
use Rattle.basics.specs.declared.refusal.Refusal.{Refusal}
use Rattle.basics.specs.Refusal.{number_of}
use Rattle.simple.specs.declared.Aim.{Aim}

-- the target of an assignment or a position: an element and the place past the target, or a refusal
pub data Target : Type 0 where
  element : ℕ → ℕ → Target
  missed : ℕ → ℕ → Target

abbrev pub aimed : Result Aim Refusal → Target
aimed (Ok a) = element a.element a.next.at
aimed (Err r) = missed (number_of r.reason) r.place

-- it is read as a signal, into a room of its own for one node, which is 9 + the element: targets count no nodes
abbrev pub target_on : Outcome State ℤ → Target
target_on (ok v at y) = element (get_or y.0 0 0 - 9) at
target_on (no n p y) = missed n p

-- a number that counts from 0
abbrev pub upward : ℤ → ℕ
upward (pos k) = k
upward (negsuc k) = 0

-- in a text, among the names that stand there, with d levels of nesting left
module _ (s t : List ℕ) (d : ℕ) where
  unfoldable pub target_of : ℕ → ℕ → Target
  target_of st e = target_on (index_of s t d 2 st e (0 ∷ [], 0))

  -- behind `:=`: the equation of element k is the nodes that the expression adds
  unfoldable pub assignment_of : ℕ → ℕ → State → Outcome State ℤ
  assignment_of k at x = and_then (expression_of s t d 2 at x) (λ v e y. ok (pos 0) e (assigned_in y.0 k x.1 y.1, y.1))

  -- a number z of a list, for the element that v counts from f on: given, or only read
  abbrev pub gave_of : Bool → ℕ → ℤ → ℤ → State → State
  gave_of g f v z y = (pick g (positioned_in y.0 (f + upward v) z) y.0, y.1)

  -- one number of a list: `;` goes on, `]` ends it
  unfoldable pub number_turn : Bool → ℕ → ℤ → ℕ → State → Turn State ℤ
  number_turn g f v at x =
      then_turn (expression_of s t d 1 at x) (λ z e y. word_turn y (next_word s e) (λ k st v' nx.
      pick (eqb k 59) (more (nextℤ v) nx (gave_of g f v z y))
      (pick (eqb k 93) (last (ok (nextℤ v) nx (gave_of g f v z y)))
      (last (no 2 st y)))))

  -- the numbers of a list, behind its `[`: how many they are
  unfoldable pub numbers_of : Bool → ℕ → ℕ → State → Outcome State ℤ
  numbers_of g f at x = repeat (number_turn g f) (suc (length s)) (pos 0) at x

  -- a list for the array of n elements from f on, 0 for a BIT or an element: it is read once for its count, and if that is n again for its numbers
  abbrev pub counted_of : ℕ → ℕ → ℕ → ℤ → ℕ → State → Outcome State ℤ
  counted_of f n at m e y =
      pick (eqb (upward m) n) (numbers_of true f at y) (ok (pos 0) e (miscounted_from y.0 f (pick (eqb n 0) 1 n), y.1))

  unfoldable pub list_of : ℕ → ℕ → ℕ → State → Outcome State ℤ
  list_of f n at x = and_then (numbers_of false f at x) (counted_of f n at)

  -- one number: for a BIT or an element, not for an array
  unfoldable pub one_of : ℕ → ℕ → ℕ → State → Outcome State ℤ
  one_of f n at x =
      and_then (expression_of s t d 1 at x) (λ z e y. ok (pos 0) e (pick (eqb n 0) (positioned_in y.0 f z) (miscounted_from y.0 f n), y.1))

  -- behind `::`
  unfoldable pub position_of : ℕ → ℕ → ℕ → State → Outcome State ℤ
  position_of f n at x = on_word x (next_word s at) (λ k q v nx. pick (eqb k 91) (list_of f n nx x) (one_of f n at x))

  -- behind `::` of a name at st that has no index: a whole array, or a BIT
  abbrev pub placed_of : ℕ → ℕ → State → Meaning → Outcome State ℤ
  placed_of st at x nothing = no 4 st x
  placed_of st at x (valued z) = no 4 st x
  placed_of st at x (signal f n) = position_of f n at x

  -- behind a target
  abbrev pub behind_of : State → Target → Outcome State ℤ
  behind_of x (missed n p) = no n p x
  behind_of x (element k at) =
      on_word x (next_word s at) (λ w p v nx. pick (eqb w 189) (assignment_of k nx x) (pick (eqb w 186) (position_of k 0 nx x) (no 2 p x)))

  -- an assignment or a position whose name is from st to e
  unfoldable pub act_of : ℕ → ℕ → State → Outcome State ℤ
  act_of st e x =
      on_word x (next_word s e) (λ k p v nx. pick (eqb k 186) (placed_of st nx x (meaning_of s t st e)) (behind_of x (target_of st e)))

  -- it is counted first, at its first word
  unfoldable pub simple_of : ℕ → ℕ → State → Outcome State ℤ
  simple_of st e x = pick (allows x.0 used_at 4096) (act_of st e (one_more x.0 used_at 4096, x.1)) (no 6 st x)
