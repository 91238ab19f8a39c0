-- Stages 1 to 5 once more, without the bounds that the definitions of names, parts, integers and judging carry for the sake of memory: a name is always added, a
-- place or a count is always noted, behind every number there is one, and a node is written whether or not the room holds it. All else is as in declare,
-- simple, unroll and texts. Document 01, 'The language we take' and 'Refusal numbers', order (3) and (4).
use Prim.Native.Nat.{ℕ, zero, suc, ◌+◌, ◌-◌}
use mathlib.Core.Bool.{Bool, true, false}
use mathlib.Core.List.{List, [], ◌∷◌}
use lib.ListN.{length, get_or, set, replicate}
use lib.Dec.{eqb, leb, ltb}
use lib.IntN.{ℤ, pos, negsuc, ◌+ℤ◌}
use Rattle.basics.specs.Choice.{pick}
use Rattle.words.specs.Words.{next_word}
use Rattle.integers.specs.Integers.{rounds_of}
use Rattle.names.specs.Names.{looked_up}
use Rattle.grammar.specs.Outcome.{Outcome, ok, no, Built, built, bad, Turn, more, last, on_word, and_then, levels}
use Rattle.grammar.specs.Grammar.{Algebra, named, expression, nested, turned}
use Rattle.grammar.specs.Modules.{Module, then_turn, word_turn, repeat}
use Rattle.grammar.specs.Forms.{checked_text}
use Rattle.judging.specs.Judging.{Meaning, valued, signal, nothing, meaning_of, mark_of, literal_of, logic_of, plain_of, opened_of, element_of, operator_of}
use Rattle.judging.specs.Judging.{Verdict as Judgement, number, node, fault}
use Rattle.judging.specs.Reading.{State, based}
use Rattle.readers.specs.Readers.{expression_of}
use Rattle.trees.specs.Layout.{Elements, class_at, place_at, start_at, size_at, times_at}
use Rattle.trees.specs.Layout.{elements_of as elements_in}
use Rattle.parts.specs.Parts.{used_at, elements_at, constants_at, allows, one_more, raised, miscounted_from}
use Rattle.simple.specs.Statements.{Target, element, missed, target_on, upward, gave_of, one_of}
use Rattle.lists.specs.Lists.{is_known, fresh_of, type_of}
use Rattle.declare.specs.Declarations.{width_of}
use Rattle.unroll.specs.Loops.{header_of, passed_of}
use Rattle.circuit.specs.StageFive.{Verdict}
use Rattle.texts.specs.Stages.{Front, refused, unless}

-- the names with one more in front
abbrev pub added : List ℕ → ℕ → ℕ → ℕ → ℕ → ℕ → List ℕ
added t st n k v m = st ∷ n ∷ k ∷ v ∷ m ∷ t

-- the number behind a number
abbrev pub behind : ℤ → ℤ
behind z = z +ℤ pos 1

-- ---- signals: a node more, at most 2,048 over the module. (Numbers write none, and are read by the readers' own algebra.)

unfoldable pub emitted : ℕ → ℕ → State → Built State ℤ
emitted c p x = pick (ltb x.1 2048) (built (pos 0) (set x.0 x.1 c, x.1 + 1)) (bad 6 p x)

abbrev pub done : Judgement → ℕ → State → Built State ℤ
done (number v) p x = built v x
done (node c) p x = emitted c p x
done (fault n q) p x = bad n q x

abbrev pub reads : List ℕ → List ℕ → Algebra State ℤ (ℕ × ℕ)
reads s t = record {
  literal = λ o p v x. done (literal_of o p v) p x;
  logic = λ o p v x. done (logic_of o p v) p x;
  plain = λ o st e x. done (plain_of s t o st e) st x;
  opened = λ o st e p x. based (opened_of s t o st e p) x;
  element = λ o st e p b i x. done (element_of o st p b.0 b.1 i) st x;
  invert = λ o p v x. done (mark_of o 2 p) p x;
  apply = λ o k p v w x. done (operator_of o k p v w) p x;
  choose = λ o p a b c x. done (mark_of o 6 p) p x;
  hold = λ o p a x. done (mark_of o 7 p) p x;
  keep = λ o p a b x. done (mark_of o 8 p) p x;
}

-- the signal at a place, and the element that a name with its index is
abbrev pub signal_of : List ℕ → List ℕ → ℕ → ℕ → State → Outcome State ℤ
signal_of s t d at x = expression (reads s t) s (nested (reads s t) s d) 2 at x

abbrev pub index_of : List ℕ → List ℕ → ℕ → ℕ → ℕ → State → Outcome State ℤ
index_of s t d st e x = named (reads s t) s (nested (reads s t) s d) 2 st e x

-- ---- parts

unfoldable pub declared_from : List ℕ → ℕ → ℕ → ℕ → ℕ → List ℕ
declared_from l c p k zero = l
declared_from l c p k (suc n) =
    let r : List ℕ = declared_from (set (set l (class_at + k) c) (place_at + k) p) c p (k + 1) n in
    r

unfoldable pub assigned_in : List ℕ → ℕ → ℕ → ℕ → List ℕ
assigned_in l k a b = raised (set (set l (start_at + k) a) (size_at + k) (b - a)) (times_at + k)

-- ---- declarations

abbrev pub with_constant : List ℕ → ℕ → ℕ → ℤ → List ℕ
with_constant t st e (pos m) = added t st (e - st) 1 m 0
with_constant t st e (negsuc m) = added t st (e - st) 1 m 1

unfoldable pub element_name : ℕ → ℕ → List ℕ → ℕ → ℕ → State → Turn State (List ℕ)
element_name c n t st e x =
    let m : ℕ = get_or x.0 elements_at 0 in
    pick (leb (m + width_of n) 64)
    (more (added t st (e - st) 2 m n) e (set (declared_from x.0 c st m (width_of n)) elements_at (m + width_of n), x.1))
    (last (no 6 st x))

module _ (s : List ℕ) where
  unfoldable pub constant_end : List ℕ → ℕ → ℕ → ℤ → ℕ → State → Outcome State (List ℕ)
  constant_end t st e z at y = on_word y (next_word s at) (λ k p v nx. pick (eqb k 59) (ok (with_constant t st e z) nx y) (no 2 p y))

  unfoldable pub constant_from : List ℕ → ℕ → ℕ → State → Outcome State (List ℕ)
  constant_from t st e x =
      on_word x (next_word s e) (λ k p v nx. pick (eqb k 189) (and_then (expression_of s t levels 1 nx x) (constant_end t st e)) (no 2 p x))

  unfoldable pub constant_of : List ℕ → ℕ → ℕ → State → Outcome State (List ℕ)
  constant_of t st e x =
      pick (is_known (looked_up s t st (e - st))) (no 4 st x)
      (pick (allows x.0 constants_at 32) (constant_from t st e (one_more x.0 constants_at 32, x.1)) (no 6 st x))

  unfoldable pub element_turn : ℕ → ℕ → List ℕ → ℕ → State → Turn State (List ℕ)
  element_turn c n t at x =
      word_turn x (next_word s at) (λ k st v nx.
      pick (eqb k 1) (element_name c n t st nx x)
      (pick (eqb k 44) (more t nx x)
      (last (ok t at x))))

  unfoldable pub elements_of : ℕ → ℕ → List ℕ → ℕ → State → Outcome State (List ℕ)
  elements_of c n t at x = repeat (element_turn c n) (suc (length s)) t at x

  unfoldable pub list_end : ℕ → List ℕ → ℕ → ℤ → ℕ → State → Outcome State (List ℕ)
  list_end c t first z at y =
      on_word y (next_word s at) (λ k p v nx. pick (eqb k 59) (and_then (elements_of c (upward z) t first y) (λ u e y. ok u nx y)) (no 2 p y))

  abbrev pub signals_from : ℕ → List ℕ → ℕ → State → Outcome (Unit {0}) ℕ → Outcome State (List ℕ)
  signals_from c t first x (ok v at u) = and_then (type_of s t at x) (list_end c t first)
  signals_from c t first x (no n p u) = no n p x

  unfoldable pub signals_of : ℕ → List ℕ → ℕ → State → Outcome State (List ℕ)
  signals_of c t first x = signals_from c t first x (fresh_of s t first)

  unfoldable pub item_of : ℕ → List ℕ → ℕ → ℕ → ℕ → State → Outcome State (List ℕ)
  item_of c t at st e x = pick (eqb c 0) (constant_of t st e x) (signals_of c t at x)

  unfoldable pub item_turn : ℕ → List ℕ → ℕ → State → Turn State (List ℕ)
  item_turn c t at x = word_turn x (next_word s at) (λ k st v nx. pick (eqb k 1) (turned (item_of c t at st nx x)) (last (ok t at x)))

  unfoldable pub items_of : ℕ → List ℕ → ℕ → State → Outcome State (List ℕ)
  items_of c t at x = repeat (item_turn c) (suc (length s)) t at x

  unfoldable pub section_of : ℕ → List ℕ → ℕ → State → Outcome State (List ℕ)
  section_of c t at x = on_word x (next_word s at) (λ k st v nx. pick (eqb k (208 + c)) (items_of c t nx x) (ok t at x))

  unfoldable pub sections_of : ℕ → ℕ → List ℕ → ℕ → State → Outcome State (List ℕ)
  sections_of zero c t at x = ok t at x
  sections_of (suc n) c t at x = and_then (section_of c t at x) (λ u e y. sections_of n (c + 1) u e y)

  unfoldable pub declarations_of : ℕ → State → Outcome State (List ℕ)
  declarations_of at x = sections_of 4 0 [] at x

-- ---- simple statements

module _ (s t : List ℕ) (d : ℕ) where
  unfoldable pub target_of : ℕ → ℕ → Target
  target_of st e = target_on (index_of s t d st e (0 ∷ [], 0))

  unfoldable pub assignment_of : ℕ → ℕ → State → Outcome State ℤ
  assignment_of k at x = and_then (signal_of s t d at x) (λ v e y. ok (pos 0) e (assigned_in y.0 k x.1 y.1, y.1))

  unfoldable pub number_turn : Bool → ℕ → ℤ → ℕ → State → Turn State ℤ
  number_turn g f v at x =
      then_turn (expression_of s t d 1 at x) (λ z e y. word_turn y (next_word s e) (λ k st v' nx.
      pick (eqb k 59) (more (behind v) nx (gave_of s t d g f v z y))
      (pick (eqb k 93) (last (ok (behind v) nx (gave_of s t d g f v z y)))
      (last (no 2 st y)))))

  unfoldable pub numbers_of : Bool → ℕ → ℕ → State → Outcome State ℤ
  numbers_of g f at x = repeat (number_turn g f) (suc (length s)) (pos 0) at x

  abbrev pub counted_of : ℕ → ℕ → ℕ → ℤ → ℕ → State → Outcome State ℤ
  counted_of f n at m e y =
      pick (eqb (upward m) n) (numbers_of true f at y) (ok (pos 0) e (miscounted_from y.0 f (pick (eqb n 0) 1 n), y.1))

  unfoldable pub list_of : ℕ → ℕ → ℕ → State → Outcome State ℤ
  list_of f n at x = and_then (numbers_of false f at x) (counted_of f n at)

  unfoldable pub position_of : ℕ → ℕ → ℕ → State → Outcome State ℤ
  position_of f n at x = on_word x (next_word s at) (λ k q v nx. pick (eqb k 91) (list_of f n nx x) (one_of s t d f n at x))

  abbrev pub placed_of : ℕ → ℕ → State → Meaning → Outcome State ℤ
  placed_of st at x nothing = no 4 st x
  placed_of st at x (valued z) = no 4 st x
  placed_of st at x (signal f n) = position_of f n at x

  abbrev pub behind_of : State → Target → Outcome State ℤ
  behind_of x (missed n p) = no n p x
  behind_of x (element k at) =
      on_word x (next_word s at) (λ w p v nx. pick (eqb w 189) (assignment_of k nx x) (pick (eqb w 186) (position_of k 0 nx x) (no 2 p x)))

  unfoldable pub act_of : ℕ → ℕ → State → Outcome State ℤ
  act_of st e x =
      on_word x (next_word s e) (λ k p v nx. pick (eqb k 186) (placed_of st nx x (meaning_of s t st e)) (behind_of x (target_of st e)))

  unfoldable pub simple_of : ℕ → ℕ → State → Outcome State ℤ
  simple_of st e x = pick (allows x.0 used_at 4096) (act_of st e (one_more x.0 used_at 4096, x.1)) (no 6 st x)

-- ---- FOR

abbrev pub with_loop : List ℕ → ℕ → ℕ → ℤ → List ℕ
with_loop t st e (pos m) = added t st (e - st) 3 m 0
with_loop t st e (negsuc m) = added t st (e - st) 3 m 1

module _ (s t : List ℕ) (body : List ℕ → ℕ → State → Outcome State ℤ) where
  unfoldable pub round_of : ℕ → ℕ → ℕ → ℕ → ℤ → State → Outcome State ℤ
  round_of p st e q z x = pick (allows x.0 used_at 4096) (body (with_loop t st e z) q (one_more x.0 used_at 4096, x.1)) (no 6 p x)

  unfoldable pub turns_of : ℕ → ℕ → ℕ → ℕ → ℕ → ℕ → ℤ → State → Outcome State ℤ
  turns_of p st e q r zero z x = ok (pos 0) r x
  turns_of p st e q r (suc n) z x = and_then (round_of p st e q z x) (λ v at y. turns_of p st e q r n (behind z) y)

  abbrev pub closed_by : ℕ → ℕ → ℕ → ℤ → ℤ → ℕ → State → Outcome (Unit {0}) ℕ → Outcome State ℤ
  closed_by p st e a b q x (ok l r u) = turns_of p st e q r (rounds_of a b) a x
  closed_by p st e a b q x (no n w u) = no n w x

  unfoldable pub loop_of : ℕ → ℕ → ℕ → ℤ → ℤ → ℕ → State → Outcome State ℤ
  loop_of p st e a b q x = closed_by p st e a b q x (passed_of s q)

  unfoldable pub for_from : ℕ → ℕ → ℕ → State → Outcome State ℤ
  for_from d p at x = and_then (header_of s t d at x) (λ h q y. loop_of p h.first h.past h.low h.high q y)

module _ (s t : List ℕ) (d : ℕ) (loops : ℕ → ℕ → State → Outcome State ℤ) where
  abbrev pub again : Outcome State ℤ → Turn State ℤ
  again o = then_turn o (λ v e y. more (pos 0) e y)

  unfoldable pub statement_turn : ℤ → ℕ → State → Turn State ℤ
  statement_turn v at x =
      word_turn x (next_word s at) (λ k st v' nx.
      pick (eqb k 1) (again (simple_of s t d st nx x))
      (pick (eqb k 200) (again (loops st nx x))
      (pick (eqb k 59) (more (pos 0) nx x)
      (last (ok (pos 0) at x)))))

  unfoldable pub statements_with : ℕ → State → Outcome State ℤ
  statements_with at x = repeat statement_turn (suc (length s)) (pos 0) at x

unfoldable pub for_of : List ℕ → ℕ → List ℕ → ℕ → ℕ → State → Outcome State ℤ
for_of s zero t p at x = no 6 p x
for_of s (suc d) t p at x = for_from s t (λ u q y. statements_with s u d (for_of s d u) q y) d p at x

abbrev pub statements_of : List ℕ → ℕ → List ℕ → ℕ → State → Outcome State ℤ
statements_of s d t at x = statements_with s t d (for_of s d t) at x

-- ---- a text, with a verdict of stage 5 over its elements

module _ (five : Elements → Verdict) where
  unfoldable pub fifth : List ℕ → Front
  fifth parts = unless (five (elements_in parts)) parts

  abbrev pub unrolled : Outcome State ℤ → Front
  unrolled (ok v at x) = fifth x.0
  unrolled (no n p x) = refused n p

  unfoldable pub fourth : List ℕ → ℕ → List ℕ → State → Front
  fourth s at t x = unrolled (statements_of s levels t at x)

  abbrev pub declared : List ℕ → ℕ → Outcome State (List ℕ) → Front
  declared s b (ok t at x) = fourth s b t x
  declared s b (no n p x) = refused n p

  unfoldable pub third : List ℕ → ℕ → ℕ → Front
  third s at b = declared s b (declarations_of s at (replicate 2588 0, 0))

  abbrev pub checked : List ℕ → Outcome (Unit {0}) (Module (Unit {0}) (Unit {0})) → Front
  checked s (ok m at u) = third s m.declarations m.statements
  checked s (no n p u) = refused n p

  unfoldable pub second : List ℕ → Front
  second s = checked s (checked_text s)

  unfoldable pub front_of : List ℕ → Front
  front_of s = pick (leb (length s) 32768) (second s) (refused 1 0)
