-- Reading for a number, for a check, or for a signal that is not counted writes nothing: it leaves the room and the count as they were, also where it
-- refuses. What it answers is the same whatever they are.
-- Assumes nothing.
use mathlib.Core.Path.{◌≡◌, refl, sym, subst, ◌∙◌}
use mathlib.Core.Bool.{Bool, false}
use mathlib.Core.List.{List}
use Prim.Native.Nat.{ℕ}
use lib.Dec.{eqb}
use lib.IntN.{ℤ}
use Rattle.basics.proofs.Truth.{clash}
use Rattle.grammar.specs.Outcome.{Outcome, ok, no}
use Rattle.grammar.specs.Grammar.{index_sort, part_sort, expression, nested}
use Rattle.grammar.proofs.Related.{RelB, RelO, rel_expression, rel_nested}
use Rattle.judging.specs.Judging.{Verdict, number, node, fault, Array, base, unfit, meaning_of, mark_of, literal_of, logic_of, plain_of, opened_of, element_of, operator_of}
use Rattle.judging.specs.Reading.{State, done, based, reads}
use Rattle.equations.proofs.Written.{Emits, emits_mark, emits_literal, emits_logic, emits_plain, emits_element, emits_operator, logic_code, name_code, element_code, operator_code, part_two, index_two}

-- what was read leaves a state
abbrev pub Leaves : State → Outcome State ℤ → Type 0
Leaves x (ok v e y) = y ≡ x
Leaves x (no n p y) = y ≡ x

module _ (s t : List ℕ) (x₀ y₀ : State) where
  abbrev pub Kept : State → State → Type 0
  Kept x y = (x ≡ x₀) × (y ≡ y₀)

  abbrev pub Alike : ℤ → ℤ → Type 0
  Alike v w = v ≡ w

  abbrev Paired : ℕ × ℕ → ℕ × ℕ → Type 0
  Paired c d = c ≡ d

  -- a sort for which nothing is written
  abbrev Quiet : ℕ → Type 0
  Quiet o = eqb o 2 ≡ false

  judged : (o c : ℕ) (j : Verdict) (p : ℕ) (x y : State) → Emits o c j → Quiet o → Kept x y → RelB Kept Alike (done j p x) (done j p y)
  judged o c (number v) p x y e g q = (refl, q)
  judged o c (node k) p x y e g q = absurd (clash (sym e.0 ∙ g))
  judged o c (fault n r) p x y e g q = (refl, refl, q)

  opened : (j : Array) (x y : State) → Kept x y → RelB Kept Paired (based j x) (based j y)
  opened (base f n) x y q = (refl, q)
  opened (unfit n p) x y q = (refl, refl, q)

  indexed : (o : ℕ) → Quiet o → Quiet (index_sort o)
  indexed o g = index_two o

  parted : (o : ℕ) → Quiet o → Quiet (part_sort o)
  parted o g = part_two o ∙ g

  elements : (o st e p : ℕ) (c d : ℕ × ℕ) (i j : ℤ) (x y : State) → Paired c d → Alike i j → Kept x y → Quiet o
      → RelB Kept Alike (done (element_of o st p c.0 c.1 i) st x) (done (element_of o st p d.0 d.1 j) st y)
  elements o st e p c d i j x y h r q g =
      subst (λ (k : ℤ). RelB Kept Alike (done (element_of o st p c.0 c.1 i) st x) (done (element_of o st p d.0 d.1 k) st y)) r
      (subst (λ (k : ℕ × ℕ). RelB Kept Alike (done (element_of o st p c.0 c.1 i) st x) (done (element_of o st p k.0 k.1 i) st y)) h
      (judged o (element_code c.0 i) (element_of o st p c.0 c.1 i) st x y (emits_element o st p c.0 c.1 i) g q))

  applies : (o k p : ℕ) (v w v' w' : ℤ) (x y : State) → Alike v v' → Alike w w' → Kept x y → Quiet o
      → RelB Kept Alike (done (operator_of o k p v w) p x) (done (operator_of o k p v' w') p y)
  applies o k p v w v' w' x y a b q g =
      subst (λ (i : ℤ). RelB Kept Alike (done (operator_of o k p v w) p x) (done (operator_of o k p v' i) p y)) b
      (subst (λ (i : ℤ). RelB Kept Alike (done (operator_of o k p v w) p x) (done (operator_of o k p i w) p y)) a
      (judged o (operator_code k) (operator_of o k p v w) p x y (emits_operator o k p v w) g q))

  still-nested : (d : ℕ) (m : Bool) (o p at : ℕ) (x y : State) → Kept x y → Quiet o
      → RelO Kept Alike (nested (reads s t) s d m o p at x) (nested (reads s t) s d m o p at y)
  still-nested =
      rel_nested Kept Alike Paired (reads s t) (reads s t) Quiet indexed parted
      (λ o p v x y q g. judged o 0 (literal_of o p v) p x y (emits_literal o 0 p v) g q)
      (λ o p v x y q g. judged o (logic_code v) (logic_of o p v) p x y (emits_logic o p v) g q)
      (λ o st e x y q g. judged o (name_code (meaning_of s t st e)) (plain_of s t o st e) st x y (emits_plain s t o st e) g q)
      (λ o st e p x y q g. opened (opened_of s t o st e p) x y q) elements
      (λ o p i j x y r q g. judged o 2 (mark_of o 2 p) p x y (emits_mark o 2 p) g q) applies
      (λ o p a b c a' b' c' x y e f h q g. judged o 6 (mark_of o 6 p) p x y (emits_mark o 6 p) g q)
      (λ o p i j x y r q g. judged o 7 (mark_of o 7 p) p x y (emits_mark o 7 p) g q)
      (λ o p a b a' b' x y e f q g. judged o 8 (mark_of o 8 p) p x y (emits_mark o 8 p) g q) s

  -- from two states: the same value and end, or the same refusal
  pub still_expression : (d o at : ℕ) → Quiet o
      → RelO Kept Alike (expression (reads s t) s (nested (reads s t) s d) o at x₀) (expression (reads s t) s (nested (reads s t) s d) o at y₀)
  still_expression d o at g =
      rel_expression Kept Alike Paired (reads s t) (reads s t) Quiet indexed parted
      (λ o p v x y q g. judged o 0 (literal_of o p v) p x y (emits_literal o 0 p v) g q)
      (λ o p v x y q g. judged o (logic_code v) (logic_of o p v) p x y (emits_logic o p v) g q)
      (λ o st e x y q g. judged o (name_code (meaning_of s t st e)) (plain_of s t o st e) st x y (emits_plain s t o st e) g q)
      (λ o st e p x y q g. opened (opened_of s t o st e p) x y q) elements
      (λ o p i j x y r q g. judged o 2 (mark_of o 2 p) p x y (emits_mark o 2 p) g q) applies
      (λ o p a b c a' b' c' x y e f h q g. judged o 6 (mark_of o 6 p) p x y (emits_mark o 6 p) g q)
      (λ o p i j x y r q g. judged o 7 (mark_of o 7 p) p x y (emits_mark o 7 p) g q)
      (λ o p a b a' b' x y e f q g. judged o 8 (mark_of o 8 p) p x y (emits_mark o 8 p) g q) s
      (nested (reads s t) s d) (nested (reads s t) s d) (still-nested d) o at x₀ y₀ (refl, refl) g

module _ (s t : List ℕ) (x₀ : State) where
  leaves : (r : Outcome State ℤ) → RelO (Kept s t x₀ x₀) (Alike s t x₀ x₀) r r → Leaves x₀ r
  leaves (ok v e y) a = a.2.0
  leaves (no n p y) a = a.2.0

  -- an expression read for a sort other than 2 leaves the room and the count as they were
  pub reads_still : (d o at : ℕ) → eqb o 2 ≡ false → Leaves x₀ (expression (reads s t) s (nested (reads s t) s d) o at x₀)
  reads_still d o at g = leaves (expression (reads s t) s (nested (reads s t) s d) o at x₀) (still_expression s t x₀ x₀ d o at g)
