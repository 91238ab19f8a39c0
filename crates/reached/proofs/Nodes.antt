-- A room of 2,048 numbers or more holds every node that a module may have, and the room of one number that a target is read into holds its one node: whether a room
-- holds a node need not be asked.
-- Assumes nothing.
use mathlib.Core.Path.{◌≡◌, refl, sym, ap, subst, ◌∙◌}
use mathlib.Core.Bool.{Bool, true, false}
use mathlib.Core.List.{List, [], ◌∷◌}
use Prim.Native.Nat.{ℕ, ◌+◌, ◌<◌, ◌≤◌}
use native.Mathlib.Omega.{arith}
use lib.ListN.{length, set, length-set}
use lib.Dec.{eqb, ltb}
use lib.IntN.{ℤ, pos}
use borrow.Author.Tests.{ltb-true, lt-ltb}
use Rattle.basics.specs.Choice.{pick}
use Rattle.basics.proofs.Truth.{clash}
use Rattle.words.specs.Taken.{Taken}
use Rattle.words.specs.Taken.{Word, Refused}
use Rattle.words.specs.Words.{next_word}
use Rattle.grammar.specs.Outcome.{Outcome, ok, no, Built, built, bad, on_word, and_then, built_at, after_built}
use Rattle.grammar.specs.Grammar.{index_sort, part_sort, part, dotted, bracketed, pointed, named, expression, nested}
use Rattle.grammar.proofs.Related.{RelB, RelO, rel_part, rel_expression, rel_nested}
use Rattle.judging.specs.Judging.{Verdict, number, node, fault, Array, base, unfit, meaning_of, mark_of, literal_of, logic_of, plain_of, opened_of, element_of, operator_of}
use Rattle.judging.specs.Reading.{State, emitted, done, based, reads}
use Rattle.readers.specs.Readers.{expression_of}
use Rattle.equations.proofs.Written.{Emits, emits_mark, emits_literal, emits_logic, emits_plain, emits_element, emits_operator, logic_code, name_code, element_code, operator_code, part_two, index_two}
use Rattle.simple.specs.Statements.{target_on, target_of}
use Rattle.reached.proofs.Unbounded as free

abbrev Alike : ℤ → ℤ → Type 0
Alike v w = v ≡ w

abbrev Paired : ℕ × ℕ → ℕ × ℕ → Type 0
Paired c d = c ≡ d

-- two algebras that differ in what they do with a judgement
module _ (s t : List ℕ) (Q : State → State → Type 0) (W : ℕ → Type 0) (indexed : (o : ℕ) → W o → W (index_sort o)) (parted : (o : ℕ) → W o → W (part_sort o))
    (judged : (o c : ℕ) (j : Verdict) (p : ℕ) (x y : State) → Emits o c j → W o → Q x y → RelB Q Alike (done j p x) (free.done j p y)) where
  opened : (j : Array) (x y : State) → Q x y → RelB Q Paired (based j x) (based j y)
  opened (base f n) x y q = (refl, q)
  opened (unfit n p) x y q = (refl, refl, q)

  elements : (o st e p : ℕ) (c d : ℕ × ℕ) (i j : ℤ) (x y : State) → Paired c d → Alike i j → Q x y → W o
      → RelB Q Alike (done (element_of o st p c.0 c.1 i) st x) (free.done (element_of o st p d.0 d.1 j) st y)
  elements o st e p c d i j x y h r q g =
      subst (λ (k : ℤ). RelB Q Alike (done (element_of o st p c.0 c.1 i) st x) (free.done (element_of o st p d.0 d.1 k) st y)) r
      (subst (λ (k : ℕ × ℕ). RelB Q Alike (done (element_of o st p c.0 c.1 i) st x) (free.done (element_of o st p k.0 k.1 i) st y)) h
      (judged o (element_code c.0 i) (element_of o st p c.0 c.1 i) st x y (emits_element o st p c.0 c.1 i) g q))

  applies : (o k p : ℕ) (v w v' w' : ℤ) (x y : State) → Alike v v' → Alike w w' → Q x y → W o
      → RelB Q Alike (done (operator_of o k p v w) p x) (free.done (operator_of o k p v' w') p y)
  applies o k p v w v' w' x y a b q g =
      subst (λ (i : ℤ). RelB Q Alike (done (operator_of o k p v w) p x) (free.done (operator_of o k p v' i) p y)) b
      (subst (λ (i : ℤ). RelB Q Alike (done (operator_of o k p v w) p x) (free.done (operator_of o k p i w) p y)) a
      (judged o (operator_code k) (operator_of o k p v w) p x y (emits_operator o k p v w) g q))

  alike-nested : (d : ℕ) (m : Bool) (o p at : ℕ) (x y : State) → Q x y → W o → RelO Q Alike (nested (reads s t) s d m o p at x) (nested (free.reads s t) s d m o p at y)
  alike-nested =
      rel_nested Q Alike Paired (reads s t) (free.reads s t) W indexed parted
      (λ o p v x y q g. judged o 0 (literal_of o p v) p x y (emits_literal o 0 p v) g q)
      (λ o p v x y q g. judged o (logic_code v) (logic_of o p v) p x y (emits_logic o p v) g q)
      (λ o st e x y q g. judged o (name_code (meaning_of s t st e)) (plain_of s t o st e) st x y (emits_plain s t o st e) g q)
      (λ o st e p x y q g. opened (opened_of s t o st e p) x y q) elements
      (λ o p i j x y r q g. judged o 2 (mark_of o 2 p) p x y (emits_mark o 2 p) g q) applies
      (λ o p a b c a' b' c' x y e f h q g. judged o 6 (mark_of o 6 p) p x y (emits_mark o 6 p) g q)
      (λ o p i j x y r q g. judged o 7 (mark_of o 7 p) p x y (emits_mark o 7 p) g q)
      (λ o p a b a' b' x y e f q g. judged o 8 (mark_of o 8 p) p x y (emits_mark o 8 p) g q) s

  alike-expression : (d o at : ℕ) (x y : State) → Q x y → W o
      → RelO Q Alike (expression_of s t d o at x) (expression (free.reads s t) s (nested (free.reads s t) s d) o at y)
  alike-expression d o at x y q g =
      rel_expression Q Alike Paired (reads s t) (free.reads s t) W indexed parted
      (λ o p v x y q g. judged o 0 (literal_of o p v) p x y (emits_literal o 0 p v) g q)
      (λ o p v x y q g. judged o (logic_code v) (logic_of o p v) p x y (emits_logic o p v) g q)
      (λ o st e x y q g. judged o (name_code (meaning_of s t st e)) (plain_of s t o st e) st x y (emits_plain s t o st e) g q)
      (λ o st e p x y q g. opened (opened_of s t o st e p) x y q) elements
      (λ o p i j x y r q g. judged o 2 (mark_of o 2 p) p x y (emits_mark o 2 p) g q) applies
      (λ o p a b c a' b' c' x y e f h q g. judged o 6 (mark_of o 6 p) p x y (emits_mark o 6 p) g q)
      (λ o p i j x y r q g. judged o 7 (mark_of o 7 p) p x y (emits_mark o 7 p) g q)
      (λ o p a b a' b' x y e f q g. judged o 8 (mark_of o 8 p) p x y (emits_mark o 8 p) g q) s
      (nested (reads s t) s d) (nested (free.reads s t) s d) (alike-nested d) o at x y q g

  alike-part : (d o p k at : ℕ) (x y : State) → Q x y → W o
      → RelO Q Alike (part (reads s t) s (nested (reads s t) s d) o p k at x) (part (free.reads s t) s (nested (free.reads s t) s d) o p k at y)
  alike-part d o p k at x y q g =
      rel_part Q Alike Paired (reads s t) (free.reads s t) W indexed parted
      (λ o p v x y q g. judged o 0 (literal_of o p v) p x y (emits_literal o 0 p v) g q)
      (λ o p v x y q g. judged o (logic_code v) (logic_of o p v) p x y (emits_logic o p v) g q)
      (λ o st e x y q g. judged o (name_code (meaning_of s t st e)) (plain_of s t o st e) st x y (emits_plain s t o st e) g q)
      (λ o st e p x y q g. opened (opened_of s t o st e p) x y q) elements
      (λ o p i j x y r q g. judged o 2 (mark_of o 2 p) p x y (emits_mark o 2 p) g q) applies
      (λ o p a b c a' b' c' x y e f h q g. judged o 6 (mark_of o 6 p) p x y (emits_mark o 6 p) g q)
      (λ o p i j x y r q g. judged o 7 (mark_of o 7 p) p x y (emits_mark o 7 p) g q)
      (λ o p a b a' b' x y e f q g. judged o 8 (mark_of o 8 p) p x y (emits_mark o 8 p) g q) s
      (nested (reads s t) s d) (nested (free.reads s t) s d) (alike-nested d) o p k at x y q g

-- ---- in a room of 2,048 or more

abbrev Roomy : State → State → Type 0
Roomy x y = (x ≡ y) × (2048 ≤ length x.0)

abbrev Every : ℕ → Type 0
Every o = Unit {0}

emitted_free : (c p : ℕ) (x : State) → 2048 ≤ length x.0 → emitted c p x ≡ free.emitted c p x
unfolding emitted free.emitted
emitted_free c p x h = go (ltb x.1 2048) refl
  where
    go : (b : Bool) → ltb x.1 2048 ≡ b
        → pick b (pick (ltb x.1 (length x.0)) (built (pos 0) (set x.0 x.1 c, x.1 + 1)) (bad 6 p x)) (bad 6 p x) ≡ pick b (built (pos 0) (set x.0 x.1 c, x.1 + 1)) (bad 6 p x)
    go true e = let l : x.1 < 2048 = ltb-true x.1 2048 e in simp (lt-ltb x.1 (length x.0) (omega arith))
    go false e = refl

emitted_roomy : (c p : ℕ) (x : State) → 2048 ≤ length x.0 → RelB Roomy Alike (free.emitted c p x) (free.emitted c p x)
unfolding free.emitted
emitted_roomy c p x h = go (ltb x.1 2048)
  where
    go : (b : Bool) → RelB Roomy Alike (pick b (built (pos 0) (set x.0 x.1 c, x.1 + 1)) (bad 6 p x)) (pick b (built (pos 0) (set x.0 x.1 c, x.1 + 1)) (bad 6 p x))
    go true = let e = length-set x.0 x.1 c in (refl, (refl, omega arith))
    go false = (refl, refl, (refl, h))

judged_roomy : (o c : ℕ) (j : Verdict) (p : ℕ) (x y : State) → Emits o c j → Every o → Roomy x y → RelB Roomy Alike (done j p x) (free.done j p y)
judged_roomy o c (number v) p x y e g q = (refl, q)
judged_roomy o c (node k) p x y e g q =
    subst (λ (z : State). RelB Roomy Alike (emitted k p x) (free.emitted k p z)) q.0
    (subst (λ (b : Built State ℤ). RelB Roomy Alike b (free.emitted k p x)) (sym (emitted_free k p x q.1)) (emitted_roomy k p x q.1))
judged_roomy o c (fault n r) p x y e g q = (refl, refl, q)

same_answer : (Q : State → State → Type 0) → ((x y : State) → Q x y → x ≡ y) → (o o' : Outcome State ℤ) → RelO Q Alike o o' → o ≡ o'
same_answer Q h (ok v e x) (ok w f y) a = ap (λ (u : ℤ). ok u e x) a.0 ∙ ap (λ (u : ℕ). ok w u x) a.1 ∙ ap (λ (u : State). ok w f u) (h x y a.2)
same_answer Q h (ok v e x) (no m q y) a = absurd a
same_answer Q h (no n p x) (ok w f y) a = absurd a
same_answer Q h (no n p x) (no m q y) a = ap (λ (u : ℕ). no u p x) a.0 ∙ ap (λ (u : ℕ). no m u x) a.1 ∙ ap (λ (u : State). no m q u) (h x y a.2)

-- a signal is read alike
pub signal_same : (s t : List ℕ) (d at : ℕ) (x : State) → 2048 ≤ length x.0 → expression_of s t d 2 at x ≡ free.signal_of s t d at x
signal_same s t d at x h =
    same_answer Roomy (λ x y q. q.0) (expression_of s t d 2 at x) (free.signal_of s t d at x)
    (alike-expression s t Roomy Every (λ o g. tt) (λ o g. tt) judged_roomy d 2 at x x (refl, h) tt)

-- ---- a target, in the room of one

abbrev cell : State
cell = (0 ∷ [], 0)

abbrev Stays : State → State → Type 0
Stays x y = (x ≡ cell) × (y ≡ cell)

abbrev Quiet : ℕ → Type 0
Quiet o = eqb o 2 ≡ false

judged_quiet : (o c : ℕ) (j : Verdict) (p : ℕ) (x y : State) → Emits o c j → Quiet o → Stays x y → RelB Stays Alike (done j p x) (free.done j p y)
judged_quiet o c (number v) p x y e g q = (refl, q)
judged_quiet o c (node k) p x y e g q = absurd (clash (sym e.0 ∙ g))
judged_quiet o c (fault n r) p x y e g q = (refl, refl, q)

done_cell : (j : Verdict) (p : ℕ) → done j p cell ≡ free.done j p cell
unfolding emitted free.emitted
done_cell (number v) p = refl
done_cell (node c) p = refl
done_cell (fault n q) p = refl

module _ (s t : List ℕ) (d st e p : ℕ) where
  -- behind an index: the element
  element-cell : (f n : ℕ) (o o' : Outcome State ℤ) → RelO Stays Alike o o'
      → and_then o (λ i at x. built_at at (done (element_of 2 st p f n i) st x)) ≡ and_then o' (λ i at x. built_at at (free.done (element_of 2 st p f n i) st x))
  element-cell f n (ok v e x) (ok w h y) a =
      ap (λ (u : State). built_at e (done (element_of 2 st p f n v) st u)) a.2.0
      ∙ ap (built_at e) (done_cell (element_of 2 st p f n v) st)
      ∙ ap (λ (u : State). built_at e (free.done (element_of 2 st p f n v) st u)) (sym a.2.1)
      ∙ ap (λ (u : ℤ). built_at e (free.done (element_of 2 st p f n u) st y)) a.0
      ∙ ap (λ (u : ℕ). built_at u (free.done (element_of 2 st p f n w) st y)) a.1
  element-cell f n (ok v e x) (no m q y) a = absurd a
  element-cell f n (no m q x) (ok v e y) a = absurd a
  element-cell f n (no m q x) (no k r y) a = same_answer Stays (λ x y q. q.0 ∙ sym q.1) (no m q x) (no k r y) a

  quiet-built : (j : Verdict) (at p : ℕ) (o c : ℕ) → Emits o c j → Quiet o → RelO Stays Alike (built_at at (done j p cell)) (built_at at (free.done j p cell))
  quiet-built (number v) at p o c e g = (refl, refl, (refl, refl))
  quiet-built (node k) at p o c e g = absurd (clash (sym e.0 ∙ g))
  quiet-built (fault n r) at p o c e g = (refl, refl, (refl, refl))

  quiet-pick : (b : Bool) (x y x' y' : Outcome State ℤ) → RelO Stays Alike x x' → RelO Stays Alike y y' → RelO Stays Alike (pick b x y) (pick b x' y')
  quiet-pick true x y x' y' p q = p
  quiet-pick false x y x' y' p q = q

  quiet-dotted : (at : ℕ) → RelO Stays Alike (dotted (reads s t) s 1 at cell) (dotted (free.reads s t) s 1 at cell)
  unfolding dotted
  quiet-dotted at = go (next_word s at)
    where
      go : (w : Taken) → RelO Stays Alike
          (on_word cell w (λ k st v nx. pick (eqb k 2) (built_at nx (done (literal_of 1 st v) st cell)) (pick (eqb k 4) (no 3 st cell) (pick (eqb k 1) (built_at nx (done (plain_of s t 1 st nx) st cell)) (no 2 st cell)))))
          (on_word cell w (λ k st v nx. pick (eqb k 2) (built_at nx (free.done (literal_of 1 st v) st cell)) (pick (eqb k 4) (no 3 st cell) (pick (eqb k 1) (built_at nx (free.done (plain_of s t 1 st nx) st cell)) (no 2 st cell)))))
      go (Word k st v c) =
          quiet-pick (eqb k 2) _ _ _ _ (quiet-built (literal_of 1 st v) c.at st 1 0 (emits_literal 1 0 st v) refl)
          (quiet-pick (eqb k 4) (no 3 st cell) _ (no 3 st cell) _ (refl, refl, (refl, refl))
          (quiet-pick (eqb k 1) _ (no 2 st cell) _ (no 2 st cell)
          (quiet-built (plain_of s t 1 st c.at) c.at st 1 (name_code (meaning_of s t st c.at)) (emits_plain s t 1 st c.at) refl) (refl, refl, (refl, refl))))
      go (Refused n q) = (refl, refl, (refl, refl))

  bracketed-cell : (at : ℕ) → bracketed (reads s t) s (nested (reads s t) s d) 2 st e p at cell ≡ bracketed (free.reads s t) s (nested (free.reads s t) s d) 2 st e p at cell
  unfolding bracketed index_sort
  bracketed-cell at = go (opened_of s t 2 st e p)
    where
      go : (a : Array)
          → after_built (based a cell) (λ b x. and_then (part (reads s t) s (nested (reads s t) s d) 1 p 93 at x) (λ i at x. built_at at (done (element_of 2 st p b.0 b.1 i) st x)))
          ≡ after_built (based a cell) (λ b x. and_then (part (free.reads s t) s (nested (free.reads s t) s d) 1 p 93 at x) (λ i at x. built_at at (free.done (element_of 2 st p b.0 b.1 i) st x)))
      go (base f n) =
          element-cell f n (part (reads s t) s (nested (reads s t) s d) 1 p 93 at cell) (part (free.reads s t) s (nested (free.reads s t) s d) 1 p 93 at cell)
          (alike-part s t Stays Quiet (λ o g. index_two o) (λ o g. part_two o ∙ g) judged_quiet d 1 p 93 at cell cell (refl, refl) refl)
      go (unfit n q) = refl

  pointed-cell : (at : ℕ) → pointed (reads s t) s 2 st e p at cell ≡ pointed (free.reads s t) s 2 st e p at cell
  unfolding pointed index_sort
  pointed-cell at = go (opened_of s t 2 st e p)
    where
      go : (a : Array)
          → after_built (based a cell) (λ b x. and_then (dotted (reads s t) s 1 at x) (λ i at x. built_at at (done (element_of 2 st p b.0 b.1 i) st x)))
          ≡ after_built (based a cell) (λ b x. and_then (dotted (free.reads s t) s 1 at x) (λ i at x. built_at at (free.done (element_of 2 st p b.0 b.1 i) st x)))
      go (base f n) = element-cell f n (dotted (reads s t) s 1 at cell) (dotted (free.reads s t) s 1 at cell) (quiet-dotted at)
      go (unfit n q) = refl

-- a target is read alike
pub target_same : (s t : List ℕ) (d st e : ℕ) → target_of s t d st e ≡ free.target_of s t d st e
unfolding target_of free.target_of named
target_same s t d st e = ap target_on (go (next_word s e))
  where
    choose : (a b : Bool) (x y z x' y' z' : Outcome State ℤ) → x ≡ x' → y ≡ y' → z ≡ z' → pick a x (pick b y z) ≡ pick a x' (pick b y' z')
    choose true b x y z x' y' z' p q r = p
    choose false true x y z x' y' z' p q r = q
    choose false false x y z x' y' z' p q r = r

    go : (w : Taken)
        → on_word cell w (λ k p v nx. pick (eqb k 91) (bracketed (reads s t) s (nested (reads s t) s d) 2 st e p nx cell) (pick (eqb k 46) (pointed (reads s t) s 2 st e p nx cell) (built_at e (done (plain_of s t 2 st e) st cell))))
        ≡ on_word cell w (λ k p v nx. pick (eqb k 91) (bracketed (free.reads s t) s (nested (free.reads s t) s d) 2 st e p nx cell) (pick (eqb k 46) (pointed (free.reads s t) s 2 st e p nx cell) (built_at e (free.done (plain_of s t 2 st e) st cell))))
    go (Word k p v c) =
        choose (eqb k 91) (eqb k 46) _ _ _ _ _ _ (bracketed-cell s t d st e p c.at) (pointed-cell s t d st e p c.at) (ap (built_at e) (done_cell (plain_of s t 2 st e) st))
    go (Refused n p) = refl
