-- What the names that stand at a place keep: a constant and a loop variable say a number within -65,535 to 65,535, a signal's elements are among 64. So do all
-- expressions that are read among them: a number is within bounds, and a node is an operation's or an element's.
-- Assumes nothing.
use mathlib.Core.Path.{◌≡◌, refl}
use mathlib.Core.Bool.{Bool, true, false}
use mathlib.Core.List.{List, [], ◌∷◌}
use Prim.Native.Nat.{ℕ, zero, suc, ◌+◌, ◌-◌, ◌<◌, ◌≤◌}
use native.Mathlib.Omega.{arith}
use lib.Dec.{eqb, ltb}
use lib.IntN.{ℤ, pos, negsuc}
use borrow.Author.Tests.{eqb-true, eqb-false, ne_eqb, ltb-true, le-leb}
use Rattle.basics.specs.Choice.{pick}
use Rattle.integers.specs.Integers.{Answer, held, broken, combined}
use Rattle.names.specs.Names.{Spelling, Seen, known, unknown, Sought, found, find, Entry, entry, entries, shown, same, spelling, number_of, looked_up}
use Rattle.judging.specs.Judging.{Verdict, number, node, fault, Array, base, unfit, Meaning, valued, signal, nothing, meaning_on, meaning_of, mark_of, literal_of, logic_of, plain_on, plain_of, opened_on, opened_of, element_on, element_of, answered, operator_of}
use Rattle.judging.specs.Reading.{State, emitted, done, based, reads}
use Rattle.readers.specs.Readers.{inner_of, index_of, expression_of}
use Rattle.declare.specs.Declarations.{width_of}
use Rattle.reached.proofs.Numbers.{Bounded, BoundedA, bounded_combined}
use Rattle.reached.proofs.Holds.{HoldsB, Holds, holds_named, holds_expression, holds_nested}

-- a name of a kind, with its value and size
pub record Fair (k v m : ℕ) : Type 0 where
  pub says : (k ≡ 2 → ⊥) → Bounded (number_of v m)
  pub among : k ≡ 2 → v + width_of m ≤ 64

-- all of the names
unfoldable pub AllFair : List ℕ → Type 0
AllFair [] = Unit {0}
AllFair (a ∷ []) = Unit {0}
AllFair (a ∷ n ∷ []) = Unit {0}
AllFair (a ∷ n ∷ k ∷ []) = Unit {0}
AllFair (a ∷ n ∷ k ∷ v ∷ []) = Unit {0}
AllFair (a ∷ n ∷ k ∷ v ∷ m ∷ t) = Fair k v m × AllFair t

abbrev FairSeen : Seen → Type 0
FairSeen (known k v m) = Fair k v m
FairSeen unknown = Unit {0}

fair_pick : (b : Bool) (e : Entry) (r : Sought) → Fair e.kind e.value e.size → FairSeen (shown r) → FairSeen (shown (pick b (found e) r))
fair_pick true e r p q = p
fair_pick false e r p q = q

fair_find : (s : List ℕ) (w : Spelling) (t : List ℕ) → AllFair t → FairSeen (shown (find w (entries s t)))
unfolding AllFair find entries entry
fair_find s w [] h = tt
fair_find s w (a ∷ []) h = tt
fair_find s w (a ∷ n ∷ []) h = tt
fair_find s w (a ∷ n ∷ k ∷ []) h = tt
fair_find s w (a ∷ n ∷ k ∷ v ∷ []) h = tt
fair_find s w (a ∷ n ∷ k ∷ v ∷ m ∷ t) h =
    fair_pick (same (spelling s a n) w) (entry s a n k v m) (find w (entries s t)) h.0 (fair_find s w t h.1)

-- what a name means
abbrev pub FairMeaning : Meaning → Type 0
FairMeaning (valued z) = Bounded z
FairMeaning (signal f n) = f + width_of n ≤ 64
FairMeaning nothing = Unit {0}

meaning_pick : (k v m : ℕ) (b : Bool) → eqb k 2 ≡ b → Fair k v m → FairMeaning (pick b (signal v m) (valued (number_of v m)))
meaning_pick k v m true e f = f.among (eqb-true k 2 e)
meaning_pick k v m false e f = f.says (eqb-false k 2 e)

meaning_on_lem : (x : Seen) → FairSeen x → FairMeaning (meaning_on x)
meaning_on_lem (known k v m) f = meaning_pick k v m (eqb k 2) refl f
meaning_on_lem unknown f = tt

pub fair_meaning : (s t : List ℕ) (st e : ℕ) → AllFair t → FairMeaning (meaning_of s t st e)
unfolding meaning_of looked_up
fair_meaning s t st e h = meaning_on_lem (looked_up s t st (e - st)) (fair_find s (spelling s st (e - st)) t h)

-- what is judged
abbrev FairVerdict : Verdict → Type 0
FairVerdict (number v) = Bounded v
FairVerdict (node c) = c ≤ 72
FairVerdict (fault n p) = Unit {0}

abbrev FairArray : Array → Type 0
FairArray (base f n) = f + n ≤ 64
FairArray (unfit n p) = Unit {0}

judge : (b : Bool) (x y : Verdict) → (b ≡ true → FairVerdict x) → (b ≡ false → FairVerdict y) → FairVerdict (pick b x y)
judge true x y p q = p refl
judge false x y p q = q refl

array : (b : Bool) (x y : Array) → (b ≡ true → FairArray x) → (b ≡ false → FairArray y) → FairArray (pick b x y)
array true x y p q = p refl
array false x y p q = q refl

fair_mark : (o c p : ℕ) → c ≤ 72 → FairVerdict (mark_of o c p)
unfolding mark_of
fair_mark o c p h = judge (eqb o 2) (node c) _ (λ e. h) (λ e. judge (eqb o 1) (fault 4 p) (number (pos 0)) (λ e. tt) (λ e. refl))

fair_literal : (o p v : ℕ) → v ≤ 65535 → FairVerdict (literal_of o p v)
unfolding literal_of
fair_literal o p v h =
    judge (eqb o 1) (number (pos v)) _ (λ e. le-leb v 65535 h) (λ e. judge (eqb o 0) (number (pos 0)) (fault 4 p) (λ e. refl) (λ e. tt))

fair_logic : (o p v : ℕ) → FairVerdict (logic_of o p v)
unfolding logic_of
fair_logic o p v = judge (eqb v 0) (mark_of o 0 p) (mark_of o 1 p) (λ e. fair_mark o 0 p (omega arith)) (λ e. fair_mark o 1 p (omega arith))

pub width_one : (n : ℕ) → eqb n 0 ≡ true → width_of n ≡ 1
width_one n e = simp e

pub width_all : (n : ℕ) → eqb n 0 ≡ false → width_of n ≡ n
width_all n e = simp e

-- a name has an element at least
pub width_some : (n : ℕ) → 1 ≤ width_of n
width_some zero = omega arith
width_some (suc n) = let e : width_of (suc n) ≡ suc n = width_all (suc n) (ne_eqb (suc n) 0 (λ q. omega arith)) in omega arith

plain_on_lem : (o p : ℕ) (m : Meaning) → FairMeaning m → FairVerdict (plain_on o p m)
plain_on_lem o p nothing h = tt
plain_on_lem o p (valued v) h = judge (eqb o 1) (number v) (fault 4 p) (λ e. h) (λ e. tt)
plain_on_lem o p (signal f n) h =
    judge (eqb o 1) (fault 4 p) _ (λ e. tt) (λ e. judge (eqb n 0) (mark_of o (9 + f) p) (fault 5 p)
    (λ e. let w : width_of n ≡ 1 = width_one n e in let g : f + width_of n ≤ 64 = h in fair_mark o (9 + f) p (omega arith)) (λ e. tt))

open_on : (o st p : ℕ) (m : Meaning) → FairMeaning m → FairArray (opened_on o st p m)
open_on o st p nothing h = tt
open_on o st p (valued v) h = array (eqb o 1) (unfit 5 p) (unfit 4 st) (λ e. tt) (λ e. tt)
open_on o st p (signal f n) h =
    array (eqb o 1) (unfit 4 st) _ (λ e. tt) (λ e. array (eqb n 0) (unfit 5 p) (base f n) (λ e. tt)
    (λ e. let w : width_of n ≡ n = width_all n e in let g : f + width_of n ≤ 64 = h in omega arith))

element_on_lem : (o st p f n : ℕ) (i : ℤ) → f + n ≤ 64 → FairVerdict (element_on o st p f n i)
element_on_lem o st p f n (pos i) h =
    judge (ltb i n) (mark_of o (9 + (f + i)) st) (fault 5 p) (λ e. let l : i < n = ltb-true i n e in fair_mark o (9 + (f + i)) st (omega arith)) (λ e. tt)
element_on_lem o st p f n (negsuc i) h = tt

fair_element : (o st p f n : ℕ) (i : ℤ) → f + n ≤ 64 → FairVerdict (element_of o st p f n i)
unfolding element_of
fair_element o st p f n i h = judge (eqb o 0) (number (pos 0)) (element_on o st p f n i) (λ e. refl) (λ e. element_on_lem o st p f n i h)

fair_answered : (p : ℕ) (a : Answer) → BoundedA a → FairVerdict (answered p a)
fair_answered p (held z) h = h
fair_answered p broken h = tt

fair_operator : (o k p : ℕ) (a b : ℤ) → Bounded a → Bounded b → FairVerdict (operator_of o k p a b)
unfolding operator_of
fair_operator o k p a b h g =
    judge (eqb o 0) (number (pos 0)) _ (λ e. refl) (λ e.
    judge (eqb o 1) (answered p (combined k a b)) _ (λ e. fair_answered p (combined k a b) (bounded_combined k a b h g)) (λ e.
    judge (eqb k 43) (mark_of o 4 p) _ (λ e. fair_mark o 4 p (omega arith)) (λ e.
    judge (eqb k 45) (mark_of o 5 p) _ (λ e. fair_mark o 5 p (omega arith)) (λ e.
    judge (eqb k 42) (mark_of o 3 p) (fault 4 p) (λ e. fair_mark o 3 p (omega arith)) (λ e. tt)))))

-- K is kept by every node that is written
module _ (s t : List ℕ) (fair : AllFair t) (K : State → Type 0) (emits : (c p : ℕ) (x : State) → c ≤ 72 → K x → HoldsB K Bounded (emitted c p x)) where
  abbrev Base : ℕ × ℕ → Type 0
  Base c = c.0 + c.1 ≤ 64

  does : (j : Verdict) (p : ℕ) (x : State) → FairVerdict j → K x → HoldsB K Bounded (done j p x)
  does (number v) p x h q = (h, q)
  does (node c) p x h q = emits c p x h q
  does (fault n r) p x h q = tt

  bases : (a : Array) (x : State) → FairArray a → K x → HoldsB K Base (based a x)
  bases (base f n) x h q = (h, q)
  bases (unfit n p) x h q = tt

  plains : (o st e : ℕ) → FairVerdict (plain_of s t o st e)
  unfolding plain_of
  plains o st e = judge (eqb o 0) (number (pos 0)) (plain_on o st (meaning_of s t st e)) (λ b. refl) (λ b. plain_on_lem o st (meaning_of s t st e) (fair_meaning s t st e fair))

  opens : (o st e p : ℕ) → FairArray (opened_of s t o st e p)
  unfolding opened_of
  opens o st e p = array (eqb o 0) (base 0 0) (opened_on o st p (meaning_of s t st e)) (λ b. omega arith) (λ b. open_on o st p (meaning_of s t st e) (fair_meaning s t st e fair))

  inner-keeps : (d : ℕ) (m : Bool) (o p at : ℕ) (x : State) → K x → Holds K Bounded (inner_of s t d m o p at x)
  inner-keeps =
      holds_nested K Bounded Base (reads s t)
      (λ o p v x h q. does (literal_of o p v) p x (fair_literal o p v h) q)
      (λ o p v x q. does (logic_of o p v) p x (fair_logic o p v) q)
      (λ o st e x q. does (plain_of s t o st e) st x (plains o st e) q)
      (λ o st e p x q. bases (opened_of s t o st e p) x (opens o st e p) q)
      (λ o st e p c i x h r q. does (element_of o st p c.0 c.1 i) st x (fair_element o st p c.0 c.1 i h) q)
      (λ o p i x r q. does (mark_of o 2 p) p x (fair_mark o 2 p (omega arith)) q)
      (λ o k p v w x a b q. does (operator_of o k p v w) p x (fair_operator o k p v w a b) q)
      (λ o p a b c x q. does (mark_of o 6 p) p x (fair_mark o 6 p (omega arith)) q)
      (λ o p a x q. does (mark_of o 7 p) p x (fair_mark o 7 p (omega arith)) q)
      (λ o p a b x q. does (mark_of o 8 p) p x (fair_mark o 8 p (omega arith)) q) s

  -- an expression keeps K, and its number is within bounds
  pub expression_keeps : (d o at : ℕ) (x : State) → K x → Holds K Bounded (expression_of s t d o at x)
  expression_keeps d o at x q =
      holds_expression K Bounded Base (reads s t)
      (λ o p v x h q. does (literal_of o p v) p x (fair_literal o p v h) q)
      (λ o p v x q. does (logic_of o p v) p x (fair_logic o p v) q)
      (λ o st e x q. does (plain_of s t o st e) st x (plains o st e) q)
      (λ o st e p x q. bases (opened_of s t o st e p) x (opens o st e p) q)
      (λ o st e p c i x h r q. does (element_of o st p c.0 c.1 i) st x (fair_element o st p c.0 c.1 i h) q)
      (λ o p i x r q. does (mark_of o 2 p) p x (fair_mark o 2 p (omega arith)) q)
      (λ o k p v w x a b q. does (operator_of o k p v w) p x (fair_operator o k p v w a b) q)
      (λ o p a b c x q. does (mark_of o 6 p) p x (fair_mark o 6 p (omega arith)) q)
      (λ o p a x q. does (mark_of o 7 p) p x (fair_mark o 7 p (omega arith)) q)
      (λ o p a b x q. does (mark_of o 8 p) p x (fair_mark o 8 p (omega arith)) q) s
      (inner_of s t d) (inner-keeps d) o at x q

  -- so does a name with its index
  pub index_keeps : (d o st e : ℕ) (x : State) → K x → Holds K Bounded (index_of s t d o st e x)
  index_keeps d o st e x q =
      holds_named K Bounded Base (reads s t)
      (λ o p v x h q. does (literal_of o p v) p x (fair_literal o p v h) q)
      (λ o p v x q. does (logic_of o p v) p x (fair_logic o p v) q)
      (λ o st e x q. does (plain_of s t o st e) st x (plains o st e) q)
      (λ o st e p x q. bases (opened_of s t o st e p) x (opens o st e p) q)
      (λ o st e p c i x h r q. does (element_of o st p c.0 c.1 i) st x (fair_element o st p c.0 c.1 i h) q)
      (λ o p i x r q. does (mark_of o 2 p) p x (fair_mark o 2 p (omega arith)) q)
      (λ o k p v w x a b q. does (operator_of o k p v w) p x (fair_operator o k p v w a b) q)
      (λ o p a b c x q. does (mark_of o 6 p) p x (fair_mark o 6 p (omega arith)) q)
      (λ o p a x q. does (mark_of o 7 p) p x (fair_mark o 7 p (omega arith)) q)
      (λ o p a b x q. does (mark_of o 8 p) p x (fair_mark o 8 p (omega arith)) q) s
      (inner_of s t d) (inner-keeps d) o st e x q
