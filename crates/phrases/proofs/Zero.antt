-- Reading for sort 0 is the check: it ends where the check ends and has its refusals, whatever names stand there and whatever the room holds.
-- Assumes nothing.
use mathlib.Core.Path.{◌≡◌, refl, sym, ap, ap₂, subst}
use mathlib.Core.Bool.{Bool, true, false}
use mathlib.Core.List.{List}
use Prim.Native.Nat.{ℕ}
use lib.Dec.{eqb}
use lib.IntN.{ℤ, pos}
use Rattle.basics.specs.Choice.{pick}
use Rattle.grammar.specs.Outcome.{Outcome, ok, no, Built, built}
use Rattle.grammar.specs.Grammar.{index_sort, part_sort, named, expression, nested}
use Rattle.grammar.specs.Trees.{checks}
use Rattle.grammar.proofs.Related.{Any, RelB, RelO, rel_named, rel_expression, rel_nested}
use Rattle.judging.specs.Judging.{Verdict, number, mark_of, literal_of, logic_of, plain_of, opened_of, element_of, operator_of}
use Rattle.judging.specs.Reading.{State, done, based, reads}
use Rattle.readers.specs.Readers.{inner_of, index_of, expression_of}

module _ (x₀ : State) where
  -- the state is left as it was
  abbrev Kept : State → Unit {0} → Type 0
  Kept x u = x ≡ x₀

  abbrev Zero : ℕ → Type 0
  Zero o = o ≡ 0

  abbrev Check : Type 0
  Check = Outcome (Unit {0}) (Unit {0})

  abbrev Made : Built (Unit {0}) (Unit {0})
  Made = built tt tt

  -- an answer and the check's
  abbrev Same : Outcome State ℤ → Check → Type 0
  Same = RelO Kept {A = ℤ} {B = Unit {0}} Any

  abbrev SameB : Built State ℤ → Type 0
  SameB b = RelB Kept {A = ℤ} {B = Unit {0}} Any b Made

  indexed : (o : ℕ) → Zero o → Zero (index_sort o)
  unfolding index_sort
  indexed o g = rw g refl

  parted : (o : ℕ) → Zero o → Zero (part_sort o)
  unfolding part_sort
  parted o g = rw g refl

  mark-zero : (o c p : ℕ) → Zero o → mark_of o c p ≡ number (pos 0)
  unfolding mark_of
  mark-zero o c p g = rw g refl

  logic-zero : (o p v : ℕ) → Zero o → logic_of o p v ≡ number (pos 0)
  unfolding logic_of
  logic-zero o p v g = go (eqb v 0)
    where
      go : (b : Bool) → pick b (mark_of o 0 p) (mark_of o 1 p) ≡ number (pos 0)
      go true = mark-zero o 0 p g
      go false = mark-zero o 1 p g

  done-zero : (j : Verdict) (p : ℕ) (x : State) → x ≡ x₀ → j ≡ number (pos 0) → SameB (done j p x)
  done-zero j p x q e = rw e (tt, q)

  literals : (o p v : ℕ) (x : State) (u : Unit {0}) → Kept x u → Zero o → SameB (done (literal_of o p v) p x)
  unfolding literal_of
  literals o p v x u q g = rw g (tt, q)

  module _ (s t : List ℕ) where
    plains : (o st e : ℕ) (x : State) (u : Unit {0}) → Kept x u → Zero o → SameB (done (plain_of s t o st e) st x)
    unfolding plain_of
    plains o st e x u q g = rw g (tt, q)

    opens : (o st e p : ℕ) (x : State) (u : Unit {0}) → Kept x u → Zero o → RelB Kept {A = ℕ × ℕ} {B = Unit {0}} Any (based (opened_of s t o st e p) x) Made
    unfolding opened_of
    opens o st e p x u q g = rw g (tt, q)

    elements : (o st e p : ℕ) (c : ℕ × ℕ) (d : Unit {0}) (i : ℤ) (j : Unit {0}) (x : State) (u : Unit {0}) → Any c d → Any i j → Kept x u → Zero o
        → SameB (done (element_of o st p c.0 c.1 i) st x)
    unfolding element_of
    elements o st e p c d i j x u h r q g = rw g (tt, q)

    applies : (o k p : ℕ) (v w : ℤ) (v' w' : Unit {0}) (x : State) (u : Unit {0}) → Any v v' → Any w w' → Kept x u → Zero o
        → SameB (done (operator_of o k p v w) p x)
    unfolding operator_of
    applies o k p v w v' w' x u a b q g = rw g (tt, q)

    zero-nested : (d : ℕ) (m : Bool) (o p at : ℕ) (x : State) (u : Unit {0}) → Kept x u → Zero o → Same (nested (reads s t) s d m o p at x) (nested checks s d m o p at u)
    zero-nested =
        rel_nested Kept Any Any (reads s t) checks Zero indexed parted literals (λ o p v x u q g. done-zero (logic_of o p v) p x q (logic-zero o p v g)) plains opens elements
        (λ o p i j x u r q g. done-zero (mark_of o 2 p) p x q (mark-zero o 2 p g)) applies (λ o p a b c a' b' c' x u e f h q g. done-zero (mark_of o 6 p) p x q (mark-zero o 6 p g))
        (λ o p i j x u r q g. done-zero (mark_of o 7 p) p x q (mark-zero o 7 p g)) (λ o p a b a' b' x u e f q g. done-zero (mark_of o 8 p) p x q (mark-zero o 8 p g)) s

    zero-named : (d st e : ℕ) → Same (named (reads s t) s (nested (reads s t) s d) 0 st e x₀) (named checks s (nested checks s d) 0 st e tt)
    zero-named d st e =
        rel_named Kept Any Any (reads s t) checks Zero indexed parted literals (λ o p v x u q g. done-zero (logic_of o p v) p x q (logic-zero o p v g)) plains opens elements
        (λ o p i j x u r q g. done-zero (mark_of o 2 p) p x q (mark-zero o 2 p g)) applies (λ o p a b c a' b' c' x u e f h q g. done-zero (mark_of o 6 p) p x q (mark-zero o 6 p g))
        (λ o p i j x u r q g. done-zero (mark_of o 7 p) p x q (mark-zero o 7 p g)) (λ o p a b a' b' x u e f q g. done-zero (mark_of o 8 p) p x q (mark-zero o 8 p g)) s
        (nested (reads s t) s d) (nested checks s d) (zero-nested d) 0 st e x₀ tt refl refl

    zero-expression : (d at : ℕ) → Same (expression (reads s t) s (nested (reads s t) s d) 0 at x₀) (expression checks s (nested checks s d) 0 at tt)
    zero-expression d at =
        rel_expression Kept Any Any (reads s t) checks Zero indexed parted literals (λ o p v x u q g. done-zero (logic_of o p v) p x q (logic-zero o p v g)) plains opens elements
        (λ o p i j x u r q g. done-zero (mark_of o 2 p) p x q (mark-zero o 2 p g)) applies (λ o p a b c a' b' c' x u e f h q g. done-zero (mark_of o 6 p) p x q (mark-zero o 6 p g))
        (λ o p i j x u r q g. done-zero (mark_of o 7 p) p x q (mark-zero o 7 p g)) (λ o p a b a' b' x u e f q g. done-zero (mark_of o 8 p) p x q (mark-zero o 8 p g)) s
        (nested (reads s t) s d) (nested checks s d) (zero-nested d) 0 at x₀ tt refl refl

  -- what an answer says of the check
  past_end : (w : ℤ) (e : ℕ) (y : State) (r : Outcome State ℤ) (r' : Check) → Same r r' → ok w e y ≡ r → ok tt e tt ≡ r'
  past_end w e y r (ok v f u) a q =
      let h : Same (ok w e y) (ok v f u) = subst (λ (o : Outcome State ℤ). Same o (ok v f u)) (sym q) a in
      ap (λ (i : ℕ). ok tt i tt) h.1
  past_end w e y r (no n p u) a q = absurd (subst (λ (o : Outcome State ℤ). Same o (no n p u)) (sym q) a)

  refused_end : (n p : ℕ) (y : State) (r : Outcome State ℤ) (r' : Check) → Same r r' → no n p y ≡ r → no n p tt ≡ r'
  refused_end n p y r (ok v f u) a q = absurd (subst (λ (o : Outcome State ℤ). Same o (ok v f u)) (sym q) a)
  refused_end n p y r (no m k u) a q =
      let h : Same (no n p y) (no m k u) = subst (λ (o : Outcome State ℤ). Same o (no m k u)) (sym q) a in
      ap₂ (λ (i j : ℕ). no i j tt) h.0 h.1

module _ (s t : List ℕ) (d : ℕ) (x : State) where
  module _ (at : ℕ) where
    pub expression_past : (w : ℤ) (e : ℕ) (y : State) → ok w e y ≡ expression_of s t d 0 at x → ok tt e tt ≡ expression checks s (nested checks s d) 0 at tt
    expression_past w e y q =
        past_end x w e y (expression_of s t d 0 at x) (expression checks s (nested checks s d) 0 at tt) (zero-expression x s t d at) q

    pub expression_refused : (n p : ℕ) (y : State) → no n p y ≡ expression_of s t d 0 at x → no n p tt ≡ expression checks s (nested checks s d) 0 at tt
    expression_refused n p y q =
        refused_end x n p y (expression_of s t d 0 at x) (expression checks s (nested checks s d) 0 at tt) (zero-expression x s t d at) q

  module _ (p₀ at : ℕ) where
    pub inner_past : (w : ℤ) (e : ℕ) (y : State) → ok w e y ≡ inner_of s t d false 0 p₀ at x → ok tt e tt ≡ nested checks s d false 0 p₀ at tt
    inner_past w e y q = past_end x w e y (inner_of s t d false 0 p₀ at x) (nested checks s d false 0 p₀ at tt) (zero-nested x s t d false 0 p₀ at x tt refl refl) q

    pub inner_refused : (n p : ℕ) (y : State) → no n p y ≡ inner_of s t d false 0 p₀ at x → no n p tt ≡ nested checks s d false 0 p₀ at tt
    inner_refused n p y q =
        refused_end x n p y (inner_of s t d false 0 p₀ at x) (nested checks s d false 0 p₀ at tt) (zero-nested x s t d false 0 p₀ at x tt refl refl) q

  module _ (st en : ℕ) where
    pub index_past : (w : ℤ) (e : ℕ) (y : State) → ok w e y ≡ index_of s t d 0 st en x → ok tt e tt ≡ named checks s (nested checks s d) 0 st en tt
    index_past w e y q = past_end x w e y (index_of s t d 0 st en x) (named checks s (nested checks s d) 0 st en tt) (zero-named x s t d st en) q

    pub index_refused : (n p : ℕ) (y : State) → no n p y ≡ index_of s t d 0 st en x → no n p tt ≡ named checks s (nested checks s d) 0 st en tt
    index_refused n p y q = refused_end x n p y (index_of s t d 0 st en x) (named checks s (nested checks s d) 0 st en tt) (zero-named x s t d st en) q
