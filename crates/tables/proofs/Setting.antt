-- The pins of a setting, in a list. Assumes nothing.
use mathlib.Core.Path.{◌≡◌, refl, sym, ap, ap₂, ◌∙◌, fun_ext}
use mathlib.Core.Logic.{⊎_elim}
use mathlib.Core.Bool.{Bool, true, false, not, beq}
use mathlib.Core.List.{List, [], ◌∷◌}
use Prim.Native.Nat.{ℕ, suc, ◌+◌, ◌/◌, ◌%◌, ◌≤◌, ◌<◌}
use native.Mathlib.Numerals.{add-one}
use native.Mathlib.Omega.{arith}
use lib.Dec.{eqb}
use borrow.Author.Tests.{eqb-true, eqb-false, le-ltb}
use lib.ListN.{length, get_or, set, drop, length-set, drop_of_length-le, get_or-eq_default}
use lib.Seq.{drop-cons, get_or-set_same, get_or-set_other}
use Rattle.basics.specs.Choice.{bit, pick, on, xor}
use Rattle.basics.specs.Below.{listed}
use Rattle.basics.proofs.Folds.{listed_at, listed_length}
use Rattle.basics.proofs.Store.{below_or_not}
use Rattle.trees.specs.Machine.{env_of}
use Rattle.trees.specs.Layout.{Elements}
use Rattle.trees.proofs.Stack.{on_bit}
use Rattle.tables.specs.Tables.{flip_at, set_bits}

-- what `!=` answers
pub differs : (a b : Bool) → not (beq a b) ≡ xor a b
differs true true = refl
differs true false = refl
differs false true = refl
differs false false = refl

bits_cons : (flip s : ℕ → Bool) (x : ℕ) (xs : List ℕ) (k : ℕ) → set_bits flip s (x ∷ xs) k ≡ set_bits flip (λ p. pick (eqb p x) (xor (flip x) (on (k % 2))) (s p)) xs (k / 2)
unfolding set_bits
bits_cons flip s x xs k = refl

bits_none : (flip s : ℕ → Bool) (k : ℕ) → set_bits flip s [] k ≡ s
unfolding set_bits
bits_none flip s k = refl

stored_bit : (l : List ℕ) (x v : ℕ) (b : Bool) → x < length l → v ≡ bit b → ◌≡◌ {A = ℕ → Bool} (env_of (set l x v)) (λ p. pick (eqb p x) b (env_of l p))
stored_bit l x v b h e = fun_ext at
  where
    at : (p : ℕ) → env_of (set l x v) p ≡ pick (eqb p x) b (env_of l p)
    at p = go (eqb p x) refl
      where
        go : (y : Bool) → eqb p x ≡ y → env_of (set l x v) p ≡ pick y b (env_of l p)
        go true q = ap (λ (n : ℕ). env_of (set l x v) n) (eqb-true p x q) ∙ ap on (get_or-set_same l x v 0 h) ∙ ap on e ∙ on_bit b
        go false q = ap on (get_or-set_other l x p v 0 (eqb-false p x q))

pub record Placing (flips vars : List ℕ) (k : ℕ) (pins : List ℕ) (i left : ℕ) : Type 0 where
  pub size : length pins ≡ 24
  pub says : set_bits (env_of flips) (env_of pins) (drop i vars) left ≡ set_bits (env_of flips) (env_of flips) vars k

pub placing_more : (flips vars : List ℕ) (k : ℕ) (pins : List ℕ) (i left x v : ℕ) (a c b : Bool) → i < length vars → x < 24 → Placing flips vars k pins i left
    → x ≡ get_or vars i 0 → a ≡ env_of flips x → c ≡ on (left % 2) → b ≡ xor a c → v ≡ bit b → Placing flips vars k (set pins x v) (i + 1) (left / 2)
placing_more flips vars k pins i left x v a c b h hx z ex ea ec eb ev =
    let s = z.size in
    record {
      size = length-set pins x v ∙ z.size;
      says =
          ap₂ (λ (f : ℕ → Bool) (j : ℕ). set_bits (env_of flips) f (drop j vars) (left / 2)) (stored_bit pins x v b (omega arith) ev ∙ same) (add-one i)
          ∙ sym (bits_cons (env_of flips) (env_of pins) (get_or vars i 0) (drop (suc i) vars) left)
          ∙ ap (λ (l : List ℕ). set_bits (env_of flips) (env_of pins) l left) (sym (drop-cons vars i 0 h))
          ∙ z.says;
    }
  where
    value : b ≡ xor (env_of flips (get_or vars i 0)) (on (left % 2))
    value = eb ∙ ap₂ xor (ea ∙ ap (env_of flips) ex) ec

    same : ◌≡◌ {A = ℕ → Bool} (λ p. pick (eqb p x) b (env_of pins p)) (λ p. pick (eqb p (get_or vars i 0)) (xor (env_of flips (get_or vars i 0)) (on (left % 2))) (env_of pins p))
    same = λ y. λ p. pick (eqb p (ex y)) (value y) (env_of pins p)

pub placing_end : (flips vars : List ℕ) (k : ℕ) (pins : List ℕ) (i left : ℕ) → length vars ≤ i → Placing flips vars k pins i left → env_of pins ≡ set_bits (env_of flips) (env_of flips) vars k
placing_end flips vars k pins i left h c =
    sym (bits_none (env_of flips) (env_of pins) left) ∙ ap (λ (l : List ℕ). set_bits (env_of flips) (env_of pins) l left) (sym (drop_of_length-le vars h)) ∙ c.says

-- the bits that complement
flip_beyond : (e : Elements) (rows : Bool) (p : ℕ) → 24 ≤ p → flip_at e rows p ≡ false
unfolding flip_at
flip_beyond e rows p h = simp (le-ltb p 24 h)

pub flips_are : (e : Elements) (rows : Bool) (l : List ℕ) → l ≡ listed (λ p. bit (flip_at e rows p)) 24 → env_of l ≡ flip_at e rows
flips_are e rows l q = fun_ext at
  where
    at : (p : ℕ) → env_of l p ≡ flip_at e rows p
    at p =
        ⊎_elim
        (λ (h : p < 24). ap (λ (x : List ℕ). env_of x p) q ∙ ap on (listed_at (λ p. bit (flip_at e rows p)) 24 p h) ∙ on_bit (flip_at e rows p))
        (λ (h : 24 ≤ p).
        let s : length l ≡ 24 = ap length q ∙ listed_length (λ p. bit (flip_at e rows p)) 24 in
        ap on (get_or-eq_default l 0 {n = p} (omega arith)) ∙ sym (flip_beyond e rows p h))
        (below_or_not p 24)
