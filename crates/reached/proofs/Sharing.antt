-- Decision 46: where another IN or OUT stands at an element's pin, that pin's number was given twice, so refusal 10 by the counts of given numbers alone is stage
-- 5's. (The other way round it is not so: a number that was given to a VAR, or to an element that another number was given too, counts and leaves no pin.)
-- Assumes nothing.
use mathlib.Core.Path.{◌≡◌, refl, sym, ap, ap₂, ◌∙◌}
use mathlib.Core.Bool.{Bool, true, false, not, ◌&&◌, ◌||◌}
use mathlib.Core.List.{List}
use Prim.Native.Nat.{ℕ, zero, suc, ◌<◌, ◌≤◌}
use native.Mathlib.Omega.{arith}
use lib.Dec.{eqb, ltb}
use borrow.Author.Tests.{eqb-true, eqb-false, not-true, not-false, ltb-true, ltb-false, le-ltb}
use Rattle.basics.specs.Choice.{pick}
use Rattle.basics.specs.Below.{any_below}
use Rattle.basics.proofs.Truth.{true_of, of_true, and_l, and_r}
use Rattle.trees.specs.Layout.{Elements, elements_of, class_of}
use Rattle.circuit.specs.Pins.{role_of}
use Rattle.circuit.specs.StageFive.{misassigned, misplaced, looped, stands_beside, positioned_right, mispositioned, fine, refused, pass, stage_five}
use Rattle.circuit.proofs.First.{first_same}
use Rattle.reached.specs.Counted.{positioned_once, mispositioned_once, counted_five}
use Rattle.reached.proofs.Shared.{Pinned, pin, given}

-- ---- a pin that a class takes is one of 24

role_none : (p : ℕ) → p < 1 → role_of p ≡ 0
unfolding role_of
role_none p h = let e : p ≡ 0 = omega arith in rw e refl

role_beyond : (p : ℕ) → 24 ≤ p → role_of p ≡ 0
unfolding role_of
role_beyond p h =
    rw (le-ltb p 1 (omega arith), le-ltb p 2 (omega arith), le-ltb p 12 (omega arith), le-ltb p 13 (omega arith), le-ltb p 14 (omega arith), le-ltb p 24 h) refl

role_range : (p : ℕ) → (role_of p ≡ 0 → ⊥) → (1 ≤ p) × (p ≤ 24)
role_range p n = (low (ltb p 1) refl, high (ltb p 24) refl)
  where
    low : (b : Bool) → ltb p 1 ≡ b → 1 ≤ p
    low true e = absurd (n (role_none p (ltb-true p 1 e)))
    low false e = ltb-false p 1 e

    high : (b : Bool) → ltb p 24 ≡ b → p ≤ 24
    high true e = let l : p < 24 = ltb-true p 24 e in omega arith
    high false e = absurd (n (role_beyond p (ltb-false p 24 e)))

none_below : (f : ℕ → Bool) (n : ℕ) → ((k : ℕ) → k < n → f k ≡ false) → any_below f n ≡ false
unfolding any_below
none_below f zero h = refl
none_below f (suc n) h = ap₂ (λ (a b : Bool). a || b) (none_below f n (λ k l. h k (omega arith))) (h n (omega arith))

-- ---- an element, in memory that statements left

module _ (l : List ℕ) (r : Pinned l) (i : ℕ) (h : i < 64) where
  abbrev e : Elements
  e = elements_of l

  -- a pin whose number was given once has no other element
  alone_at : (1 ≤ pin l i) → pin l i ≤ 24 → given l (pin l i) ≡ 1 → (j : ℕ) → j < 64 → stands_beside e i j ≡ false
  alone_at lo hi once j g = go (stands_beside e i j) refl
    where
      go : (b : Bool) → stands_beside e i j ≡ b → stands_beside e i j ≡ false
      go false q = q
      go true q =
          let t = of_true (stands_beside e i j) q in
          let apart : eqb j i ≡ false = not-true (eqb j i) (true_of _ (and_l (not (eqb j i)) (eqb (pin l j) (pin l i) && (eqb (class_of l j) 1 || eqb (class_of l j) 2)) t)) in
          let same : eqb (pin l j) (pin l i) ≡ true =
          true_of _ (and_l (eqb (pin l j) (pin l i)) (eqb (class_of l j) 1 || eqb (class_of l j) 2)
          (and_r (not (eqb j i)) (eqb (pin l j) (pin l i) && (eqb (class_of l j) 1 || eqb (class_of l j) 2)) t)) in
          let two : 2 ≤ given l (pin l i) = r.twice i j h g (λ q. eqb-false j i apart (sym q)) (sym (eqb-true (pin l j) (pin l i) same)) lo hi in
          absurd (omega arith)

  -- looking at the pins too changes nothing
  either : (1 ≤ pin l i) → pin l i ≤ 24 → (b : Bool) → eqb (given l (pin l i)) 1 ≡ b → pick (any_below (stands_beside e i) 64) false b ≡ b
  either lo hi true q =
      ap (λ (c : Bool). pick c false true) (none_below (stands_beside e i) 64 (alone_at lo hi (eqb-true (given l (pin l i)) 1 q)))
  either lo hi false q = go (any_below (stands_beside e i) 64)
    where
      go : (c : Bool) → pick c false false ≡ false
      go true = refl
      go false = refl

  right-same : (class_of l i ≡ 0 → ⊥) → positioned_right e i ≡ positioned_once e i
  unfolding positioned_right positioned_once
  right-same n = go (not (eqb (e.positioned i) 1)) (e.miscounted i) (not (eqb (role_of (pin l i)) (class_of l i))) refl
    where
      go : (a b c : Bool) → not (eqb (role_of (pin l i)) (class_of l i)) ≡ c
          → pick a false (pick b false (pick c false (pick (any_below (stands_beside e i) 64) false (eqb (given l (pin l i)) 1))))
          ≡ pick a false (pick b false (pick c false (eqb (given l (pin l i)) 1)))
      go true b c q = refl
      go false true c q = refl
      go false false true q = refl
      go false false false q =
          let role : role_of (pin l i) ≡ class_of l i = eqb-true (role_of (pin l i)) (class_of l i) (not-false (eqb (role_of (pin l i)) (class_of l i)) q) in
          let range = role_range (pin l i) (λ z. n (sym role ∙ z)) in
          either range.0 range.1 (eqb (given l (pin l i)) 1) refl

  some : (c : ℕ) → (c ≡ 0 → ⊥) → eqb (class_of l i) c ≡ true → class_of l i ≡ 0 → ⊥
  some c n q z = n (sym (eqb-true (class_of l i) c q) ∙ z)

  mispositioned-same : mispositioned e i ≡ mispositioned_once e i
  unfolding mispositioned mispositioned_once
  mispositioned-same = go (eqb (class_of l i) 1) (eqb (class_of l i) 2) refl refl
    where
      go : (a b : Bool) → eqb (class_of l i) 1 ≡ a → eqb (class_of l i) 2 ≡ b
          → pick a (not (positioned_right e i)) (pick b (not (positioned_right e i)) (pick (eqb (class_of l i) 3) (not (eqb (e.positioned i) 0)) false))
          ≡ pick a (not (positioned_once e i)) (pick b (not (positioned_once e i)) (pick (eqb (class_of l i) 3) (not (eqb (e.positioned i) 0)) false))
      go true b p q = ap not (right-same (some 1 (λ z. omega arith) p))
      go false true p q = ap not (right-same (some 2 (λ z. omega arith) q))
      go false false p q = refl

-- stage 5 by the counts alone is stage 5, on all memory that statements leave
pub counted_five_lem : (l : List ℕ) → Pinned l → stage_five (elements_of l) ≡ counted_five (elements_of l)
unfolding stage_five counted_five
counted_five_lem l r =
    ap (λ (k : ℕ). pass 7 (elements_of l) (misassigned (elements_of l)) (pass 8 (elements_of l) (misplaced (elements_of l)) (pass 9 (elements_of l) (looped (elements_of l))
    (pick (ltb k 64) (refused 10 ((elements_of l).place k)) fine))))
    (first_same (mispositioned (elements_of l)) (mispositioned_once (elements_of l)) 64 (λ i h. mispositioned-same l r i h))
