-- The pins of a module that stage 5 lets pass: each IN and OUT stands at a pin of its own, of its class. Assumes nothing.
use mathlib.Core.Path.{◌≡◌, refl, sym, ◌∙◌}
use mathlib.Core.Bool.{Bool, true, false, not, ◌&&◌, ◌||◌}
use Prim.Native.Nat.{ℕ, ◌<◌}
use native.Mathlib.Omega.{arith}
use lib.Dec.{T, eqb}
use borrow.Author.Tests.{eq-eqb, eqb-true}
use Rattle.basics.specs.Choice.{pick}
use Rattle.basics.specs.Below.{any_below}
use Rattle.basics.proofs.Truth.{and_l, and_r, of_true, true_of, clash}
use Rattle.basics.proofs.Folds.{any_none}
use Rattle.trees.specs.Layout.{Elements}
use Rattle.circuit.specs.Pins.{role_of}
use Rattle.circuit.specs.StageFive.{stands_beside, positioned_right, mispositioned}
use Rattle.circuit.proofs.First.{first_is}
use Rattle.meaning.specs.Circuit.{out_at}
use Rattle.meaning.proofs.Fine.{Fine}

-- an IN or an OUT
abbrev pub is_signal : Elements → ℕ → Bool
is_signal e i = eqb (e.class i) 1 || eqb (e.class i) 2

pub positioned_right_lem : (e : Elements) (i : ℕ) → mispositioned e i ≡ false → T (is_signal e i) → positioned_right e i ≡ true
unfolding mispositioned
positioned_right_lem e i q t = go (eqb (e.class i) 1) (eqb (e.class i) 2) (positioned_right e i) (pick (eqb (e.class i) 3) (not (eqb (e.positioned i) 0)) false) q t
  where
    go : (a b r x : Bool) → pick a (not r) (pick b (not r) x) ≡ false → T (a || b) → r ≡ true
    go true b true x z u = refl
    go true b false x z u = absurd (clash z)
    go false true true x z u = refl
    go false true false x z u = absurd (clash z)
    go false false r x z u = absurd u

right : (a b c x d : Bool) → pick (not a) false (pick b false (pick (not c) false (pick x false d))) ≡ true → (c ≡ true) × (x ≡ false)
right true false true false d z = (refl, refl)
right true false true true d z = absurd (clash (sym z))
right true false false x d z = absurd (clash (sym z))
right true true c x d z = absurd (clash (sym z))
right false b c x d z = absurd (clash (sym z))

-- the pin is of the class
pub right_role : (e : Elements) (i : ℕ) → positioned_right e i ≡ true → eqb (role_of (e.pin i)) (e.class i) ≡ true
unfolding positioned_right
right_role e i q =
    (right (eqb (e.positioned i) 1) (e.miscounted i) (eqb (role_of (e.pin i)) (e.class i)) (any_below (stands_beside e i) 64) (eqb (e.given (e.pin i)) 1) q).0

right_alone : (e : Elements) (i : ℕ) → positioned_right e i ≡ true → any_below (stands_beside e i) 64 ≡ false
unfolding positioned_right
right_alone e i q =
    (right (eqb (e.positioned i) 1) (e.miscounted i) (eqb (role_of (e.pin i)) (e.class i)) (any_below (stands_beside e i) 64) (eqb (e.given (e.pin i)) 1) q).1

-- no two stand at one pin
pub alone : (e : Elements) → Fine e → (i j : ℕ) → i < 64 → j < 64 → T (is_signal e i) → T (is_signal e j) → e.pin j ≡ e.pin i → j ≡ i
alone e f i j hi hj si sj q = go (eqb j i) refl
  where
    none : stands_beside e i j ≡ false
    none = any_none (stands_beside e i) 64 (right_alone e i (positioned_right_lem e i (f.positioned i hi) si)) j hj

    go : (b : Bool) → eqb j i ≡ b → j ≡ i
    go true z = eqb-true j i z
    go false z =
        absurd
        (clash
        (sym (λ x. not (z x) && (eq-eqb (e.pin j) (e.pin i) q x && true_of (is_signal e j) sj x)) ∙ none))

-- the OUT at the pin of an OUT is itself
pub out_at_lem : (e : Elements) → Fine e → (o : ℕ) → o < 64 → e.class o ≡ 2 → out_at e (e.pin o) ≡ o
unfolding out_at
out_at_lem e f o h c =
    first_is (λ i. eqb (e.class i) 2 && eqb (e.pin i) (e.pin o)) 64 o h before
    (λ x. eq-eqb (e.class o) 2 c x && eq-eqb (e.pin o) (e.pin o) refl x)
  where
    signal : (k : ℕ) → T (eqb (e.class k) 2) → T (is_signal e k)
    signal k t = or_right (eqb (e.class k) 1) (eqb (e.class k) 2) t
      where
        or_right : (a b : Bool) → T b → T (a || b)
        or_right true b u = tt
        or_right false b u = u

    before : (k : ℕ) → k < o → (eqb (e.class k) 2 && eqb (e.pin k) (e.pin o)) ≡ false
    before k l = go (eqb (e.class k) 2 && eqb (e.pin k) (e.pin o)) refl
      where
        go : (b : Bool) → (eqb (e.class k) 2 && eqb (e.pin k) (e.pin o)) ≡ b → (eqb (e.class k) 2 && eqb (e.pin k) (e.pin o)) ≡ false
        go false z = z
        go true z =
            let t = of_true (eqb (e.class k) 2 && eqb (e.pin k) (e.pin o)) z in
            let p = eqb-true (e.pin k) (e.pin o) (true_of (eqb (e.pin k) (e.pin o)) (and_r (eqb (e.class k) 2) (eqb (e.pin k) (e.pin o)) t)) in
            let w : k ≡ o = alone e f o k h (omega arith) (signal o (of_true (eqb (e.class o) 2) (eq-eqb (e.class o) 2 c))) (signal k (and_l (eqb (e.class k) 2) (eqb (e.pin k) (e.pin o)) t)) p in
            absurd (omega arith)
