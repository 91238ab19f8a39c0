-- Meeting is what Warshall's 64 rounds find, and what paths say. Assumes nothing.
use mathlib.Core.Path.{◌≡◌, refl, sym, ap, ◌∙◌, subst}
use mathlib.Core.Logic.{⊎_elim}
use mathlib.Core.Bool.{Bool, true, false, ◌&&◌, ◌||◌}
use Prim.Native.Nat.{ℕ, zero, suc, ◌+◌, ◌-◌, ◌≤◌, ◌<◌}
use native.Mathlib.Nat.{eq-or-lt_of_le, le_of_suc-le-suc}
use native.Mathlib.Omega.{arith}
use lib.Dec.{T, ltb, ltb→lt}
use Rattle.basics.specs.Choice.{pick}
use Rattle.basics.proofs.Truth.{and_l, and_r, and_false, of_true}
use Rattle.trees.specs.Layout.{Elements}
use Rattle.reach.specs.Uses.{replaced, uses, writes, names}
use Rattle.reach.specs.Reach.{Meets, via}
use Rattle.reach.specs.Reach.Meets.{here, on_the_way}
use Rattle.reach.specs.Meeting.{top_below, meets}
use Rattle.reach.proofs.Warshall.{via_meets, meets_via}

-- nothing at or above the top passes
top_above : (f : ℕ → Bool) (n k : ℕ) → k < n → top_below f n ≤ k → f k ≡ false
unfolding top_below
top_above f zero k h l = absurd (omega arith)
top_above f (suc n) k h l = step (f n) refl l (λ m z. top_above f n k m z)
  where
    step : (b : Bool) → f n ≡ b → pick b (suc n) (top_below f n) ≤ k → (k < n → top_below f n ≤ k → f k ≡ false) → f k ≡ false
    step true q z more = absurd (omega arith)
    step false q z more = ⊎_elim (λ (y : k ≡ n). ap f y ∙ q) (λ (y : k < n). more y z) (eq-or-lt_of_le (le_of_suc-le-suc h))

pub top_le : (f : ℕ → Bool) (n : ℕ) → top_below f n ≤ n
unfolding top_below
top_le f zero = omega arith
top_le f (suc n) = step (f n) (top_le f n)
  where
    step : (b : Bool) → top_below f n ≤ n → pick b (suc n) (top_below f n) ≤ suc n
    step true h = omega arith
    step false h = omega arith

-- from an element without names no way starts
stuck : (e : ℕ → ℕ → Bool) (x y : ℕ) → ((z : ℕ) → e x z ≡ false) → Meets e x y → ⊥
stuck e x y f (here {i} {j} t) = subst (λ (b : Bool). T b) (f j) t
stuck e x y f (on_the_way {i} {k} {j} t w) = subst (λ (b : Bool). T b) (f k) t

no_way : (e : ℕ → ℕ → Bool) (n k j : ℕ) → ((j : ℕ) → e k j ≡ false) → via e n k j ≡ false
no_way e n k j f = go (via e n k j) refl
  where
    go : (b : Bool) → via e n k j ≡ b → via e n k j ≡ false
    go true q = absurd (stuck e k j f (via_meets e n k j (of_true (via e n k j) q)))
    go false q = q

or_none : (a : Bool) → (a || false) ≡ a
or_none true = refl
or_none false = refl

-- rounds by way of elements without names change nothing
idle : (e : ℕ → ℕ → Bool) (n d i j : ℕ) → ((k : ℕ) → n ≤ k → k < d + n → (j : ℕ) → e k j ≡ false) → via e (d + n) i j ≡ via e n i j
unfolding via
idle e n zero i j f = ap (λ (k : ℕ). via e k i j) none
  where
    none : 0 + n ≡ n
    none = omega arith
idle e n (suc d) i j f =
    ap (λ (k : ℕ). via e k i j) one
    ∙ ap (λ (b : Bool). via e (d + n) i j || (via e (d + n) i (d + n) && b)) (no_way e (d + n) (d + n) j (f (d + n) (omega arith) (omega arith)))
    ∙ ap (λ (b : Bool). via e (d + n) i j || b) (and_false (via e (d + n) i (d + n)))
    ∙ or_none (via e (d + n) i j)
    ∙ idle e n d i j (λ k h l. f k h (omega arith))
  where
    one : suc d + n ≡ suc (d + n)
    one = omega arith

pub meets_is : (e : Elements) (i j : ℕ) → meets e i j ≡ via (uses e) 64 i j
unfolding meets uses
meets_is e i j =
    let h = top_le (replaced e) 64 in
    let w : 64 - top_below (replaced e) 64 + top_below (replaced e) 64 ≡ 64 = omega arith in
    sym (ap (λ (n : ℕ). via (uses e) n i j) (sym w)
    ∙ idle (uses e) (top_below (replaced e) 64) (64 - top_below (replaced e) 64) i j
    (λ k l m x. ap (λ (b : Bool). b && writes e k x) (top_above (replaced e) 64 k (omega arith) l)))

-- every name that is used is of the 64 elements, so that meeting is a path of names
pub uses_small : (e : Elements) (i j : ℕ) → T (uses e i j) → j < 64
unfolding uses writes
uses_small e i j t = ltb→lt j 64 (and_l (ltb j 64) (names (e.nodes i) j) (and_r (replaced e i) (ltb j 64 && names (e.nodes i) j) t))

pub meets_path : (e : Elements) (i j : ℕ) → T (meets e i j) → Meets (uses e) i j
meets_path e i j t = via_meets (uses e) 64 i j (subst (λ (b : Bool). T b) (meets_is e i j) t)

pub path_meets : (e : Elements) (i j : ℕ) → Meets (uses e) i j → T (meets e i j)
path_meets e i j w = subst (λ (b : Bool). T b) (sym (meets_is e i j)) (meets_via (uses e) 64 (uses_small e) w)
