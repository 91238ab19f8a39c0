-- The first number that passes, found by counting up. Assumes nothing.
use mathlib.Core.Path.{◌≡◌, refl, sym, ap, ap₂, ◌∙◌}
use mathlib.Core.Logic.{⊎_elim}
use mathlib.Core.Bool.{Bool, true, false, ◌||◌}
use Prim.Native.Nat.{ℕ, zero, suc, ◌≤◌, ◌<◌}
use native.Mathlib.Nat.{eq-or-lt_of_le, le_of_suc-le-suc}
use native.Mathlib.Omega.{arith}
use lib.Dec.{ltb}
use Rattle.std.specs.Prelude.{Option, Some, None, IfSome, IsNone, is_some}
use Rattle.circuit.specs.Judged.{IsFirst}
use Rattle.basics.specs.Choice.{found_or}
use borrow.Author.Tests.{lt-ltb, le-ltb}
use Rattle.basics.specs.Choice.{pick}
use Rattle.basics.proofs.Folds.{none_end, any_none, any_hit}
use Rattle.basics.specs.Below.{any_below}
use Rattle.basics.proofs.Folds
use Rattle.circuit.specs.StageFive.{first_below}

-- none passes
pub first_none : (f : ℕ → Bool) (n : ℕ) → ((k : ℕ) → k < n → f k ≡ false) → first_below f n ≡ n
unfolding first_below
first_none f zero h = refl
first_none f (suc n) h =
    let e = first_none f n (λ k l. h k (omega arith)) in
    ap₂ (λ (b c : Bool). pick b (first_below f n) (pick c n (suc n))) (le-ltb (first_below f n) n (omega arith)) (h n (omega arith))

-- i passes and none before it
pub first_is : (f : ℕ → Bool) (n i : ℕ) → i < n → ((k : ℕ) → k < i → f k ≡ false) → f i ≡ true → first_below f n ≡ i
unfolding first_below
first_is f zero i h b t = absurd (omega arith)
first_is f (suc n) i h b t =
    ⊎_elim
    (λ (q : i ≡ n).
    let e = first_none f n (λ k l. b k (omega arith)) in
    ap₂ (λ (x y : Bool). pick x (first_below f n) (pick y n (suc n))) (le-ltb (first_below f n) n (omega arith)) (ap f (sym q) ∙ t) ∙ sym q)
    (λ (l : i < n).
    let e = first_is f n i l b t in
    ap (λ (x : Bool). pick x (first_below f n) (pick (f n) n (suc n))) (lt-ltb (first_below f n) n (omega arith)) ∙ e)
    (eq-or-lt_of_le (le_of_suc-le-suc h))

pub first_same : (f g : ℕ → Bool) (n : ℕ) → ((k : ℕ) → k < n → f k ≡ g k) → first_below f n ≡ first_below g n
unfolding first_below
first_same f g zero h = refl
first_same f g (suc n) h = ap₂ (λ (x : ℕ) (b : Bool). pick (ltb x n) x (pick b n (suc n))) (first_same f g n (λ k l. h k (omega arith))) (h n (omega arith))

-- a loop that counts up
pub hit : (f : ℕ → Bool) (n i : ℕ) → i < n → Folds.None f n i → f i ≡ true → i ≡ first_below f n
hit f n i h c t = sym (first_is f n i h (any_none f i c.says) t)

pub missed : (f : ℕ → Bool) (n i : ℕ) → n ≤ i → Folds.None f n i → n ≡ first_below f n
missed f n i h c = sym (first_none f n (any_none f n (none_end f n i h c)))

-- ---- a call of find, whose test says f

says_found : {says : ℕ → Bool → Type 0} (f : ℕ → Bool) (n : ℕ) → n ≤ 64 → ((k : ℕ) (b : Bool) → k < 64 → says k b → b ≡ f k) → ((k : ℕ) → k < n → says k false) → (k : ℕ) → k < n → f k ≡ false
says_found f n l h s k m = sym (h k false (omega arith) (s k m))

pub found : {says : ℕ → Bool → Type 0} (f : ℕ → Bool) (o : Option ℕ) → ((k : ℕ) (b : Bool) → k < 64 → says k b → b ≡ f k)
    → IfSome o (IsFirst says) → (IsNone o → (k : ℕ) → k < 64 → says k false) → found_or 64 o ≡ first_below f 64
found f (Some i) h s n = let l = s.inside in sym (first_is f 64 i l (says_found f i (omega arith) h s.before) (sym (h i true l s.passes)))
found f None h s n = sym (first_none f 64 (says_found f 64 (omega arith) h (n refl)))

none_any : (f : ℕ → Bool) (n : ℕ) → ((k : ℕ) → k < n → f k ≡ false) → any_below f n ≡ false
unfolding any_below
none_any f zero h = refl
none_any f (suc n) h = ap₂ (λ (x y : Bool). x || y) (none_any f n (λ k l. h k (omega arith))) (h n (omega arith))

pub found_any : {says : ℕ → Bool → Type 0} (f : ℕ → Bool) (o : Option ℕ) → ((k : ℕ) (b : Bool) → k < 64 → says k b → b ≡ f k)
    → IfSome o (IsFirst says) → (IsNone o → (k : ℕ) → k < 64 → says k false) → is_some o ≡ any_below f 64
found_any f (Some i) h s n = let l = s.inside in sym (any_hit f 64 i l (sym (h i true l s.passes)))
found_any f None h s n = sym (none_any f 64 (says_found f 64 (omega arith) h (n refl)))
