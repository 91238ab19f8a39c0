-- The sum of a cell of the emitted map is the function of its rows.
-- Assumes nothing.
use mathlib.Core.Path.{◌≡◌, refl, sym, ap, ap₂, ◌∙◌}
use mathlib.Core.Bool.{Bool, true, false, ◌||◌}
use mathlib.Core.List.{List, [], ◌∷◌}
use Prim.Native.Nat.{ℕ, zero, suc, ◌+◌, ◌≤◌, ◌<◌}
use native.Mathlib.Omega.{arith}
use lib.ListN.{length, get_or}
use Rattle.basics.specs.Choice.{on}
use Rattle.basics.specs.Below.{any_below}
use Rattle.sums.specs.Product.{Digit, covers, any}
use Rattle.sums.proofs.Complete.{complete}
use Rattle.cover.specs.Mask.{mask}
use Rattle.cover.specs.Sum.{over}
use Rattle.device.specs.Device.{enable_of, products_of}
use Rattle.fit.specs.Fit.{primes_of}
use Rattle.rows.specs.Row.{product_row}
use Rattle.rows.specs.Setting.{setting_of}
use Rattle.rows.proofs.Rows.{dead_false, zero_dead, setting_size}
use Rattle.gal.specs.Map.{fuse, row_true, total}
use Rattle.cells.specs.Map.{used, map_of}
use Rattle.behave.proofs.Meets.{row_covers}
use Rattle.behave.proofs.Emitted.{none_of, true_same, product_fuse, rest_fuse}
use Rattle.behave.proofs.Chosen.{in_rows, Chosen, each_at, mask_at, primes_wide}

-- ---- tests from the front

or_assoc : (a b c : Bool) → ((a || b) || c) ≡ (a || (b || c))
or_assoc true b c = refl
or_assoc false b c = refl

or_none : (a : Bool) → (false || a) ≡ (a || false)
or_none true = refl
or_none false = refl

any_front : (f : ℕ → Bool) (n : ℕ) → any_below f (suc n) ≡ (f 0 || any_below (λ i. f (suc i)) n)
unfolding any_below
any_front f zero = or_none (f 0)
any_front f (suc n) = ap (λ (b : Bool). b || f (suc n)) (any_front f n) ∙ or_assoc (f 0) (any_below (λ i. f (suc i)) n) (f (suc n))

-- rows that are the products of a list, and then rows that are never true
sum_is : (s : List Bool) (ps : List (List Digit)) (n : ℕ) (f : ℕ → Bool) → length ps ≤ n → ((i : ℕ) → i < length ps → f i ≡ covers (get_or ps i []) s)
    → ((i : ℕ) → length ps ≤ i → i < n → f i ≡ false) → any_below f n ≡ any (λ p. covers p s) ps
unfolding any
sum_is s [] n f h a b = none_of f n (λ i l. b i (omega arith) l)
sum_is s (p ∷ ps) zero f h a b = absurd (omega arith)
sum_is s (p ∷ ps) (suc n) f h a b =
    any_front f n
    ∙ ap₂ (λ (x y : Bool). x || y) (a 0 (omega arith)) (sum_is s ps n (λ i. f (suc i)) (omega arith) (λ i l. a (suc i) (omega arith)) (λ i l k. b (suc i) (omega arith) (omega arith)))

sum_complete : (named : ℕ) (g : List Bool → Bool) (s : List Bool) → length s ≡ 22 → any (λ p. covers p s) (primes_of named g) ≡ over named g s
unfolding primes_of
sum_complete named g s h = sym (complete 22 (over named g) s h)

module _ (all : List (List ℕ)) (counts kinds s0s : List ℕ) (k : ℕ) (h : k < 10) where
  -- a row of 0 is never true
  rest-false : (i : ℕ) (sig : List ℕ) → (used kinds k ≡ true → get_or counts k 0 ≤ i) → i < products_of k → row_true (map_of all counts kinds s0s) (enable_of k + 1 + i) sig ≡ false
  unfolding row_true
  rest-false i sig n l =
      dead_false (fuse (map_of all counts kinds s0s) (enable_of k + 1 + i)) sig (zero_dead (fuse (map_of all counts kinds s0s) (enable_of k + 1 + i)) (λ c d. rest_fuse all counts kinds s0s k i c h n l d))

  product-row : (i : ℕ) (p : List Digit) (sig : List ℕ) → length sig ≡ 22 → length p ≡ 22 → i < get_or counts k 0 → i < products_of k → used kinds k ≡ true → get_or (get_or all k []) i 0 ≡ mask p
      → row_true (map_of all counts kinds s0s) (enable_of k + 1 + i) sig ≡ covers p (setting_of sig)
  unfolding row_true
  product-row i p sig z w n l u e =
      true_same (fuse (map_of all counts kinds s0s) (enable_of k + 1 + i)) (λ c. get_or (product_row (mask p)) c 0) sig
      (λ c d. product_fuse all counts kinds s0s k i c h n l d u ∙ ap (λ (x : ℕ). get_or (product_row x) c 0) e)
      ∙ row_covers p sig w z

  -- THE THEOREM: at any signals, the sum of a cell in use is the function of its rows at their setting
  pub total_is : (reg start : Bool) (named : ℕ) (f : List Bool → Bool) → used kinds k ≡ true → Chosen k reg start named f (on (get_or s0s k 0)) (get_or counts k 0) (get_or all k [])
      → (sig : List ℕ) → length sig ≡ 22 → total (map_of all counts kinds s0s) k sig ≡ over named (in_rows reg (on (get_or s0s k 0)) f) (setting_of sig)
  unfolding total
  total_is reg start named f u c sig z =
      let ps = primes_of named (in_rows reg (on (get_or s0s k 0)) f) in
      let w = c.within in
      let n = c.count in
      sum_is (setting_of sig) ps (products_of k) (λ i. row_true (map_of all counts kinds s0s) (enable_of k + 1 + i) sig) c.within
      (λ i l. product-row i (get_or ps i []) sig z (each_at (λ p. length p ≡ 22) ps [] i (primes_wide named (in_rows reg (on (get_or s0s k 0)) f)) l) (omega arith) (omega arith) u (ap (λ (x : List ℕ). get_or x i 0) c.held ∙ mask_at ps i l))
      (λ i l d. rest-false i sig (λ q. omega arith) d)
      ∙ sum_complete named (in_rows reg (on (get_or s0s k 0)) f) (setting_of sig) (setting_size sig z)
