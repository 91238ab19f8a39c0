-- The emitted map, row by row and switch by switch.
-- Assumes nothing.
use mathlib.Core.Path.{◌≡◌, refl, sym, ap, ap₂, ◌∙◌, subst}
use mathlib.Core.Bool.{Bool, true, false, not, ◌&&◌, ◌||◌}
use mathlib.Core.List.{List, [], ◌∷◌}
use Prim.Native.Nat.{ℕ, zero, suc, ◌+◌, ◌-◌, ◌*◌, ◌/◌, ◌%◌, ◌≤◌, ◌<◌}
use native.Mathlib.Omega.{arith}
use borrow.Author.Tests.{lt-ltb, le-ltb, le-leb, eq-eqb, ne_eqb, leb-true}
use lib.Dec.{eqb, leb, ltb}
use lib.ListN.{length, get_or, replicate, get_or-replicate}
use Rattle.basics.specs.Choice.{bit, on, pick}
use Rattle.basics.specs.Below.{any_below, all_below}
use Rattle.basics.proofs.Folds.{all_miss, all_same, listed_at, listed_length}
use Rattle.device.specs.Device.{enable_of, products_of}
use Rattle.device.proofs.Rule.{rows_after, rows_fit}
use Rattle.rows.specs.Row.{plain_fuse, inverse_fuse, pairs_from, product_row, true_row, pair_true}
use Rattle.gal.specs.Map.{fuse, row_is, plain_out, registered, enabled}
use Rattle.cells.specs.Map.{used, clocked, cell_row, cell_at, row_at, row_fuse, s0_fuse, s1_fuse, switch_fuse, fuse_at, map_of}
use Rattle.cells.proofs.Writing.{cell_of_lem}

-- ---- tests over the numbers below n

pub none_of : (f : ℕ → Bool) (n : ℕ) → ((i : ℕ) → i < n → f i ≡ false) → any_below f n ≡ false
unfolding any_below
none_of f zero e = refl
none_of f (suc n) e = ap₂ (λ (x y : Bool). x || y) (none_of f n (λ i h. e i (omega arith))) (e n (omega arith))

pub all_of : (f : ℕ → Bool) (n : ℕ) → ((i : ℕ) → i < n → f i ≡ true) → all_below f n ≡ true
unfolding all_below
all_of f zero e = refl
all_of f (suc n) e = ap₂ (λ (x y : Bool). x && y) (all_of f n (λ i h. e i (omega arith))) (e n (omega arith))

-- ---- rows that agree

pub true_same : (f g : ℕ → ℕ) (sig : List ℕ) → ((c : ℕ) → c < 44 → f c ≡ g c) → true_row f sig ≡ true_row g sig
unfolding true_row
true_same f g sig e =
    all_same (λ p. pair_true (f (p * 2)) (f (p * 2 + 1)) (get_or sig p 0)) (λ p. pair_true (g (p * 2)) (g (p * 2 + 1)) (get_or sig p 0)) 22
    (λ p h. λ i. pair_true (e (p * 2) (omega arith) i) (e (p * 2 + 1) (omega arith) i) (get_or sig p 0))

-- every fuse of a row is the same
pub row_all : (m : List ℕ) (r v : ℕ) → ((c : ℕ) → c < 44 → fuse m r c ≡ v) → row_is m r v ≡ true
unfolding row_is
row_all m r v e = all_of (λ c. eqb (fuse m r c) v) 44 (λ c h. eq-eqb (fuse m r c) v (e c h))

pub row_not : (m : List ℕ) (r v c : ℕ) → c < 44 → (fuse m r c ≡ v → ⊥) → row_is m r v ≡ false
unfolding row_is
row_not m r v c h n = all_miss (λ c. eqb (fuse m r c) v) 44 c h (ne_eqb (fuse m r c) v n)

-- ---- fuses are 0 or 1

two_small : (a b : Bool) (fs : List ℕ) → ((k : ℕ) → get_or fs k 0 ≤ 1) → (k : ℕ) → get_or (bit a ∷ bit b ∷ fs) k 0 ≤ 1
two_small a b fs h zero = small a
  where
    small : (b : Bool) → bit b ≤ 1
    small true = omega arith
    small false = omega arith
two_small a b fs h (suc zero) = small b
  where
    small : (b : Bool) → bit b ≤ 1
    small true = omega arith
    small false = omega arith
two_small a b fs h (suc (suc k)) = h k

pairs_small : (n a b : ℕ) (fs : List ℕ) → ((k : ℕ) → get_or fs k 0 ≤ 1) → (k : ℕ) → get_or (pairs_from n a b fs) k 0 ≤ 1
unfolding pairs_from
pairs_small zero a b fs h k = h k
pairs_small (suc n) a b fs h k =
    pairs_small n (a / 2) (b / 2) (plain_fuse (on (a % 2)) (on (b % 2)) ∷ inverse_fuse (on (a % 2)) (on (b % 2)) ∷ fs)
    (two_small (not (on (a % 2) && not (on (b % 2)))) (not (on (a % 2) && on (b % 2))) fs h) k

pub product_small : (m k : ℕ) → get_or (product_row m) k 0 ≤ 1
unfolding product_row
product_small m k = pairs_small 22 (m % 4294967296) (m / 4294967296) [] (λ j. omega arith) k

same_small : (v c : ℕ) → v ≤ 1 → c < 44 → get_or (replicate 44 v) c 0 ≤ 1
same_small v c h l = subst (λ (x : ℕ). x ≤ 1) (sym (get_or-replicate 44 c v 0 l)) h

row_small : (in_use : Bool) (n : ℕ) (masks : List ℕ) (a c : ℕ) → c < 44 → get_or (cell_row in_use n masks a) c 0 ≤ 1
unfolding cell_row
row_small in_use n masks a c l = go in_use (eqb a 0) (leb a n)
  where
    go : (u z b : Bool) → get_or (pick (not u) (replicate 44 0) (pick z (replicate 44 1) (pick b (product_row (get_or masks (a - 1) 0)) (replicate 44 0)))) c 0 ≤ 1
    go false z b = same_small 0 c (omega arith) l
    go true true b = same_small 1 c (omega arith) l
    go true false true = product_small (get_or masks (a - 1) 0) c
    go true false false = same_small 0 c (omega arith) l

module _ (all : List (List ℕ)) (counts kinds s0s : List ℕ) where
  pub map_size : length (map_of all counts kinds s0s) ≡ 5892
  unfolding map_of
  map_size = listed_length (fuse_at all counts kinds s0s) 5892

  fuse-at : (i : ℕ) → i < 5892 → get_or (map_of all counts kinds s0s) i 0 ≡ fuse_at all counts kinds s0s i
  unfolding map_of
  fuse-at i h = listed_at (fuse_at all counts kinds s0s) 5892 i h

  rowAt-small : (r c : ℕ) → c < 44 → get_or (row_at all counts kinds r) c 0 ≤ 1
  unfolding row_at
  rowAt-small r c l = go (eqb r 0 || eqb r 131)
    where
      go : (b : Bool) → get_or (pick b (replicate 44 0) (cell_row (used kinds (cell_at r)) (get_or counts (cell_at r) 0) (get_or all (cell_at r) []) (r - enable_of (cell_at r)))) c 0 ≤ 1
      go true = same_small 0 c (omega arith) l
      go false = row_small (used kinds (cell_at r)) (get_or counts (cell_at r) 0) (get_or all (cell_at r) []) (r - enable_of (cell_at r)) c l

  pub fuse_small : (i : ℕ) → i < 5892 → get_or (map_of all counts kinds s0s) i 0 ≤ 1
  unfolding fuse_at
  fuse_small i h = subst (λ (x : ℕ). x ≤ 1) (sym (fuse-at i h)) (go (ltb i 5808) (ltb i 5828) (eqb ((i - 5808) % 2) 0) (used kinds ((i - 5808) / 2)) (on (get_or s0s ((i - 5808) / 2) 0)) (clocked kinds ((i - 5808) / 2)))
    where
      go : (a b c u s d : Bool) → pick a (row_fuse all counts kinds i) (pick b (pick c (pick u (bit s) 1) (pick d 0 1)) 0) ≤ 1
      go true b c u s d = rowAt-small (i / 44) (i % 44) (omega arith)
      go false false c u s d = omega arith
      go false true true true true d = omega arith
      go false true true true false d = omega arith
      go false true true false s d = omega arith
      go false true false u s true = omega arith
      go false true false u s false = omega arith

  -- the fuses of row r
  pub fuse_row : (r c : ℕ) → r < 132 → c < 44 → fuse (map_of all counts kinds s0s) r c ≡ get_or (row_at all counts kinds r) c 0
  unfolding fuse_at
  fuse_row r c h l =
      let a : (r * 44 + c) / 44 ≡ r = omega arith in
      let b : (r * 44 + c) % 44 ≡ c = omega arith in
      fuse-at (r * 44 + c) (omega arith)
      ∙ ap (λ (t : Bool). pick t (row_fuse all counts kinds (r * 44 + c)) (pick (ltb (r * 44 + c) 5828) (switch_fuse kinds s0s (r * 44 + c - 5808)) 0)) (lt-ltb (r * 44 + c) 5808 (omega arith))
      ∙ ap₂ (λ (x y : ℕ). get_or (row_at all counts kinds x) y 0) a b

  end_row : (r : ℕ) → (eqb r 0 || eqb r 131) ≡ true → row_at all counts kinds r ≡ replicate 44 0
  unfolding row_at
  end_row r e = ap (λ (b : Bool). pick b (replicate 44 0) (cell_row (used kinds (cell_at r)) (get_or counts (cell_at r) 0) (get_or all (cell_at r) []) (r - enable_of (cell_at r)))) e

  -- rows 0 and 131
  pub reset_zero : (c : ℕ) → c < 44 → fuse (map_of all counts kinds s0s) 0 c ≡ 0
  reset_zero c l = fuse_row 0 c (omega arith) l ∙ ap (λ (x : List ℕ). get_or x c 0) (end_row 0 refl) ∙ get_or-replicate 44 c 0 0 l

  pub preset_zero : (c : ℕ) → c < 44 → fuse (map_of all counts kinds s0s) 131 c ≡ 0
  preset_zero c l = fuse_row 131 c (omega arith) l ∙ ap (λ (x : List ℕ). get_or x c 0) (end_row 131 refl) ∙ get_or-replicate 44 c 0 0 l

  -- row a of cell k
  rowAt-cell : (k a : ℕ) → k < 10 → a ≤ products_of k → row_at all counts kinds (enable_of k + a) ≡ cell_row (used kinds k) (get_or counts k 0) (get_or all k []) a
  unfolding row_at
  rowAt-cell k a h l =
      let p = rows_after k h in
      let q = rows_fit k h in
      let x = ne_eqb (enable_of k + a) 0 (λ e. omega arith) in
      let y = ne_eqb (enable_of k + a) 131 (λ e. omega arith) in
      let z : enable_of k + a - enable_of k ≡ a = omega arith in
      let e = cell_of_lem k a h l in
      (λ i. pick (x i || y i) (replicate 44 0)
      (cell_row (used kinds (cell_at (enable_of k + a))) (get_or counts (cell_at (enable_of k + a)) 0) (get_or all (cell_at (enable_of k + a)) []) (enable_of k + a - enable_of (cell_at (enable_of k + a)))))
      ∙ ap (λ (j : ℕ). cell_row (used kinds j) (get_or counts j 0) (get_or all j []) (enable_of k + a - enable_of j)) e
      ∙ ap (cell_row (used kinds k) (get_or counts k 0) (get_or all k [])) z

  pub cell_fuse : (k a c : ℕ) → k < 10 → a ≤ products_of k → c < 44
      → fuse (map_of all counts kinds s0s) (enable_of k + a) c ≡ get_or (cell_row (used kinds k) (get_or counts k 0) (get_or all k []) a) c 0
  cell_fuse k a c h l d = let q = rows_fit k h in fuse_row (enable_of k + a) c (omega arith) d ∙ ap (λ (x : List ℕ). get_or x c 0) (rowAt-cell k a h l)

  -- ---- switches

  switch-at : (j : ℕ) → j < 20 → get_or (map_of all counts kinds s0s) (5808 + j) 0 ≡ switch_fuse kinds s0s j
  unfolding fuse_at
  switch-at j h =
      let e : 5808 + j - 5808 ≡ j = omega arith in
      fuse-at (5808 + j) (omega arith)
      ∙ ap₂ (λ (x y : Bool). pick x (row_fuse all counts kinds (5808 + j)) (pick y (switch_fuse kinds s0s (5808 + j - 5808)) 0)) (le-ltb (5808 + j) 5808 (omega arith)) (lt-ltb (5808 + j) 5828 (omega arith))
      ∙ ap (switch_fuse kinds s0s) e

  pub s0_at : (k : ℕ) → k < 10 → get_or (map_of all counts kinds s0s) (5808 + k * 2) 0 ≡ s0_fuse kinds s0s k
  s0_at k h =
      let a : (k * 2) % 2 ≡ 0 = omega arith in
      let b : (k * 2) / 2 ≡ k = omega arith in
      switch-at (k * 2) (omega arith)
      ∙ ap (λ (t : Bool). pick t (s0_fuse kinds s0s (k * 2 / 2)) (s1_fuse kinds (k * 2 / 2))) (eq-eqb (k * 2 % 2) 0 a)
      ∙ ap (s0_fuse kinds s0s) b

  pub s1_at : (k : ℕ) → k < 10 → get_or (map_of all counts kinds s0s) (5809 + k * 2) 0 ≡ s1_fuse kinds k
  s1_at k h =
      let j = k * 2 + 1 in
      let e : 5809 + k * 2 ≡ 5808 + j = omega arith in
      let b : j / 2 ≡ k = omega arith in
      ap (λ (i : ℕ). get_or (map_of all counts kinds s0s) i 0) e
      ∙ switch-at j (omega arith)
      ∙ ap (λ (t : Bool). pick t (s0_fuse kinds s0s (j / 2)) (s1_fuse kinds (j / 2))) (ne_eqb (j % 2) 0 (λ q. omega arith))
      ∙ ap (s1_fuse kinds) b

  -- cell k is registered, and shown true, as the arrays say
  pub registered_is : (k : ℕ) → k < 10 → registered (map_of all counts kinds s0s) k ≡ clocked kinds k
  registered_is k h = ap (λ (x : ℕ). not (on x)) (s1_at k h) ∙ go (clocked kinds k)
    where
      go : (b : Bool) → not (on (pick b 0 1)) ≡ b
      go true = refl
      go false = refl

  pub plain_is : (k : ℕ) → k < 10 → used kinds k ≡ true → plain_out (map_of all counts kinds s0s) k ≡ on (get_or s0s k 0)
  plain_is k h u = ap on (s0_at k h ∙ ap (λ (b : Bool). pick b (bit (on (get_or s0s k 0))) 1) u) ∙ go (on (get_or s0s k 0))
    where
      go : (b : Bool) → on (bit b) ≡ b
      go true = refl
      go false = refl

  -- ---- enable rows

  enable-fuse : (k c : ℕ) → k < 10 → c < 44 → fuse (map_of all counts kinds s0s) (enable_of k) c ≡ bit (used kinds k)
  unfolding cell_row
  enable-fuse k c h l =
      let e : enable_of k ≡ enable_of k + 0 = omega arith in
      ap (λ (r : ℕ). fuse (map_of all counts kinds s0s) r c) e ∙ cell_fuse k 0 c h (omega arith) l ∙ go (used kinds k)
    where
      go : (u : Bool) → get_or (pick (not u) (replicate 44 0) (replicate 44 1)) c 0 ≡ bit u
      go true = get_or-replicate 44 c 1 0 l
      go false = get_or-replicate 44 c 0 0 l

  pub enabled_is : (k : ℕ) → k < 10 → enabled (map_of all counts kinds s0s) k ≡ used kinds k
  unfolding enabled
  enabled_is k h = go (used kinds k) refl
    where
      go : (u : Bool) → used kinds k ≡ u → row_is (map_of all counts kinds s0s) (enable_of k) 1 ≡ u
      go true e = row_all (map_of all counts kinds s0s) (enable_of k) 1 (λ c l. enable-fuse k c h l ∙ ap bit e)
      go false e = row_not (map_of all counts kinds s0s) (enable_of k) 1 0 (omega arith) (λ q. let z = enable-fuse k 0 h (omega arith) ∙ ap bit e in omega arith)

  pub enable_zero : (k : ℕ) → k < 10 → used kinds k ≡ false → row_is (map_of all counts kinds s0s) (enable_of k) 0 ≡ true
  enable_zero k h e = row_all (map_of all counts kinds s0s) (enable_of k) 0 (λ c l. enable-fuse k c h l ∙ ap bit e)

  -- ---- product rows

  -- product i of a cell in use
  pub product_fuse : (k i c : ℕ) → k < 10 → i < get_or counts k 0 → i < products_of k → c < 44 → used kinds k ≡ true
      → fuse (map_of all counts kinds s0s) (enable_of k + 1 + i) c ≡ get_or (product_row (get_or (get_or all k []) i 0)) c 0
  unfolding cell_row
  product_fuse k i c h n l d u =
      let e : enable_of k + 1 + i ≡ enable_of k + suc i = omega arith in
      let x = le-leb (suc i) (get_or counts k 0) (omega arith) in
      let z : suc i - 1 ≡ i = omega arith in
      let w = ne_eqb (suc i) 0 (λ q. omega arith) in
      ap (λ (r : ℕ). fuse (map_of all counts kinds s0s) r c) e ∙ cell_fuse k (suc i) c h (omega arith) d
      ∙ (λ j. get_or (pick (not (u j)) (replicate 44 0) (pick (w j) (replicate 44 1) (pick (x j) (product_row (get_or (get_or all k []) (z j) 0)) (replicate 44 0)))) c 0)

  -- a row behind the products, and every row of an unused cell
  pub rest_fuse : (k i c : ℕ) → k < 10 → (used kinds k ≡ true → get_or counts k 0 ≤ i) → i < products_of k → c < 44 → fuse (map_of all counts kinds s0s) (enable_of k + 1 + i) c ≡ 0
  unfolding cell_row
  rest_fuse k i c h n l d =
      let e : enable_of k + 1 + i ≡ enable_of k + suc i = omega arith in
      ap (λ (r : ℕ). fuse (map_of all counts kinds s0s) r c) e ∙ cell_fuse k (suc i) c h (omega arith) d
      ∙ ap (λ (w : Bool). get_or (pick (not (used kinds k)) (replicate 44 0) (pick w (replicate 44 1) (pick (leb (suc i) (get_or counts k 0)) (product_row (get_or (get_or all k []) (suc i - 1) 0)) (replicate 44 0)))) c 0) (ne_eqb (suc i) 0 (λ q. omega arith))
      ∙ go (used kinds k) (leb (suc i) (get_or counts k 0)) refl refl
    where
      go : (u b : Bool) → used kinds k ≡ u → leb (suc i) (get_or counts k 0) ≡ b → get_or (pick (not u) (replicate 44 0) (pick false (replicate 44 1) (pick b (product_row (get_or (get_or all k []) (suc i - 1) 0)) (replicate 44 0)))) c 0 ≡ 0
      go false b e f = get_or-replicate 44 c 0 0 d
      go true false e f = get_or-replicate 44 c 0 0 d
      go true true e f = let x = n e in let y = leb-true (suc i) (get_or counts k 0) f in absurd (omega arith)
