-- The counts of a fit line, by the rows that are emitted, are those of the cell's masks; and the rows of a cell stand in their order.
-- Assumes nothing.
use mathlib.Core.Path.{◌≡◌, refl, sym, ap, ap₂, ◌∙◌}
use mathlib.Core.Logic.{⊎_elim}
use mathlib.Core.Bool.{Bool, true, false, not}
use mathlib.Core.List.{List, [], ◌∷◌, map}
use Prim.Native.Nat.{ℕ, zero, suc, ◌+◌, ◌-◌, ◌%◌, ◌≤◌, ◌<◌}
use native.Mathlib.Nat.{eq-or-lt_of_le}
use native.Mathlib.Omega.{arith}
use lib.Count.{ones}
use borrow.Author.Tests.{eq-eqb}
use lib.Dec.{eqb, eqb→eq}
use lib.ListN.{length, get_or, take, replicate, length-map}
use lib.Seq.{take_at, ext_get_or}
use Rattle.basics.specs.Choice.{bit, on as true-bit, pick}
use Rattle.basics.specs.Below.{tally, listed}
use Rattle.basics.proofs.Folds.{all_at, listed_at, listed_length}
use Rattle.basics.proofs.Truth.{of_true}
use Rattle.sums.specs.Product.{Digit, factors}
use Rattle.sums.specs.Product.Digit.{off, on, absent}
use Rattle.sums.specs.Order.{columns, before, Rising}
use Rattle.sums.specs.Order.Rising.{more}
use Rattle.cover.specs.Mask.{mask}
use Rattle.cover.specs.Sum.{over, padded}
use Rattle.cover.proofs.Canon.{ones_mask}
use Rattle.device.specs.Device.{enable_of, products_of}
use Rattle.fit.specs.Fit.{primes_of}
use Rattle.rows.specs.Row.{joins, product_row}
use Rattle.rows.proofs.Rows.{product_length}
use Rattle.gal.specs.Map.{fuse, row_is}
use Rattle.cells.specs.Map.{map_of}
use Rattle.cells.specs.Counts.{products_in, sum_below, factors_in, picks}
use Rattle.behave.specs.Cells.{in_use, holds, Cells, Fits}
use Rattle.behave.proofs.Meets.{mask_row, rows_rise}
use Rattle.behave.proofs.Emitted.{row_all, rest_fuse}
use Rattle.behave.proofs.Chosen.{in_rows, each_at, primes_wide}
use Rattle.behave.proofs.Within.{choice, prime_fuse}

-- ---- counts over the numbers below n

-- what passes are the numbers below n
tally_below : (f : ℕ → Bool) (n m : ℕ) → n ≤ m → ((i : ℕ) → i < n → f i ≡ true) → ((i : ℕ) → n ≤ i → i < m → f i ≡ false) → tally f m ≡ n
unfolding tally
tally_below f n zero h a b = omega arith
tally_below f n (suc m) h a b =
    ⊎_elim
    (λ (e : n ≡ suc m).
    let x = tally_below f m m (omega arith) (λ i l. a i (omega arith)) (λ i l k. absurd (omega arith)) in
    let y : bit (f m) ≡ 1 = ap bit (a m (omega arith)) in
    omega arith)
    (λ (e : n < suc m).
    let x = tally_below f n m (omega arith) a (λ i l k. b i l (omega arith)) in
    let y : bit (f m) ≡ 0 = ap bit (b m (omega arith) (omega arith)) in
    omega arith)
    (eq-or-lt_of_le h)

tally_front : (f : ℕ → Bool) (n : ℕ) → tally f (suc n) ≡ bit (f 0) + tally (λ i. f (suc i)) n
unfolding tally
tally_front f zero = refl
tally_front f (suc n) = let e = tally_front f n in omega arith

tally_same : (f g : ℕ → Bool) (n : ℕ) → ((i : ℕ) → i < n → f i ≡ g i) → tally f n ≡ tally g n
unfolding tally
tally_same f g zero e = refl
tally_same f g (suc n) e = ap₂ (λ (x : Bool) (y : ℕ). bit x + y) (e n (omega arith)) (tally_same f g n (λ i h. e i (omega arith)))

sum_front : (f : ℕ → ℕ) (n : ℕ) → sum_below f (suc n) ≡ f 0 + sum_below (λ i. f (suc i)) n
unfolding sum_below
sum_front f zero = refl
sum_front f (suc n) = let e = sum_front f n in omega arith

sum_none : (f : ℕ → ℕ) (n : ℕ) → ((i : ℕ) → i < n → f i ≡ 0) → sum_below f n ≡ 0
unfolding sum_below
sum_none f zero e = refl
sum_none f (suc n) e = ap₂ (λ (x y : ℕ). x + y) (e n (omega arith)) (sum_none f n (λ i h. e i (omega arith)))

-- ---- one row

zeros : List ℕ → ℕ
zeros [] = 0
zeros (x ∷ l) = bit (joins x) + zeros l

zeros_tally : (l : List ℕ) → tally (λ c. joins (get_or l c 0)) (length l) ≡ zeros l
unfolding zeros tally
zeros_tally [] = refl
zeros_tally (x ∷ l) = tally_front (λ c. joins (get_or (x ∷ l) c 0)) (length l) ∙ ap (λ (y : ℕ). bit (joins x) + y) (zeros_tally l)

columns_zeros : (p : List Digit) (fs : List ℕ) → zeros (columns fs p) ≡ factors p + zeros fs
unfolding columns zeros factors
columns_zeros [] fs = omega arith
columns_zeros (off ∷ p) fs = let e = columns_zeros p (0 ∷ 1 ∷ fs) in omega arith
columns_zeros (on ∷ p) fs = let e = columns_zeros p (1 ∷ 0 ∷ fs) in omega arith
columns_zeros (absent ∷ p) fs = let e = columns_zeros p (1 ∷ 1 ∷ fs) in omega arith

zeros_none : zeros [] ≡ 0
unfolding zeros
zeros_none = refl

-- the fuses that join in a product's row are as many as the ones among its picked variables
row_factors : (p : List Digit) → length p ≡ 22 → tally (λ c. joins (get_or (product_row (mask p)) c 0)) 44 ≡ ones (mask p % 4294967296)
row_factors p h =
    let l = product_length (mask p) in
    let z = zeros_none in
    ap (tally (λ c. joins (get_or (product_row (mask p)) c 0))) (sym l)
    ∙ zeros_tally (product_row (mask p))
    ∙ ap zeros (mask_row p h)
    ∙ columns_zeros p []
    ∙ (let e : factors p + zeros [] ≡ factors p = omega arith in e)
    ∙ sym (ones_mask p h)

-- no product's row is all 0: it joins at most one fuse of each pair, and so fewer than all
few_factors : (p : List Digit) → factors p ≤ length p
unfolding factors
few_factors [] = omega arith
few_factors (off ∷ p) = let e = few_factors p in omega arith
few_factors (on ∷ p) = let e = few_factors p in omega arith
few_factors (absent ∷ p) = let e = few_factors p in omega arith

tally_all : (f : ℕ → Bool) (n : ℕ) → ((i : ℕ) → i < n → f i ≡ true) → tally f n ≡ n
tally_all f n e = tally_below f n n (omega arith) e (λ i l k. absurd (omega arith))

row_each : (m : List ℕ) (r v : ℕ) → row_is m r v ≡ true → (c : ℕ) → c < 44 → fuse m r c ≡ v
unfolding row_is
row_each m r v t c l = eqb→eq (fuse m r c) v (of_true _ (all_at (λ c. eqb (fuse m r c) v) 44 t c l))

not_all : (m : List ℕ) (r : ℕ) (p : List Digit) → length p ≡ 22 → ((c : ℕ) → c < 44 → fuse m r c ≡ get_or (product_row (mask p)) c 0) → row_is m r 0 ≡ false
not_all m r p h e = go (row_is m r 0) refl
  where
    go : (b : Bool) → row_is m r 0 ≡ b → row_is m r 0 ≡ false
    go false t = t
    go true t =
        let a = tally_all (λ c. joins (get_or (product_row (mask p)) c 0)) 44 (λ c l. eq-eqb (get_or (product_row (mask p)) c 0) 0 (sym (e c l) ∙ row_each m r 0 t c l)) in
        let b = row_factors p h ∙ ones_mask p h in
        let d = few_factors p in
        absurd (omega arith)

-- ---- lists

sum_picks : (ps : List (List Digit)) (n : ℕ) (f : ℕ → ℕ) → length ps ≤ n → ((i : ℕ) → i < length ps → f i ≡ ones (mask (get_or ps i []) % 4294967296))
    → ((i : ℕ) → length ps ≤ i → i < n → f i ≡ 0) → sum_below f n ≡ picks (map mask ps)
unfolding picks
sum_picks [] n f h a b = sum_none f n (λ i l. b i (omega arith) l)
sum_picks (p ∷ ps) zero f h a b = absurd (omega arith)
sum_picks (p ∷ ps) (suc n) f h a b =
    sum_front f n
    ∙ ap₂ (λ (x y : ℕ). x + y) (a 0 (omega arith)) (sum_picks ps n (λ i. f (suc i)) (omega arith) (λ i l. a (suc i) (omega arith)) (λ i l k. b (suc i) (omega arith) (omega arith)))

rising_at : (ps : List (List Digit)) (i : ℕ) → suc i < length ps → Rising (map (λ p. product_row (mask p)) ps)
    → before (product_row (mask (get_or ps i []))) (product_row (mask (get_or ps (suc i) []))) ≡ true
rising_at [] i h r = absurd (omega arith)
rising_at (p ∷ []) i h r = absurd (omega arith)
rising_at (p ∷ q ∷ ps) zero h (more x y e r) = e
rising_at (p ∷ q ∷ ps) (suc i) h (more x y e r) = rising_at (q ∷ ps) i (omega arith) r

-- ---- a cell of the emitted map

module _ (c : Cells) (all : List (List ℕ)) (counts kinds s0s : List ℕ) (w : Fits c all counts kinds s0s) (k : ℕ) (h : k < 10) (u : in_use (c.kind k) ≡ true) where
  -- the primes whose rows the cell has
  ps : List (List Digit)
  ps = primes_of (c.named k) (in_rows (holds (c.kind k)) (true-bit (get_or s0s k 0)) (c.function k))

  wide : (i : ℕ) → i < length ps → length (get_or ps i []) ≡ 22
  unfolding ps
  wide i l = each_at (λ p. length p ≡ 22) ps [] i (primes_wide (c.named k) (in_rows (holds (c.kind k)) (true-bit (get_or s0s k 0)) (c.function k))) l

  count-is : get_or counts k 0 ≡ length ps
  unfolding ps
  count-is = (choice c all counts kinds s0s w k h u).count

  count-le : length ps ≤ products_of k
  unfolding ps
  count-le = (choice c all counts kinds s0s w k h u).within

  held_is : get_or all k [] ≡ padded (map mask ps)
  unfolding ps
  held_is = (choice c all counts kinds s0s w k h u).held

  row_is_lem : (i q : ℕ) → i < length ps → q < 44 → fuse (map_of all counts kinds s0s) (enable_of k + 1 + i) q ≡ get_or (product_row (mask (get_or ps i []))) q 0
  unfolding ps
  row_is_lem i q l d = let e = count-is in prime_fuse c all counts kinds s0s w k i q h u (omega arith) d

  rest-is : (i q : ℕ) → length ps ≤ i → i < products_of k → q < 44 → fuse (map_of all counts kinds s0s) (enable_of k + 1 + i) q ≡ 0
  rest-is i q l d e = let n = count-is in rest_fuse all counts kinds s0s k i q h (λ t. omega arith) d e

  -- THE THEOREM: the products that a fit line counts are the product rows that are not all 0
  pub products_counted : products_in (map_of all counts kinds s0s) k ≡ get_or counts k 0
  unfolding products_in
  products_counted =
      tally_below (λ i. not (row_is (map_of all counts kinds s0s) (enable_of k + 1 + i) 0)) (length ps) (products_of k) count-le
      (λ i l. ap not (not_all (map_of all counts kinds s0s) (enable_of k + 1 + i) (get_or ps i []) (wide i l) (λ q d. row_is_lem i q l d)))
      (λ i l d. ap not (row_all (map_of all counts kinds s0s) (enable_of k + 1 + i) 0 (λ q e. rest-is i q l d e)))
      ∙ sym count-is

  factor-row : (i : ℕ) → i < length ps
      → pick (row_is (map_of all counts kinds s0s) (enable_of k + 1 + i) 0) 0 (tally (λ q. joins (fuse (map_of all counts kinds s0s) (enable_of k + 1 + i) q)) 44) ≡ ones (mask (get_or ps i []) % 4294967296)
  factor-row i l =
      ap (λ (b : Bool). pick b 0 (tally (λ q. joins (fuse (map_of all counts kinds s0s) (enable_of k + 1 + i) q)) 44)) (not_all (map_of all counts kinds s0s) (enable_of k + 1 + i) (get_or ps i []) (wide i l) (λ q d. row_is_lem i q l d))
      ∙ tally_same (λ q. joins (fuse (map_of all counts kinds s0s) (enable_of k + 1 + i) q)) (λ q. joins (get_or (product_row (mask (get_or ps i []))) q 0)) 44 (λ q d. ap joins (row_is_lem i q l d))
      ∙ row_factors (get_or ps i []) (wide i l)

  factor-rest : (i : ℕ) → length ps ≤ i → i < products_of k
      → pick (row_is (map_of all counts kinds s0s) (enable_of k + 1 + i) 0) 0 (tally (λ q. joins (fuse (map_of all counts kinds s0s) (enable_of k + 1 + i) q)) 44) ≡ 0
  factor-rest i l d =
      ap (λ (b : Bool). pick b 0 (tally (λ q. joins (fuse (map_of all counts kinds s0s) (enable_of k + 1 + i) q)) 44)) (row_all (map_of all counts kinds s0s) (enable_of k + 1 + i) 0 (λ q e. rest-is i q l d e))

  -- THE THEOREM: the factors that a fit line counts are the fuses that join in those rows
  pub factors_counted : factors_in (map_of all counts kinds s0s) k ≡ picks (take (get_or counts k 0) (get_or all k []))
  unfolding factors_in
  factors_counted =
      sum_picks ps (products_of k) (λ i. pick (row_is (map_of all counts kinds s0s) (enable_of k + 1 + i) 0) 0 (tally (λ q. joins (fuse (map_of all counts kinds s0s) (enable_of k + 1 + i) q)) 44)) count-le factor-row factor-rest
      ∙ ap picks (sym (take_at (map mask ps) (replicate (16 - length (map mask ps)) 0) (length ps) (length-map ps mask)))
      ∙ ap₂ (λ (n : ℕ) (l : List ℕ). picks (take n l)) (sym count-is) (sym held_is)

  row_list : (i : ℕ) → i < length ps → listed (fuse (map_of all counts kinds s0s) (enable_of k + 1 + i)) 44 ≡ product_row (mask (get_or ps i []))
  row_list i l =
      let f = fuse (map_of all counts kinds s0s) (enable_of k + 1 + i) in
      let a = listed_length f 44 in
      let b = product_length (mask (get_or ps i [])) in
      ext_get_or 0 (listed f 44) (product_row (mask (get_or ps i []))) (a ∙ sym b) (λ q d. listed_at f 44 q (omega arith) ∙ row_is_lem i q l (omega arith))

  rise : Rising (map (λ p. product_row (mask p)) ps)
  unfolding ps primes_of
  rise = rows_rise (over (c.named k) (in_rows (holds (c.kind k)) (true-bit (get_or s0s k 0)) (c.function k)))

  -- THE THEOREM: of two products of a cell in the map, the first has the 0 at the first fuse that differs
  pub rows_in_order : (i : ℕ) → i + 1 < get_or counts k 0
      → before (listed (fuse (map_of all counts kinds s0s) (enable_of k + 1 + i)) 44) (listed (fuse (map_of all counts kinds s0s) (enable_of k + 1 + (i + 1))) 44) ≡ true
  rows_in_order i l =
      let n = count-is in
      let e : i + 1 ≡ suc i = omega arith in
      ap₂ before (row_list i (omega arith)) (row_list (i + 1) (omega arith))
      ∙ ap (λ (j : ℕ). before (product_row (mask (get_or ps i []))) (product_row (mask (get_or ps j [])))) e
      ∙ rising_at ps i (omega arith) rise
