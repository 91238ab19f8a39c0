-- The emitted map is within the model: it is a map, its rows 0 and 131 and its enable rows are as they must be, and no live product reads a pin
-- that it may not read.
-- Assumes nothing.
use mathlib.Core.Path.{◌≡◌, refl, sym, ap, ap₂, ◌∙◌, subst}
use mathlib.Core.Logic.{◌⊎◌, inl, inr, ⊎_elim}
use mathlib.Core.Bool.{Bool, true, false, not, ◌&&◌, ◌||◌}
use mathlib.Core.List.{List, [], ◌∷◌}
use Prim.Native.Nat.{ℕ, zero, suc, ◌+◌, ◌-◌, ◌*◌, ◌≤◌, ◌<◌}
use native.Mathlib.Omega.{arith}
use borrow.Author.Tests.{lt-ltb, le-ltb, eq-eqb, ne_eqb}
use lib.Dec.{eqb, ltb, ltb→lt, eqb→eq}
use lib.ListN.{length, get_or}
use Rattle.basics.specs.Choice.{bit, on as true-bit}
use Rattle.basics.proofs.Folds.{listed_at}
use Rattle.basics.proofs.Store.{below_or_not}
use Rattle.basics.proofs.Truth.{and_l, and_r, or_cases, of_true, true_of, clash, and_false}
use Rattle.sums.specs.Product.{Digit}
use Rattle.sums.specs.Product.Digit.{off, on, absent}
use Rattle.sums.specs.Order.{columns}
use Rattle.sums.proofs.Named.{clean}
use Rattle.cover.specs.Mask.{mask}
use Rattle.cover.specs.Sum.{bits_of}
use Rattle.cover.proofs.Canon.{wanted_bit}
use Rattle.cover.proofs.Joining.{bits_length}
use Rattle.device.specs.Device.{enable_of, products_of, column_of}
use Rattle.fit.specs.Fit.{primes_of}
use Rattle.rows.specs.Row.{joins, product_row}
use Rattle.rows.proofs.Rows.{zero_dead}
use Rattle.gal.specs.Map.{fuse, row_is, registered, enabled, is_cell}
use Rattle.gal.specs.Refuse.{no_map, dead, forbidden, forbidden_pairs, reads, strays, strays_cell, cell_faulty, bad_enable, outside}
use Rattle.cells.specs.Map.{used, map_of}
use Rattle.behave.specs.Cells.{in_use, holds, Cells, Fits, spoken, Grounded}
use Rattle.behave.proofs.Meets.{push, push_columns, mask_row}
use Rattle.behave.proofs.Emitted.{none_of, row_all, map_size, fuse_small, reset_zero, preset_zero, enabled_is, enable_zero, registered_is, product_fuse, rest_fuse}
use Rattle.behave.proofs.Chosen.{used_is, clocked_is, in_rows, Chosen, chosen, each_at, mask_at, primes_clean, primes_wide}

-- ---- a variable that is absent joins neither of its columns

columns_none : (fs : List ℕ) → columns fs [] ≡ fs
unfolding columns
columns_none fs = refl

open_plain : (fs : List ℕ) → get_or (push absent fs) 0 0 ≡ 1
unfolding push wanted_bit
open_plain fs = refl

open_inverse : (fs : List ℕ) → get_or (push absent fs) 1 0 ≡ 1
unfolding push wanted_bit
open_inverse fs = refl

behind : (p : List Digit) (fs : List ℕ) (j : ℕ) → get_or (columns fs p) (length p * 2 + j) 0 ≡ get_or fs j 0
unfolding push
behind [] fs j = let e : 0 * 2 + j ≡ j = omega arith in ap₂ (λ (l : List ℕ) (i : ℕ). get_or l i 0) (columns_none fs) e
behind (d ∷ p) fs j =
    let e : suc (length p) * 2 + j ≡ length p * 2 + suc (suc j) = omega arith in
    ap₂ (λ (l : List ℕ) (i : ℕ). get_or l i 0) (sym (push_columns d p fs)) e ∙ behind p (push d fs) (suc (suc j))

-- both fuses of its pair are open
pub record Open (fs : List ℕ) (j : ℕ) : Type 0 where
  pub plain : get_or fs (j * 2) 0 ≡ 1
  pub inverse : get_or fs (j * 2 + 1) 0 ≡ 1

absent_open : (p : List Digit) (fs : List ℕ) (i : ℕ) → i < length p → get_or p i absent ≡ absent → Open (columns fs p) (length p - suc i)
absent_open [] fs i h e = absurd (omega arith)
absent_open (d ∷ p) fs zero h e =
    let a : (suc (length p) - 1) * 2 ≡ length p * 2 + 0 = omega arith in
    let b : (suc (length p) - 1) * 2 + 1 ≡ length p * 2 + 1 = omega arith in
    let q = sym (push_columns d p fs) ∙ ap (λ (x : Digit). columns (push x fs) p) e in
    record {
      plain = ap₂ (λ (l : List ℕ) (i : ℕ). get_or l i 0) q a ∙ behind p (push absent fs) 0 ∙ open_plain fs;
      inverse = ap₂ (λ (l : List ℕ) (i : ℕ). get_or l i 0) q b ∙ behind p (push absent fs) 1 ∙ open_inverse fs;
    }
absent_open (d ∷ p) fs (suc i) h e =
    let a : suc (length p) - suc (suc i) ≡ length p - suc i = omega arith in
    subst (λ (j : ℕ). Open (columns fs (d ∷ p)) j) (sym a) (subst (λ (l : List ℕ). Open l (length p - suc i)) (push_columns d p fs) (absent_open p (push d fs) i (omega arith) e))

-- a product without factors outside the named variables has every other variable absent
clean_absent : (m : List Bool) (p : List Digit) (i : ℕ) → clean m p ≡ true → get_or m i false ≡ false → i < length m → get_or p i absent ≡ absent
unfolding clean
clean_absent [] p i t e h = absurd (omega arith)
clean_absent (b ∷ m) [] i t e h = refl
clean_absent (true ∷ m) (d ∷ p) zero t e h = absurd (clash e)
clean_absent (true ∷ m) (d ∷ p) (suc i) t e h = clean_absent m p i t e (omega arith)
clean_absent (false ∷ m) (off ∷ p) i t e h = absurd (clash (sym t))
clean_absent (false ∷ m) (on ∷ p) i t e h = absurd (clash (sym t))
clean_absent (false ∷ m) (absent ∷ p) zero t e h = refl
clean_absent (false ∷ m) (absent ∷ p) (suc i) t e h = clean_absent m p i t e (omega arith)

-- ---- a pin that an equation may speak of is not forbidden

module _ (c : Cells) (all : List (List ℕ)) (counts kinds s0s : List ℕ) (w : Fits c all counts kinds s0s) where
  low_free : (x : ℕ) → 1 < x → x < 14 → forbidden (map_of all counts kinds s0s) x ≡ false
  unfolding forbidden
  low_free x h l = simp (ne_eqb x 1 (λ e. omega arith), le-ltb 13 x (omega arith))

  cell_free : (x : ℕ) → 13 < x → x < 24 → holds (c.kind (23 - x)) ≡ true → forbidden (map_of all counts kinds s0s) x ≡ false
  unfolding forbidden
  cell_free x h l e =
      let k = 23 - x in
      let r : registered (map_of all counts kinds s0s) k ≡ true = registered_is all counts kinds s0s k (omega arith) ∙ clocked_is kinds k (c.kind k) (w.kinds_are k (omega arith)) ∙ e in
      simp (ne_eqb x 1 (λ q. omega arith), lt-ltb 13 x h, lt-ltb x 24 l, r) (and_false (enabled (map_of all counts kinds s0s) k))

  spoken-free : (x : ℕ) → spoken c x ≡ true → forbidden (map_of all counts kinds s0s) x ≡ false
  spoken-free x e =
      ⊎_elim
      (λ t. low_free x (ltb→lt 1 x (and_l (ltb 1 x) (ltb x 12) t)) (let b = ltb→lt x 12 (and_r (ltb 1 x) (ltb x 12) t) in omega arith))
      (λ t.
      ⊎_elim
      (λ u. let q = eqb→eq x 13 u in low_free x (omega arith) (omega arith))
      (λ u.
      let v = and_l (is_cell x) (holds (c.kind (23 - x))) u in
      cell_free x (ltb→lt 13 x (and_l (ltb 13 x) (ltb x 24) v)) (ltb→lt x 24 (and_r (ltb 13 x) (ltb x 24) v)) (true_of _ (and_r (is_cell x) (holds (c.kind (23 - x))) u)))
      (or_cases (eqb x 13) (is_cell x && holds (c.kind (23 - x))) t))
      (or_cases (ltb 1 x && ltb x 12) (eqb x 13 || (is_cell x && holds (c.kind (23 - x)))) (of_true _ e))

  -- ---- products

  -- a row of 0 is dead and reads nothing
  rest-strays : (k i : ℕ) → k < 10 → (used kinds k ≡ true → get_or counts k 0 ≤ i) → i < products_of k → (bad : List ℕ) → strays (map_of all counts kinds s0s) (enable_of k + 1 + i) bad ≡ false
  unfolding strays dead
  rest-strays k i h n l bad =
      ap (λ (b : Bool). not b && reads (map_of all counts kinds s0s) (enable_of k + 1 + i) bad)
      (zero_dead (fuse (map_of all counts kinds s0s) (enable_of k + 1 + i)) (λ d e. rest_fuse all counts kinds s0s k i d h n l e))

  bad-at : (q : ℕ) → q < 22 → true-bit (get_or (forbidden_pairs (map_of all counts kinds s0s)) q 0) ≡ forbidden (map_of all counts kinds s0s) (column_of q)
  unfolding forbidden_pairs
  bad-at q h = ap true-bit (listed_at (λ p. bit (forbidden (map_of all counts kinds s0s) (column_of p))) 22 q h) ∙ go (forbidden (map_of all counts kinds s0s) (column_of q))
    where
      go : (b : Bool) → true-bit (bit b) ≡ b
      go true = refl
      go false = refl

  -- a product of named variables reads no forbidden pin
  product-strays : Grounded c → (k i : ℕ) (p : List Digit) → k < 10 → i < products_of k → in_use (c.kind k) ≡ true → length p ≡ 22 → clean (bits_of 22 (c.named k)) p ≡ true
      → ((q : ℕ) → q < 44 → fuse (map_of all counts kinds s0s) (enable_of k + 1 + i) q ≡ get_or (columns [] p) q 0)
      → strays (map_of all counts kinds s0s) (enable_of k + 1 + i) (forbidden_pairs (map_of all counts kinds s0s)) ≡ false
  unfolding strays reads
  product-strays g k i p h l u z t fs =
      ap (λ (b : Bool). not (dead (map_of all counts kinds s0s) (enable_of k + 1 + i)) && b)
      (none_of (λ q. true-bit (get_or (forbidden_pairs (map_of all counts kinds s0s)) q 0) && (joins (fuse (map_of all counts kinds s0s) (enable_of k + 1 + i) (q * 2)) || joins (fuse (map_of all counts kinds s0s) (enable_of k + 1 + i) (q * 2 + 1)))) 22
      (λ q d. one q d (get_or (bits_of 22 (c.named k)) (21 - q) false) refl))
      ∙ and_false (not (dead (map_of all counts kinds s0s) (enable_of k + 1 + i)))
    where
      one : (q : ℕ) → q < 22 → (b : Bool) → get_or (bits_of 22 (c.named k)) (21 - q) false ≡ b
          → (true-bit (get_or (forbidden_pairs (map_of all counts kinds s0s)) q 0) && (joins (fuse (map_of all counts kinds s0s) (enable_of k + 1 + i) (q * 2)) || joins (fuse (map_of all counts kinds s0s) (enable_of k + 1 + i) (q * 2 + 1)))) ≡ false
      one q d true e =
          let y : 21 - (21 - q) ≡ q = omega arith in
          ap (λ (b : Bool). b && (joins (fuse (map_of all counts kinds s0s) (enable_of k + 1 + i) (q * 2)) || joins (fuse (map_of all counts kinds s0s) (enable_of k + 1 + i) (q * 2 + 1))))
          (bad-at q d ∙ spoken-free (column_of q) (subst (λ (x : ℕ). spoken c (column_of x) ≡ true) y (g.says k h u (21 - q) (omega arith) e)))
      one q d false e =
          let y : length p - suc (21 - q) ≡ q = omega arith in
          let o = subst (Open (columns [] p)) y (absent_open p [] (21 - q) (omega arith) (clean_absent (bits_of 22 (c.named k)) p (21 - q) t e (let v = bits_length 22 (c.named k) in omega arith))) in
          let a = fs (q * 2) (omega arith) ∙ o.plain in
          let b = fs (q * 2 + 1) (omega arith) ∙ o.inverse in
          (λ x. true-bit (get_or (forbidden_pairs (map_of all counts kinds s0s)) q 0) && (joins (a x) || joins (b x))) ∙ and_false (true-bit (get_or (forbidden_pairs (map_of all counts kinds s0s)) q 0))

  -- what fitting chose for a cell in use
  pub choice : (k : ℕ) → k < 10 → in_use (c.kind k) ≡ true → Chosen k (holds (c.kind k)) (c.start k) (c.named k) (c.function k) (true-bit (get_or s0s k 0)) (get_or counts k 0) (get_or all k [])
  choice k h u = chosen k (holds (c.kind k)) (c.start k) (c.named k) (c.function k) (true-bit (get_or s0s k 0)) (get_or counts k 0) (get_or all k []) (w.fit k h u)

  -- the rows of a cell in use: those of the primes, in their order
  pub prime_fuse : (k i q : ℕ) → k < 10 → (u : in_use (c.kind k) ≡ true) → i < get_or counts k 0 → q < 44
      → fuse (map_of all counts kinds s0s) (enable_of k + 1 + i) q ≡ get_or (product_row (mask (get_or (primes_of (c.named k) (in_rows (holds (c.kind k)) (true-bit (get_or s0s k 0)) (c.function k))) i []))) q 0
  prime_fuse k i q h u l d =
      let x = choice k h u in
      let n = x.count in
      let m = x.within in
      let ps = primes_of (c.named k) (in_rows (holds (c.kind k)) (true-bit (get_or s0s k 0)) (c.function k)) in
      product_fuse all counts kinds s0s k i q h l (omega arith) d (used_is kinds k (c.kind k) (w.kinds_are k h) ∙ u)
      ∙ ap (λ (y : ℕ). get_or (product_row y) q 0) (ap (λ (y : List ℕ). get_or y i 0) x.held ∙ mask_at ps i (omega arith))

  cell-sound : Grounded c → (k : ℕ) → k < 10 → cell_faulty (map_of all counts kinds s0s) k (forbidden_pairs (map_of all counts kinds s0s)) ≡ false
  unfolding cell_faulty strays_cell
  cell-sound g k h =
      ap (λ (b : Bool). (enabled (map_of all counts kinds s0s) k || registered (map_of all counts kinds s0s) k) && b)
      (none_of (λ i. strays (map_of all counts kinds s0s) (enable_of k + 1 + i) (forbidden_pairs (map_of all counts kinds s0s))) (products_of k) (λ i l. one i l (in_use (c.kind k)) refl (below_or_not i (get_or counts k 0))))
      ∙ and_false (enabled (map_of all counts kinds s0s) k || registered (map_of all counts kinds s0s) k)
    where
      one : (i : ℕ) → i < products_of k → (b : Bool) → in_use (c.kind k) ≡ b → (i < get_or counts k 0) ⊎ (get_or counts k 0 ≤ i)
          → strays (map_of all counts kinds s0s) (enable_of k + 1 + i) (forbidden_pairs (map_of all counts kinds s0s)) ≡ false
      one i l false e s =
          rest-strays k i h (λ u. absurd (clash (sym u ∙ used_is kinds k (c.kind k) (w.kinds_are k h) ∙ e))) l (forbidden_pairs (map_of all counts kinds s0s))
      one i l true e (inr n) = rest-strays k i h (λ u. n) l (forbidden_pairs (map_of all counts kinds s0s))
      one i l true e (inl n) =
          let x = choice k h e in
          let v = x.count in
          let f = in_rows (holds (c.kind k)) (true-bit (get_or s0s k 0)) (c.function k) in
          let ps = primes_of (c.named k) f in
          let z = each_at (λ p. length p ≡ 22) ps [] i (primes_wide (c.named k) f) (omega arith) in
          product-strays g k i (get_or ps i []) h l e z (each_at (λ p. clean (bits_of 22 (c.named k)) p ≡ true) ps [] i (primes_clean (c.named k) f) (omega arith))
          (λ q d. prime_fuse k i q h e n d ∙ ap (λ (y : List ℕ). get_or y q 0) (mask_row (get_or ps i []) z))

  row_one : (k : ℕ) → k < 10 → used kinds k ≡ true → row_is (map_of all counts kinds s0s) (enable_of k) 1 ≡ true
  unfolding enabled
  row_one k h e = enabled_is all counts kinds s0s k h ∙ e

  enable-sound : (k : ℕ) → k < 10 → bad_enable (map_of all counts kinds s0s) k ≡ false
  unfolding bad_enable
  enable-sound k h = go (used kinds k) refl
    where
      go : (b : Bool) → used kinds k ≡ b → (not (row_is (map_of all counts kinds s0s) (enable_of k) 0) && not (row_is (map_of all counts kinds s0s) (enable_of k) 1)) ≡ false
      go false e = ap (λ (b : Bool). not b && not (row_is (map_of all counts kinds s0s) (enable_of k) 1)) (enable_zero all counts kinds s0s k h e)
      go true e = ap (λ (b : Bool). not (row_is (map_of all counts kinds s0s) (enable_of k) 0) && not b) (row_one k h e) ∙ and_false (not (row_is (map_of all counts kinds s0s) (enable_of k) 0))

  -- THE THEOREM: the emitted map is a map (not 31)
  pub is_map_lem : no_map (map_of all counts kinds s0s) ≡ false
  unfolding no_map
  is_map_lem =
      ap₂ (λ (a b : Bool). not a || b) (eq-eqb (length (map_of all counts kinds s0s)) 5892 (map_size all counts kinds s0s))
      (none_of (λ i. ltb 1 (get_or (map_of all counts kinds s0s) i 0)) 5892 (λ i h. le-ltb 1 (get_or (map_of all counts kinds s0s) i 0) (fuse_small all counts kinds s0s i h)))

  -- THE THEOREM: and it is within the model (not 30)
  pub inside_model : Grounded c → outside (map_of all counts kinds s0s) ≡ false
  unfolding outside
  inside_model g =
      let m = map_of all counts kinds s0s in
      let a = row_all m 0 0 (λ q d. reset_zero all counts kinds s0s q d) in
      let b = row_all m 131 0 (λ q d. preset_zero all counts kinds s0s q d) in
      let e = none_of (bad_enable m) 10 enable-sound in
      let f = none_of (λ k. cell_faulty m k (forbidden_pairs m)) 10 (cell-sound g) in
      λ i. not (a i) || (not (b i) || (e i || f i))
