-- Where a row stands among the cells, each line computed over all rows; and the laws of the loops that write the map.
-- Assumes nothing.
use mathlib.Core.Path.{◌≡◌, refl, sym, ap, ap₂, ◌∙◌, subst}
use mathlib.Core.Logic.{⊎_elim, ◌≢◌}
use mathlib.Core.Bool.{Bool, true, false, cond, not, ◌||◌}
use mathlib.Core.List.{List, [], ◌∷◌}
use Prim.Native.Nat.{ℕ, zero, suc, ◌+◌, ◌-◌, ◌*◌, ◌/◌, ◌%◌, ◌≤◌, ◌<◌}
use native.Mathlib.Omega.{arith}
use borrow.Author.Tests.{lt-ltb, le-ltb, le-leb, eq-eqb, ne_eqb}
use lib.Dec.{eqb, leb, ltb, eqb→eq, leb→le}
use lib.ListN.{length, get_or, set, replicate}
use Rattle.std.specs.List.{filter, range_with_len}
use Rattle.basics.specs.Choice.{bit, pick}
use Rattle.basics.specs.Below.{all_below, tally}
use Rattle.basics.proofs.Truth.{of_true, clash}
use Rattle.basics.proofs.Folds.{all_at, tally_le, Listing, listing_more, listing_end, listed_same}
use Rattle.basics.proofs.Store.{below_or_not}
use Rattle.device.proofs.Rule.{products_few}
use Rattle.device.specs.Device.{enable_of, products_of}
use Rattle.rows.specs.Row.{product_row}
use Rattle.cells.specs.Map.{used, cell_row, cell_at, row_at, row_fuse, switch_fuse, fuse_at, map_of, Begun, Written}

-- ---- the cell of a row

pub few_cells : (r : ℕ) → cell_at r < 10
unfolding cell_at
few_cells r = let h = tally_le (λ k. leb (enable_of (k + 1)) r) 9 in omega arith

begins : (r : ℕ) → r < 132 → (eqb r 0 || leb (enable_of (cell_at r)) r) ≡ true
unfolding all_below cell_at enable_of tally
begins = all_at (λ r. eqb r 0 || leb (enable_of (cell_at r)) r) 132 refl

pub row_begins : (r : ℕ) → r < 132 → (r ≡ 0 → ⊥) → enable_of (cell_at r) ≤ r
row_begins r h n = leb→le _ _ (of_true _ (go (eqb r 0) refl (begins r h)))
  where
    go : (b : Bool) → eqb r 0 ≡ b → (b || leb (enable_of (cell_at r)) r) ≡ true → leb (enable_of (cell_at r)) r ≡ true
    go true e t = absurd (n (eqb→eq r 0 (of_true _ e)))
    go false e t = t

near : (r : ℕ) → r < 131 → leb (r - enable_of (cell_at r)) 16 ≡ true
unfolding all_below cell_at enable_of tally
near = all_at (λ r. leb (r - enable_of (cell_at r)) 16) 131 refl

pub row_near : (r : ℕ) → r < 132 → (r ≡ 131 → ⊥) → r - enable_of (cell_at r) ≤ 16
row_near r h n = leb→le _ _ (of_true _ (near r (let k : r ≢ 131 = n in omega arith)))

-- row a of cell k belongs to cell k
inside : (k : ℕ) → k < 10 → all_below (λ a. not (leb a (products_of k)) || eqb (cell_at (enable_of k + a)) k) 17 ≡ true
unfolding all_below cell_at enable_of products_of tally
inside = all_at (λ k. all_below (λ a. not (leb a (products_of k)) || eqb (cell_at (enable_of k + a)) k) 17) 10 refl

pub cell_of_lem : (k a : ℕ) → k < 10 → a ≤ products_of k → cell_at (enable_of k + a) ≡ k
cell_of_lem k a h l =
    let p = products_few k h in
    eqb→eq _ _ (of_true _ (go (leb a (products_of k)) (le-leb a (products_of k) l) (all_at (λ a. not (leb a (products_of k)) || eqb (cell_at (enable_of k + a)) k) 17 (inside k h) a (omega arith))))
  where
    go : (b : Bool) → b ≡ true → (not b || eqb (cell_at (enable_of k + a)) k) ≡ true → eqb (cell_at (enable_of k + a)) k ≡ true
    go true e t = t
    go false e t = absurd (clash (sym e))

-- ---- the loops

tally_first : (f : ℕ → Bool) (n : ℕ) → bit (f 0) + tally (λ i. f (suc i)) n ≡ tally f (suc n)
unfolding tally
tally_first f zero = refl
tally_first f (suc n) = let e = tally_first f n in omega arith

one_more : (b : Bool) (a : ℕ) (l : List ℕ) → length (cond b (a ∷ l) l) ≡ bit b + length l
one_more true a l = omega arith
one_more false a l = omega arith

count_is : (p f : ℕ → Bool) (a n : ℕ) → ((i : ℕ) → i < n → p (a + i) ≡ f i) → length (filter p (range_with_len a n)) ≡ tally f n
unfolding tally
count_is p f a zero e = refl
count_is p f a (suc n) e =
    one_more (p a) a (filter p (range_with_len (a + 1) n))
    ∙ ap₂ (λ (x : Bool) (y : ℕ). bit x + y) (ap p (omega arith) ∙ e 0 (omega arith)) (count_is p (λ i. f (suc i)) (a + 1) n (λ i h. ap p (omega arith) ∙ e (suc i) (omega arith)))
    ∙ tally_first f n

-- the cells that have begun by row r, the first not counted
pub begun_count : (r : ℕ) → length (filter (λ k. leb (enable_of k) r) (range_with_len 1 9)) ≡ cell_at r
unfolding cell_at
begun_count r = count_is (λ k. leb (enable_of k) r) (λ k. leb (enable_of (k + 1)) r) 1 9 (λ i h. ap (λ (k : ℕ). leb (enable_of k) r) (omega arith))

-- writing all rows
pub record Rows (all : List (List ℕ)) (counts kinds m : List ℕ) (r : ℕ) : Type 0 where
  pub under : r ≤ 132
  pub done : Begun (row_fuse all counts kinds) m (r * 44)

pub rows_start : (all : List (List ℕ)) (counts kinds m : List ℕ) → length m ≡ 5892 → Rows all counts kinds m 0
rows_start all counts kinds m h = record { under = omega arith; done = record { size = h; says = λ j l. absurd (omega arith) } }

pub rows_more : (all : List (List ℕ)) (counts kinds m m' fs : List ℕ) (r : ℕ) → r < 132 → Rows all counts kinds m r → fs ≡ row_at all counts kinds r → Written m m' r fs
    → Rows all counts kinds m' (r + 1)
rows_more all counts kinds m m' fs r h c e w =
    record {
      under = omega arith;
      done =
          record {
            size = w.size;
            says = λ j l.
                ⊎_elim
                (λ (g : j < r * 44). w.rest j g ∙ c.done.says j g)
                (λ (g : r * 44 ≤ j).
                let d = j - r * 44 in
                let q : j ≡ r * 44 + d = omega arith in
                let a : r ≡ j / 44 = omega arith in
                let b : d ≡ j % 44 = omega arith in
                ap (λ (x : ℕ). get_or m' x 0) q ∙ w.here d (omega arith) ∙ ap (λ (x : List ℕ). get_or x d 0) e ∙ ap₂ (λ (x y : ℕ). get_or (row_at all counts kinds x) y 0) a b)
                (below_or_not j (r * 44));
          };
    }

pub rows_end : (all : List (List ℕ)) (counts kinds m : List ℕ) (r : ℕ) → 132 ≤ r → Rows all counts kinds m r → Begun (row_fuse all counts kinds) m 5808
rows_end all counts kinds m r h c = let u = c.under in let e : r * 44 ≡ 5808 = omega arith in subst (Begun (row_fuse all counts kinds) m) e c.done

-- writing what follows the rows
unfoldable pub last_fuse : List ℕ → List ℕ → List ℕ → ℕ → ℕ
last_fuse kinds s0s m j = pick (ltb j 5808) (get_or m j 0) (pick (ltb (j - 5808) 20) (switch_fuse kinds s0s (j - 5808)) 0)

pub last_start : (kinds s0s m : List ℕ) → length m ≡ 5892 → Listing (last_fuse kinds s0s m) 5892 m 5808
unfolding last_fuse
last_start kinds s0s m h =
    record {
      size = h;
      under = omega arith;
      says = λ j l. ap (λ (b : Bool). pick b (get_or m j 0) (pick (ltb (j - 5808) 20) (switch_fuse kinds s0s (j - 5808)) 0)) (sym (lt-ltb j 5808 l));
    }

pub last_more : (kinds s0s m₀ m : List ℕ) (i x : ℕ) → 5808 ≤ i → i < 5892 → Listing (last_fuse kinds s0s m₀) 5892 m i
    → x ≡ pick (ltb (i - 5808) 20) (switch_fuse kinds s0s (i - 5808)) 0 → Listing (last_fuse kinds s0s m₀) 5892 (set m i x) (i + 1)
unfolding last_fuse
last_more kinds s0s m₀ m i x h l c e =
    listing_more (last_fuse kinds s0s m₀) 5892 m i x l c
    (e ∙ ap (λ (b : Bool). pick b (get_or m₀ i 0) (pick (ltb (i - 5808) 20) (switch_fuse kinds s0s (i - 5808)) 0)) (sym (le-ltb i 5808 h)))

moved : (i : ℕ) → 5808 ≤ i → ltb (i - 5808) 20 ≡ ltb i 5828
moved i h =
    ⊎_elim
    (λ (l : i < 5828). lt-ltb (i - 5808) 20 (omega arith) ∙ sym (lt-ltb i 5828 l))
    (λ (l : 5828 ≤ i). le-ltb (i - 5808) 20 (omega arith) ∙ sym (le-ltb i 5828 l))
    (below_or_not i 5828)

last_is : (all : List (List ℕ)) (counts kinds s0s m : List ℕ) → Begun (row_fuse all counts kinds) m 5808 → (j : ℕ) → last_fuse kinds s0s m j ≡ fuse_at all counts kinds s0s j
unfolding fuse_at last_fuse
last_is all counts kinds s0s m c j =
    ⊎_elim
    (λ (l : j < 5808).
    let t = lt-ltb j 5808 l in
    ap (λ (b : Bool). pick b (get_or m j 0) (pick (ltb (j - 5808) 20) (switch_fuse kinds s0s (j - 5808)) 0)) t
    ∙ c.says j l
    ∙ ap (λ (b : Bool). pick b (row_fuse all counts kinds j) (pick (ltb j 5828) (switch_fuse kinds s0s (j - 5808)) 0)) (sym t))
    (λ (l : 5808 ≤ j).
    let t = le-ltb j 5808 l in
    ap (λ (b : Bool). pick b (get_or m j 0) (pick (ltb (j - 5808) 20) (switch_fuse kinds s0s (j - 5808)) 0)) t
    ∙ ap (λ (b : Bool). pick b (switch_fuse kinds s0s (j - 5808)) 0) (moved j l)
    ∙ ap (λ (b : Bool). pick b (row_fuse all counts kinds j) (pick (ltb j 5828) (switch_fuse kinds s0s (j - 5808)) 0)) (sym t))
    (below_or_not j 5808)

pub last_end : (all : List (List ℕ)) (counts kinds s0s m₀ m : List ℕ) (i : ℕ) → Begun (row_fuse all counts kinds) m₀ 5808 → 5892 ≤ i → Listing (last_fuse kinds s0s m₀) 5892 m i
    → m ≡ map_of all counts kinds s0s
unfolding map_of
last_end all counts kinds s0s m₀ m i b h c =
    listing_end (last_fuse kinds s0s m₀) 5892 m i h c ∙ listed_same (last_fuse kinds s0s m₀) (fuse_at all counts kinds s0s) 5892 (λ j l. last_is all counts kinds s0s m₀ b j)

-- ---- the enable row of a cell in use is open

module _ (all : List (List ℕ)) (counts kinds : List ℕ) (r : ℕ) (fs : List ℕ) where
  row-cell : (r ≡ 0 → ⊥) → (r ≡ 131 → ⊥) → (k a : ℕ) → k ≡ cell_at r → a ≡ r - enable_of k → cell_row (used kinds k) (get_or counts k 0) (get_or all k []) a ≡ row_at all counts kinds r
  unfolding row_at
  row-cell n l k a ek ea =
      ap (cell_row (used kinds k) (get_or counts k 0) (get_or all k [])) ea
      ∙ ap (λ (j : ℕ). cell_row (used kinds j) (get_or counts j 0) (get_or all j []) (r - enable_of j)) ek
      ∙ ap₂ (λ (a b : Bool). pick (a || b) (replicate 44 0) (cell_row (used kinds (cell_at r)) (get_or counts (cell_at r) 0) (get_or all (cell_at r) []) (r - enable_of (cell_at r)))) (sym (ne_eqb r 0 n)) (sym (ne_eqb r 131 l))

  pub row_open : (r ≡ 0 → ⊥) → (r ≡ 131 → ⊥) → (k a : ℕ) → k ≡ cell_at r → (get_or kinds k 0 ≡ 0 → ⊥) → a ≡ r - enable_of k → a ≡ 0 → fs ≡ replicate 44 1 → fs ≡ row_at all counts kinds r
  unfolding cell_row
  row_open n l k a ek u ea h e =
      e
      ∙ ap₂ (λ (b d : Bool). pick (not (not b)) (replicate 44 0) (pick d (replicate 44 1) (pick (leb a (get_or counts k 0)) (product_row (get_or (get_or all k []) (a - 1) 0)) (replicate 44 0)))) (sym (ne_eqb (get_or kinds k 0) 0 u)) (sym (eq-eqb a 0 h))
      ∙ row-cell n l k a ek ea
