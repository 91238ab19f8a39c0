-- Where the three uses of variables meet: a product of a truth table's variables, the row of its mask, and the signals of the column pairs.
-- Assumes nothing.
use mathlib.Core.Path.{◌≡◌, refl, sym, ap, ap₂, ◌∙◌, subst}
use mathlib.Core.Bool.{Bool, true, false, not, ◌&&◌, ◌||◌}
use mathlib.Core.List.{List, [], ◌∷◌, map}
use Prim.Native.Nat.{ℕ, suc, ◌+◌, ◌*◌, ◌/◌, ◌%◌}
use native.Mathlib.Omega.{arith}
use lib.ListN.{length, get_or}
use Rattle.basics.specs.Choice.{on as true-bit, xor}
use Rattle.sums.specs.Product.{Digit, covers, allows, primes, factor}
use Rattle.sums.specs.Product.Digit.{off, on, absent}
use Rattle.sums.specs.Order.{columns, Rising}
use Rattle.sums.proofs.Named.{Each, primes_long}
use Rattle.sums.proofs.Sorted.{sorted}
use Rattle.cover.specs.Mask.{mask}
use Rattle.cover.proofs.Canon.{picked, wanted, wanted_bit, factor_le, wanted_le, mask_is, low_half}
use Rattle.rows.specs.Row.{true_row, plain_fuse, inverse_fuse, pairs_from, product_row}
use Rattle.rows.specs.Setting.{setting_of}
use Rattle.rows.proofs.Rows.{agrees, product_true, setting_size}

high_half : (p : List Digit) → length p ≡ 22 → mask p / 4294967296 ≡ wanted p
high_half p h = let a = low_half p h in let m = mask_is p in omega arith

-- the lowest variable of a mask's two halves
record Lowest (d : Digit) (p : List Digit) : Type 0 where
  pick_low : (factor d + 2 * picked p) % 2 ≡ factor d
  pick_rest : (factor d + 2 * picked p) / 2 ≡ picked p
  want_low : (wanted_bit d + 2 * wanted p) % 2 ≡ wanted_bit d
  want_rest : (wanted_bit d + 2 * wanted p) / 2 ≡ wanted p

lowest : (d : Digit) (p : List Digit) → Lowest d p
lowest d p =
    let f = factor_le d in
    let g = wanted_le d in
    record { pick_low = omega arith; pick_rest = omega arith; want_low = omega arith; want_rest = omega arith }

-- ---- the row of a product's mask is the product's row

unfoldable pub push : Digit → List ℕ → List ℕ
push d fs = plain_fuse (true-bit (factor d)) (true-bit (wanted_bit d)) ∷ inverse_fuse (true-bit (factor d)) (true-bit (wanted_bit d)) ∷ fs

pairs_cons : (k a b x y : ℕ) (d : Digit) (fs : List ℕ) → a % 2 ≡ factor d → a / 2 ≡ x → b % 2 ≡ wanted_bit d → b / 2 ≡ y → pairs_from (suc k) a b fs ≡ pairs_from k x y (push d fs)
unfolding pairs_from push
pairs_cons k a b x y d fs pa pb pc pd =
    λ i. pairs_from k (pb i) (pd i) (plain_fuse (true-bit (pa i)) (true-bit (pc i)) ∷ inverse_fuse (true-bit (pa i)) (true-bit (pc i)) ∷ fs)

pub push_columns : (d : Digit) (p : List Digit) (fs : List ℕ) → columns (push d fs) p ≡ columns fs (d ∷ p)
unfolding columns push wanted_bit
push_columns off p fs = refl
push_columns on p fs = refl
push_columns absent p fs = refl

pairs_none : (fs : List ℕ) → pairs_from 0 0 0 fs ≡ columns fs []
unfolding pairs_from columns
pairs_none fs = refl

pairs_columns : (p : List Digit) (fs : List ℕ) → pairs_from (length p) (picked p) (wanted p) fs ≡ columns fs p
unfolding picked wanted
pairs_columns [] fs = pairs_none fs
pairs_columns (d ∷ p) fs =
    let l = lowest d p in
    pairs_cons (length p) (factor d + 2 * picked p) (wanted_bit d + 2 * wanted p) (picked p) (wanted p) d fs l.pick_low l.pick_rest l.want_low l.want_rest
    ∙ pairs_columns p (push d fs)
    ∙ push_columns d p fs

-- THE THEOREM: the row that a product's mask gives is the product's row, in the order of the columns
pub mask_row : (p : List Digit) → length p ≡ 22 → product_row (mask p) ≡ columns [] p
unfolding product_row
mask_row p h =
    ap₂ (λ (a b : ℕ). pairs_from 22 a b []) (low_half p h) (high_half p h) ∙ ap (λ (k : ℕ). pairs_from k (picked p) (wanted p) []) (sym h) ∙ pairs_columns p []

-- ---- and is true where the product is

agree_cons : (a b x y : ℕ) (d : Digit) (v : Bool) (s : List Bool) → a % 2 ≡ factor d → a / 2 ≡ x → b % 2 ≡ wanted_bit d → b / 2 ≡ y
    → agrees a b (v ∷ s) ≡ ((not (true-bit (factor d)) || not (xor v (true-bit (wanted_bit d)))) && agrees x y s)
unfolding agrees
agree_cons a b x y d v s pa pb pc pd = λ i. (not (true-bit (pa i)) || not (xor v (true-bit (pc i)))) && agrees (pb i) (pd i) s

digit_agrees : (d : Digit) (v : Bool) → (not (true-bit (factor d)) || not (xor v (true-bit (wanted_bit d)))) ≡ allows d v
unfolding wanted_bit
digit_agrees off true = refl
digit_agrees off false = refl
digit_agrees on true = refl
digit_agrees on false = refl
digit_agrees absent true = refl
digit_agrees absent false = refl

agrees_none : (s : List Bool) → length s ≡ 0 → (a b : ℕ) → agrees a b s ≡ true
unfolding agrees
agrees_none [] e a b = refl
agrees_none (v ∷ s) e a b = absurd (omega arith)

agrees_covers : (p : List Digit) (s : List Bool) → length s ≡ length p → agrees (picked p) (wanted p) s ≡ covers p s
unfolding picked wanted covers
agrees_covers [] s e = agrees_none s e 0 0
agrees_covers (d ∷ p) [] e = absurd (omega arith)
agrees_covers (d ∷ p) (v ∷ s) e =
    let l = lowest d p in
    agree_cons (factor d + 2 * picked p) (wanted_bit d + 2 * wanted p) (picked p) (wanted p) d v s l.pick_low l.pick_rest l.want_low l.want_rest
    ∙ ap₂ (λ (x y : Bool). x && y) (digit_agrees d v) (agrees_covers p s (omega arith))

-- THE THEOREM: in the device, the row of a product's mask is true at the signals exactly where the product is true at their setting
pub row_covers : (p : List Digit) (sig : List ℕ) → length p ≡ 22 → length sig ≡ 22 → true_row (λ c. get_or (product_row (mask p)) c 0) sig ≡ covers p (setting_of sig)
row_covers p sig h l =
    product_true (mask p) sig l
    ∙ ap₂ (λ (a b : ℕ). agrees a b (setting_of sig)) (low_half p h) (high_half p h)
    ∙ agrees_covers p (setting_of sig) (setting_size sig l ∙ sym h)

-- ---- the order

map_rows : (ps : List (List Digit)) → Each (λ p. length p ≡ 22) ps → map (λ p. product_row (mask p)) ps ≡ map (columns []) ps
unfolding Each
map_rows [] e = refl
map_rows (p ∷ ps) e = ap₂ (λ (x : List ℕ) (y : List (List ℕ)). x ∷ y) (mask_row p e.0) (map_rows ps e.1)

-- THE THEOREM: the rows of a complete sum stand in their order, a 0 first at the first fuse that differs
pub rows_rise : (f : List Bool → Bool) → Rising (map (λ p. product_row (mask p)) (primes 22 f))
rows_rise f = subst Rising (sym (map_rows (primes 22 f) (primes_long 22 f))) (sorted 22 f)
