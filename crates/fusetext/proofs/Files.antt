-- The laws of the parts of a fuse file: one element more of each, and how long they are. Assumes nothing.
use mathlib.Core.Path.{◌≡◌, refl, ap, ap₂, subst}
use mathlib.Core.List.{List, [], ◌∷◌, ◌++◌, map}
use mathlib.Core.Bool.{Bool, true, false}
use Prim.Native.Nat.{ℕ, zero, suc, ◌+◌, ◌*◌, ◌-◌, ◌≤◌, ◌<◌}
use lib.ListN.{length, take, drop, get_or, drop_of_length-le, length-append, length-drop}
use lib.Dec.{T, eqb, leb}
use lib.Seq.{get_or-drop, length-take-le}
use native.Mathlib.Numerals.{add-one}
use native.Mathlib.Omega.{arith}
use borrow.Author.Tests.{leb-true, eqb-true, eq-eqb, ne_eqb}
use Rattle.std.specs.List.{list_all}
use Rattle.std.proofs.Common.{◌&&◌}
use Rattle.basics.specs.Choice.{pick}
use Rattle.basics.proofs.Lists.{drop_next}
use Rattle.fusetext.specs.Digits.{dec4, hex4}
use Rattle.fusetext.specs.File.{digits, zeros, sum, part, listing, listing_if, rows, checking, opening, Bits, bits, is_map}

-- each byte as a function turns it, the next one and at the end
pub map_next : (p : ℕ → ℕ) (s : List ℕ) (j y : ℕ) → j < length s → y ≡ p (get_or s j 0) → map p (drop j s) ≡ y ∷ map p (drop (j + 1) s)
map_next p s j y h e = rw (drop_next s j h, e)

pub map_none : (p : ℕ → ℕ) (s : List ℕ) (j : ℕ) → length s ≤ j → map p (drop j s) ≡ []
map_none p s j h = rw (drop_of_length-le s {i = j} h)

pub length_map : (p : ℕ → ℕ) (s : List ℕ) → length (map p s) ≡ length s
length_map p [] = refl
length_map p (x ∷ xs) = ap suc (length_map p xs)

-- fuses as digits
pub map_digits : (s : List ℕ) → Bits s → map (λ x. pick (eqb x 1) 49 48) s ≡ digits s
unfolding digits
map_digits [] h = refl
map_digits (x ∷ xs) h = ap₂ {A = ℕ} {B = List ℕ} (λ d l. d ∷ l) (one x (h 0)) (map_digits xs (λ i. h (suc i)))
  where
    one : (x : ℕ) → x ≤ 1 → pick (eqb x 1) 49 48 ≡ 48 + x
    one zero h = refl
    one (suc zero) h = refl
    one (suc (suc x)) h = absurd (omega arith)

pub length_digits : (s : List ℕ) → length (digits s) ≡ length s
unfolding digits
length_digits [] = refl
length_digits (x ∷ xs) = ap suc (length_digits xs)

-- ---- the tests, as `all` makes them

both : {a b : Bool} (t : Bool) → a ≡ b → (t && a) ≡ pick t b false
both true e = e
both false e = refl

pub zeros_all : (s : List ℕ) → list_all (λ x. eqb x 0) s ≡ zeros s
unfolding zeros
zeros_all [] = refl
zeros_all (x ∷ xs) = both (eqb x 0) (zeros_all xs)

pub bits_test : (s : List ℕ) → list_all (λ x. leb x 1) s ≡ bits s
unfolding bits
bits_test [] = refl
bits_test (x ∷ xs) = both (leb x 1) (bits_test xs)

pub sum_next : (s : List ℕ) (j : ℕ) → j < length s → sum (drop j s) ≡ get_or s j 0 + sum (drop (j + 1) s)
unfolding sum
sum_next s j h = rw (drop_next s j h)

pub sum_none : (s : List ℕ) (j : ℕ) → length s ≤ j → sum (drop j s) ≡ 0
unfolding sum
sum_none s j h = rw (drop_of_length-le s {i = j} h)

-- a test passed says what it should
pub pick_both : (a b : Bool) → pick a b false ≡ true → (a ≡ true) × (b ≡ true)
pick_both true b e = (refl, e)
pick_both false b e = (e, absurd (subst (λ (t : Bool). T (pick t false true)) e tt))

pub bits_all : (m : List ℕ) → bits m ≡ true → Bits m
unfolding bits
bits_all [] e i = omega arith
bits_all (x ∷ xs) e zero = leb-true x 1 (pick_both (leb x 1) (bits xs) e).0
bits_all (x ∷ xs) e (suc i) = bits_all xs (pick_both (leb x 1) (bits xs) e).1 i

bits_take : (n : ℕ) (m : List ℕ) → Bits m → Bits (take n m)
bits_take zero m h i = omega arith
bits_take (suc n) [] h i = omega arith
bits_take (suc n) (x ∷ xs) h zero = h zero
bits_take (suc n) (x ∷ xs) h (suc i) = bits_take n xs (λ k. h (suc k)) i

-- a part of bits is bits
pub bits_part : (from count : ℕ) (m : List ℕ) → Bits m → Bits (take count (drop from m))
bits_part from count m h i = bits_take count (drop from m) (λ k. rw get_or-drop (h (from + k))) i

-- ---- how long the fields are

pub length_listing : (from : ℕ) (fuses : List ℕ) → length (listing from fuses) ≡ 9 + length fuses
unfolding listing dec4
length_listing from fuses = simp (length-append, length_digits) (omega arith)

pub length_listing_if : (from : ℕ) (fuses : List ℕ) → length (listing_if from fuses) ≤ 9 + length fuses
unfolding listing_if
length_listing_if from fuses = go (zeros fuses)
  where
    go : (b : Bool) → length (pick b [] (listing from fuses)) ≤ 9 + length fuses
    go true = omega arith
    go false = omega (arith, length_listing from fuses)

pub length_part : (from count : ℕ) (m : List ℕ) → from + count ≤ length m → length (part from count m) ≡ count
length_part from count m h = length-take-le count (drop from m) (simp length-drop (omega arith))

pub length_rows : (r : ℕ) (m : List ℕ) → 44 * r ≤ length m → length (rows r m) ≤ 53 * r
unfolding rows
length_rows zero m h = omega arith
length_rows (suc r) m h =
    simp length-append
    (omega (arith, length_rows r m (omega arith), length_listing_if (44 * r) (part (44 * r) 44 m), length_part (44 * r) 44 m (omega arith)))

-- ---- a field that may be left out; a part of a slice by its ends

pub listing_left : (from : ℕ) (fuses : List ℕ) → zeros fuses ≡ true → [] ≡ listing_if from fuses
unfolding listing_if
listing_left from fuses e = rw e

pub listing_kept : (from : ℕ) (fuses : List ℕ) → zeros fuses ≡ false → listing from fuses ≡ listing_if from fuses
unfolding listing_if
listing_kept from fuses e = rw e

pub span : (m : List ℕ) (from to count : ℕ) → from + count ≡ to → take (to - from) (drop from m) ≡ part from count m
span m from to count e = let d : to - from ≡ count = omega arith in rw d

pub rows_next : (r : ℕ) (m : List ℕ) → rows r m ++ listing_if (44 * r) (part (44 * r) 44 m) ≡ rows (r + 1) m
unfolding rows
rows_next r m = rw add-one

-- how long the parts of a file are
pub record Sizes (m : List ℕ) : Type 0 where
  pub opens : length opening ≡ 43
  pub rows_fit : length (rows 132 m) ≤ 6996
  pub last : length (part 5808 20 m) ≡ 20
  pub lasts : length (listing 5808 (part 5808 20 m)) ≡ 29
  pub sign : length (part 5828 64 m) ≡ 64
  pub signs : length (listing_if 5828 (part 5828 64 m)) ≤ 73
  pub checks : length (checking m) ≡ 8

pub sizes : (m : List ℕ) → length m ≡ 5892 → Sizes m
unfolding opening checking hex4
sizes m h =
    let a = length_part 5808 20 m (omega arith) in
    let b = length_part 5828 64 m (omega arith) in
    record {
      opens = refl;
      rows_fit = length_rows 132 m (omega arith);
      last = a;
      lasts = omega (arith, length_listing 5808 (part 5808 20 m));
      sign = b;
      signs = omega (arith, length_listing_if 5828 (part 5828 64 m));
      checks = refl;
    }

-- ---- whether it is a map

pub is_map_length : (m : List ℕ) → (length m ≡ 5892 → ⊥) → is_map m ≡ false
unfolding is_map
is_map_length m h = rw (ne_eqb _ _ h)

pub is_map_bits : (m : List ℕ) → bits m ≡ false → is_map m ≡ false
unfolding is_map
is_map_bits m e = rw e (go (eqb (length m) 5892))
  where
    go : (b : Bool) → pick b false false ≡ false
    go true = refl
    go false = refl

pub is_map_yes : (m : List ℕ) → length m ≡ 5892 → bits m ≡ true → is_map m ≡ true
unfolding is_map
is_map_yes m h e = rw (eq-eqb _ _ h, e)

-- what a map is
pub map_length_lem : (m : List ℕ) → is_map m ≡ true → length m ≡ 5892
unfolding is_map
map_length_lem m e = eqb-true _ _ (pick_both (eqb (length m) 5892) (bits m) e).0

pub map_bits : (m : List ℕ) → is_map m ≡ true → bits m ≡ true
unfolding is_map
map_bits m e = (pick_both (eqb (length m) 5892) (bits m) e).1
