-- The fuse sum fuse by fuse: fuse j weighs 2 ^ (j % 8). That is the sum of the fuses in bytes, the lowest fuse in the lowest bit.
-- Assumes nothing.
use mathlib.Core.Path.{◌≡◌, refl, sym, ap, ap₂, ◌∙◌}
use mathlib.Core.List.{List, [], ◌∷◌}
use Prim.Native.Nat.{ℕ, zero, suc, ◌+◌, ◌*◌, ◌%◌, ◌^◌, ◌≤◌, ◌<◌}
use lib.ListN.{length, take, drop, get_or, drop_of_length-le}
use lib.Seq.{drop-drop}
use native.Mathlib.Nat.{one-mul, zero-mul, zero-add}
use native.Mathlib.Omega.{arith}
use Rattle.basics.proofs.Lists.{drop_next}
use Rattle.fusetext.specs.File.{sum, byte_of, bytes_of, fuse_sum}

-- the weights of a byte's bits
unfoldable pub weights : List ℕ
weights = 1 ∷ 2 ∷ 4 ∷ 8 ∷ 16 ∷ 32 ∷ 64 ∷ 128 ∷ []

pub weights_are : (i : ℕ) → i < 8 → get_or weights i 0 ≡ 2 ^ i
unfolding weights
weights_are zero h = refl
weights_are (suc zero) h = refl
weights_are (suc (suc zero)) h = refl
weights_are (suc (suc (suc zero))) h = refl
weights_are (suc (suc (suc (suc zero)))) h = refl
weights_are (suc (suc (suc (suc (suc zero))))) h = refl
weights_are (suc (suc (suc (suc (suc (suc zero)))))) h = refl
weights_are (suc (suc (suc (suc (suc (suc (suc zero))))))) h = refl
weights_are (suc (suc (suc (suc (suc (suc (suc (suc i)))))))) h = absurd (omega arith)

pub weights_le : (i : ℕ) → get_or weights i 0 ≤ 128
unfolding weights
weights_le zero = omega arith
weights_le (suc zero) = omega arith
weights_le (suc (suc zero)) = omega arith
weights_le (suc (suc (suc zero))) = omega arith
weights_le (suc (suc (suc (suc zero)))) = omega arith
weights_le (suc (suc (suc (suc (suc zero))))) = omega arith
weights_le (suc (suc (suc (suc (suc (suc zero)))))) = omega arith
weights_le (suc (suc (suc (suc (suc (suc (suc zero))))))) = omega arith
weights_le (suc (suc (suc (suc (suc (suc (suc (suc i)))))))) = omega arith

-- fuses that are numbered from j on
unfoldable pub weigh : ℕ → List ℕ → ℕ
weigh j [] = 0
weigh j (x ∷ xs) = x * 2 ^ (j % 8) + weigh (j + 1) xs

weigh_next : (s : List ℕ) (j : ℕ) → j < length s → weigh j (drop j s) ≡ get_or s j 0 * 2 ^ (j % 8) + weigh (j + 1) (drop (j + 1) s)
unfolding weigh
weigh_next s j h = rw (drop_next s j h)

pub weigh_none : (s : List ℕ) (j : ℕ) → length s ≤ j → weigh j (drop j s) ≡ 0
unfolding weigh
weigh_none s j h = rw (drop_of_length-le s {i = j} h)

pub weigh_one : (s : List ℕ) (j : ℕ) → j < length s → get_or s j 0 ≡ 1 → weigh j (drop j s) ≡ 2 ^ (j % 8) + weigh (j + 1) (drop (j + 1) s)
weigh_one s j h e = weigh_next s j h ∙ rw (e, one-mul)

pub weigh_zero : (s : List ℕ) (j : ℕ) → j < length s → get_or s j 0 ≡ 0 → weigh j (drop j s) ≡ weigh (j + 1) (drop (j + 1) s)
weigh_zero s j h e = weigh_next s j h ∙ rw (e, zero-mul, zero-add)

-- ---- eight at a time

-- only the place in its byte tells what a fuse weighs
weigh_same : (j k : ℕ) (l : List ℕ) → j % 8 ≡ k % 8 → weigh j l ≡ weigh k l
unfolding weigh
weigh_same j k [] e = refl
weigh_same j k (x ∷ xs) e = ap₂ (λ (p q : ℕ). x * 2 ^ p + q) e (weigh_same (j + 1) (k + 1) xs (omega arith))

weigh_eight : (l : List ℕ) → weigh 0 l ≡ byte_of (take 8 l) + weigh 0 (drop 8 l)
unfolding weigh byte_of
weigh_eight [] = refl
weigh_eight (a ∷ []) = omega arith
weigh_eight (a ∷ (b ∷ [])) = omega arith
weigh_eight (a ∷ (b ∷ (c ∷ []))) = omega arith
weigh_eight (a ∷ (b ∷ (c ∷ (d ∷ [])))) = omega arith
weigh_eight (a ∷ (b ∷ (c ∷ (d ∷ (e ∷ []))))) = omega arith
weigh_eight (a ∷ (b ∷ (c ∷ (d ∷ (e ∷ (f ∷ [])))))) = omega arith
weigh_eight (a ∷ (b ∷ (c ∷ (d ∷ (e ∷ (f ∷ (g ∷ []))))))) = omega arith
weigh_eight (a ∷ (b ∷ (c ∷ (d ∷ (e ∷ (f ∷ (g ∷ (h ∷ l)))))))) = omega (arith, weigh_same 8 0 l refl)

weigh_bytes : (n : ℕ) (l : List ℕ) → weigh 0 l ≡ sum (bytes_of n l) + weigh 0 (drop (8 * n) l)
unfolding sum bytes_of
weigh_bytes zero l = sym (zero-add _)
weigh_bytes (suc n) l =
    let e : 8 + 8 * n ≡ 8 * suc n = omega arith in
    let d : drop (8 * n) (drop 8 l) ≡ drop (8 * suc n) l = drop-drop (8 * n) 8 l ∙ ap (λ (k : ℕ). drop k l) e in
    omega (arith, weigh_eight l, weigh_bytes n (drop 8 l), ap (weigh 0) d)

-- a map's fuses, weighed one by one, give its fuse sum
pub weigh_map : (m : List ℕ) → length m ≡ 5892 → weigh 0 m ≡ fuse_sum m
unfolding fuse_sum
weigh_map m h =
    let e : weigh 0 (drop 5896 m) ≡ 0 = ap (weigh 0) (drop_of_length-le m {i = 5896} (omega arith)) ∙ none in
    omega (arith, weigh_bytes 737 m, e)
  where
    none : weigh 0 [] ≡ 0
    none = unfold weigh in refl
