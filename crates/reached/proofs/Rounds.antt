-- Rounds of FOR go by one, up to an upper bound that is within the numbers of the language: the number behind the last number is never taken.
-- Assumes nothing.
use mathlib.Core.Path.{◌≡◌, refl, sym, ap, ◌∙◌}
use mathlib.Core.Bool.{Bool, true, false, cond}
use Prim.Native.Nat.{ℕ, zero, suc, ◌+◌, ◌-◌, ◌<◌, ◌≤◌}
use native.Mathlib.Omega.{arith}
use lib.Dec.{ltb}
use lib.IntN.{ℤ, pos, negsuc, sub_ℕ, ◌+ℤ◌, ◌-ℤ◌, +ℤ_idr, +ℤ_assoc}
use borrow.Author.Tests.{ltb-true, ltb-false, leb-true, lt-ltb, le-ltb, ne_eqb}
use Rattle.integers.specs.Integers.{within, up_to, rounds_of, nextℤ}

-- differences, by signs
sub_pos : (m n : ℕ) → sub_ℕ m n ≡ pos m -ℤ pos n
sub_pos m zero = simp (le-ltb m 0 (omega arith)) (ap pos (let h : m - 0 ≡ m + 0 = omega arith in h))
sub_pos m (suc n) = refl

negsuc_sub : (m n : ℕ) → negsuc (m + n) ≡ negsuc m -ℤ pos n
negsuc_sub m zero = ap negsuc (let h : m + 0 ≡ m = omega arith in h) ∙ sym (+ℤ_idr (negsuc m))
negsuc_sub m (suc n) = ap negsuc (let h : m + suc n ≡ suc (m + n) = omega arith in h)

-- how many numbers there are from a to b, by signs
up_sub : (a b : ℕ) → up_to (sub_ℕ a b) ≡ a + 1 - b
up_sub a b = go (ltb a b) refl
  where
    go : (t : Bool) → ltb a b ≡ t → up_to (cond t (negsuc (b - suc a)) (pos (a - b))) ≡ a + 1 - b
    go true e = let l : a < b = ltb-true a b e in omega arith
    go false e = let l : b ≤ a = ltb-false a b e in omega arith

up_up : (m k : ℕ) → rounds_of (pos m) (pos k) ≡ k + 1 - m
unfolding rounds_of
up_up m k = ap up_to (sym (sub_pos k m)) ∙ up_sub k m

up_down : (m k : ℕ) → rounds_of (pos m) (negsuc k) ≡ 0
unfolding rounds_of
up_down m k = ap up_to (sym (negsuc_sub k m))

down_up : (m k : ℕ) → rounds_of (negsuc m) (pos k) ≡ k + suc m + 1
unfolding rounds_of
down_up m k = refl

down_down : (m k : ℕ) → rounds_of (negsuc m) (negsuc k) ≡ suc m + 1 - suc k
unfolding rounds_of
down_down m k = up_sub (suc m) (suc k)

pub next_up : (m : ℕ) → m < 65535 → nextℤ (pos m) ≡ pos m +ℤ pos 1
next_up m h = rw (lt-ltb m 65535 h) refl

next_down : (m : ℕ) → nextℤ (negsuc m) ≡ negsuc m +ℤ pos 1
next_down zero = refl
next_down (suc m) =
    let e : suc m - 1 ≡ suc (suc m) - 2 = omega arith in
    rw (ne_eqb (suc m) 0 (λ q. omega arith), lt-ltb 1 (suc (suc m)) (omega arith)) (ap negsuc e)

next_suc : (m : ℕ) → nextℤ (negsuc (suc m)) ≡ negsuc m
next_suc m = let e : suc m - 1 ≡ m = omega arith in rw (ne_eqb (suc m) 0 (λ q. omega arith)) (ap negsuc e)

-- where a round is left behind that of z, the number behind z is z + 1, and one round fewer is left from it on
pub round_step : (z b : ℤ) (n : ℕ) → within b ≡ true → rounds_of z b ≡ suc (suc n) → (nextℤ z ≡ z +ℤ pos 1) × (rounds_of (nextℤ z) b ≡ suc n)
round_step (pos m) (pos k) n w e =
    let u : k ≤ 65535 = leb-true k 65535 w in
    let r : k + 1 - m ≡ suc (suc n) = sym (up_up m k) ∙ e in
    let l : m < 65535 = omega arith in
    (next_up m l, ap (λ (z : ℤ). rounds_of z (pos k)) (next_up m l) ∙ up_up (m + 1) k ∙ (let q : k + 1 - (m + 1) ≡ suc n = omega arith in q))
round_step (pos m) (negsuc k) n w e = let r : 0 ≡ suc (suc n) = sym (up_down m k) ∙ e in absurd (omega arith)
round_step (negsuc zero) (pos k) n w e =
    let r : k + 1 + 1 ≡ suc (suc n) = sym (down_up 0 k) ∙ e in
    (refl, up_up 0 k ∙ (let q : k + 1 - 0 ≡ suc n = omega arith in q))
round_step (negsuc (suc m)) (pos k) n w e =
    let r : k + suc (suc m) + 1 ≡ suc (suc n) = sym (down_up (suc m) k) ∙ e in
    (next_down (suc m), ap (λ (z : ℤ). rounds_of z (pos k)) (next_suc m) ∙ down_up m k ∙ (let q : k + suc m + 1 ≡ suc n = omega arith in q))
round_step (negsuc zero) (negsuc k) n w e = let r : 1 + 1 - suc k ≡ suc (suc n) = sym (down_down 0 k) ∙ e in absurd (omega arith)
round_step (negsuc (suc m)) (negsuc k) n w e =
    let r : suc (suc m) + 1 - suc k ≡ suc (suc n) = sym (down_down (suc m) k) ∙ e in
    (next_down (suc m), ap (λ (z : ℤ). rounds_of z (negsuc k)) (next_suc m) ∙ down_down m k ∙ (let q : suc m + 1 - suc k ≡ suc n = omega arith in q))

-- the number of round i, where round 0 has the lower bound and each other round the number behind that of the round before it
unfoldable pub value_in : ℤ → ℕ → ℤ
value_in a zero = a
value_in a (suc i) = nextℤ (value_in a i)

left : (a b : ℤ) (i n : ℕ) → within b ≡ true → rounds_of a b ≡ i + suc n → (value_in a i ≡ a +ℤ pos i) × (rounds_of (value_in a i) b ≡ suc n)
unfolding value_in
left a b zero n w e = (sym (+ℤ_idr a), e ∙ (let q : 0 + suc n ≡ suc n = omega arith in q))
left a b (suc i) n w e =
    let q : suc i + suc n ≡ i + suc (suc n) = omega arith in
    let ih = left a b i (suc n) w (e ∙ q) in
    let st = round_step (value_in a i) b n w ih.1 in
    let j : i + 1 ≡ suc i = omega arith in
    (st.0 ∙ ap (λ (z : ℤ). z +ℤ pos 1) ih.0 ∙ +ℤ_assoc a (pos i) (pos 1) ∙ ap (λ (k : ℕ). a +ℤ pos k) j, st.1)

-- Document 01, statements: FOR takes the numbers from a to b one by one. In round i the number is a + i
pub round_value : (a b : ℤ) (i : ℕ) → within b ≡ true → i < rounds_of a b → value_in a i ≡ a +ℤ pos i
round_value a b i w h = (left a b i (rounds_of a b - i - 1) w (let q : rounds_of a b ≡ i + suc (rounds_of a b - i - 1) = omega arith in q)).0
