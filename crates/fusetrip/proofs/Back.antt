-- What was written is read back: the fields. Assumes nothing.
use mathlib.Core.Path.{◌≡◌, refl, sym, ap, ap₂, ◌∙◌}
use mathlib.Core.List.{List, [], ◌∷◌, ◌++◌, append_assoc}
use mathlib.Core.Bool.{Bool, true, false, not}
use Prim.Native.Nat.{ℕ, zero, suc, ◌+◌, ◌-◌, ◌*◌, ◌/◌, ◌%◌, ◌≤◌, ◌<◌}
use native.Mathlib.Omega.{arith}
use native.Mathlib.Decide.{dec_le}
use native.Mathlib.Nat.{mod-eq_of_lt, div-add-mod'}
use lib.ListN.{length}
use lib.Dec.{eqb}
use borrow.Author.Tests.{le-leb, lt-leb, lt-ltb, le-ltb, ne_eqb}
use Rattle.basics.specs.Choice.{pick}
use Rattle.fusefields.proofs.Judges.{listed_some, rest_some, fuses_good, judge_l_good}
use Rattle.fusefields.specs.Bytes.{not_star, blank, digit, fuse, fuse_or_blank, hex_of, front, past, value, fuses, hex4_of}
use Rattle.fusefields.specs.Fields.{Listed, good, listed, kept, listed_rest, listed_fuses, Step, go, judge, saw_l, fault_of}
use Rattle.fuseread.proofs.Turns.{walk_field}
use Rattle.fuseread.specs.Walk.{pieces, glue, walk, next}
use Rattle.fusetext.proofs.Files.{length_digits, pick_both}
use Rattle.fusetext.specs.Digits.{dec4, hex_digit, hex4}
use Rattle.fusetext.specs.File.{digits, Bits, listing}
use Rattle.fusetext.specs.Put.{put}
use Rattle.fusefields.specs.declared.Seen.{Seen}

-- whether all elements pass
unfoldable pub all : (ℕ → Bool) → List ℕ → Bool
all p [] = true
all p (x ∷ xs) = pick (p x) (all p xs) false

all_split : (p : ℕ → Bool) (x : ℕ) (xs : List ℕ) → all p (x ∷ xs) ≡ true → (p x ≡ true) × (all p xs ≡ true)
unfolding all
all_split p x xs e = pick_both (p x) (all p xs) e

pub all_append : (p : ℕ → Bool) (xs ys : List ℕ) → all p xs ≡ true → all p ys ≡ true → all p (xs ++ ys) ≡ true
unfolding all
all_append p [] ys a b = b
all_append p (x ∷ xs) ys a b = let h = all_split p x xs a in rw h.0 (all_append p xs ys h.1 b)

pub front_append : (p : ℕ → Bool) (xs ys : List ℕ) → all p xs ≡ true → front p (xs ++ ys) ≡ xs ++ front p ys
unfolding front
front_append p [] ys a = refl
front_append p (x ∷ xs) ys a = let h = all_split p x xs a in rw h.0 (ap {B = List ℕ} (λ l. x ∷ l) (front_append p xs ys h.1))

pub past_append : (p : ℕ → Bool) (xs ys : List ℕ) → all p xs ≡ true → past p (xs ++ ys) ≡ past p ys
unfolding past
past_append p [] ys a = refl
past_append p (x ∷ xs) ys a = let h = all_split p x xs a in rw h.0 (past_append p xs ys h.1)

not_star_lem : (x : ℕ) → not_star x ≡ true → eqb x 42 ≡ false
unfolding not_star
not_star_lem x e = go (eqb x 42) e
  where
    go : (b : Bool) → not b ≡ true → b ≡ false
    go true e = sym e
    go false e = refl

-- a field and its `*` are a piece
pub pieces_append : (xs ys : List ℕ) → all not_star xs ≡ true → pieces (xs ++ 42 ∷ ys) ≡ xs ∷ pieces ys
unfolding pieces
pieces_append [] ys a = refl
pieces_append (x ∷ xs) ys a = let h = all_split not_star x xs a in rw (not_star_lem x h.0) (ap (glue x) (pieces_append xs ys h.1))

-- ---- digits

hex_low : (d : ℕ) → d < 10 → hex_of (hex_digit d) ≡ d
unfolding hex_of hex_digit
hex_low d h = let k : 48 + d ≤ 57 = omega arith in rw (lt-ltb _ _ h, le-leb _ _ k) (omega arith)

hex_high : (d : ℕ) → 10 ≤ d → d < 16 → hex_of (hex_digit d) ≡ d
unfolding hex_of hex_digit
hex_high d h l =
    let k : 57 < 55 + d = omega arith in
    let j : 55 + d ≤ 70 = omega arith in
    rw (le-ltb _ _ h, lt-leb _ _ k, le-leb _ _ j) (omega arith)

pub hex_of_hex_digit : (d : ℕ) → d < 16 → hex_of (hex_digit d) ≡ d
hex_of_hex_digit d h = elim (dec_le 10 d) [ yes k ↦ hex_high d k h | no k ↦ hex_low d (omega arith) ]

pub hex4_of_hex4 : (n : ℕ) (rest : List ℕ) → hex4_of (hex4 n ++ rest) ≡ n % 65536
unfolding hex4_of hex4
hex4_of_hex4 n rest =
    let a = hex_of_hex_digit (n / 4096 % 16) (omega arith) in
    let b = hex_of_hex_digit (n / 256 % 16) (omega arith) in
    let c = hex_of_hex_digit (n / 16 % 16) (omega arith) in
    let d = hex_of_hex_digit (n % 16) (omega arith) in
    rw (a, b, c, d) (four n)
  where
    four : (n : ℕ) → 4096 * (n / 4096 % 16) + 256 * (n / 256 % 16) + 16 * (n / 16 % 16) + n % 16 ≡ n % 65536
    four n =
        let x : n / 4096 / 16 ≡ n / 65536 = omega arith in
        let y : n / 256 / 16 ≡ n / 4096 = omega arith in
        let z : n / 16 / 16 ≡ n / 256 = omega arith in
        omega arith

value_four : (a b c d : ℕ) → value 0 ((48 + a) ∷ (48 + b) ∷ (48 + c) ∷ (48 + d) ∷ []) ≡ 10 * (10 * (10 * (10 * 0 + a) + b) + c) + d
unfolding value
value_four a b c d =
    let e : (x : ℕ) → 48 + x - 48 ≡ x = (λ x. omega arith) in
    rw (e a, e b, e c, e d)

pub value_dec4 : (n : ℕ) → n < 10000 → value 0 (dec4 n) ≡ n
unfolding dec4
value_dec4 n h =
    let x : n / 100 / 10 ≡ n / 1000 = omega arith in
    let y : n / 10 / 10 ≡ n / 100 = omega arith in
    value_four (n / 1000 % 10) (n / 100 % 10) (n / 10 % 10) (n % 10) ∙ four n h x y
  where
    four : (n : ℕ) → n < 10000 → n / 100 / 10 ≡ n / 1000 → n / 10 / 10 ≡ n / 100 → 10 * (10 * (10 * (10 * 0 + n / 1000 % 10) + n / 100 % 10) + n / 10 % 10) + n % 10 ≡ n
    four n h x y =
        let w : n / 1000 % 10 ≡ n / 1000 = mod-eq_of_lt (omega arith) in
        rw w (omega (arith, x, y, div-add-mod' (n / 100) 10, div-add-mod' (n / 10) 10, div-add-mod' n 10))

-- 0 and 1 as digits are fuses
bit : (x : ℕ) → x ≤ 1 → (fuse (48 + x) ≡ true) × (48 + x - 48 ≡ x)
unfolding fuse
bit zero h = (refl, refl)
bit (suc zero) h = (refl, refl)
bit (suc (suc x)) h = absurd (omega arith)

pub fuses_digits : (m : List ℕ) → Bits m → fuses (digits m) ≡ m
unfolding fuses digits
fuses_digits [] h = refl
fuses_digits (x ∷ xs) h = let b = bit x (h zero) in rw (b.0, b.1) (ap {B = List ℕ} (λ l. x ∷ l) (fuses_digits xs (λ i. h (suc i))))

pub digits_all : (m : List ℕ) → Bits m → all fuse_or_blank (digits m) ≡ true
unfolding all digits fuse_or_blank
digits_all [] h = refl
digits_all (x ∷ xs) h = let b = bit x (h zero) in rw b.0 (digits_all xs (λ i. h (suc i)))

digit_is : (d : ℕ) → d ≤ 9 → digit (48 + d) ≡ true
unfolding digit
digit_is d h = let k : 48 ≤ 48 + d = omega arith in let l : 48 + d ≤ 57 = omega arith in rw (le-ltb _ _ k, le-leb _ _ l)

pub dec4_all : (n : ℕ) → all digit (dec4 n) ≡ true
unfolding all dec4
dec4_all n = rw (digit_is (n / 1000 % 10) (omega arith), digit_is (n / 100 % 10) (omega arith), digit_is (n / 10 % 10) (omega arith), digit_is (n % 10) (omega arith))

all_front : (p : ℕ → Bool) (xs : List ℕ) → all p xs ≡ true → front p xs ≡ xs
unfolding front
all_front p [] a = refl
all_front p (x ∷ xs) a = let h = all_split p x xs a in rw h.0 (ap {B = List ℕ} (λ l. x ∷ l) (all_front p xs h.1))

-- ---- an L field as it is written is read back

space_front : (xs : List ℕ) → Bits xs → 1 ≤ length xs → (front blank (32 ∷ digits xs) ≡ 32 ∷ []) × (past blank (32 ∷ digits xs) ≡ digits xs)
unfolding front past digits blank
space_front [] h l = absurd (omega arith)
space_front (x ∷ xs) h l = go x (h zero)
  where
    go : (x : ℕ) → x ≤ 1 → (front blank (32 ∷ (48 + x) ∷ digits xs) ≡ 32 ∷ []) × (past blank (32 ∷ (48 + x) ∷ digits xs) ≡ (48 + x) ∷ digits xs)
    go zero h = (refl, refl)
    go (suc zero) h = (refl, refl)
    go (suc (suc y)) h = absurd (omega arith)

pub listed_listing : (from : ℕ) (xs : List ℕ) → Bits xs → 1 ≤ length xs → from + length xs ≤ 5892 → listed (dec4 from ++ 32 ∷ digits xs) ≡ good from xs
listed_listing from xs h l k =
    let s : List ℕ = dec4 from ++ 32 ∷ digits xs in
    let a : front digit s ≡ dec4 from = front_append digit (dec4 from) (32 ∷ digits xs) (dec4_all from) ∙ stop-front from xs in
    let b : past digit s ≡ 32 ∷ digits xs = past_append digit (dec4 from) (32 ∷ digits xs) (dec4_all from) ∙ stop-past xs in
    let c = space_front xs h l in
    let v : value 0 (front digit s) ≡ from = ap (value 0) a ∙ value_dec4 from (omega arith) in
    let f = fuses_digits xs h in
    sym (listed_some s (omega (arith, ap length a, four from)))
    ∙ ap₂ listed_rest v b
    ∙ sym (rest_some from (32 ∷ digits xs) (omega (arith, ap length c.0)))
    ∙ ap (listed_fuses from) c.1
    ∙ sym (fuses_good from (digits xs) (omega (arith, length_digits xs)) (omega (arith, ap length (all_front fuse_or_blank (digits xs) (digits_all xs h)))) (omega (arith, ap length f)))
    ∙ ap (good from) f
  where
    four : (n : ℕ) → length (dec4 n) ≡ 4
    four n = unfold dec4 in refl

    stop-front : (n : ℕ) (xs : List ℕ) → dec4 n ++ front digit (32 ∷ digits xs) ≡ dec4 n
    stop-front n xs = unfold dec4 front digit in refl

    stop-past : (xs : List ℕ) → past digit (32 ∷ digits xs) ≡ 32 ∷ digits xs
    stop-past xs = unfold past digit in refl

-- ---- a written L field, walked

digit_star : (d : ℕ) → d ≤ 9 → not_star (48 + d) ≡ true
unfolding not_star
digit_star d h = let k : 48 + d ≡ 42 → ⊥ = (λ e. omega arith) in rw (ne_eqb _ _ k)

dec4_star : (n : ℕ) → all not_star (dec4 n) ≡ true
unfolding all dec4
dec4_star n = rw (digit_star (n / 1000 % 10) (omega arith), digit_star (n / 100 % 10) (omega arith), digit_star (n / 10 % 10) (omega arith), digit_star (n % 10) (omega arith))

digits_star : (m : List ℕ) → Bits m → all not_star (digits m) ≡ true
unfolding all digits
digits_star [] h = refl
digits_star (x ∷ xs) h = let k = h zero in rw (digit_star x (omega arith)) (digits_star xs (λ i. h (suc i)))

-- behind the letter
pub contents : ℕ → List ℕ → List ℕ
contents from xs = dec4 from ++ 32 ∷ digits xs

contents_star : (from : ℕ) (xs : List ℕ) → Bits xs → all not_star (contents from xs) ≡ true
unfolding contents
contents_star from xs h = all_append not_star (dec4 from) (32 ∷ digits xs) (dec4_star from) (space (digits_star xs h))
  where
    space : all not_star (digits xs) ≡ true → all not_star (32 ∷ digits xs) ≡ true
    space e = unfold all not_star in e

shape : (from : ℕ) (xs rest : List ℕ) → listing from xs ++ rest ≡ 76 ∷ contents from xs ++ 42 ∷ 13 ∷ 10 ∷ rest
unfolding listing contents
shape from xs rest = simp append_assoc

-- the piece that an L field is, with the end of the line before it
pub lpiece : ℕ → List ℕ → List ℕ
lpiece from xs = 13 ∷ 10 ∷ 76 ∷ contents from xs

lpiece_star : (from : ℕ) (xs : List ℕ) → Bits xs → all not_star (lpiece from xs) ≡ true
unfolding all lpiece not_star
lpiece_star from xs h = contents_star from xs h

lpieces : (from : ℕ) (xs rest : List ℕ) → Bits xs → pieces (13 ∷ 10 ∷ listing from xs ++ rest) ≡ lpiece from xs ∷ pieces (13 ∷ 10 ∷ rest)
unfolding lpiece
lpieces from xs rest h =
    ap (λ (l : List ℕ). pieces (13 ∷ 10 ∷ l)) (shape from xs rest) ∙ pieces_append (lpiece from xs) (13 ∷ 10 ∷ rest) (lpiece_star from xs h)

ljudge : (s : Seen) (cells : List ℕ) (from : ℕ) (xs : List ℕ) → s.qf ≡ true → Bits xs → 1 ≤ length xs → from + length xs ≤ 5892
    → judge s (past blank (lpiece from xs)) cells ≡ go (saw_l s) (put cells from xs)
unfolding judge past blank lpiece contents
ljudge s cells from xs q h l k =
    let e = listed_listing from xs h l k in
    sym (judge_l_good s (dec4 from ++ 32 ∷ digits xs) cells (put cells from xs) q (ap fault_of e) (sym (ap (λ (x : Listed). kept x cells) e)))

-- one field of the loop: an L field as it is written sets its fuses
pub lfield : (s : Seen) (cells : List ℕ) (at from : ℕ) (xs rest : List ℕ) → s.qf ≡ true → Bits xs → 1 ≤ length xs → from + length xs ≤ 5892
    → walk s cells at (pieces (13 ∷ 10 ∷ listing from xs ++ rest)) ≡ walk (saw_l s) (put cells from xs) (at + length (lpiece from xs) + 1) (pieces (13 ∷ 10 ∷ rest))
lfield s cells at from xs rest q h l k =
    ap (walk s cells at) (lpieces from xs rest h)
    ∙ walk_field s cells at (lpiece from xs) (13 ∷ 10 ∷ rest)
    ∙ ap (λ (x : Step). next x (at + length (front blank (lpiece from xs))) (λ s cells. walk s cells (at + length (lpiece from xs) + 1) (pieces (13 ∷ 10 ∷ rest)))) (ljudge s cells from xs q h l k)
