-- The laws of fronts, numbers and fuses among bytes: one byte more, and the parts by their length. Assumes nothing.
use mathlib.Core.Path.{◌≡◌, refl, sym, ap, ◌∙◌}
use mathlib.Core.List.{List, [], ◌∷◌}
use mathlib.Core.Bool.{Bool, true, false}
use Prim.Native.Nat.{ℕ, suc, ◌+◌, ◌-◌, ◌*◌, ◌≤◌, ◌<◌, min}
use native.Mathlib.Omega.{arith}
use lib.ListN.{length, take, drop, get_or, drop_of_length-le, length-drop}
use lib.Seq.{take_all}
use lib.Dec.{eqb}
use borrow.Author.Tests.{eqb-true}
use Rattle.basics.specs.Choice.{pick}
use Rattle.basics.proofs.Lists.{drop_next}
use Rattle.fusefields.specs.Bytes.{fuse, front, past, value, fuses}

pub front_next : (p : ℕ → Bool) (s : List ℕ) (j : ℕ) → j < length s → front p (drop j s) ≡ pick (p (get_or s j 0)) (get_or s j 0 ∷ front p (drop (j + 1) s)) []
unfolding front
front_next p s j h = rw (drop_next s j h)

pub front_length : (p : ℕ → Bool) (s : List ℕ) → length (front p s) ≤ length s
unfolding front
front_length p [] = omega arith
front_length p (x ∷ xs) = go (p x) (front_length p xs)
  where
    go : (b : Bool) → length (front p xs) ≤ length xs → length (pick b (x ∷ front p xs) []) ≤ suc (length xs)
    go true h = omega arith
    go false h = omega arith

pub front_none : (p : ℕ → Bool) (s : List ℕ) (j : ℕ) → length s ≤ j → front p (drop j s) ≡ []
unfolding front
front_none p s j h = rw (drop_of_length-le s {i = j} h)

-- the two parts by their length
pub front_take : (p : ℕ → Bool) (s : List ℕ) → take (length (front p s)) s ≡ front p s
unfolding front
front_take p [] = refl
front_take p (x ∷ xs) = go (p x) (front_take p xs)
  where
    go : (b : Bool) → take (length (front p xs)) xs ≡ front p xs → take (length (pick b (x ∷ front p xs) [])) (x ∷ xs) ≡ pick b (x ∷ front p xs) []
    go true h = ap {B = List ℕ} (λ l. x ∷ l) h
    go false h = refl

pub past_drop : (p : ℕ → Bool) (s : List ℕ) → drop (length (front p s)) s ≡ past p s
unfolding front past
past_drop p [] = refl
past_drop p (x ∷ xs) = go (p x) (past_drop p xs)
  where
    go : (b : Bool) → drop (length (front p xs)) xs ≡ past p xs → drop (length (pick b (x ∷ front p xs) [])) (x ∷ xs) ≡ pick b (past p xs) (x ∷ xs)
    go true h = h
    go false h = refl

pub front_stop : (p : ℕ → Bool) (s : List ℕ) (j : ℕ) → j < length s → p (get_or s j 0) ≡ false → length (front p (drop j s)) ≡ 0
front_stop p s j h e = rw (front_next p s j h, e)

pub front_go : (p : ℕ → Bool) (s : List ℕ) (j : ℕ) → j < length s → p (get_or s j 0) ≡ true → length (front p (drop j s)) ≡ suc (length (front p (drop (j + 1) s)))
front_go p s j h e = rw (front_next p s j h, e)

-- ---- one element more

pub value_next : (n : ℕ) (s : List ℕ) (j : ℕ) → j < length s → value n (drop j s) ≡ value (10 * n + (get_or s j 0 - 48)) (drop (j + 1) s)
unfolding value
value_next n s j h = rw (drop_next s j h)

pub value_none : (n : ℕ) (s : List ℕ) (j : ℕ) → length s ≤ j → value n (drop j s) ≡ n
unfolding value
value_none n s j h = rw (drop_of_length-le s {i = j} h)

fuses_next : (s : List ℕ) (j : ℕ) → j < length s → fuses (drop j s) ≡ pick (fuse (get_or s j 0)) ((get_or s j 0 - 48) ∷ fuses (drop (j + 1) s)) (fuses (drop (j + 1) s))
unfolding fuses
fuses_next s j h = rw (drop_next s j h)

pub fuses_one : (s : List ℕ) (j : ℕ) → j < length s → fuse (get_or s j 0) ≡ true → fuses (drop j s) ≡ (get_or s j 0 - 48) ∷ fuses (drop (j + 1) s)
fuses_one s j h e = fuses_next s j h ∙ rw e

pub fuses_other : (s : List ℕ) (j : ℕ) → j < length s → fuse (get_or s j 0) ≡ false → fuses (drop j s) ≡ fuses (drop (j + 1) s)
fuses_other s j h e = fuses_next s j h ∙ rw e

pub fuses_none : (s : List ℕ) (j : ℕ) → length s ≤ j → fuses (drop j s) ≡ []
unfolding fuses
fuses_none s j h = rw (drop_of_length-le s {i = j} h)

-- the parts of a slice by the length of its front, as `&s[..n]` and `&s[n..]` have them
pub part_front : (p : ℕ → Bool) (s : List ℕ) (n : ℕ) → n ≡ length (front p s) → take n s ≡ front p s
part_front p s n e = ap (λ (k : ℕ). take k s) e ∙ front_take p s

pub part_past : (p : ℕ → Bool) (s : List ℕ) (n : ℕ) → n ≡ length (front p s) → take (length s - n) (drop n s) ≡ past p s
part_past p s n e = take_all (length s - n) (drop n s) (simp length-drop (omega arith)) ∙ ap (λ (k : ℕ). drop k s) e ∙ past_drop p s

-- ---- a number above a bound stays above it, whatever digits follow

pub value_capped : (most n : ℕ) (s : List ℕ) → min most (value (min most n) s) ≡ min most (value n s)
unfolding value
value_capped most n [] = omega arith
value_capped most n (x ∷ xs) =
    let e : min most (10 * min most n + (x - 48)) ≡ min most (10 * n + (x - 48)) = omega arith in
    sym (value_capped most (10 * min most n + (x - 48)) xs)
    ∙ ap (λ (k : ℕ). min most (value k xs)) e
    ∙ value_capped most (10 * n + (x - 48)) xs

-- a digit more of a number that is kept up to a bound
pub value_turn : (most n : ℕ) (s : List ℕ) (j : ℕ) → j < length s
    → min most (value (min most (10 * n + (get_or s j 0 - 48))) (drop (j + 1) s)) ≡ min most (value n (drop j s))
value_turn most n s j h = value_capped most (10 * n + (get_or s j 0 - 48)) (drop (j + 1) s) ∙ sym (ap (min most) (value_next n s j h))

-- a fuse's code is 48 or 49
pub fuse_code : (b : ℕ) → fuse b ≡ true → 48 ≤ b
unfolding fuse
fuse_code b e = go (eqb b 48) refl e
  where
    go : (t : Bool) → eqb b 48 ≡ t → pick t true (eqb b 49) ≡ true → 48 ≤ b
    go true d e = omega (arith, eqb-true b 48 d)
    go false d e = omega (arith, eqb-true b 49 e)
