-- The fuses that a written file leaves out are those that are 0: with the default 0 the map comes back. Assumes nothing.
use mathlib.Core.Path.{◌≡◌, refl, sym, ap, ap₂, ◌∙◌}
use mathlib.Core.List.{List, [], ◌∷◌, ◌++◌, append_assoc}
use mathlib.Core.Bool.{Bool, true, false}
use Prim.Native.Nat.{ℕ, zero, suc, ◌+◌, ◌≤◌}
use native.Mathlib.Omega.{arith}
use lib.ListN.{length, take, drop, replicate, length-replicate, replicate-append-replicate}
use lib.Seq.{take_at, drop_at, drop-append-add, take-add, length-take-le}
use lib.Dec.{eqb}
use borrow.Author.Tests.{ne_eqb, eqb-true}
use Rattle.basics.specs.Choice.{pick}
use Rattle.fuseread.proofs.Endings.{length_filled}
use Rattle.fuseread.specs.Reading.{filled, unlisted}
use Rattle.fusetext.proofs.Files.{length_part, bits_part, pick_both}
use Rattle.fusetext.specs.File.{Bits, zeros, part}
use Rattle.fusetext.specs.Put.{put}

filled_append : (f : ℕ) (xs ys : List ℕ) → filled f (xs ++ ys) ≡ filled f xs ++ filled f ys
unfolding filled
filled_append f [] ys = refl
filled_append f (x ∷ xs) ys = ap {B = List ℕ} (λ l. pick (eqb x 2) f x ∷ l) (filled_append f xs ys)

filled_take : (f n : ℕ) (xs : List ℕ) → filled f (take n xs) ≡ take n (filled f xs)
unfolding filled
filled_take f zero xs = refl
filled_take f (suc n) [] = refl
filled_take f (suc n) (x ∷ xs) = ap {B = List ℕ} (λ l. pick (eqb x 2) f x ∷ l) (filled_take f n xs)

filled_drop : (f n : ℕ) (xs : List ℕ) → filled f (drop n xs) ≡ drop n (filled f xs)
unfolding filled
filled_drop f zero xs = refl
filled_drop f (suc n) [] = refl
filled_drop f (suc n) (x ∷ xs) = filled_drop f n xs

filled_put : (f : ℕ) (l : List ℕ) (at : ℕ) (xs : List ℕ) → filled f (put l at xs) ≡ put (filled f l) at (filled f xs)
unfolding put
filled_put f l at xs =
    rw (filled_append f (take at l ++ xs) (drop (at + length xs) l), filled_append f (take at l) xs, filled_take f at l, filled_drop f (at + length xs) l, length_filled f xs)

filled_bits : (f : ℕ) (xs : List ℕ) → Bits xs → filled f xs ≡ xs
unfolding filled
filled_bits f [] h = refl
filled_bits f (x ∷ xs) h =
    let k = h zero in
    let e : x ≡ 2 → ⊥ = (λ q. omega arith) in
    rw (ne_eqb _ _ e) (ap {B = List ℕ} (λ l. x ∷ l) (filled_bits f xs (λ i. h (suc i))))

filled_replicate : (n : ℕ) → filled 0 (replicate n 2) ≡ replicate n 0
unfolding filled
filled_replicate zero = refl
filled_replicate (suc n) = ap {B = List ℕ} (λ l. 0 ∷ l) (filled_replicate n)

zeros_are : (xs : List ℕ) → zeros xs ≡ true → xs ≡ replicate (length xs) 0
unfolding zeros
zeros_are [] e = refl
zeros_are (x ∷ xs) e =
    let h = pick_both (eqb x 0) (zeros xs) e in
    ap₂ {C = List ℕ} (λ a l. a ∷ l) (eqb-true x 0 h.0) (zeros_are xs h.1)

-- a field put where only zeros follow
place : (a : List ℕ) (at : ℕ) (xs : List ℕ) (j : ℕ) → length a ≡ at → put (a ++ replicate (length xs + j) 0) at xs ≡ a ++ xs ++ replicate j 0
unfolding put
place a at xs j e =
    let r : List ℕ = replicate (length xs + j) 0 in
    let t : take at (a ++ r) ≡ a = take_at a r at e in
    let d : drop (at + length xs) (a ++ r) ≡ replicate j 0 =
    ap (λ (k : ℕ). drop (k + length xs) (a ++ r)) (sym e)
    ∙ drop-append-add a r (length xs)
    ∙ ap (drop (length xs)) (sym (replicate-append-replicate (length xs) j 0))
    ∙ drop_at (replicate (length xs) 0) (replicate j 0) (length xs) (length-replicate (length xs) 0) in
    ap₂ (λ (x y : List ℕ). x ++ xs ++ y) t d

-- cells hold m up to a, and zeros behind, once filled
abbrev pub Holds : List ℕ → ℕ → ℕ → List ℕ → Type 0
Holds m a j cells = filled 0 cells ≡ take a m ++ replicate j 0

pub holds_start : (m : List ℕ) → Holds m 0 5892 unlisted
unfolding unlisted
holds_start m = filled_replicate 5892

module _ (m : List ℕ) (bits : Bits m) (a n j : ℕ) (room : a + n ≤ length m) (cells : List ℕ) (h : Holds m a (n + j) cells) where
  -- a field that is listed
  pub holds_put : Holds m (a + n) j (put cells a (part a n m))
  holds_put =
      let xs : List ℕ = part a n m in
      let l : length xs ≡ n = length_part a n m room in
      filled_put 0 cells a xs
      ∙ ap₂ (λ (u v : List ℕ). put u a v) (h ∙ ap (λ (k : ℕ). take a m ++ replicate (k + j) 0) (sym l)) (filled_bits 0 xs (bits_part a n m bits))
      ∙ place (take a m) a xs j (length-take-le a m (omega arith))
      ∙ ap (λ (u : List ℕ). u ++ replicate j 0) (sym (take-add a n m))

  -- a field that is left out
  holds-skip : zeros (part a n m) ≡ true → Holds m (a + n) j cells
  holds-skip z =
      let l : length (part a n m) ≡ n = length_part a n m room in
      let e : part a n m ≡ replicate n 0 = zeros_are (part a n m) z ∙ ap (λ (k : ℕ). replicate k 0) l in
      h
      ∙ ap (λ (u : List ℕ). take a m ++ u) (sym (replicate-append-replicate n j 0))
      ∙ sym (append_assoc (take a m) (replicate n 0) (replicate j 0))
      ∙ ap (λ (u : List ℕ). take a m ++ u ++ replicate j 0) (sym e)
      ∙ ap (λ (u : List ℕ). u ++ replicate j 0) (sym (take-add a n m))

  -- a field that is listed unless it is all 0
  pub holds_if : Holds m (a + n) j (pick (zeros (part a n m)) cells (put cells a (part a n m)))
  holds_if = go (zeros (part a n m)) refl
    where
      go : (b : Bool) → zeros (part a n m) ≡ b → Holds m (a + n) j (pick b cells (put cells a (part a n m)))
      go true e = holds-skip e
      go false e = holds_put
