-- The outcomes of each step of reading, in the words of the tests that lead to them. Assumes nothing.
use mathlib.Core.Path.{◌≡◌, refl, ap, ap₂, ◌∙◌}
use mathlib.Core.List.{List, [], ◌∷◌, map}
use mathlib.Core.Bool.{true, false}
use Prim.Native.Nat.{ℕ, zero, suc, ◌+◌, ◌-◌, ◌≤◌, ◌<◌}
use native.Mathlib.Omega.{arith}
use lib.ListN.{length, take, drop, get_or, length-drop}
use lib.Seq.{take_all, take-nil}
use lib.Dec.{eqb}
use borrow.Author.Tests.{le-leb, lt-leb, lt-ltb, le-ltb, eq-eqb, ne_eqb}
use Rattle.basics.specs.Choice.{pick}
use Rattle.std.specs.Option.{unwrap_or}
use Rattle.std.specs.Prelude.{Option}
use Rattle.fusetext.specs.File.{bits}
use Rattle.fusetext.specs.Outcome.{gives, refuses}
use Rattle.fusefields.specs.Bytes.{blank, hexit, not_star, not_end, front}
use Rattle.fusefields.specs.Fields.{unseen}
use Rattle.fusefields.specs.declared.Seen.{Seen}
use Rattle.fuseread.specs.Walk.{ended, fault, open_at, walk, pieces}
use Rattle.fuseread.specs.Reading.{filled, fuse_sum_fits, last_sum_fits, summed, whole, ending, closing, unlisted, opened, read_of, read_into}

-- each fuse, or the default
pub map_filled : (f : ℕ) (s : List ℕ) → map (λ x. pick (eqb x 2) f x) s ≡ filled f s
unfolding filled
map_filled f [] = refl
map_filled f (x ∷ xs) = ap {B = List ℕ} (λ l. pick (eqb x 2) f x ∷ l) (map_filled f xs)

pub length_filled : (f : ℕ) (s : List ℕ) → length (filled f s) ≡ length s
unfolding filled
length_filled f [] = refl
length_filled f (x ∷ xs) = ap suc (length_filled f xs)

-- `&s[e..]`
pub to_end : (s : List ℕ) (e : ℕ) → take (length s - e) (drop e s) ≡ drop e s
to_end s e = take_all (length s - e) (drop e s) (simp length-drop (omega arith))

-- ---- each step's outcomes, from what the code's tests say

module _ (s : List ℕ) (z : ℕ) (c : Option ℕ) (m : List ℕ) where
  pub summed_fine : fuse_sum_fits c m ≡ true → last_sum_fits s z ≡ true → gives m ≡ summed s z c m
  unfolding summed
  summed_fine f e = rw (f, e)

module _ (s : List ℕ) (z : ℕ) (seen : Seen) (cells : List ℕ) where
  pub whole_gap : seen.qf ≡ true → bits (filled (unwrap_or seen.f 2) cells) ≡ false → refuses 20 (length s) ≡ whole s z seen cells
  unfolding whole
  whole_gap q e = rw (q, e)

  pub whole_full : seen.qf ≡ true → bits (filled (unwrap_or seen.f 2) cells) ≡ true → summed s z seen.c (filled (unwrap_or seen.f 2) cells) ≡ whole s z seen cells
  unfolding whole
  whole_full q e = rw (q, e)

  pub ending_fine : 4 ≤ length (front hexit (drop (z + 1) s)) → length (drop (z + 5) s) ≤ length (front blank (drop (z + 5) s)) → whole s z seen cells ≡ ending s z seen cells
  unfolding ending
  ending_fine h b = rw (le-leb _ _ h, le-leb _ _ b)

module _ (s : List ℕ) (z h : ℕ) where
  pub opened_star : h + 1 < z → closing s z (walk unseen unlisted (h + 2) (pieces (drop (h + 2) (take z s)))) ≡ opened s z h
  unfolding opened
  opened_star k = rw (lt-ltb _ _ k)

  pub opened_fault : z ≤ h + 1 → z < length s → refuses 20 1 ≡ opened s z h
  unfolding opened
  opened_fault k l = rw (le-ltb _ _ k, lt-ltb _ _ l)

  pub opened_cut : z ≤ h + 1 → length s ≤ z → refuses 20 (length s) ≡ opened s z h
  unfolding opened
  opened_cut k l = rw (le-ltb _ _ k, le-ltb _ _ l)

module _ (s : List ℕ) (z : ℕ) where
  pub closing_ending : (seen : Seen) (cells : List ℕ) → z < length s → ending s z seen cells ≡ closing s z (ended seen cells)
  unfolding closing
  closing_ending seen cells l = rw (lt-ltb _ _ l)

  pub closing_cut : (seen : Seen) (cells : List ℕ) → length s ≤ z → refuses 20 (length s) ≡ closing s z (ended seen cells)
  unfolding closing
  closing_cut seen cells l = rw (le-ltb _ _ l)

  pub closing_fault : (n place : ℕ) → refuses n place ≡ closing s z (fault n place)
  unfolding closing
  closing_fault n place = refl

  pub closing_open : (place : ℕ) → z < length s → refuses 20 place ≡ closing s z (open_at place)
  unfolding closing
  closing_open place l = rw (lt-ltb _ _ l)

  pub closing_open_cut : (place : ℕ) → length s ≤ z → refuses 20 (length s) ≡ closing s z (open_at place)
  unfolding closing
  closing_open_cut place l = rw (le-ltb _ _ l)

pub read_long : (s : List ℕ) → 65536 < length s → refuses 20 (length s) ≡ read_of s
unfolding read_of
read_long s h = rw (lt-leb _ _ h)

pub read_start : (s : List ℕ) → length s ≤ 65536 → (get_or s 0 0 ≡ 2 → ⊥) → refuses 20 0 ≡ read_of s
unfolding read_of
read_start s h e = rw (le-leb _ _ h, ne_eqb _ _ e)

pub read_open : (s : List ℕ) (z h : ℕ) → length s ≤ 65536 → get_or s 0 0 ≡ 2 → z ≡ length (front not_end s) → h ≡ length (front not_star (drop 1 (take z s))) → opened s z h ≡ read_of s
unfolding read_of
read_open s z h l e ez eh =
    let d : h ≡ length (front not_star (drop 1 (take (length (front not_end s)) s))) = eh ∙ ap (λ (k : ℕ). length (front not_star (drop 1 (take k s)))) ez in
    ap₂ (opened s) ez d ∙ rw (le-leb _ _ l, eq-eqb _ _ e)

-- byte 2 is not byte 3
pub read_past : (s : List ℕ) → get_or s 0 0 ≡ 2 → 1 ≤ length (front not_end s)
unfolding front not_end
read_past [] e = absurd (omega arith)
read_past (x ∷ xs) e = rw e (omega arith)

-- `&s[1..z]`
pub heading_is : (s : List ℕ) (z : ℕ) → 1 ≤ z → take (z - 1) (drop 1 s) ≡ drop 1 (take z s)
heading_is s zero h = absurd (omega arith)
heading_is [] (suc z) h = take-nil (suc z - 1)
heading_is (x ∷ xs) (suc z) h = let e : suc z - 1 ≡ z = omega arith in ap (λ (k : ℕ). take k xs) e

pub into_other : (s : List ℕ) (room : ℕ) → (room ≡ 5892 → ⊥) → refuses 31 0 ≡ read_into s room
unfolding read_into
into_other s room h = rw (ne_eqb _ _ h)

pub into_map : (s : List ℕ) (room : ℕ) → room ≡ 5892 → read_of s ≡ read_into s room
unfolding read_into
into_map s room h = rw (eq-eqb _ _ h)
