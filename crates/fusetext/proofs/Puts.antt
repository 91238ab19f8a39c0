-- The laws by which functions that write fields compose. Assumes nothing.
use mathlib.Core.Path.{◌≡◌, refl, sym, ap, subst, ◌∙◌}
use mathlib.Core.List.{List, [], ◌∷◌, ◌++◌, append_assoc, append-nil}
use Prim.Native.Nat.{ℕ, ◌+◌, ◌≤◌, ◌<◌}
use native.Mathlib.Nat.{add-zero, add_assoc, zero-add}
use native.Mathlib.Omega.{arith}
use lib.ListN.{length, take, drop, set, length-append, length-drop, take-append-drop, drop_of_length-le}
use lib.Seq.{sets-eq, take_at, drop-append-add, drop-drop, length-take-le, take_all}
use borrow.Rule.Slice.PartMut.{put_mid}
use Rattle.std.proofs.lemmas.Slice.{put_mid-paste}
use Rattle.fusetext.specs.Put.{put, Wrote}

-- nothing written
pub put_nil : (l : List ℕ) (at : ℕ) → put l at [] ≡ l
unfolding put
put_nil l at = rw (add-zero, append-nil) (take-append-drop at l)

-- one store
pub put_one : (l : List ℕ) (at x : ℕ) → at < length l → set l at x ≡ put l at (x ∷ [])
unfolding put
put_one l at x h = sets-eq (x ∷ []) l at (omega arith)

pub length_put : (l : List ℕ) (at : ℕ) (xs : List ℕ) → at + length xs ≤ length l → length (put l at xs) ≡ length l
unfolding put
length_put l at xs h =
    let t : length (take at l) ≡ at = length-take-le at l (omega arith) in
    simp (length-append, length-drop, t) (omega arith)

-- a field and then another behind it are one field
pub put_put : (l : List ℕ) (at : ℕ) (xs ys : List ℕ) → at + length xs ≤ length l → put (put l at xs) (at + length xs) ys ≡ put l at (xs ++ ys)
unfolding put
put_put l at xs ys h =
    let p : List ℕ = take at l ++ xs in
    let d : List ℕ = drop (at + length xs) l in
    let t : length (take at l) ≡ at = length-take-le at l (omega arith) in
    let lp : length p ≡ at + length xs = length-append (take at l) xs ∙ ap (λ (k : ℕ). k + length xs) t in
    let one : take (at + length xs) (p ++ d) ≡ p = take_at p d (at + length xs) lp in
    let two : drop (at + length xs + length ys) (p ++ d) ≡ drop (at + length (xs ++ ys)) l =
    ap (λ (k : ℕ). drop (k + length ys) (p ++ d)) (sym lp)
    ∙ drop-append-add p d (length ys)
    ∙ drop-drop (length ys) (at + length xs) l
    ∙ ap (λ (k : ℕ). drop k l) (add_assoc at (length xs) (length ys) ∙ ap (λ (k : ℕ). at + k) (sym (length-append xs ys))) in
    ap (λ (r : List ℕ). r ++ ys ++ drop (at + length xs + length ys) (p ++ d)) one
    ∙ ap (λ (r : List ℕ). p ++ ys ++ r) two
    ∙ ap (λ (r : List ℕ). r ++ drop (at + length (xs ++ ys)) l) (append_assoc (take at l) xs ys)

-- the whole from the first byte on
pub put_front : (l xs : List ℕ) → put l 0 xs ≡ xs ++ drop (length xs) l
unfolding put
put_front l xs = rw zero-add refl

-- one store, and then the rest
pub put_step : (l : List ℕ) (at x : ℕ) (xs : List ℕ) → at < length l → put (set l at x) (at + 1) xs ≡ put l at (x ∷ xs)
put_step l at x xs h = rw put_one (put_put l at (x ∷ []) xs (omega arith))

-- one field and then another
pub then : {a b c xs ys : List ℕ} {i j k : ℕ} → Wrote a i xs b j → Wrote b j ys c k → Wrote a i (xs ++ ys) c k
then {a} {b} {c} {xs} {ys} {i} {j} {k} p q =
    let len : length b ≡ length a = ap length p.holds ∙ length_put a i xs p.room in
    let both : length (xs ++ ys) ≡ length xs + length ys = length-append xs ys in
    record {
      room = omega (arith, q.room, p.ends);
      holds = q.holds ∙ ap (λ (n : ℕ). put b n ys) p.ends ∙ ap (λ (l : List ℕ). put l (i + length xs) ys) p.holds ∙ put_put a i xs ys p.room;
      ends = omega (arith, q.ends, p.ends);
    }

-- nothing written
pub wrote_nothing : (a : List ℕ) (i : ℕ) → i ≤ length a → Wrote a i [] a i
wrote_nothing a i h = record { room = omega arith; holds = sym (put_nil a i); ends = omega arith }

-- ---- a loop that writes: what is still to be written, written where the loop stands, gives what the whole gives

-- a turn. (The equations come before the order, so that `omega` at the order knows its numbers.)
pub put_turn : (l : List ℕ) (o x : ℕ) {rest more w : List ℕ} → put l o rest ≡ w → rest ≡ x ∷ more → o < length l → put (set l o x) (o + 1) more ≡ w
put_turn l o x {rest} {more} q e h = put_step l o x more h ∙ ap (put l o) (sym e) ∙ q

-- the end
pub put_done : (l : List ℕ) (o : ℕ) {rest w : List ℕ} → put l o rest ≡ w → rest ≡ [] → l ≡ w
put_done l o q e = sym (put_nil l o) ∙ ap (put l o) (sym e) ∙ q

-- the same field by another name
pub wrote_as : {a b xs ys : List ℕ} {i j : ℕ} → Wrote a i xs b j → xs ≡ ys → Wrote a i ys b j
wrote_as {a} {b} {xs} {ys} {i} {j} w e = subst (λ (l : List ℕ). Wrote a i l b j) e w

-- what was written from the first byte on, read back
pub wrote_front : {a b xs : List ℕ} {j : ℕ} → Wrote a 0 xs b j → take j b ≡ xs
wrote_front {a} {b} {xs} {j} w =
    ap (λ (n : ℕ). take n b) (w.ends ∙ zero-add (length xs))
    ∙ ap (λ (l : List ℕ). take (length xs) l) (w.holds ∙ put_front a xs)
    ∙ take_at xs (drop (length xs) a) (length xs) refl

pub length_wrote : {a b xs : List ℕ} {i j : ℕ} → Wrote a i xs b j → length b ≡ length a
length_wrote {a} {b} {xs} {i} {j} w = ap length w.holds ∙ length_put a i xs w.room

-- a field as long as the whole is all of it
pub wrote_all : {a b xs : List ℕ} {j : ℕ} → Wrote a 0 xs b j → length xs ≡ length a → b ≡ xs
wrote_all {a} {b} {xs} {j} w e =
    w.holds ∙ put_front a xs ∙ ap (λ (l : List ℕ). xs ++ l) (drop_of_length-le a {i = length xs} (omega arith)) ∙ append-nil xs

-- a copy over a part of the memory
pub wrote_over : {l xs ys : List ℕ} {at n : ℕ} → ys ≡ xs → at + length xs ≤ length l → n ≡ length xs → Wrote l at xs (put_mid at n l ys) (at + length xs)
unfolding put
wrote_over {l} {xs} {ys} {at} {n} e h k =
    record {
      room = h;
      holds =
          put_mid-paste at n l ys xs (length xs) e (omega arith) refl
          ∙ ap (λ (p : List ℕ). take at l ++ p ++ drop (at + length xs) l) (take_all (length xs) xs (omega arith));
      ends = refl;
    }
