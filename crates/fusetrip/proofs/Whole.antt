-- The whole file of a map, read: no byte 3 before its end, the fixed fields, C, and the last four digits. Assumes nothing.
use mathlib.Core.Path.{◌≡◌, refl, sym, ap, ◌∙◌}
use mathlib.Core.List.{List, [], ◌∷◌, ◌++◌, append_assoc, append-nil}
use mathlib.Core.Bool.{Bool, true, false}
use Prim.Native.Nat.{ℕ, zero, suc, ◌+◌, ◌*◌, ◌/◌, ◌%◌, ◌≤◌, ◌<◌}
use native.Mathlib.Omega.{arith}
use native.Mathlib.Decide.{dec_le}
use lib.ListN.{length, take, drop, get_or, length-append, drop_of_length-le}
use lib.Seq.{take_at, take_all, drop-append-add, take-append-add}
use lib.Dec.{ltb}
use borrow.Author.Tests.{le-leb, lt-leb, lt-ltb, le-ltb, eq-eqb, ne_eqb}
use Rattle.basics.specs.Choice.{pick}
use Rattle.basics.specs.Text.{text}
use Rattle.fusefields.specs.Bytes.{not_star, not_end, blank, digit, fuse, hexit, front, past, value, hex4_of}
use Rattle.fusefields.specs.Fields.{Step, go, unseen, judge, judge_plain, judge_q, judge_qf, judge_qp, judge_g, judge_f, judge_c, number_fault, one}
use Rattle.fuseread.proofs.Endings.{read_open, opened_star, closing_ending, ending_fine, whole_full, summed_fine}
use Rattle.fuseread.proofs.Turns.{walk_field}
use Rattle.fuseread.specs.Reading.{last_sum_fits, read_of, closing, summed, fuse_sum_fits, filled, unlisted}
use Rattle.fuseread.specs.Walk.{ended, next, walk, pieces}
use Rattle.fusetext.proofs.Files.{bits_all, sizes}
use Rattle.fusetext.specs.Digits.{dec4, hex_digit, hex4}
use Rattle.fusetext.specs.File.{digits, bits, part, listing, listing_if, zeros, rows, fuse_sum, sum, opening, checking, fields_of, body, file_of}
use Rattle.fusetext.specs.Outcome.{gives}
use Rattle.fusetrip.proofs.Back.{all, all_append, front_append, pieces_append, hex4_of_hex4}
use Rattle.fusetrip.proofs.Rows.{Walks, walks_all}
use Rattle.fusefields.specs.declared.Seen.{Seen}
use Rattle.std.specs.Prelude.{Option, Some, None}
use Rattle.std.specs.Option.{unwrap_or}

-- ---- no byte 3 before the end

large : (x : ℕ) → 4 ≤ x → not_end x ≡ true
unfolding not_end
large x h = let k : x ≡ 3 → ⊥ = (λ e. omega arith) in rw (ne_eqb _ _ k)

dec4_end : (n : ℕ) → all not_end (dec4 n) ≡ true
unfolding all dec4
dec4_end n = rw (large (48 + n / 1000 % 10) (omega arith), large (48 + n / 100 % 10) (omega arith), large (48 + n / 10 % 10) (omega arith), large (48 + n % 10) (omega arith))

digits_end : (m : List ℕ) → all not_end (digits m) ≡ true
unfolding all digits
digits_end [] = refl
digits_end (x ∷ xs) = rw (large (48 + x) (omega arith)) (digits_end xs)

hex_digit_large : (d : ℕ) → 48 ≤ hex_digit d
unfolding hex_digit
hex_digit_large d = go (ltb d 10)
  where
    go : (b : Bool) → 48 ≤ pick b (48 + d) (55 + d)
    go true = omega arith
    go false = omega arith

hex4_end : (n : ℕ) → all not_end (hex4 n) ≡ true
unfolding all hex4
hex4_end n =
    let h = hex_digit_large in
    rw (large (hex_digit (n / 4096 % 16)) (omega (arith, h (n / 4096 % 16))), large (hex_digit (n / 256 % 16)) (omega (arith, h (n / 256 % 16))), large (hex_digit (n / 16 % 16)) (omega (arith, h (n / 16 % 16))), large (hex_digit (n % 16)) (omega (arith, h (n % 16))))

listing_end : (from : ℕ) (xs : List ℕ) → all not_end (listing from xs) ≡ true
unfolding listing
listing_end from xs =
    let p = all_append not_end in
    p _ (text "*\r\n") (p _ (digits xs) (p _ (text " ") (p (text "L") (dec4 from) (unfold all not_end in refl) (dec4_end from)) (unfold all not_end in refl)) (digits_end xs)) (unfold all not_end in refl)

listing_if_end : (from : ℕ) (xs : List ℕ) → all not_end (listing_if from xs) ≡ true
unfolding listing_if
listing_if_end from xs = go (zeros xs)
  where
    go : (b : Bool) → all not_end (pick b [] (listing from xs)) ≡ true
    go true = unfold all in refl
    go false = listing_end from xs

rows_end : (r : ℕ) (m : List ℕ) → all not_end (rows r m) ≡ true
unfolding rows
rows_end zero m = unfold all in refl
rows_end (suc r) m = all_append not_end (rows r m) (listing_if (44 * r) (part (44 * r) 44 m)) (rows_end r m) (listing_if_end (44 * r) (part (44 * r) 44 m))

checking_end : (m : List ℕ) → all not_end (checking m) ≡ true
unfolding checking
checking_end m = all_append not_end _ (text "*\r\n") (all_append not_end (text "C") (hex4 (fuse_sum m)) (unfold all not_end in refl) (hex4_end (fuse_sum m))) (unfold all not_end in refl)

-- the L fields
pub lists : List ℕ → List ℕ
lists m = rows 132 m ++ listing 5808 (part 5808 20 m) ++ listing_if 5828 (part 5828 64 m)

fields_no_end : (m : List ℕ) → all not_end (fields_of m) ≡ true
unfolding fields_of
fields_no_end m =
    let p = all_append not_end in
    p _ (checking m) (p _ (listing_if 5828 (part 5828 64 m)) (p _ (listing 5808 (part 5808 20 m)) (p opening (rows 132 m) (unfold all not_end opening in refl) (rows_end 132 m)) (listing_end 5808 (part 5808 20 m))) (listing_if_end 5828 (part 5828 64 m))) (checking_end m)

fields_are : (m : List ℕ) → fields_of m ≡ opening ++ (lists m ++ checking m)
unfolding fields_of lists
fields_are m = simp append_assoc

file_is : (m : List ℕ) → file_of m ≡ fields_of m ++ 3 ∷ hex4 (sum (body m))
unfolding file_of body fields_of
file_is m = append_assoc (fields_of m) (3 ∷ []) (hex4 (sum (body m)))

-- ---- the first four fields

field : (s : Seen) (cells : List ℕ) (at : ℕ) (p ys : List ℕ) → all not_star p ≡ true
    → walk s cells at (pieces (p ++ 42 ∷ ys)) ≡ next (judge s (past blank p) cells) (at + length (front blank p)) (λ s cells. walk s cells (at + length p + 1) (pieces ys))
field s cells at p ys h = ap (walk s cells at) (pieces_append p ys h) ∙ walk_field s cells at p ys

-- QP, QF, G and F, as they are always written
abbrev s₁ : Seen
s₁ = record { qf = false; qp = true; g = false; l = false; f = None; c = None }

abbrev s₂ : Seen
s₂ = record { qf = true; qp = true; g = false; l = false; f = None; c = None }

abbrev s₃ : Seen
s₃ = record { qf = true; qp = true; g = true; l = false; f = None; c = None }

abbrev s₄ : Seen
s₄ = record { qf = true; qp = true; g = true; l = false; f = Some 0; c = None }

four : (cells ys : List ℕ) → walk unseen cells 15 (pieces (text "\r\nQP24*\r\nQF5892*\r\nG0*\r\nF0*" ++ ys)) ≡ walk s₄ cells 41 (pieces ys)
unfolding all not_star judge judge_plain judge_q judge_qf judge_qp judge_g judge_f number_fault one past front blank digit fuse value
four cells ys =
    field unseen cells 15 (text "\r\nQP24") (text "\r\nQF5892*\r\nG0*\r\nF0*" ++ ys) refl
    ∙ field s₁ cells 22 (text "\r\nQF5892") (text "\r\nG0*\r\nF0*" ++ ys) refl
    ∙ field s₂ cells 31 (text "\r\nG0") (text "\r\nF0*" ++ ys) refl
    ∙ field s₃ cells 36 (text "\r\nF0") ys refl

-- ---- the C field, and the end of the fields

hexit_low : (d : ℕ) → d < 10 → hexit (hex_digit d) ≡ true
unfolding hexit hex_digit digit
hexit_low d h =
    let a : 48 ≤ 48 + d = omega arith in
    let b : 48 + d ≤ 57 = omega arith in
    rw (lt-ltb _ _ h, le-ltb _ _ a, le-leb _ _ b)

hexit_high : (d : ℕ) → 10 ≤ d → d < 16 → hexit (hex_digit d) ≡ true
unfolding hexit hex_digit digit
hexit_high d h k =
    let a : 48 ≤ 55 + d = omega arith in
    let b : 57 < 55 + d = omega arith in
    let c : 65 ≤ 55 + d = omega arith in
    let e : 55 + d ≤ 70 = omega arith in
    rw (le-ltb _ _ h, le-ltb _ _ a, lt-leb _ _ b, le-ltb _ _ c, le-leb _ _ e)

hexit_is : (d : ℕ) → d < 16 → hexit (hex_digit d) ≡ true
hexit_is d h = elim (dec_le 10 d) [ yes k ↦ hexit_high d k h | no k ↦ hexit_low d (omega arith) ]

hex4_front : (n : ℕ) → front hexit (hex4 n) ≡ hex4 n
unfolding front hex4
hex4_front n = rw (hexit_is (n / 4096 % 16) (omega arith), hexit_is (n / 256 % 16) (omega arith), hexit_is (n / 16 % 16) (omega arith), hexit_is (n % 16) (omega arith))

large_star : (x : ℕ) → 48 ≤ x → not_star x ≡ true
unfolding not_star
large_star x h = let k : x ≡ 42 → ⊥ = (λ e. omega arith) in rw (ne_eqb _ _ k)

hex4_star : (n : ℕ) → all not_star (hex4 n) ≡ true
unfolding all hex4
hex4_star n =
    let h = hex_digit_large in
    rw (large_star (hex_digit (n / 4096 % 16)) (h (n / 4096 % 16)), large_star (hex_digit (n / 256 % 16)) (h (n / 256 % 16)), large_star (hex_digit (n / 16 % 16)) (h (n / 16 % 16)), large_star (hex_digit (n % 16)) (h (n % 16)))

hex4_length : (n : ℕ) → length (hex4 n) ≡ 4
unfolding hex4
hex4_length n = refl

hex4_back : (n : ℕ) → hex4_of (hex4 n) ≡ n % 65536
hex4_back n = ap hex4_of (sym (append-nil (hex4 n))) ∙ hex4_of_hex4 n []

-- the sum is now seen
abbrev saw_c : Seen → ℕ → Seen
saw_c s v = record { qf = s.qf; qp = s.qp; g = s.g; l = s.l; f = s.f; c = Some v }

cjudge : (s : Seen) (cells : List ℕ) (n : ℕ) → s.c ≡ None → judge s (67 ∷ hex4 n) cells ≡ go (saw_c s (hex4_of (hex4 n))) cells
unfolding judge judge_plain judge_c
cjudge s cells n e =
    let l : length (hex4 n) ≤ length (front hexit (hex4 n)) = omega (arith, ap length (hex4_front n)) in
    rw (e, eq-eqb _ _ (hex4_length n), le-leb _ _ l)

cfield : (s : Seen) (cells : List ℕ) (at : ℕ) (m : List ℕ) → s.c ≡ None
    → walk s cells at (pieces (13 ∷ 10 ∷ checking m)) ≡ ended (saw_c s (hex4_of (hex4 (fuse_sum m)))) cells
cfield s cells at m e =
    let h : List ℕ = hex4 (fuse_sum m) in
    let p : List ℕ = 13 ∷ 10 ∷ 67 ∷ h in
    ap (λ (l : List ℕ). walk s cells at (pieces l)) (shape m)
    ∙ field s cells at p (13 ∷ 10 ∷ []) (unfold all not_star in hex4_star (fuse_sum m))
    ∙ ap (λ (x : Step). next x (at + length (front blank p)) (λ s cells. walk s cells (at + length p + 1) (pieces (13 ∷ 10 ∷ [])))) (ap (λ (l : List ℕ). judge s l cells) (skip h) ∙ cjudge s cells (fuse_sum m) e)
    ∙ last (saw_c s (hex4_of h)) cells (at + length p + 1)
  where
    shape : (m : List ℕ) → ◌≡◌ {A = List ℕ} (13 ∷ 10 ∷ checking m) ((13 ∷ 10 ∷ 67 ∷ hex4 (fuse_sum m)) ++ 42 ∷ 13 ∷ 10 ∷ [])
    shape m = unfold checking hex4 in refl

    skip : (h : List ℕ) → past blank (13 ∷ 10 ∷ 67 ∷ h) ≡ 67 ∷ h
    skip h = unfold past blank in refl

    last : (s : Seen) (cells : List ℕ) (at : ℕ) → walk s cells at (pieces (13 ∷ 10 ∷ [])) ≡ ended s cells
    last s cells at = unfold walk pieces front blank in refl

-- ---- the whole

module _ (m : List ℕ) (len : length m ≡ 5892) (isBits : bits m ≡ true) where
  B : List ℕ
  B = fields_of m

  H : List ℕ
  H = hex4 (sum (body m))

  s-is : file_of m ≡ B ++ 3 ∷ H
  unfolding B H
  s-is = file_is m

  B-is : B ≡ opening ++ (lists m ++ checking m)
  unfolding B
  B-is = fields_are m

  H-length : length H ≡ 4
  unfolding H
  H-length = hex4_length (sum (body m))

  ends : front not_end (file_of m) ≡ B
  unfolding B
  ends = ap (front not_end) s-is ∙ front_append not_end B (3 ∷ H) (fields_no_end m) ∙ stopped
    where
      stopped : B ++ front not_end (3 ∷ H) ≡ B
      stopped = unfold front not_end in append-nil B

  take-B : take (length B) (file_of m) ≡ B
  take-B = ap (take (length B)) s-is ∙ take_at B (3 ∷ H) (length B) refl

  opened-at : (ys : List ℕ) → drop 15 (opening ++ ys) ≡ text "\r\nQP24*\r\nQF5892*\r\nG0*\r\nF0*" ++ 13 ∷ 10 ∷ ys
  unfolding opening
  opened-at ys = refl

  named : (ys : List ℕ) → length (front not_star (drop 1 (opening ++ ys))) ≡ 13
  unfolding opening front not_star
  named ys = refl

  starts : (ys zs : List ℕ) → get_or ((opening ++ ys) ++ zs) 0 0 ≡ 2
  unfolding opening
  starts ys zs = refl

  -- the fields say the map
  fields-end : (w : Walks s₄ 41 m 5892 0 (lists m))
      → walk unseen unlisted 15 (pieces (drop 15 (take (length B) (file_of m)))) ≡ ended (saw_c w.seen (hex4_of (hex4 (fuse_sum m)))) w.cells
  fields-end w =
      ap (λ (l : List ℕ). walk unseen unlisted 15 (pieces (drop 15 l))) (take-B ∙ B-is)
      ∙ ap (λ (l : List ℕ). walk unseen unlisted 15 (pieces l)) (opened-at (lists m ++ checking m))
      ∙ four unlisted (13 ∷ 10 ∷ lists m ++ checking m)
      ∙ w.goes (checking m)
      ∙ cfield w.seen w.cells w.next m w.c

  heading : 13 ≡ length (front not_star (drop 1 (take (length B) (file_of m))))
  heading = sym (ap (λ (l : List ℕ). length (front not_star (drop 1 l))) (take-B ∙ B-is) ∙ named (lists m ++ checking m))

  first : get_or (file_of m) 0 0 ≡ 2
  first = ap (λ (l : List ℕ). get_or l 0 0) (s-is ∙ ap (λ (l : List ℕ). l ++ 3 ∷ H) B-is) ∙ starts (lists m ++ checking m) (3 ∷ H)

  length-B : length B ≤ 7149
  length-B = unfold B fields_of in simp length-append (omega (arith, sizes m len))

  large-B : 43 ≤ length B
  large-B = unfold B fields_of in simp length-append (omega (arith, sizes m len))

  length-s : length (file_of m) ≡ length B + 5
  length-s = ap length s-is ∙ simp length-append (omega (arith, H-length))

  tail : drop (length B + 1) (file_of m) ≡ H
  tail = ap (drop (length B + 1)) s-is ∙ drop-append-add B (3 ∷ H) 1

  after : drop (length B + 5) (file_of m) ≡ []
  after = ap (drop (length B + 5)) s-is ∙ drop-append-add B (3 ∷ H) 5 ∙ drop_of_length-le (3 ∷ H) {i = 5} (omega (arith, H-length))

  upto : take (length B + 1) (file_of m) ≡ body m
  unfolding B fields_of body
  upto = ap (take (length B + 1)) s-is ∙ take-append-add B (3 ∷ H) 1

  H-front : length (front hexit (drop (length B + 1) (file_of m))) ≡ 4
  unfolding H
  H-front = ap (λ (l : List ℕ). length (front hexit l)) tail ∙ ap length (hex4_front (sum (body m))) ∙ hex4_length (sum (body m))

  sum-equal : sum (take (length B + 1) (file_of m)) % 65536 ≡ hex4_of (drop (length B + 1) (file_of m))
  unfolding H
  sum-equal = ap (λ (l : List ℕ). sum l % 65536) upto ∙ sym (hex4_back (sum (body m))) ∙ ap hex4_of (sym tail)

  last_sum : last_sum_fits (file_of m) (length B) ≡ true
  unfolding last_sum_fits
  last_sum = rw (eq-eqb _ _ sum-equal)

  fuse-sum : fuse_sum_fits (Some (hex4_of (hex4 (fuse_sum m)))) m ≡ true
  unfolding fuse_sum_fits
  fuse-sum =
      let back : hex4_of (hex4 (fuse_sum m)) ≡ fuse_sum m % 65536 = hex4_back (fuse_sum m) in
      rw (eq-eqb _ _ (sym back))

  trip-by : (w : Walks s₄ 41 m 5892 0 (lists m)) → read_of (file_of m) ≡ gives m
  trip-by w =
      let s : List ℕ = file_of m in
      let z : ℕ = length B in
      let v : ℕ = hex4_of (hex4 (fuse_sum m)) in
      let seen : Seen = saw_c w.seen v in
      let full : filled (unwrap_or w.seen.f 2) w.cells ≡ m =
      ap (λ (f : Option ℕ). filled (unwrap_or f 2) w.cells) w.f ∙ w.holds ∙ append-nil (take 5892 m) ∙ take_all 5892 m (omega arith) in
      sym (read_open s z 13 (omega (arith, length-s, length-B)) first (sym (ap length ends)) heading)
      ∙ sym (opened_star s z 13 (omega (arith, large-B)))
      ∙ ap (closing s z) (fields-end w)
      ∙ sym (closing_ending s z seen w.cells (omega (arith, length-s)))
      ∙ sym (ending_fine s z seen w.cells (omega (arith, H-front)) (omega (arith, ap length after)))
      ∙ sym (whole_full s z seen w.cells w.qf (ap bits full ∙ isBits))
      ∙ ap (summed s z (Some v)) full
      ∙ sym (summed_fine s z (Some v) m fuse-sum last_sum)

  pub whole_trip : read_of (file_of m) ≡ gives m
  unfolding lists
  whole_trip = trip-by (walks_all s₄ refl 41 m (bits_all m isBits) len)
