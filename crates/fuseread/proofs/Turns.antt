-- The fields by the front before the first `*`, and one turn of the loop over them. Assumes nothing.
use mathlib.Core.Path.{◌≡◌, refl, sym, ap, subst, ◌∙◌}
use mathlib.Core.List.{List, [], ◌∷◌}
use mathlib.Core.Bool.{Bool, true, false, not}
use Prim.Native.Nat.{ℕ, suc, ◌+◌, ◌-◌, ◌≤◌, ◌<◌}
use native.Mathlib.Omega.{arith}
use lib.ListN.{length, take, drop, length-drop}
use lib.Seq.{take_all, drop-drop}
use lib.Dec.{eqb}
use borrow.Author.Tests.{le-leb, lt-leb}
use Rattle.basics.specs.Choice.{pick}
use Rattle.fusefields.specs.Bytes.{not_star, blank, front, past}
use Rattle.fusefields.specs.Fields.{only, Step, stop, go, judge}
use Rattle.fusefields.specs.declared.Seen.{Seen}
use Rattle.fusefields.proofs.Fronts.{front_length, part_front, part_past}
use Rattle.fuseread.specs.Walk.{glue, pieces, ended, fault, open_at, next, walk}

-- ---- the pieces, by the front before the first `*`

glue_cons : (x : ℕ) (q : List ℕ) (qs : List (List ℕ)) → glue x (q ∷ qs) ≡ (x ∷ q) ∷ qs
glue_cons x q qs = refl

-- no `*`: one piece
pub pieces_last : (xs : List ℕ) → length xs ≤ length (front not_star xs) → pieces xs ≡ xs ∷ []
unfolding pieces front not_star
pieces_last [] h = refl
pieces_last (x ∷ xs) h = step (eqb x 42) h (pieces_last xs)
  where
    step : (b : Bool) → suc (length xs) ≤ length (pick (not b) (x ∷ front not_star xs) []) → (length xs ≤ length (front not_star xs) → pieces xs ≡ xs ∷ [])
        → pick b ([] ∷ pieces xs) (glue x (pieces xs)) ≡ (x ∷ xs) ∷ []
    step true h ih = absurd (omega arith)
    step false h ih = ap (glue x) (ih (omega arith))

-- a `*`: the front is a piece
pub pieces_star : (xs : List ℕ) → length (front not_star xs) < length xs → pieces xs ≡ front not_star xs ∷ pieces (drop (suc (length (front not_star xs))) xs)
unfolding pieces front not_star
pieces_star [] h = absurd (omega arith)
pieces_star (x ∷ xs) h = step (eqb x 42) h (pieces_star xs)
  where
    step : (b : Bool) → length (pick (not b) (x ∷ front not_star xs) []) < suc (length xs)
        → (length (front not_star xs) < length xs → pieces xs ≡ front not_star xs ∷ pieces (drop (suc (length (front not_star xs))) xs))
        → pick b ([] ∷ pieces xs) (glue x (pieces xs)) ≡ pick (not b) (x ∷ front not_star xs) [] ∷ pieces (drop (length (pick (not b) (x ∷ front not_star xs) [])) xs)
    step true h ih = refl
    step false h ih = ap (glue x) (ih (omega arith))

-- a piece with another behind it is a field
pub walk_field : (s : Seen) (cells : List ℕ) (at : ℕ) (p xs : List ℕ)
    → walk s cells at (p ∷ pieces xs) ≡ next (judge s (past blank p) cells) (at + length (front blank p)) (λ s cells. walk s cells (at + length p + 1) (pieces xs))
unfolding walk pieces
walk_field s cells at p [] = refl
walk_field s cells at p (x ∷ xs) = step (eqb x 42) (pieces xs)
  where
    step : (b : Bool) (qs : List (List ℕ)) → walk s cells at (p ∷ pick b ([] ∷ qs) (glue x qs)) ≡ next (judge s (past blank p) cells) (at + length (front blank p)) (λ s cells. walk s cells (at + length p + 1) (pick b ([] ∷ qs) (glue x qs)))
    step true qs = refl
    step false [] = refl
    step false (q ∷ qs) = refl

-- ---- one turn of the loop over the fields

module _ (s : Seen) (cells : List ℕ) (at : ℕ) (xs : List ℕ) where
  turn_last : length xs ≤ length (front not_star xs) → walk s cells at (pieces xs) ≡ pick (only blank xs) (ended s cells) (open_at (at + length (front blank xs)))
  unfolding walk
  turn_last h = rw (pieces_last xs h)

  turn-field : length (front not_star xs) < length xs
      → walk s cells at (pieces xs)
      ≡ next (judge s (past blank (front not_star xs)) cells) (at + length (front blank (front not_star xs)))
      (λ s cells. walk s cells (at + length (front not_star xs) + 1) (pieces (drop (suc (length (front not_star xs))) xs)))
  turn-field h = rw (pieces_star xs h) (walk_field s cells at (front not_star xs) (drop (suc (length (front not_star xs))) xs))

-- The same in the code's terms: text from `at` on is `&text[at..]`, of which n bytes come before a `*`, b of them blanks.
module _ (s : Seen) (cells text : List ℕ) (at n b : ℕ) (inside : at ≤ length text) where
  -- `&text[at..]`, and `&rest[..n]`
  abbrev pub rest : List ℕ
  rest = take (length text - at) (drop at text)

  abbrev pub piece : List ℕ
  piece = take n rest

  rest-is : rest ≡ drop at text
  rest-is = take_all (length text - at) (drop at text) (simp length-drop (omega arith))

  pub length_rest : length rest ≡ length text - at
  length_rest = ap length rest-is ∙ length-drop at text

  module _ (en : n ≡ length (front not_star rest)) (eb : b ≡ length (front blank piece)) where
    piece_is : piece ≡ front not_star rest
    piece_is = part_front not_star rest n en

    pub turn_ended : length rest ≤ n → n ≤ b → walk s cells at (pieces (drop at text)) ≡ ended s cells
    turn_ended h k =
        let w : piece ≡ rest = take_all n rest h in
        let l : length rest ≤ length (front blank rest) = subst (λ (p : List ℕ). length rest ≤ length (front blank p)) w (omega arith) in
        ap (λ (l : List ℕ). walk s cells at (pieces l)) (sym rest-is) ∙ turn_last s cells at rest (omega arith) ∙ rw (le-leb _ _ l)

    pub turn_open : length rest ≤ n → b < n → walk s cells at (pieces (drop at text)) ≡ open_at (at + b)
    turn_open h k =
        let w : piece ≡ rest = take_all n rest h in
        let e : b ≡ length (front blank rest) = eb ∙ ap (λ (p : List ℕ). length (front blank p)) w in
        let f : length (front not_star rest) ≤ length rest = front_length not_star rest in
        let l : length (front blank rest) < length rest = omega arith in
        ap (λ (l : List ℕ). walk s cells at (pieces l)) (sym rest-is) ∙ turn_last s cells at rest (omega arith) ∙ rw (lt-leb _ _ l, e)

    pub turn_judge : n < length rest
        → walk s cells at (pieces (drop at text))
        ≡ next (judge s (take (length piece - b) (drop b piece)) cells) (at + b) (λ s cells. walk s cells (at + n + 1) (pieces (drop (at + n + 1) text)))
    turn_judge h =
        let e₁ : past blank (front not_star rest) ≡ take (length piece - b) (drop b piece) =
        ap (past blank) (sym piece_is) ∙ sym (part_past blank piece b eb) in
        let e₂ : length (front blank (front not_star rest)) ≡ b = ap (λ (p : List ℕ). length (front blank p)) (sym piece_is) ∙ sym eb in
        let e₃ : length (front not_star rest) ≡ n = sym en in
        let d : at + suc (length (front not_star rest)) ≡ at + n + 1 = omega arith in
        let e₄ : drop (suc (length (front not_star rest))) rest ≡ drop (at + n + 1) text =
        ap (drop (suc (length (front not_star rest)))) rest-is
        ∙ drop-drop (suc (length (front not_star rest))) at text
        ∙ ap (λ (k : ℕ). drop k text) d in
        ap (λ (l : List ℕ). walk s cells at (pieces l)) (sym rest-is)
        ∙ turn-field s cells at rest (omega arith)
        ∙ (λ i. next (judge s (e₁ i) cells) (at + e₂ i) (λ s cells. walk s cells (at + e₃ i + 1) (pieces (e₄ i))))

    pub turn_good : n < length rest → (t : Seen) (after : List ℕ) → go t after ≡ judge s (take (length piece - b) (drop b piece)) cells
        → walk t after (at + n + 1) (pieces (drop (at + n + 1) text)) ≡ walk s cells at (pieces (drop at text))
    turn_good h t after j =
        sym (turn_judge h ∙ ap (λ (x : Step). next x (at + b) (λ s cells. walk s cells (at + n + 1) (pieces (drop (at + n + 1) text)))) (sym j))

    pub turn_bad : n < length rest → (k : ℕ) → stop k ≡ judge s (take (length piece - b) (drop b piece)) cells → fault k (at + b) ≡ walk s cells at (pieces (drop at text))
    turn_bad h k j =
        sym (turn_judge h ∙ ap (λ (x : Step). next x (at + b) (λ s cells. walk s cells (at + n + 1) (pieces (drop (at + n + 1) text)))) (sym j))
