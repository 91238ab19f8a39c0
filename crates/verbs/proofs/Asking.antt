-- The lines that are asked of the model, one after the other. Assumes nothing.
use mathlib.Core.Path.{◌≡◌, refl, sym, ap, ◌∙◌}
use mathlib.Core.Bool.{Bool, true, false}
use mathlib.Core.List.{List, [], ◌∷◌, ◌++◌, append_assoc}
use Prim.Native.Nat.{ℕ, suc, ◌+◌, ◌*◌, ◌-◌, ◌≤◌, ◌<◌}
use native.Mathlib.Omega.{arith}
use lib.ListN.{length, take, drop, get_or, length-append, length-drop, length-take, drop_of_length-le}
use lib.Seq.{length-take-le, take-suc, get_or-drop, take_at, drop-append-add, drop-drop}
use lib.Dec.{ltb}
use borrow.Author.Tests.{eq-eqb, ne_eqb, le-ltb, lt-ltb}
use Rattle.basics.specs.Choice.{pick}
use Rattle.basics.proofs.Lists.{drop_next}
use Rattle.fusetext.specs.Put.{Wrote}
use Rattle.fusetext.proofs.Puts.{then, wrote_nothing, wrote_as, length_wrote}
use Rattle.gallines.specs.Lines.{formed, answer_to, contents, map_of}
use Rattle.gallines.proofs.Writing.{formed_size}
use Rattle.gallines.proofs.Answering.{answer_size}
use Rattle.verbs.specs.Printed.{bare, answers_from, line_end, map_length, model_answer, map_taken}

-- ---- how long answers are

five_more : (m line : List ℕ) → length (answer_to m line) ≤ 5 * length line + 5
five_more m line = go (formed line) refl (answer_size m line)
  where
    go : (b : Bool) → formed line ≡ b → length (answer_to m line) ≤ pick b 61 5 → length (answer_to m line) ≤ 5 * length line + 5
    go true e h = let l = formed_size line e in omega arith
    go false e h = omega arith

five_each : (m line : List ℕ) → 1 ≤ length line → length (answer_to m line) ≤ 5 * length line
five_each m line k = go (formed line) refl (answer_size m line)
  where
    go : (b : Bool) → formed line ≡ b → length (answer_to m line) ≤ pick b 61 5 → length (answer_to m line) ≤ 5 * length line
    go true e h = let l = formed_size line e in omega arith
    go false e h = omega arith

take_short : (n : ℕ) (l : List ℕ) → length (take n l) ≤ length l
take_short n l = let e = length-take n l in omega arith

pub last_none : (m line : List ℕ) → length line ≡ 0 → answers_from m line [] ≡ []
unfolding answers_from
last_none m line e = simp (eq-eqb _ _ e)

pub last_some : (m line : List ℕ) → (length line ≡ 0 → ⊥) → answers_from m line [] ≡ answer_to m line
unfolding answers_from
last_some m line e = simp (ne_eqb _ _ e)

last_size : (m line : List ℕ) → length (answers_from m line []) ≤ 5 * length line
last_size m [] = let e = ap length (last_none m [] refl) in omega arith
last_size m (x ∷ line) =
    let q : length (x ∷ line) ≡ 0 → ⊥ = (λ d. omega arith) in
    let e = ap length (last_some m (x ∷ line) q) in
    let f = five_each m (x ∷ line) (omega arith) in
    omega arith

-- ---- a line that is read byte after byte: bytes start to i of s, as `&s[start..i]`

abbrev pub part : ℕ → ℕ → List ℕ → List ℕ
part start i s = take (i - start) (drop start s)

part_more : (s : List ℕ) (start i : ℕ) → start ≤ i → i < length s → part start i s ++ (get_or s i 0 ∷ []) ≡ part start (i + 1) s
part_more s start i h k =
    let l : length (drop start s) ≡ length s - start = length-drop start s in
    let e : suc (i - start) ≡ i + 1 - start = omega arith in
    let g : start + (i - start) ≡ i = omega arith in
    ap (λ (x : ℕ). part start i s ++ (x ∷ [])) (ap (λ (j : ℕ). get_or s j 0) (sym g) ∙ sym (get_or-drop start s (i - start) 0))
    ∙ sym (take-suc (drop start s) (i - start) 0 (omega arith))
    ∙ ap (λ (j : ℕ). take j (drop start s)) e

part_none : (s : List ℕ) (i : ℕ) → part i i s ≡ []
part_none s i = let e : i - i ≡ 0 = omega arith in ap (λ (j : ℕ). take j (drop i s)) e

part_size : (s : List ℕ) (start i : ℕ) → start ≤ i → i ≤ length s → length (part start i s) ≡ i - start
part_size s start i h k = let l = length-drop start s in length-take-le (i - start) (drop start s) (omega arith)

-- Lines before `start` are answered, in the first o bytes of out, and bytes start to i are of a line that has begun.
pub record Upto (m s out₀ out : List ℕ) (start i o : ℕ) : Type 0 where
  pub done : List ℕ
  pub wrote : Wrote out₀ 0 done out o
  pub whole : done ++ answers_from m (part start i s) (drop i s) ≡ answers_from m [] s
  pub under : i ≤ length s
  pub behind : start ≤ i
  pub few : o ≤ 5 * start

pub upto_start : (m s out : List ℕ) → Upto m s out out 0 0 0
upto_start m s out = record { done = []; wrote = wrote_nothing out 0 (omega arith); whole = refl; under = omega arith; behind = omega arith; few = omega arith }

module _ (m s out₀ out : List ℕ) (start i o : ℕ) (u : Upto m s out₀ out start i o) where
  -- a byte that is not LF
  pub upto_byte : i < length s → (get_or s i 0 ≡ 10 → ⊥) → Upto m s out₀ out start (i + 1) o
  unfolding answers_from
  upto_byte h q =
      let b = u.behind in
      let e : answers_from m (part start i s) (drop i s) ≡ answers_from m (part start (i + 1) s) (drop (i + 1) s) =
      ap (answers_from m (part start i s)) (drop_next s i h)
      ∙ ap (λ (t : Bool). pick t (answer_to m (bare (part start i s)) ++ answers_from m [] (drop (i + 1) s)) (answers_from m (part start i s ++ (get_or s i 0 ∷ [])) (drop (i + 1) s))) (ne_eqb _ _ q)
      ∙ ap (λ (l : List ℕ). answers_from m l (drop (i + 1) s)) (part_more s start i b h) in
      record { done = u.done; wrote = u.wrote; whole = ap (λ (l : List ℕ). u.done ++ l) (sym e) ∙ u.whole; under = omega arith; behind = omega arith; few = u.few }

  -- there is room for the answer to the line
  pub line_room : i < length s → 5 * length s ≤ length out₀ → o + length (answer_to m (bare (part start i s))) ≤ length out
  line_room h r =
      let b = u.behind in
      let f = u.few in
      let z = length_wrote u.wrote in
      let a = five_more m (bare (part start i s)) in
      let c = take_short (contents (part start i s)) (part start i s) in
      let d = part_size s start i b u.under in
      omega arith

  -- LF
  pub upto_line : (after : List ℕ) (next : ℕ) → i < length s → get_or s i 0 ≡ 10 → Wrote out o (answer_to m (bare (part start i s))) after next → Upto m s out₀ after (i + 1) (i + 1) next
  unfolding answers_from
  upto_line after next h q w =
      let b = u.behind in
      let f = u.few in
      let a = five_more m (bare (part start i s)) in
      let c = take_short (contents (part start i s)) (part start i s) in
      let d = part_size s start i b u.under in
      let n = w.ends in
      let t : List ℕ = answer_to m (bare (part start i s)) in
      let e : answers_from m (part start i s) (drop i s) ≡ t ++ answers_from m (part (i + 1) (i + 1) s) (drop (i + 1) s) =
      ap (answers_from m (part start i s)) (drop_next s i h)
      ∙ ap (λ (b : Bool). pick b (t ++ answers_from m [] (drop (i + 1) s)) (answers_from m (part start i s ++ (get_or s i 0 ∷ [])) (drop (i + 1) s))) (eq-eqb _ _ q)
      ∙ ap (λ (l : List ℕ). t ++ answers_from m l (drop (i + 1) s)) (sym (part_none s (i + 1))) in
      record {
        done = u.done ++ t;
        wrote = then u.wrote w;
        whole = append_assoc u.done t (answers_from m (part (i + 1) (i + 1) s) (drop (i + 1) s)) ∙ ap (λ (l : List ℕ). u.done ++ l) (sym e) ∙ u.whole;
        under = omega arith;
        behind = omega arith;
        few = omega arith;
      }

  -- at the end, what stands behind the last LF
  pub last_room : 5 * length s ≤ length out₀ → o + length (answers_from m (part start (length s) s) []) ≤ length out
  last_room r =
      let b = u.behind in
      let k = u.under in
      let f = u.few in
      let z = length_wrote u.wrote in
      let a = last_size m (part start (length s) s) in
      let d = part_size s start (length s) (omega arith) (omega arith) in
      omega arith

  pub upto_end : (after : List ℕ) (next : ℕ) → length s ≤ i → Wrote out o (answers_from m (part start (length s) s) []) after next → Wrote out₀ 0 (answers_from m [] s) after next
  upto_end after next h w =
      let k = u.under in
      let e : length s ≡ i = omega arith in
      wrote_as (then u.wrote w)
      (ap (λ (l : List ℕ). u.done ++ answers_from m (part start (length s) s) l) (sym (drop_of_length-le s {i = i} h))
      ∙ ap (λ (j : ℕ). u.done ++ answers_from m (part start j s) (drop i s)) e
      ∙ u.whole)

-- ---- the first LF

pub end_here : (s : List ℕ) (i : ℕ) → i < length s → get_or s i 0 ≡ 10 → line_end (drop i s) ≡ 0
unfolding line_end
end_here s i h e = ap line_end (drop_next s i h) ∙ ap (λ (b : Bool). pick b 0 (suc (line_end (drop (i + 1) s)))) (eq-eqb _ _ e)

pub end_next : (s : List ℕ) (i : ℕ) → i < length s → (get_or s i 0 ≡ 10 → ⊥) → line_end (drop i s) ≡ suc (line_end (drop (i + 1) s))
unfolding line_end
end_next s i h e = ap line_end (drop_next s i h) ∙ ap (λ (b : Bool). pick b 0 (suc (line_end (drop (i + 1) s)))) (ne_eqb _ _ e)

pub end_none : (s : List ℕ) (i : ℕ) → length s ≤ i → line_end (drop i s) ≡ 0
unfolding line_end
end_none s i h = ap line_end (drop_of_length-le s {i = i} h)

-- ---- the whole input

module _ (input : List ℕ) (h : ℕ) (e : h ≡ line_end input) where
  none : length input ≤ h → ltb (line_end input) (length input) ≡ false
  none k = let q : length input ≤ line_end input = omega arith in le-ltb _ _ q

  some : h < length input → ltb (line_end input) (length input) ≡ true
  some k = let q : line_end input < length input = omega arith in lt-ltb _ _ q

  pub model_none : (out : List ℕ) → length input ≤ h → Wrote out 0 (model_answer input) out 0 × (input ≡ map_taken input)
  unfolding model_answer map_taken
  model_none out k =
      (wrote_as (wrote_nothing out 0 (omega arith)) (rw (none k)), rw (none k))

  module _ (k : ℕ) (ek : k ≡ contents (take h input)) (lk : k ≤ length (take h input)) where
    length-of : k ≡ map_length input
    unfolding map_length
    length-of = ek ∙ ap (λ (n : ℕ). contents (take n input)) e

    pub in_room : k ≤ length input
    in_room = let t = take_short h input in omega arith

    pub in_front : k ≤ h
    in_front = let t = length-take h input in omega arith

    -- the input with the map's fuses at its front
    module _ (xs : List ℕ) (ex : xs ≡ map_of (take k input)) (lx : length xs ≡ length (take k input)) where
      size : length xs ≡ k
      size = lx ∙ length-take-le k input in_room

      pub taken_length : length (xs ++ drop k input) ≡ length input
      taken_length = let a = length-append xs (drop k input) in let b = length-drop k input in let c = size in let d = in_room in omega arith

      front_is : take k (xs ++ drop k input) ≡ map_of (take k input)
      front_is = take_at xs (drop k input) k size ∙ ex

      rest-is : drop (h + 1) (xs ++ drop k input) ≡ drop (h + 1) input
      rest-is =
          let f = in_front in
          let c = size in
          let a : h + 1 ≡ length xs + (h + 1 - k) = omega arith in
          let b : k + (h + 1 - k) ≡ h + 1 = omega arith in
          ap (λ (j : ℕ). drop j (xs ++ drop k input)) a ∙ drop-append-add xs (drop k input) (h + 1 - k) ∙ drop-drop (h + 1 - k) k input ∙ ap (λ (j : ℕ). drop j input) b

      pub model_some : (out after : List ℕ) (n : ℕ) → h < length input
          → Wrote out 0 (answers_from (take k (xs ++ drop k input)) [] (drop (h + 1) (xs ++ drop k input))) after n
          → Wrote out 0 (model_answer input) after n × (xs ++ drop k input ≡ map_taken input)
      unfolding model_answer map_taken
      model_some out after n l w = (
        wrote_as w
            ((λ i. answers_from (front_is i) [] (rest-is i))
            ∙ (λ i. answers_from (map_of (take (length-of i) input)) [] (drop (e i + 1) input))
            ∙ sym (rw (some l))),
        ap (λ (l : List ℕ). l ++ drop k input) ex ∙ (λ i. map_of (take (length-of i) input) ++ drop (length-of i) input) ∙ sym (rw (some l)),
      )
