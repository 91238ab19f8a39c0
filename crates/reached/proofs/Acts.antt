-- Simple statements never pass a bound, and write to elements below 64 only: a count of a list's numbers is below the text's length, a count of nodes is at most
-- 2,048, an equation's nodes lie among them, and of two elements at one pin that pin's number was given twice.
-- Assumes nothing.
use mathlib.Core.Path.{◌≡◌, refl, sym, ap, subst, ◌∙◌}
use mathlib.Core.Bool.{Bool, true, false}
use mathlib.Core.List.{List, [], ◌∷◌}
use Prim.Native.Nat.{ℕ, zero, suc, ◌+◌, ◌<◌, ◌≤◌}
use native.Mathlib.Omega.{arith}
use lib.ListN.{length, get_or, set, length-set}
use lib.Seq.{get_or-set_same}
use lib.Dec.{eqb, ltb}
use lib.IntN.{ℤ, pos}
use borrow.Author.Tests.{eqb-true, ltb-true}
use Rattle.basics.specs.Choice.{pick}
use Rattle.basics.proofs.Truth.{clash}
use Rattle.words.specs.Taken.{Taken}
use Rattle.words.specs.Taken.{Word, Refused}
use Rattle.words.specs.Words.{next_word}
use Rattle.integers.specs.Integers.{nextℤ}
use Rattle.grammar.specs.Outcome.{Outcome, ok, no, built, bad, more, last, and_then}
use Rattle.grammar.specs.Grammar.{on_turn}
use Rattle.grammar.specs.Modules.{then_turn, word_turn, repeat}
use Rattle.grammar.proofs.Related.{RelO}
use Rattle.judging.specs.Judging.{Meaning, valued, signal, nothing, meaning_of}
use Rattle.judging.specs.Reading.{State, emitted}
use Rattle.readers.specs.Readers.{index_of, expression_of}
use Rattle.equations.proofs.Still.{Kept, Alike, still_expression}
use Rattle.parts.specs.Parts.{used_at, allows, one_more, assigned_in, positioned_in, miscounted_from}
use Rattle.simple.specs.Statements.{Target, element, missed, target_on, upward, target_of, assignment_of, gave_of, number_turn, numbers_of, counted_of, list_of, one_of, position_of, placed_of, behind_of, act_of, simple_of}
use Rattle.declare.specs.Declarations.{width_of}
use Rattle.reached.proofs.Unbounded as free
use Rattle.reached.proofs.Rounds.{next_up}
use Rattle.reached.proofs.Numbers.{Bounded}
use Rattle.reached.proofs.Holds.{HoldsB, Holds}
use Rattle.reached.proofs.Known.{AllFair, FairMeaning, fair_meaning, width_all, width_some, expression_keeps, index_keeps}
use Rattle.reached.proofs.Both.{Fine, Both, both_pick, both_word, ok_same, fine_then, both_then, BothT, turn_pick, turn_word, turn_then, more_same, last_same, both_repeat}
use Rattle.reached.proofs.Notes.{assigned_free}
use Rattle.reached.proofs.Nodes.{signal_same, target_same}
use Rattle.reached.proofs.Declared.{Read, number_read, with_count}
use Rattle.reached.proofs.Shared.{Pinned, set_aside, positioned_keeps, miscounted_keeps, assigned_keeps, used_keeps}
use Rattle.reached.proofs.Runs.{Runs, set_beside, positioned_runs, miscounted_runs, assigned_runs, used_runs}

-- what holds of the memory and the count of nodes while statements are carried out
pub record Sound (x : State) : Type 0 where
  pub nodes : x.1 ≤ 2048
  pub pinned : Pinned x.0
  pub runs : Runs x.0

abbrev pub Left : ℤ → State → Type 0
Left v x = Sound x

-- ---- a node more

emit : (K : State → Type 0) (c p : ℕ) (x : State) → (x.1 < 2048 → x.1 < length x.0 → K (set x.0 x.1 c, x.1 + 1)) → HoldsB K Bounded (emitted c p x)
unfolding emitted
emit K c p x h = outer (ltb x.1 2048) refl
  where
    inside : (b : Bool) → x.1 < 2048 → ltb x.1 (length x.0) ≡ b → HoldsB K Bounded (pick b (built (pos 0) (set x.0 x.1 c, x.1 + 1)) (bad 6 p x))
    inside true l e = (refl, h l (ltb-true x.1 (length x.0) e))
    inside false l e = tt

    outer : (b : Bool) → ltb x.1 2048 ≡ b
        → HoldsB K Bounded (pick b (pick (ltb x.1 (length x.0)) (built (pos 0) (set x.0 x.1 c, x.1 + 1)) (bad 6 p x)) (bad 6 p x))
    outer true e = inside (ltb x.1 (length x.0)) (ltb-true x.1 2048 e) refl
    outer false e = tt

emit_sound : (c p : ℕ) (x : State) → c ≤ 72 → Sound x → HoldsB Sound Bounded (emitted c p x)
emit_sound c p x h r =
    emit Sound c p x (λ l g.
    record {
      nodes = omega arith;
      pinned = set_aside x.0 x.1 c (λ i q e. omega arith) (λ p q e. omega arith) r.pinned;
      runs = set_beside x.0 x.1 c (λ i q e. omega arith) (λ i q e. omega arith) r.runs;
    })

holds_left : (o : Outcome State ℤ) → Holds Sound Bounded o → Fine Left o
holds_left (ok v e x) h = h.1
holds_left (no n p x) h = tt

-- ---- a target is an element below 64

abbrev Cell : State → Type 0
Cell x = (length x.0 ≡ 1) × (get_or x.0 0 0 ≤ 72)

emit_cell : (c p : ℕ) (x : State) → c ≤ 72 → Cell x → HoldsB Cell Bounded (emitted c p x)
emit_cell c p x h r =
    emit Cell c p x (λ l g.
    let z : length x.0 ≡ 1 = r.0 in
    let n : x.1 ≡ 0 = omega arith in
    let q : get_or (set x.0 0 c) 0 0 ≡ c = get_or-set_same x.0 0 c 0 (omega arith) in
    (length-set x.0 x.1 c ∙ z, subst (λ (k : ℕ). get_or (set x.0 k c) 0 0 ≤ 72) (sym n) (omega arith)))

abbrev pub Aimed : Target → Type 0
Aimed (element k at) = k < 64
Aimed (missed n p) = Unit {0}

aimed_on : (o : Outcome State ℤ) → Holds Cell Bounded o → Aimed (target_on o)
aimed_on (ok v at y) h = let c : get_or y.0 0 0 ≤ 72 = h.1.1 in omega arith
aimed_on (no n p y) h = tt

target_aimed : (s t : List ℕ) (d st e : ℕ) → AllFair t → Aimed (target_of s t d st e)
unfolding target_of
target_aimed s t d st e f = aimed_on (index_of s t d 2 st e (0 ∷ [], 0)) (index_keeps s t f Cell emit_cell d 2 st e (0 ∷ [], 0) (refl, omega arith))

width_over : (n : ℕ) → n ≤ width_of n
width_over zero = omega arith
width_over (suc n) = go (eqb (suc n) 0) refl
  where
    go : (b : Bool) → eqb (suc n) 0 ≡ b → suc n ≤ width_of (suc n)
    go true e = let q : suc n ≡ 0 = eqb-true (suc n) 0 e in omega arith
    go false e = let q : width_of (suc n) ≡ suc n = width_all (suc n) e in omega arith

-- ---- numbers of a list: v is the number of those before, i of them or more

pub record Counts (i n : ℕ) (v : ℤ) : Type 0 where
  pub many : ℕ
  pub says : v ≡ pos many
  pub over : i ≤ many
  pub under : many + n ≤ 65535

module _ (s t : List ℕ) (d : ℕ) (fair : AllFair t) where
  next-count : (i n : ℕ) (v : ℤ) → Counts i (suc n) v → nextℤ v ≡ free.behind v
  next-count i n v c =
      let u = c.under in
      ap nextℤ c.says ∙ next_up c.many (omega arith) ∙ ap free.behind (sym c.says)

  count_more : (i n : ℕ) (v : ℤ) → Counts i (suc n) v → Counts i n (nextℤ v)
  count_more i n v c =
      let u = c.under in
      let o = c.over in
      record { many = c.many + 1; says = ap nextℤ c.says ∙ next_up c.many (omega arith); over = omega arith; under = omega arith }

  count-passed : (i n : ℕ) (v : ℤ) → Counts i (suc n) v → i < upward (nextℤ v)
  count-passed i n v c =
      let o = c.over in
      let u = c.under in
      let e : nextℤ v ≡ pos (c.many + 1) = ap nextℤ c.says ∙ next_up c.many (omega arith) in
      subst (λ (w : ℤ). i < upward w) (sym e) (omega arith)

  gave-same : (g : Bool) (f : ℕ) (v z : ℤ) (y : State) → g ≡ false → gave_of s t d g f v z y ≡ y
  gave-same true f v z y e = absurd (clash e)
  gave-same false f v z y e = refl

  -- what a run of numbers from v on comes to: the state stays if they are only read
  module _ (g : Bool) (f i : ℕ) (x : State) where
    abbrev Going : ℕ → ℤ → State → Type 0
    Going n v y = Counts i n v × (g ≡ false → y ≡ x)

    abbrev Ran : ℤ → State → Type 0
    Ran v y = (i < upward v) × (g ≡ false → y ≡ x)

    number-turn : (n : ℕ) (v : ℤ) (at : ℕ) (y : State) → Going (suc n) v y → BothT (Going n) Ran (number_turn s t d g f v at y) (free.number_turn s t d g f v at y)
    unfolding number_turn free.number_turn
    number-turn n v at y r =
        turn_then (Going n) Ran (Read y) (expression_of s t d 1 at y) (expression_of s t d 1 at y) _ _ (refl, number_read s t d at y fair) (λ z e y' h.
        turn_word (Going n) Ran s e y' _ _ (λ k st v' nx w.
        turn_pick (Going n) Ran (eqb k 59) _ _ _ _
        (λ q. more_same (Going n) Ran (nextℤ v) (free.behind v) nx (gave_of s t d g f v z y') (gave_of s t d g f v z y') (next-count i n v r.0) refl
        (count_more i n v r.0, λ b. gave-same g f v z y' b ∙ h.1 ∙ r.1 b)) (λ q.
        turn_pick (Going n) Ran (eqb k 93) _ (last (no 2 st y')) _ (last (no 2 st y'))
        (λ q. last_same (Going n) Ran (ok (nextℤ v) nx (gave_of s t d g f v z y')) (ok (free.behind v) nx (gave_of s t d g f v z y'))
        (ok_same Ran (nextℤ v) (free.behind v) nx (gave_of s t d g f v z y') (gave_of s t d g f v z y') (next-count i n v r.0) refl
        (count-passed i n v r.0, λ b. gave-same g f v z y' b ∙ h.1 ∙ r.1 b))) (λ q. (refl, tt)))))

    numbers-run : (n : ℕ) (v : ℤ) (at : ℕ) → Counts i n v
        → Both Ran (repeat (number_turn s t d g f) n v at x) (repeat (free.number_turn s t d g f) n v at x)
    numbers-run n v at c = both_repeat Going Ran (number_turn s t d g f) (free.number_turn s t d g f) number-turn n v at x (c, λ b. refl)

  start : (n : ℕ) → n ≤ 65535 → Counts 0 n (pos 0)
  start n h = record { many = 0; says = refl; over = omega arith; under = omega arith }

  -- ---- the second run of a list gives its numbers to as many elements as the first run counted

  module _ (f : ℕ) where
    abbrev Until : Outcome State ℤ → Type 0
    Until (ok v e x) = f + upward v ≤ 64
    Until (no n p x) = ⊥

    below : (i : ℕ) (x : State) (o : Outcome State ℤ) → Until o → Fine (Ran false f i x) o → f + i < 64
    below i x (ok v e y) u r = let l : i < upward v = r.0 in omega arith
    below i x (no n p y) u r = absurd u

    gives : (v z : ℤ) (i : ℕ) (y : State) → v ≡ pos i → f + i < 64 → Sound y → Sound (gave_of s t d true f v z y)
    gives v z i y e h r =
        let u : f + upward v < 64 = subst (λ (w : ℤ). f + upward w < 64) (sym e) h in
        record { nodes = r.nodes; pinned = positioned_keeps y.0 (f + upward v) z u r.pinned; runs = positioned_runs y.0 (f + upward v) z u r.runs }

    abbrev first : ℕ → ℤ → ℕ → State → Outcome State ℤ
    first n v at x = repeat (number_turn s t d false f) n v at x

    abbrev again : ℕ → ℤ → ℕ → State → Outcome State ℤ
    again n v at y = repeat (number_turn s t d true f) n v at y

    module _ (n : ℕ) (v : ℤ) (i : ℕ) (is : v ≡ pos i) (few : i + suc n ≤ 65535) (room : f + i < 64)
        (ih : (at : ℕ) (x y : State) → Sound y → Until (first n (nextℤ v) at x) → Fine Left (again n (nextℤ v) at y)) where
      by_kind : (a b : Bool) (z : ℤ) (st nx : ℕ) (x y : State) → Sound y
          → Until (on_turn (pick a (more (nextℤ v) nx (gave_of s t d false f v z x)) (pick b (last (ok (nextℤ v) nx (gave_of s t d false f v z x))) (last (no 2 st x)))) (first n))
          → Fine Left (on_turn (pick a (more (nextℤ v) nx (gave_of s t d true f v z y)) (pick b (last (ok (nextℤ v) nx (gave_of s t d true f v z y))) (last (no 2 st y)))) (again n))
      by_kind true b z st nx x y r u = ih nx (gave_of s t d false f v z x) (gave_of s t d true f v z y) (gives v z i y is room r) u
      by_kind false true z st nx x y r u = gives v z i y is room r
      by_kind false false z st nx x y r u = tt

      by_word : (w : Taken) (z : ℤ) (x y : State) → Sound y
          → Until (on_turn (word_turn x w (λ k st v' nx. pick (eqb k 59) (more (nextℤ v) nx (gave_of s t d false f v z x)) (pick (eqb k 93) (last (ok (nextℤ v) nx (gave_of s t d false f v z x))) (last (no 2 st x))))) (first n))
          → Fine Left (on_turn (word_turn y w (λ k st v' nx. pick (eqb k 59) (more (nextℤ v) nx (gave_of s t d true f v z y)) (pick (eqb k 93) (last (ok (nextℤ v) nx (gave_of s t d true f v z y))) (last (no 2 st y))))) (again n))
      by_word (Word k st v' c) z x y r u = by_kind (eqb k 59) (eqb k 93) z st c.at x y r u
      by_word (Refused m p) z x y r u = tt

      by_number : (x₀ y₀ : State) (o o' : Outcome State ℤ) → RelO (Kept s t x₀ y₀) (Alike s t x₀ y₀) o o' → Sound y₀
          → Until (on_turn (then_turn o (λ z e y. word_turn y (next_word s e) (λ k st v' nx. pick (eqb k 59) (more (nextℤ v) nx (gave_of s t d false f v z y)) (pick (eqb k 93) (last (ok (nextℤ v) nx (gave_of s t d false f v z y))) (last (no 2 st y)))))) (first n))
          → Fine Left (on_turn (then_turn o' (λ z e y. word_turn y (next_word s e) (λ k st v' nx. pick (eqb k 59) (more (nextℤ v) nx (gave_of s t d true f v z y)) (pick (eqb k 93) (last (ok (nextℤ v) nx (gave_of s t d true f v z y))) (last (no 2 st y)))))) (again n))
      by_number x₀ y₀ (ok z e x) (ok z' e' y) a r u =
          let sound : Sound y = subst Sound (sym a.2.1) r in
          subst (λ (j : ℕ). Fine Left (on_turn (word_turn y (next_word s j) (λ k st v' nx. pick (eqb k 59) (more (nextℤ v) nx (gave_of s t d true f v z' y)) (pick (eqb k 93) (last (ok (nextℤ v) nx (gave_of s t d true f v z' y))) (last (no 2 st y))))) (again n)))
          a.1
          (subst (λ (q : ℤ). Fine Left (on_turn (word_turn y (next_word s e) (λ k st v' nx. pick (eqb k 59) (more (nextℤ v) nx (gave_of s t d true f v q y)) (pick (eqb k 93) (last (ok (nextℤ v) nx (gave_of s t d true f v q y))) (last (no 2 st y))))) (again n)))
          a.0 (by_word (next_word s e) z x y sound u))
      by_number x₀ y₀ (ok z e x) (no m p y) a r u = tt
      by_number x₀ y₀ (no m p x) (ok z e y) a r u = absurd a
      by_number x₀ y₀ (no m p x) (no m' q y) a r u = tt

    gives_all : (n : ℕ) (v : ℤ) (i : ℕ) → v ≡ pos i → i + n ≤ 65535 → (at : ℕ) (x y : State) → Sound y → Until (first n v at x) → Fine Left (again n v at y)
    unfolding repeat number_turn
    gives_all zero v i e few at x y r u = tt
    gives_all (suc n) v i e few at x y r u =
        let c : Counts i (suc n) v = record { many = i; says = e; over = omega arith; under = few } in
        let room : f + i < 64 = below i x (first (suc n) v at x) u (numbers-run false f i x (suc n) v at c).1 in
        by_number n v i e few room (λ at x y r u. gives_all n (nextℤ v) (i + 1) (ap nextℤ e ∙ next_up i (omega arith)) (omega arith) at x y r u) x y
        (expression_of s t d 1 at x) (expression_of s t d 1 at y) (still_expression s t x y d 1 at refl) r u

-- ---- statements

module _ (s t : List ℕ) (d : ℕ) (small : length s ≤ 32768) (fair : AllFair t) where
  assignment-of : (k at : ℕ) (x : State) → k < 64 → Sound x → Both Left (assignment_of s t d k at x) (free.assignment_of s t d k at x)
  unfolding assignment_of free.assignment_of
  assignment-of k at x h r =
      let size = r.pinned.size in
      both_then Left Left (expression_of s t d 2 at x) (free.signal_of s t d at x) _ _
      (signal_same s t d at x (omega arith), holds_left (expression_of s t d 2 at x) (expression_keeps s t fair Sound emit_sound d 2 at x r)) (λ v e y q.
      let a : x.1 ≤ 2048 = r.nodes in
      let b : y.1 ≤ 2048 = q.nodes in
      let l : assigned_in y.0 k x.1 y.1 ≡ free.assigned_in y.0 k x.1 y.1 = assigned_free y.0 k x.1 y.1 (omega arith) (omega arith) in
      ok_same Left (pos 0) (pos 0) e (with_count (assigned_in y.0 k x.1 y.1) y.1) (with_count (free.assigned_in y.0 k x.1 y.1) y.1) refl
      (ap (λ (m : List ℕ). with_count m y.1) l)
      (record {
        nodes = b;
        pinned = subst Pinned (sym l) (assigned_keeps y.0 k x.1 y.1 h q.pinned);
        runs = subst Runs (sym l) (assigned_runs y.0 k x.1 y.1 h a b q.runs);
      }))

  counted_of_lem : (f n at : ℕ) (x : State) → f + width_of n ≤ 64 → Sound x → (o : Outcome State ℤ) → numbers_of s t d false f at x ≡ o
      → Fine (Ran s t d fair false f 0 x) o → Both Left (and_then o (counted_of s t d f n at)) (and_then o (free.counted_of s t d f n at))
  unfolding numbers_of free.numbers_of
  counted_of_lem f n at x h r (ok m e y) q u =
      let same : y ≡ x = u.1 refl in
      let sound : Sound y = subst Sound (sym same) r in
      both_pick Left (eqb (upward m) n) (numbers_of s t d true f at y) _ (free.numbers_of s t d true f at y) _
      (λ b.
      let c : Counts 0 (suc (length s)) (pos 0) = start s t d fair (suc (length s)) (omega arith) in
      let over : n ≤ width_of n = width_over n in
      let is : upward m ≡ n = eqb-true (upward m) n b in
      let until : Until s t d fair f (ok m e y) = omega arith in (
        (numbers-run s t d fair true f 0 y (suc (length s)) (pos 0) at c).0,
        gives_all s t d fair f (suc (length s)) (pos 0) 0 refl (omega arith) at x y sound (subst (λ (o : Outcome State ℤ). Until s t d fair f o) (sym q) until),
      ))
      (λ b. (refl, record { nodes = sound.nodes; pinned = miscounted_keeps (width_of n) y.0 f h sound.pinned; runs = miscounted_runs (width_of n) y.0 f h sound.runs }))
  counted_of_lem f n at x h r (no m p y) q u = (refl, tt)

  list-of : (f n at : ℕ) (x : State) → f + width_of n ≤ 64 → Sound x → Both Left (list_of s t d f n at x) (free.list_of s t d f n at x)
  unfolding list_of free.list_of numbers_of free.numbers_of
  list-of f n at x h r =
      let c : Counts 0 (suc (length s)) (pos 0) = start s t d fair (suc (length s)) (omega arith) in
      let run = numbers-run s t d fair false f 0 x (suc (length s)) (pos 0) at c in
      subst (λ (o : Outcome State ℤ). Both Left (and_then (numbers_of s t d false f at x) (counted_of s t d f n at)) (and_then o (free.counted_of s t d f n at))) run.0
      (counted_of_lem f n at x h r (numbers_of s t d false f at x) refl run.1)

  one-of : (f n at : ℕ) (x : State) → f + width_of n ≤ 64 → Sound x → Fine Left (one_of s t d f n at x)
  unfolding one_of
  one-of f n at x h r =
      fine_then (Read x) Left (expression_of s t d 1 at x) _ (number_read s t d at x fair) (λ z e y q.
      let sound : Sound y = subst Sound (sym q.1) r in
      let some : 1 ≤ width_of n = width_some n in
      let over : n ≤ width_of n = width_over n in
      record {
        nodes = sound.nodes;
        pinned = go Pinned (eqb n 0) y z (positioned_keeps y.0 f z (omega arith) sound.pinned) (miscounted_keeps n y.0 f (omega arith) sound.pinned);
        runs = go Runs (eqb n 0) y z (positioned_runs y.0 f z (omega arith) sound.runs) (miscounted_runs n y.0 f (omega arith) sound.runs);
      })
    where
      go : (P : List ℕ → Type 0) (b : Bool) (y : State) (z : ℤ) → P (positioned_in y.0 f z) → P (miscounted_from y.0 f n)
          → P (pick b (positioned_in y.0 f z) (miscounted_from y.0 f n))
      go P true y z p q = p
      go P false y z p q = q

  position-of : (f n at : ℕ) (x : State) → f + width_of n ≤ 64 → Sound x → Both Left (position_of s t d f n at x) (free.position_of s t d f n at x)
  unfolding position_of free.position_of
  position-of f n at x h r =
      both_word Left s at x _ _ (λ k q v nx w.
      both_pick Left (eqb k 91) (list_of s t d f n nx x) (one_of s t d f n at x) (free.list_of s t d f n nx x) (one_of s t d f n at x)
      (λ b. list-of f n nx x h r) (λ b. (refl, one-of f n at x h r)))

  placed-of : (st at : ℕ) (x : State) (m : Meaning) → FairMeaning m → Sound x → Both Left (placed_of s t d st at x m) (free.placed_of s t d st at x m)
  placed-of st at x nothing h r = (refl, tt)
  placed-of st at x (valued z) h r = (refl, tt)
  placed-of st at x (signal f n) h r = position-of f n at x h r

  behind-of : (x : State) (a : Target) → Aimed a → Sound x → Both Left (behind_of s t d x a) (free.behind_of s t d x a)
  behind-of x (missed n p) h r = (refl, tt)
  behind-of x (element k at) h r =
      both_word Left s at x _ _ (λ w p v nx g.
      both_pick Left (eqb w 189) (assignment_of s t d k nx x) _ (free.assignment_of s t d k nx x) _ (λ b. assignment-of k nx x h r) (λ b.
      both_pick Left (eqb w 186) (position_of s t d k 0 nx x) (no 2 p x) (free.position_of s t d k 0 nx x) (no 2 p x)
      (λ b. position-of k 0 nx x (let q : k + 1 ≤ 64 = omega arith in q) r) (λ b. (refl, tt))))

  act-of : (st e : ℕ) (x : State) → Sound x → Both Left (act_of s t d st e x) (free.act_of s t d st e x)
  unfolding act_of free.act_of
  act-of st e x r =
      both_word Left s e x _ _ (λ k p v nx w.
      both_pick Left (eqb k 186) (placed_of s t d st nx x (meaning_of s t st e)) (behind_of s t d x (target_of s t d st e))
      (free.placed_of s t d st nx x (meaning_of s t st e)) (free.behind_of s t d x (free.target_of s t d st e))
      (λ b. placed-of st nx x (meaning_of s t st e) (fair_meaning s t st e fair) r)
      (λ b. subst (λ (a : Target). Both Left (behind_of s t d x (target_of s t d st e)) (free.behind_of s t d x a)) (target_same s t d st e)
      (behind-of x (target_of s t d st e) (target_aimed s t d st e fair) r)))

  -- a statement or a round is counted
  pub sound_used : (x : State) → Sound x → Sound (one_more x.0 used_at 4096, x.1)
  sound_used x r = record { nodes = r.nodes; pinned = used_keeps x.0 r.pinned; runs = used_runs x.0 r.runs }

  pub simple_of_lem : (st e : ℕ) (x : State) → Sound x → Both Left (simple_of s t d st e x) (free.simple_of s t d st e x)
  unfolding simple_of free.simple_of
  simple_of_lem st e x r =
      both_pick Left (allows x.0 used_at 4096) (act_of s t d st e (one_more x.0 used_at 4096, x.1)) (no 6 st x)
      (free.act_of s t d st e (one_more x.0 used_at 4096, x.1)) (no 6 st x)
      (λ b. act-of st e (one_more x.0 used_at 4096, x.1) (sound_used x r)) (λ b. (refl, tt))
