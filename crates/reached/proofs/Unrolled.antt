-- Stage 4 never passes a bound: with d levels of nesting left the names take at most 640 - 5 d numbers, so a loop variable is always added; and the number behind
-- that of a round is taken only where a round is left.
-- Assumes nothing.
use mathlib.Core.Path.{◌≡◌, refl, sym, subst}
use mathlib.Core.Bool.{Bool, true, false}
use mathlib.Core.List.{List}
use Prim.Native.Nat.{ℕ, zero, suc, ◌+◌, ◌-◌, ◌*◌, ◌<◌, ◌≤◌}
use native.Mathlib.Omega.{arith}
use lib.ListN.{length}
use lib.Dec.{eqb, ltb}
use lib.IntN.{ℤ, pos, negsuc}
use borrow.Author.Tests.{ltb-true, le-leb, lt-ltb}
use Rattle.basics.specs.Choice.{pick}
use Rattle.integers.specs.Integers.{nextℤ, rounds_of}
use Rattle.names.specs.Names.{number_of}
use Rattle.grammar.specs.Outcome.{Outcome, ok, no, more, last}
use Rattle.grammar.specs.Grammar.{closed}
use Rattle.grammar.proofs.Chain.{other}
use Rattle.judging.specs.Reading.{State}
use Rattle.readers.specs.Readers.{expression_of}
use Rattle.parts.specs.Parts.{used_at, allows, one_more}
use Rattle.simple.specs.Statements.{simple_of}
use Rattle.unroll.specs.Loops.{with_loop, passed_of, Range, upper_of, lower_of, range_of, header_of, round_of, turns_of, closed_by, loop_of, for_from, again, statement_turn, statements_with, for_of, statements_of}
use Rattle.reached.proofs.Unbounded as free
use Rattle.reached.proofs.Rounds.{round_step}
use Rattle.reached.proofs.Numbers.{Bounded}
use Rattle.reached.proofs.Known.{AllFair}
use Rattle.reached.proofs.Both.{Fine, Both, fine_pick, both_pick, fine_word, fine_then, both_then, BothT, turn_pick, turn_word, turn_then, both_repeat}
use Rattle.reached.proofs.Notes.{extended_adds}
use Rattle.reached.proofs.Declared.{Read, number_read}
use Rattle.reached.proofs.Acts.{Sound, Left, simple_of_lem, sound_used}

-- the names that stand where d levels of nesting are left
pub record Names (d : ℕ) (t : List ℕ) : Type 0 where
  pub fair : AllFair t
  pub few : length t + 5 * d ≤ 640

-- ---- a loop variable

fair_loop : (t : List ℕ) (st e : ℕ) (z : ℤ) → Bounded z → AllFair t → AllFair (free.with_loop t st e z)
unfolding AllFair number_of
fair_loop t st e (pos m) h f = (record { says = λ n. h; among = λ q. absurd (omega arith) }, f)
fair_loop t st e (negsuc m) h f = (record { says = λ n. h; among = λ q. absurd (omega arith) }, f)

loop_size : (t : List ℕ) (st e : ℕ) (z : ℤ) → length (free.with_loop t st e z) ≡ length t + 5
loop_size t st e (pos m) = let q : suc (suc (suc (suc (suc (length t))))) ≡ length t + 5 = omega arith in q
loop_size t st e (negsuc m) = let q : suc (suc (suc (suc (suc (length t))))) ≡ length t + 5 = omega arith in q

loop_adds : (t : List ℕ) (st e : ℕ) (z : ℤ) → length t ≤ 635 → st ≤ 65535 → e ≤ 65535 → with_loop t st e z ≡ free.with_loop t st e z
loop_adds t st e (pos m) h a b = extended_adds t st (e - st) 3 m 0 h a (omega arith)
loop_adds t st e (negsuc m) h a b = extended_adds t st (e - st) 3 m 1 h a (omega arith)

-- the number behind a number is within bounds
bounded_next : (z : ℤ) → Bounded z → Bounded (nextℤ z)
bounded_next (pos m) h = go (ltb m 65535) refl
  where
    go : (b : Bool) → ltb m 65535 ≡ b → Bounded (pos (pick b (m + 1) m))
    go true e = let l : m < 65535 = ltb-true m 65535 e in le-leb (m + 1) 65535 (omega arith)
    go false e = h
bounded_next (negsuc m) h = go (eqb m 0)
  where
    go : (b : Bool) → Bounded (pick b (pos 0) (negsuc (m - 1)))
    go true = refl
    go false = let l : m < 65535 = ltb-true m 65535 h in lt-ltb (m - 1) 65535 (omega arith)

-- ---- what stands before a body

pub record Headed (n : ℕ) (h : Range) : Type 0 where
  pub starts : h.first < n
  pub ends : h.past ≤ n + 2
  pub lower : Bounded h.low
  pub upper : Bounded h.high

module _ (s t : List ℕ) (d : ℕ) (fair : AllFair t) where
  abbrev Heads : State → Range → State → Type 0
  Heads x h y = Headed (length s) h × (y ≡ x)

  closed-read : (k : ℕ) (z : ℤ) (at : ℕ) (x y : State) → Read x z y → Fine (Read x) (closed s k z at y)
  unfolding closed
  closed-read k z at x y r = fine_word (Read x) s at y _ (λ k' st v nx w. fine_pick (Read x) (eqb k' k) (ok z nx y) (no 2 st y) (λ b. r) (λ b. tt))

  number-from : (at : ℕ) (x y : State) → y ≡ x → Fine (Read x) (expression_of s t d 1 at y)
  number-from at x y e = subst (λ (w : State). Fine (Read w) (expression_of s t d 1 at y)) e (number_read s t d at y fair)

  upper_of_lem : (st e : ℕ) (a : ℤ) (at : ℕ) (x y : State) → st < length s → e ≤ length s + 2 → Bounded a → y ≡ x → Fine (Heads x) (upper_of s t d st e a at y)
  unfolding upper_of
  upper_of_lem st e a at x y h g w q =
      fine_then (Read x) (Heads x) (expression_of s t d 1 at y) _ (number-from at x y q) (λ b at y r.
      fine_then (Read x) (Heads x) (closed s 201 b at y) _ (closed-read 201 b at x y r) (λ b q y r.
      (record { starts = h; ends = g; lower = w; upper = r.0 }, r.1)))

  lower_of_lem : (st e at : ℕ) (x : State) → st < length s → e ≤ length s + 2 → Fine (Heads x) (lower_of s t d st e at x)
  unfolding lower_of
  lower_of_lem st e at x h g =
      fine_then (Read x) (Heads x) (expression_of s t d 1 at x) _ (number-from at x x refl) (λ a at y r.
      fine_then (Read x) (Heads x) (closed s 174 a at y) (upper_of s t d st e) (closed-read 174 a at x y r) (λ a at y r.
      upper_of_lem st e a at x y h g r.0 r.1))

  header_of_lem : (at : ℕ) (x : State) → Fine (Heads x) (header_of s t d at x)
  unfolding header_of range_of
  header_of_lem at x =
      fine_word (Heads x) s at x _ (λ k st v nx w.
      fine_pick (Heads x) (eqb k 1) (range_of s t d st nx x) (no 2 st x)
      (λ b. let i = w (other k 1 (λ z. omega arith) b) in
      fine_word (Heads x) s nx x _ (λ k q v nx' w'.
      fine_pick (Heads x) (eqb k 189) (lower_of s t d st nx nx' x) (no 2 q x) (λ b. lower_of_lem st nx nx' x i.starts i.ends) (λ b. tt)))
      (λ b. tt))

-- ---- rounds

module _ (s : List ℕ) (small : length s ≤ 32768) (d : ℕ) (t : List ℕ) (names : Names (suc d) t) (body body' : List ℕ → ℕ → State → Outcome State ℤ)
    (alike : (u : List ℕ) (q : ℕ) (y : State) → Names d u → Sound y → Both Left (body u q y) (body' u q y)) where
  module _ (p st e q r : ℕ) (h : st < length s) (g : e ≤ length s + 2) where
    round-of : (z : ℤ) (x : State) → Bounded z → Sound x → Both Left (round_of s t body p st e q z x) (free.round_of s t body' p st e q z x)
    unfolding round_of free.round_of
    round-of z x w r =
        let few = names.few in
        let size = loop_size t st e z in
        let adds : with_loop t st e z ≡ free.with_loop t st e z = loop_adds t st e z (omega arith) (omega arith) (omega arith) in
        let inner : Names d (free.with_loop t st e z) = record { fair = fair_loop t st e z w names.fair; few = omega arith } in
        let y : State = (one_more x.0 used_at 4096, x.1) in
        both_pick Left (allows x.0 used_at 4096) (body (with_loop t st e z) q y) (no 6 p x) (body' (free.with_loop t st e z) q y) (no 6 p x)
        (λ b. subst (λ (u : List ℕ). Both Left (body u q y) (body' (free.with_loop t st e z) q y)) (sym adds)
        (alike (free.with_loop t st e z) q y inner (sound_used s t d small names.fair x r))) (λ b. (refl, tt))

    turns-of : (n : ℕ) (z b : ℤ) (x : State) → Bounded b → Bounded z → rounds_of z b ≡ n → Sound x
        → Both Left (turns_of s t body p st e q r n z x) (free.turns_of s t body' p st e q r n z x)
    unfolding turns_of free.turns_of
    turns-of zero z b x w v k r' = (refl, r')
    turns-of (suc zero) z b x w v k r' =
        both_then Left Left (round_of s t body p st e q z x) (free.round_of s t body' p st e q z x) _ _ (round-of z x v r') (λ a at y r'. (refl, r'))
    turns-of (suc (suc n)) z b x w v k r' =
        let next = round_step z b n w k in
        both_then Left Left (round_of s t body p st e q z x) (free.round_of s t body' p st e q z x) _ _ (round-of z x v r') (λ a at y r'.
        subst (λ (i : ℤ). Both Left (turns_of s t body p st e q r (suc n) (nextℤ z) y) (free.turns_of s t body' p st e q r (suc n) i y)) next.0
        (turns-of (suc n) (nextℤ z) b y w (bounded_next z v) next.1 r'))

  closed-by : (p st e : ℕ) (a b : ℤ) (q : ℕ) (x : State) → st < length s → e ≤ length s + 2 → Bounded a → Bounded b → Sound x → (o : Outcome (Unit {0}) ℕ)
      → Both Left (closed_by s t body p st e a b q x o) (free.closed_by s t body' p st e a b q x o)
  closed-by p st e a b q x h g v w r (ok l n u) = turns-of p st e q n h g (rounds_of a b) a b x w v refl r
  closed-by p st e a b q x h g v w r (no n m u) = (refl, tt)

  for-from : (p at : ℕ) (x : State) → Sound x → Both Left (for_from s t body d p at x) (free.for_from s t body' d p at x)
  unfolding for_from free.for_from loop_of free.loop_of
  for-from p at x r =
      both_then (Heads s t d names.fair x) Left (header_of s t d at x) (header_of s t d at x) _ _ (refl, header_of_lem s t d names.fair at x) (λ h q y i.
      closed-by p h.first h.past h.low h.high q y i.0.starts i.0.ends i.0.lower i.0.upper (subst Sound (sym i.1) r) (passed_of s q))

-- ---- statements

module _ (s : List ℕ) (small : length s ≤ 32768) (d : ℕ) (t : List ℕ) (names : Names d t) (loops loops' : ℕ → ℕ → State → Outcome State ℤ)
    (alike : (p at : ℕ) (x : State) → Sound x → Both Left (loops p at x) (loops' p at x)) where
  again-of : (o o' : Outcome State ℤ) → Both Left o o' → BothT Left Left (again s t d loops o) (free.again s t d loops' o')
  again-of o o' h = turn_then Left Left Left o o' _ _ h (λ v e y r. (refl, r))

  statement-turn : (v : ℤ) (at : ℕ) (x : State) → Sound x → BothT Left Left (statement_turn s t d loops v at x) (free.statement_turn s t d loops' v at x)
  unfolding statement_turn free.statement_turn
  statement-turn v at x r =
      turn_word Left Left s at x _ _ (λ k st v' nx w.
      turn_pick Left Left (eqb k 1) (again s t d loops (simple_of s t d st nx x)) _ (free.again s t d loops' (free.simple_of s t d st nx x)) _
      (λ b. again-of (simple_of s t d st nx x) (free.simple_of s t d st nx x) (simple_of_lem s t d small names.fair st nx x r)) (λ b.
      turn_pick Left Left (eqb k 200) (again s t d loops (loops st nx x)) _ (free.again s t d loops' (loops' st nx x)) _
      (λ b. again-of (loops st nx x) (loops' st nx x) (alike st nx x r)) (λ b.
      turn_pick Left Left (eqb k 59) (more (pos 0) nx x) (last (ok (pos 0) at x)) (more (pos 0) nx x) (last (ok (pos 0) at x)) (λ b. (refl, r)) (λ b. (refl, r)))))

  statements-with : (at : ℕ) (x : State) → Sound x → Both Left (statements_with s t d loops at x) (free.statements_with s t d loops' at x)
  unfolding statements_with free.statements_with
  statements-with at x r = both_repeat (λ j. Left) Left (statement_turn s t d loops) (free.statement_turn s t d loops') (λ j v at x r. statement-turn v at x r) (suc (length s)) (pos 0) at x r

for_of_lem : (s : List ℕ) → length s ≤ 32768 → (d : ℕ) (t : List ℕ) (p at : ℕ) (x : State) → Names d t → Sound x → Both Left (for_of s d t p at x) (free.for_of s d t p at x)
unfolding for_of free.for_of
for_of_lem s small zero t p at x names r = (refl, tt)
for_of_lem s small (suc d) t p at x names r =
    for-from s small d t names (λ u q y. statements_with s u d (for_of s d u) q y) (λ u q y. free.statements_with s u d (free.for_of s d u) q y)
    (λ u q y n r. statements-with s small d u n (for_of s d u) (free.for_of s d u) (λ p at x r. for_of_lem s small d u p at x n r) q y r) p at x r

-- the statements of a text that is within its limit, with d levels left
pub statements_of_lem : (s : List ℕ) → length s ≤ 32768 → (d : ℕ) (t : List ℕ) (at : ℕ) (x : State) → Names d t → Sound x
    → Both Left (statements_of s d t at x) (free.statements_of s d t at x)
statements_of_lem s small d t at x names r =
    statements-with s small d t names (for_of s d t) (free.for_of s d t) (λ p at x r. for_of_lem s small d t p at x names r) at x r
