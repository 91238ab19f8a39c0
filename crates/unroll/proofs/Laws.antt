-- Statements never go back, so a run of statements is its first turn, and then the run; rounds, one by one.
-- Assumes nothing.
use mathlib.Core.Path.{◌≡◌, refl, ap, ◌∙◌}
use mathlib.Core.List.{List}
use Prim.Native.Nat.{ℕ, zero, suc, ◌+◌, ◌-◌, ◌<◌, ◌≤◌}
use native.Mathlib.Omega.{arith}
use native.Mathlib.Numerals.{sub-one}
use lib.ListN.{length}
use lib.Dec.{eqb, ltb}
use borrow.Author.Tests.{eqb-false}
use lib.IntN.{ℤ, pos}
use Rattle.basics.specs.Choice.{pick}
use Rattle.integers.specs.Integers.{nextℤ, rounds_of}
use Rattle.grammar.specs.Outcome.{Outcome, ok, no, more, last, and_then}
use Rattle.grammar.specs.Grammar.{closed}
use Rattle.grammar.specs.Modules.{repeat}
use Rattle.grammar.proofs.Chain.{Near, PastT, other}
use Rattle.grammar.proofs.Turns.{near_then, near_pick, turn_pick, near_word, turn_word, near_closed, repeat_more, repeat_last, repeat_falls, near_repeat}
use Rattle.judging.specs.Reading.{State}
use Rattle.readers.specs.Readers.{expression_of}
use Rattle.simple.specs.Statements.{simple_of}
use Rattle.simple.proofs.Laws.{near_expression, near_simple}
use Rattle.unroll.specs.Loops.{pass_turn, passed_of, upper_of, lower_of, range_of, header_of, round_of, turns_of, closed_by, loop_of, for_from, again, statement_turn, statements_with, for_of, statements_of}

-- ---- passing over a body

module _ (s : List ℕ) where
  pass-far : (l at : ℕ) (x : Unit {0}) → PastT (length s) at (pass_turn s l at x)
  unfolding pass_turn
  pass-far l at x =
      let n = length s in
      turn_word s at at x _ (omega arith) (λ k st v nx w.
      turn_pick n at (eqb k 0) (last (no 2 st x)) _ (λ b. tt) (λ b0.
      let h : (at < nx) × (at < n) = w (eqb-false k 0 b0) in
      turn_pick n at (eqb k 200) (more (pick (ltb l 200) (l + 1) l) nx x) _ (λ b. h) (λ b.
      turn_pick n at (eqb k 202) _ (more l nx x)
      (λ b. turn_pick n at (eqb l 0) (last (ok 0 nx x)) (more (l - 1) nx x) (λ b. omega arith) (λ b. h)) (λ b. h))))

  -- what is left of a body from a word on
  abbrev pub passing : ℕ → ℕ → Outcome (Unit {0}) ℕ
  passing l at = repeat (pass_turn s) (suc (length s)) l at tt

  pub pass_more : (l m at e : ℕ) → pass_turn s l at tt ≡ more m e tt → passing l at ≡ passing m e
  pass_more l m at e q = repeat_more s (pass_turn s) pass-far l m at e tt tt q

  pub pass_last : (l at : ℕ) (r : Outcome (Unit {0}) ℕ) → pass_turn s l at tt ≡ last r → passing l at ≡ r
  pass_last l at r q = repeat_last s (pass_turn s) pass-far l at tt r q

  pub pass_falls : (l m at e : ℕ) → pass_turn s l at tt ≡ more m e tt → length s - e < length s - at
  pass_falls l m at e q = repeat_falls s (pass_turn s) pass-far l m at e tt tt q

  near-passed : (from at : ℕ) → from ≤ at → Near from (passed_of s at)
  unfolding passed_of
  near-passed from at l = near_repeat s (pass_turn s) pass-far (suc (length s)) 0 from at tt l

-- ---- what stands before a body

module _ (s t : List ℕ) (d : ℕ) where
  near-upper : (st e : ℕ) (a : ℤ) (from at : ℕ) (x : State) → from ≤ at → Near from (upper_of s t d st e a at x)
  unfolding upper_of
  near-upper st e a from at x l =
      near_then from (expression_of s t d 1 at x) _ (near_expression s t d 1 from at x l) (λ b at y l.
      near_then from (closed s 201 b at y) _ (near_closed s 201 (λ z. omega arith) b from at y l) (λ b q y l. l))

  near-lower : (st e from at : ℕ) (x : State) → from ≤ at → Near from (lower_of s t d st e at x)
  unfolding lower_of
  near-lower st e from at x l =
      near_then from (expression_of s t d 1 at x) _ (near_expression s t d 1 from at x l) (λ a at y l.
      near_then from (closed s 174 a at y) _ (near_closed s 174 (λ z. omega arith) a from at y l) (λ a at y l. near-upper st e a from at y l))

  near-range : (st e from : ℕ) (x : State) → from ≤ e → Near from (range_of s t d st e x)
  unfolding range_of
  near-range st e from x l =
      near_word s from e x _ l (λ k q v nx w.
      near_pick from (eqb k 189) (lower_of s t d st e nx x) (no 2 q x)
      (λ b. let h : (from < nx) × (from < length s) = w (other k 189 (λ z. omega arith) b) in near-lower st e from nx x (omega arith)) (λ b. tt))

  near-header : (from at : ℕ) (x : State) → from ≤ at → Near from (header_of s t d at x)
  unfolding header_of
  near-header from at x l =
      near_word s from at x _ l (λ k st v nx w.
      near_pick from (eqb k 1) (range_of s t d st nx x) (no 2 st x)
      (λ b. let h : (from < nx) × (from < length s) = w (other k 1 (λ z. omega arith) b) in near-range st nx from x (omega arith)) (λ b. tt))

-- ---- rounds

module _ (s t : List ℕ) (body : List ℕ → ℕ → State → Outcome State ℤ) where
  near_on : (p st e q r n : ℕ) (z : ℤ) (from : ℕ) (o : Outcome State ℤ) → ((y : State) → Near from (turns_of s t body p st e q r n z y))
      → Near from (and_then o (λ v at y. turns_of s t body p st e q r n z y))
  near_on p st e q r n z from (ok v at y) ih = ih y
  near_on p st e q r n z from (no k w y) ih = tt

  near-turns : (p st e q r n : ℕ) (z : ℤ) (x : State) (from : ℕ) → from ≤ r → Near from (turns_of s t body p st e q r n z x)
  unfolding turns_of
  near-turns p st e q r zero z x from l = l
  near-turns p st e q r (suc n) z x from l = near_on p st e q r n (nextℤ z) from (round_of s t body p st e q z x) (λ y. near-turns p st e q r n (nextℤ z) y from l)

  near_by : (p st e : ℕ) (a b : ℤ) (q : ℕ) (x : State) (from : ℕ) (o : Outcome (Unit {0}) ℕ) → Near from o → Near from (closed_by s t body p st e a b q x o)
  near_by p st e a b q x from (ok l r u) h = near-turns p st e q r (rounds_of a b) a x from h
  near_by p st e a b q x from (no n w u) h = tt

  near-loop : (p st e : ℕ) (a b : ℤ) (q : ℕ) (x : State) (from : ℕ) → from ≤ q → Near from (loop_of s t body p st e a b q x)
  unfolding loop_of
  near-loop p st e a b q x from l = near_by p st e a b q x from (passed_of s q) (near-passed s from q l)

  near-for-from : (d p from at : ℕ) (x : State) → from ≤ at → Near from (for_from s t body d p at x)
  unfolding for_from
  near-for-from d p from at x l =
      near_then from (header_of s t d at x) _ (near-header s t d from at x l) (λ h q y l. near-loop p h.first h.past h.low h.high q y from l)

-- ---- statements

module _ (s t : List ℕ) (d : ℕ) (loops : ℕ → ℕ → State → Outcome State ℤ)
    (near-loops : (p from at : ℕ) (x : State) → from ≤ at → Near from (loops p at x)) where
  again-far : (at : ℕ) (o : Outcome State ℤ) → at < length s → Near (at + 1) o → PastT (length s) at (again s t d loops o)
  again-far at (ok v n y) r h = omega arith
  again-far at (no k p y) r h = tt

  far : (v : ℤ) (at : ℕ) (x : State) → PastT (length s) at (statement_turn s t d loops v at x)
  unfolding statement_turn
  far v at x =
      let n = length s in
      turn_word s at at x _ (omega arith) (λ k st v' nx w.
      turn_pick n at (eqb k 1) (again s t d loops (simple_of s t d st nx x)) _
      (λ b. let h : (at < nx) × (at < n) = w (other k 1 (λ z. omega arith) b) in
      again-far at (simple_of s t d st nx x) h.1 (near_simple s t d st nx at x h.0 h.1)) (λ b.
      turn_pick n at (eqb k 200) (again s t d loops (loops st nx x)) _
      (λ b. let h : (at < nx) × (at < n) = w (other k 200 (λ z. omega arith) b) in
      again-far at (loops st nx x) h.1 (near-loops st (at + 1) nx x (omega arith))) (λ b.
      turn_pick n at (eqb k 59) (more (pos 0) nx x) (last (ok (pos 0) at x))
      (λ b. w (other k 59 (λ z. omega arith) b)) (λ b. omega arith))))

  pub near_statements : (from at : ℕ) (x : State) → from ≤ at → Near from (statements_with s t d loops at x)
  unfolding statements_with
  near_statements from at x l = near_repeat s (statement_turn s t d loops) far (suc (length s)) (pos 0) from at x l

-- behind a FOR, with levels left: one fewer within it
pub for_none : (s : List ℕ) (d : ℕ) (t : List ℕ) (p at : ℕ) (x : State) → d ≡ 0 → for_of s d t p at x ≡ no 6 p x
unfolding for_of
for_none s d t p at x z = ap (λ (e : ℕ). for_of s e t p at x) z

pub for_some : (s : List ℕ) (d : ℕ) (t : List ℕ) (p at : ℕ) (x : State) → (d ≡ 0 → ⊥) → for_of s d t p at x ≡ for_from s t (statements_of s (d - 1)) (d - 1) p at x
unfolding for_of
for_some s zero t p at x nz = absurd (nz refl)
for_some s (suc d) t p at x nz = rw sub-one refl

near_for : (s : List ℕ) (d : ℕ) (t : List ℕ) (p from at : ℕ) (x : State) → from ≤ at → Near from (for_of s d t p at x)
unfolding for_of
near_for s zero t p from at x l = tt
near_for s (suc d) t p from at x l = near-for-from s t (λ u q y. statements_with s u d (for_of s d u) q y) d p from at x l

module _ (s t : List ℕ) (d : ℕ) where
  -- the statements from a turn on
  abbrev pub rest : ℕ → State → Outcome State ℤ
  rest at x = statements_of s d t at x

  -- the value that a turn hands on is not looked at
  any_value : (v w : ℤ) (n at : ℕ) (x : State) → repeat (statement_turn s t d (for_of s d t)) (suc n) v at x ≡ repeat (statement_turn s t d (for_of s d t)) (suc n) w at x
  unfolding repeat statement_turn
  any_value v w n at x = refl

  pub statements_more : (w : ℤ) (at e : ℕ) (x y : State) → statement_turn s t d (for_of s d t) (pos 0) at x ≡ more w e y → rest at x ≡ rest e y
  unfolding statements_with
  statements_more w at e x y q =
      repeat_more s (statement_turn s t d (for_of s d t)) (far s t d (for_of s d t) (near_for s d t)) (pos 0) w at e x y q ∙ any_value w (pos 0) (length s) e y

  pub statements_last : (at : ℕ) (x : State) (r : Outcome State ℤ) → statement_turn s t d (for_of s d t) (pos 0) at x ≡ last r → rest at x ≡ r
  unfolding statements_with
  statements_last at x r q = repeat_last s (statement_turn s t d (for_of s d t)) (far s t d (for_of s d t) (near_for s d t)) (pos 0) at x r q

  pub statements_falls : (w : ℤ) (at e : ℕ) (x y : State) → statement_turn s t d (for_of s d t) (pos 0) at x ≡ more w e y → length s - e < length s - at
  statements_falls w at e x y q = repeat_falls s (statement_turn s t d (for_of s d t)) (far s t d (for_of s d t) (near_for s d t)) (pos 0) w at e x y q

-- rounds, where so many are left: one, which may be refused, or none
module _ (s t : List ℕ) (body : List ℕ → ℕ → State → Outcome State ℤ) (p st e q r n : ℕ) (z : ℤ) (x : State) where
  pub turns_more : (m : ℕ) (v : ℤ) (at : ℕ) (y : State) (w : ℤ) → n ≡ suc m → ok v at y ≡ round_of s t body p st e q z x → w ≡ nextℤ z
      → turns_of s t body p st e q r m w y ≡ turns_of s t body p st e q r n z x
  unfolding turns_of
  turns_more m v at y w h o k = rw (h, k) (simp (← o))

  pub turns_halt : (k w : ℕ) (y : State) → 0 < n → no k w y ≡ round_of s t body p st e q z x → no k w y ≡ turns_of s t body p st e q r n z x
  unfolding turns_of
  turns_halt k w y h o = let some : n ≡ suc (n - 1) = omega arith in rw some (simp (← o))

  pub turns_done : n ≡ 0 → ok (pos 0) r x ≡ turns_of s t body p st e q r n z x
  unfolding turns_of
  turns_done h = rw h refl
