-- Simple statements go forward, so the numbers of a list are its first turn and then the rest of it.
-- Assumes nothing.
use mathlib.Core.Path.{◌≡◌}
use mathlib.Core.Bool.{Bool, true, false}
use mathlib.Core.List.{List, [], ◌∷◌}
use Prim.Native.Nat.{ℕ, suc, ◌+◌, ◌-◌, ◌<◌, ◌≤◌}
use native.Mathlib.Omega.{arith}
use lib.ListN.{length}
use lib.Dec.{eqb}
use lib.IntN.{ℤ, pos}
use Rattle.basics.specs.Choice.{pick}
use Rattle.integers.specs.Integers.{nextℤ}
use Rattle.grammar.specs.Outcome.{Outcome, ok, no, more, last}
use Rattle.grammar.specs.Modules.{repeat}
use Rattle.grammar.proofs.Chain.{Past, Near, PastT, other, past_expression, past_nested, past_named}
use Rattle.grammar.proofs.Turns.{past_near, near_from, near_then, near_pick, turn_then, turn_pick, near_word, turn_word, repeat_more, repeat_last, repeat_falls, near_repeat}
use Rattle.judging.specs.Judging.{Meaning, valued, signal, nothing, meaning_of}
use Rattle.judging.specs.Reading.{State, reads}
use Rattle.readers.specs.Readers.{inner_of, index_of, expression_of}
use Rattle.parts.specs.Parts.{used_at, allows, one_more, miscounted_from}
use Rattle.simple.specs.Statements.{Target, element, missed, target_on, upward, target_of, assignment_of, gave_of, number_turn, numbers_of, list_of, one_of, position_of, placed_of, behind_of, act_of, simple_of}

module _ (s t : List ℕ) (d : ℕ) where
  pub near_expression : (o from at : ℕ) (x : State) → from ≤ at → Near from (expression_of s t d o at x)
  near_expression o from at x l =
      near_from from at (expression_of s t d o at x) l
      (past_near (length s) at (expression_of s t d o at x) (past_expression (reads s t) s (inner_of s t d) (past_nested (reads s t) s d) o at x))

  near-assignment : (k from at : ℕ) (x : State) → from ≤ at → Near from (assignment_of s t d k at x)
  unfolding assignment_of
  near-assignment k from at x l = near_then from (expression_of s t d 2 at x) _ (near_expression 2 from at x l) (λ v e y h. h)

  far : (g : Bool) (f : ℕ) (v : ℤ) (at : ℕ) (x : State) → PastT (length s) at (number_turn s t d g f v at x)
  unfolding number_turn
  far g f v at x =
      let n = length s in
      turn_then n at (expression_of s t d 1 at x) _ (near_expression 1 at at x (omega arith)) (λ z e y l.
      turn_word s at e y _ l (λ k st v' nx w.
      turn_pick n at (eqb k 59) (more (nextℤ v) nx (gave_of s t d g f v z y)) _ (λ b. w (other k 59 (λ q. omega arith) b)) (λ b.
      turn_pick n at (eqb k 93) (last (ok (nextℤ v) nx (gave_of s t d g f v z y))) (last (no 2 st y))
      (λ b. let h : (at < nx) × (at < n) = w (other k 93 (λ q. omega arith) b) in omega arith) (λ b. tt))))

  -- the numbers from a turn on
  abbrev pub rest : Bool → ℕ → ℤ → ℕ → State → Outcome State ℤ
  rest g f v at x = repeat (number_turn s t d g f) (suc (length s)) v at x

  pub numbers_more : (g : Bool) (f : ℕ) (v w : ℤ) (at e : ℕ) (x y : State) → number_turn s t d g f v at x ≡ more w e y → rest g f v at x ≡ rest g f w e y
  numbers_more g f = repeat_more s (number_turn s t d g f) (far g f)

  pub numbers_last : (g : Bool) (f : ℕ) (v : ℤ) (at : ℕ) (x : State) (r : Outcome State ℤ) → number_turn s t d g f v at x ≡ last r → rest g f v at x ≡ r
  numbers_last g f = repeat_last s (number_turn s t d g f) (far g f)

  pub numbers_falls : (g : Bool) (f : ℕ) (v w : ℤ) (at e : ℕ) (x y : State) → number_turn s t d g f v at x ≡ more w e y → length s - e < length s - at
  numbers_falls g f = repeat_falls s (number_turn s t d g f) (far g f)

  near-numbers : (g : Bool) (f from at : ℕ) (x : State) → from ≤ at → Near from (numbers_of s t d g f at x)
  unfolding numbers_of
  near-numbers g f from at x l = near_repeat s (number_turn s t d g f) (far g f) (suc (length s)) (pos 0) from at x l

  near-list : (f n from at : ℕ) (x : State) → from ≤ at → Near from (list_of s t d f n at x)
  unfolding list_of
  near-list f n from at x l =
      near_then from (numbers_of s t d false f at x) _ (near-numbers false f from at x l) (λ m e y h.
      near_pick from (eqb (upward m) n) (numbers_of s t d true f at y) (ok (pos 0) e (miscounted_from y.0 f (pick (eqb n 0) 1 n), y.1))
      (λ b. near-numbers true f from at y l) (λ b. h))

  near-one : (f n from at : ℕ) (x : State) → from ≤ at → Near from (one_of s t d f n at x)
  unfolding one_of
  near-one f n from at x l = near_then from (expression_of s t d 1 at x) _ (near_expression 1 from at x l) (λ z e y h. h)

  near-position : (f n from at : ℕ) (x : State) → from ≤ at → Near from (position_of s t d f n at x)
  unfolding position_of
  near-position f n from at x l =
      near_word s from at x _ l (λ k q v nx w.
      near_pick from (eqb k 91) (list_of s t d f n nx x) (one_of s t d f n at x)
      (λ b. let h : (from < nx) × (from < length s) = w (other k 91 (λ z. omega arith) b) in near-list f n from nx x (omega arith))
      (λ b. near-one f n from at x l))

  near-placed : (st from at : ℕ) (x : State) (m : Meaning) → from ≤ at → Near from (placed_of s t d st at x m)
  near-placed st from at x nothing l = tt
  near-placed st from at x (valued z) l = tt
  near-placed st from at x (signal f n) l = near-position f n from at x l

  abbrev NearT : ℕ → Target → Type 0
  NearT from (element k at) = from ≤ at
  NearT from (missed n p) = Unit {0}

  near-behind : (from : ℕ) (x : State) (a : Target) → NearT from a → Near from (behind_of s t d x a)
  near-behind from x (missed n p) l = tt
  near-behind from x (element k at) l =
      near_word s from at x _ l (λ w p v nx f.
      near_pick from (eqb w 189) (assignment_of s t d k nx x) _
      (λ b. let h : (from < nx) × (from < length s) = f (other w 189 (λ z. omega arith) b) in near-assignment k from nx x (omega arith))
      (λ b. near_pick from (eqb w 186) (position_of s t d k 0 nx x) (no 2 p x)
      (λ b. let h : (from < nx) × (from < length s) = f (other w 186 (λ z. omega arith) b) in near-position k 0 from nx x (omega arith)) (λ b. tt)))

  near_on : (from : ℕ) (o : Outcome State ℤ) → Past (length s) from o → NearT (from + 1) (target_on o)
  near_on from (ok v at y) p = omega arith
  near_on from (no n q y) p = tt

  near-act : (st e from : ℕ) (x : State) → from < e → from < length s → Near (from + 1) (act_of s t d st e x)
  unfolding act_of target_of
  near-act st e from x l r =
      near_word s (from + 1) e x _ (omega arith) (λ k p v nx w.
      near_pick (from + 1) (eqb k 186) (placed_of s t d st nx x (meaning_of s t st e)) _
      (λ b. let h : (from + 1 < nx) × (from + 1 < length s) = w (other k 186 (λ z. omega arith) b) in near-placed st (from + 1) nx x (meaning_of s t st e) (omega arith))
      (λ b. near-behind (from + 1) x (target_of s t d st e)
      (near_on from (index_of s t d 2 st e (0 ∷ [], 0)) (past_named (reads s t) s (inner_of s t d) (past_nested (reads s t) s d) 2 st e from (0 ∷ [], 0) l r))))

  -- a statement whose name ends past a place ends past it
  pub near_simple : (st e from : ℕ) (x : State) → from < e → from < length s → Near (from + 1) (simple_of s t d st e x)
  unfolding simple_of
  near_simple st e from x l r =
      near_pick (from + 1) (allows x.0 used_at 4096) (act_of s t d st e (one_more x.0 used_at 4096, x.1)) (no 6 st x)
      (λ b. near-act st e from (one_more x.0 used_at 4096, x.1) l r) (λ b. tt)
