-- The numbers of refusals of stage 2.
-- Assumes nothing.
use mathlib.Core.Bool.{Bool, false}
use mathlib.Core.List.{List}
use Prim.Native.Nat.{ℕ, zero, suc, ◌-◌, ◌≤◌}
use native.Mathlib.Omega.{arith}
use lib.ListN.{length}
use lib.Dec.{eqb}
use Rattle.names.specs.Names.{spelling, same}
use Rattle.grammar.specs.Outcome.{Outcome, ok, no, more, last, levels}
use Rattle.grammar.specs.Grammar.{closed, part, named, expression, nested}
use Rattle.grammar.specs.Trees.{checks}
use Rattle.grammar.specs.Modules.{must, up_to, given, number_turn, numbers, positioned, aimed, simple, statement, statement_turn, statements, looped, ranged, for_from, for_of, sequence, constant_turn, another_name, name_turn, name_list, arrayed, typed, type_of, list_turn, constants, lists, out_and_var, declarations, begun, headed, same_name, ended, headless, whole_text}
use Rattle.grammar.specs.Forms.{blank, checked_text}
use Rattle.grammar.proofs.Chain.{Near, past_nested}
use Rattle.grammar.proofs.Turns.{past_number, past_statement, near_for_of, past_constant, past_name, past_list}
use Rattle.reached.proofs.Told.{two, Told, ToldT, told_pick, turn_pick, told_word, turn_word, told_closed, told_repeat, told_then, turn_then, far_falls, told_part, told_named, told_expression, told_nested}

abbrev One : Type 0
One = Unit {0}

module _ (s : List ℕ) where
  inner-told : (d : ℕ) (m : Bool) (o p at : ℕ) (x : One) → Told (nested checks s d m o p at x)
  inner-told d m o p at x =
      told_nested checks (λ o p v x. tt) (λ o p v x. tt) (λ o st e x. tt) (λ o st e p x. tt) (λ o st e p c i x. tt) (λ o p i x. tt) (λ o k p v w x. tt) (λ o p u v w x. tt)
      (λ o p i x. tt) (λ o p v w x. tt) s d m o p at x

  expression-told : (d o at : ℕ) (x : One) → Told (expression checks s (nested checks s d) o at x)
  expression-told d o at x =
      told_expression checks (λ o p v x. tt) (λ o p v x. tt) (λ o st e x. tt) (λ o st e p x. tt) (λ o st e p c i x. tt) (λ o p i x. tt) (λ o k p v w x. tt) (λ o p u v w x. tt)
      (λ o p i x. tt) (λ o p v w x. tt) s (nested checks s d) (past_nested checks s d) (inner-told d) o at x

  named-told : (d o st e : ℕ) (x : One) → Told (named checks s (nested checks s d) o st e x)
  named-told d o st e x =
      told_named checks (λ o p v x. tt) (λ o p v x. tt) (λ o st e x. tt) (λ o st e p x. tt) (λ o st e p c i x. tt) (λ o p i x. tt) (λ o k p v w x. tt) (λ o p u v w x. tt)
      (λ o p i x. tt) (λ o p v w x. tt) s (nested checks s d) (past_nested checks s d) (inner-told d) o st e x

  part-told : (d o p k at : ℕ) (x : One) → Told (part checks s (nested checks s d) o p k at x)
  part-told d o p k at x =
      told_part checks (λ o p v x. tt) (λ o p v x. tt) (λ o st e x. tt) (λ o st e p x. tt) (λ o st e p c i x. tt) (λ o p i x. tt) (λ o k p v w x. tt) (λ o p u v w x. tt)
      (λ o p i x. tt) (λ o p v w x. tt) s (nested checks s d) (past_nested checks s d) (inner-told d) o p k at x

  up-told : (o d k at : ℕ) (x : One) → Told (up_to checks blank s o d k at x)
  unfolding up_to
  up-told o d k at x = told_then (expression checks s (nested checks s d) o at x) (closed s k) (expression-told d o at x) (λ v e x. told_closed s k v e x)

  given-told : (o d k at : ℕ) (x : One) → Told (given checks blank s o d k at x)
  unfolding given
  given-told o d k at x = told_then (must s 189 at x) _ (told_closed s 189 tt at x) (λ u e x. up-told o d k e x)

  number-told : (d q : ℕ) (l : One) (at : ℕ) (x : One) → ToldT (number_turn checks blank s d q l at x)
  unfolding number_turn
  number-told d q l at x =
      turn_then (nested checks s d false 0 q at x) _ (inner-told d false 0 q at x) (λ v e x.
      turn_word s e x _ (λ k st v' nx.
      turn_pick (eqb k 59) (more tt nx x) _ tt (turn_pick (eqb k 93) (last (ok tt nx x)) (last (no 2 st x)) tt two)))

  numbers-told : (d q at : ℕ) (x : One) → Told (numbers checks blank s d q at x)
  unfolding numbers
  numbers-told d q at x =
      told_repeat s (number_turn checks blank s d q) (number-told d q)
      (λ v w at e x y h. far_falls (length s) at (number_turn checks blank s d q v at x) w e y (past_number checks blank s d q v at x) h) tt at x

  positioned-told : (d p : ℕ) (v : One) (at : ℕ) (x : One) → Told (positioned checks blank s d p v at x)
  unfolding positioned
  positioned-told d p v at x =
      told_word s at x _ (λ k q v' nx.
      told_pick (eqb k 91) _ _ (told_then (numbers checks blank s d q nx x) _ (numbers-told d q nx x) (λ l e x. tt))
      (told_then (expression checks s (nested checks s d) 0 at x) _ (expression-told d 0 at x) (λ w e x. tt)))

  aimed-told : (d p : ℕ) (v : One) (at : ℕ) (x : One) → Told (aimed checks blank s d p v at x)
  unfolding aimed
  aimed-told d p v at x =
      told_word s at x _ (λ k q v' nx.
      told_pick (eqb k 189) _ _ (told_then (expression checks s (nested checks s d) 0 nx x) _ (expression-told d 0 nx x) (λ w e x. tt))
      (told_pick (eqb k 186) (positioned checks blank s d p v nx x) (no 2 q x) (positioned-told d p v nx x) two))

  simple-told : (d st e : ℕ) (x : One) → Told (simple checks blank s d st e x)
  unfolding simple
  simple-told d st e x = told_then (named checks s (nested checks s d) 0 st e x) (aimed checks blank s d st) (named-told d 0 st e x) (λ v at x. aimed-told d st v at x)

  module _ (d : ℕ) (loops : ℕ → ℕ → One → Outcome One One) (far : (p from at : ℕ) (x : One) → from ≤ at → Near from (loops p at x)) (told : (p at : ℕ) (x : One) → Told (loops p at x)) where
    statement-told : (v : One) (at : ℕ) (x : One) → ToldT (statement_turn checks blank s d loops v at x)
    unfolding statement_turn statement
    statement-told v at x =
        turn_then (statement checks blank s d loops at x) _
        (told_word s at x _ (λ k st v nx.
        told_pick (eqb k 1) (simple checks blank s d st nx x) _ (simple-told d st nx x) (told_pick (eqb k 200) (loops st nx x) (ok tt at x) (told st nx x) tt))) (λ t e x.
        turn_word s e x _ (λ k st v' nx. turn_pick (eqb k 59) (more tt nx x) (last (ok tt e x)) tt tt))

    statements-told : (at : ℕ) (x : One) → Told (statements checks blank s d loops at x)
    unfolding statements
    statements-told at x =
        told_repeat s (statement_turn checks blank s d loops) statement-told
        (λ v w at e x y h. far_falls (length s) at (statement_turn checks blank s d loops v at x) w e y (past_statement checks blank s d loops far v at x) h) tt at x

  for-told : (d p at : ℕ) (x : One) → Told (for_of checks blank s d p at x)
  unfolding for_of for_from ranged looped
  for-told zero p at x = (omega arith, omega arith)
  for-told (suc d) p at x =
      told_word s at x _ (λ k st v nx.
      told_pick (eqb k 1) (ranged checks blank s d (statements checks blank s d (for_of checks blank s d)) p st nx x) (no 2 st x)
      (told_then (given checks blank s 0 d 174 nx x) _ (given-told 0 d 174 nx x) (λ a at x.
      told_then (up_to checks blank s 0 d 201 at x) _ (up-told 0 d 201 at x) (λ b at x.
      told_then (statements checks blank s d (for_of checks blank s d) at x) _ (statements-told d (for_of checks blank s d) (near_for_of checks blank s d) (λ p at x. for-told d p at x) at x) (λ t n x.
      told_closed s 202 tt n x)))) two)

  constant-told : (v : One) (at : ℕ) (x : One) → ToldT (constant_turn checks blank s v at x)
  unfolding constant_turn
  constant-told v at x =
      turn_word s at x _ (λ k st v' nx.
      turn_pick (eqb k 1) _ (last (ok v at x)) (turn_then (given checks blank s 0 levels 59 nx x) _ (given-told 0 levels 59 nx x) (λ w e x. tt)) tt)

  name-told : (n : One) (at : ℕ) (x : One) → ToldT (name_turn checks blank s n at x)
  unfolding name_turn another_name
  name-told n at x =
      turn_word s at x _ (λ k st v nx.
      turn_pick (eqb k 44) (another_name checks blank s n nx x) (last (ok n at x))
      (turn_word s nx x _ (λ k st v nx. turn_pick (eqb k 1) (more tt nx x) (last (no 2 st x)) tt two)) tt)

  names-told : (st e : ℕ) (x : One) → Told (name_list checks blank s st e x)
  unfolding name_list
  names-told st e x =
      told_repeat s (name_turn checks blank s) name-told
      (λ v w at e x y h. far_falls (length s) at (name_turn checks blank s v at x) w e y (past_name checks blank s v at x) h) tt e x

  type-told : (at : ℕ) (x : One) → Told (type_of checks blank s at x)
  unfolding type_of typed arrayed
  type-told at x =
      told_then (must s 58 at x) _ (told_closed s 58 tt at x) (λ u at x.
      told_then (typed checks blank s at x) (closed s 59)
      (told_word s at x _ (λ k p v nx.
      told_pick (eqb k 213) (ok tt nx x) _ tt
      (told_pick (eqb k 91) (arrayed checks blank s p nx x) (no 2 p x)
      (told_then (part checks s (nested checks s levels) 0 p 93 nx x) _ (part-told levels 0 p 93 nx x) (λ v e x. told_closed s 213 tt e x)) two)))
      (λ y e x. told_closed s 59 y e x))

  list-told : (c : ℕ) (v : One) (at : ℕ) (x : One) → ToldT (list_turn checks blank s c v at x)
  unfolding list_turn
  list-told c v at x =
      turn_word s at x _ (λ k st v' nx.
      turn_pick (eqb k 1) _ (last (ok v at x))
      (turn_then (name_list checks blank s st nx x) _ (names-told st nx x) (λ n e x. turn_then (type_of checks blank s e x) _ (type-told e x) (λ y e x. tt))) tt)

  lists-told : (c : ℕ) (v : One) (at : ℕ) (x : One) → Told (lists checks blank s c v at x)
  unfolding lists
  lists-told c v at x =
      told_word s at x _ (λ k st v' nx.
      told_pick (eqb k c) _ (ok v at x)
      (told_repeat s (list_turn checks blank s c) (list-told c)
      (λ v w at e x y h. far_falls (length s) at (list_turn checks blank s c v at x) w e y (past_list checks blank s c v at x) h) v nx x) tt)

  declarations-told : (at : ℕ) (x : One) → Told (declarations checks blank s at x)
  unfolding declarations constants out_and_var
  declarations-told at x =
      told_then (constants checks blank s tt at x) _
      (told_word s at x _ (λ k st v' nx.
      told_pick (eqb k 208) _ (ok tt at x)
      (told_repeat s (constant_turn checks blank s) constant-told
      (λ v w at e x y h. far_falls (length s) at (constant_turn checks blank s v at x) w e y (past_constant checks blank s v at x) h) tt nx x) tt)) (λ v at x.
      told_then (lists checks blank s 209 v at x) (out_and_var checks blank s) (lists-told 209 v at x) (λ v at x.
      told_then (lists checks blank s 210 v at x) (lists checks blank s 211) (lists-told 210 v at x) (λ v at x. lists-told 211 v at x)))

  begun-told : (at : ℕ) (x : One) → Told (begun checks blank s at x)
  unfolding begun
  begun-told at x =
      told_word s at x _ (λ k st v nx.
      told_pick (eqb k 212) _ (ok (at, tt) at x)
      (told_then (sequence checks blank s levels nx x) _
      (statements-told levels (for_of checks blank s levels) (near_for_of checks blank s levels) (λ p at x. for-told levels p at x) nx x) (λ t e x. tt)) tt)

  ended-told : (st e at : ℕ) (x : One) → Told (ended checks blank s st e at x)
  unfolding ended same_name
  ended-told st e at x =
      told_then (must s 202 at x) _ (told_closed s 202 tt at x) (λ u at x.
      told_then (same_name checks blank s st e at x) _
      (told_word s at x _ (λ k p v nx.
      told_pick (eqb k 1) _ (no 2 p x) (told_pick (same (spelling s st (e - st)) (spelling s p (nx - p))) (ok tt nx x) (no 2 p x) tt two) two)) (λ u at x.
      told_then (must s 46 at x) _ (told_closed s 46 tt at x) (λ u at x. told_closed s 0 tt at x)))

  -- words and grammar, large literals and nesting
  pub checked_told : Told (checked_text s)
  unfolding whole_text headed headless
  checked_told =
      told_then (headed checks blank s 0 tt) _
      (told_then (must s 207 0 tt) _ (told_closed s 207 tt 0 tt) (λ u at x.
      told_word s at x _ (λ k st v nx. told_pick (eqb k 1) (closed s 59 (st, nx) nx x) (no 2 st x) (told_closed s 59 (st, nx) nx x) two))) (λ n at x.
      told_then (declarations checks blank s at x) _ (declarations-told at x) (λ v b x.
      told_then (begun checks blank s b x) _ (begun-told b x) (λ t m x.
      told_then (ended checks blank s n.0 n.1 m x) _ (ended-told n.0 n.1 m x) (λ u m x. tt))))
