-- A walk along a list goes forward, so it is its first word and then the rest of it.
-- Assumes nothing.
use mathlib.Core.Path.{◌≡◌, refl, sym, ap, subst}
use mathlib.Core.Bool.{true, false}
use mathlib.Core.List.{List}
use Prim.Native.Nat.{ℕ, suc, ◌-◌, ◌<◌, ◌≤◌}
use native.Mathlib.Omega.{arith}
use lib.ListN.{length}
use lib.Dec.{eqb, leb}
use borrow.Author.Tests.{eqb-false, le-leb, lt-leb}
use denote.Enum.Bare.{sameb, same_true, same_false}
use Rattle.words.specs.contracts.Kind.{the_type}
use Rattle.words.specs.Kinds.{code}
use Rattle.words.specs.declared.Kind.{Kind}
use Rattle.words.specs.declared.Kind.TheVariants.{TextEnd}
use Rattle.words.proofs.Codes.{code_other}
use Rattle.words.specs.declared.Cursor.{Cursor}
use Rattle.words.specs.Taken.{Word, Refused}
use Rattle.words.specs.Words.{next_word}
use Rattle.words.proofs.Forward.{Forward, next_forward}
use Rattle.names.specs.Names.{looked_up, spelling, same}
use Rattle.grammar.specs.Outcome.{Outcome, ok, no, more, last}
use Rattle.grammar.specs.Modules.{repeat}
use Rattle.grammar.proofs.Chain.{Near, PastT, other}
use Rattle.grammar.proofs.Turns.{turn_pick, turn_word, repeat_more, repeat_last, repeat_falls, near_repeat}
use Rattle.lists.specs.Lists.{is_known, back_turn, back_of, is_back, fresh_name, fresh_turn, fresh_of}

-- whether a word is the text's end
pub is_end : (k : Kind) → sameb the_type k TextEnd ≡ true → eqb (code k) 0 ≡ true
is_end k e = ap (λ (k : Kind). eqb (code k) 0) (same_true the_type tt k TextEnd e)

pub no_end : (k : Kind) → sameb the_type k TextEnd ≡ false → eqb (code k) 0 ≡ false
no_end k e = code_other k TextEnd (same_false the_type k TextEnd e)

module _ (s : List ℕ) (st e : ℕ) where
  back-far : (v at : ℕ) (x : Unit {0}) → PastT (length s) at (back_turn s st e v at x)
  unfolding back_turn
  back-far v at x =
      let n = length s in
      turn_word s at at x _ (omega arith) (λ k q v' nx w.
      turn_pick n at (eqb k 0) (last (no 2 q x)) _ (λ b. tt) (λ b0.
      let h : (at < nx) × (at < n) = w (eqb-false k 0 b0) in
      turn_pick n at (leb st q) (last (ok 0 nx x)) _ (λ b. omega arith) (λ b.
      turn_pick n at (same (spelling s q (nx - q)) (spelling s st (e - st))) (last (ok 1 nx x)) (more 0 nx x) (λ c. omega arith) (λ c. h))))

  -- the words from a place on
  abbrev pub back : ℕ → Outcome (Unit {0}) ℕ
  back at = repeat (back_turn s st e) (suc (length s)) 0 at tt

  pub back_more : (at n : ℕ) → back_turn s st e 0 at tt ≡ more 0 n tt → back at ≡ back n
  back_more at n q = repeat_more s (back_turn s st e) back-far 0 0 at n tt tt q

  pub back_last : (at : ℕ) (r : Outcome (Unit {0}) ℕ) → back_turn s st e 0 at tt ≡ last r → back at ≡ r
  back_last at r q = repeat_last s (back_turn s st e) back-far 0 at tt r q

  -- by the next word: the walk stops where no word is before the name, and finds the name where the word has its spelling
  module _ (at k q v : ℕ) (c : Cursor) (w : Word k q v c ≡ next_word s at) where
    pub back_ended : eqb k 0 ≡ true → is_back (back at) ≡ false
    back_ended x = ap is_back (back_last at (no 2 q tt) (unfold back_turn in rw (← w, x) refl))

    pub back_ahead : eqb k 0 ≡ false → st ≤ q → is_back (back at) ≡ false
    back_ahead x y = ap is_back (back_last at (ok 0 c.at tt) (unfold back_turn in rw (← w, x, le-leb _ _ y) refl))

    pub back_found : eqb k 0 ≡ false → q < st → same (spelling s q (c.at - q)) (spelling s st (e - st)) ≡ true → is_back (back at) ≡ true
    back_found x y z = ap is_back (back_last at (ok 1 c.at tt) (unfold back_turn in rw (← w, x, lt-leb _ _ y, z) refl))

    pub back_past : eqb k 0 ≡ false → q < st → same (spelling s q (c.at - q)) (spelling s st (e - st)) ≡ false → is_back (back at) ≡ is_back (back c.at)
    back_past x y z = ap is_back (back_more at c.at (unfold back_turn in rw (← w, x, lt-leb _ _ y, z) refl))

    pub word_falls : eqb k 0 ≡ false → length s - c.at < length s - at
    word_falls x =
        let f : Forward (length s) at (Word k q v c) = subst (Forward (length s) at) (sym w) (next_forward s at) in
        let h : (at < c.at) × (at < length s) = f (eqb-false k 0 x) in
        omega arith

  pub back_none : (at n p : ℕ) → Refused n p ≡ next_word s at → is_back (back at) ≡ false
  back_none at n p w = ap is_back (back_last at (no n p tt) (unfold back_turn in rw (← w) refl))

module _ (s t : List ℕ) (first : ℕ) where
  name-far : (at st nx : ℕ) → at < nx → at < length s → PastT (length s) at (fresh_name s t first st nx)
  unfolding fresh_name
  name-far at st nx l r =
      let n = length s in
      turn_pick n at (is_known (looked_up s t st (nx - st))) (last (no 4 st (tt {0}))) _ (λ b. tt) (λ b.
      turn_pick n at (is_back (back_of s first st nx)) (last (no 4 st (tt {0}))) (more 0 nx (tt {0})) (λ b. tt) (λ b. (l, r)))

  fresh-far : (v at : ℕ) (x : Unit {0}) → PastT (length s) at (fresh_turn s t first v at x)
  unfolding fresh_turn
  fresh-far v at x =
      let n = length s in
      turn_word s at at x _ (omega arith) (λ k st v' nx w.
      turn_pick n at (eqb k 1) (fresh_name s t first st nx) _
      (λ b. let h : (at < nx) × (at < n) = w (other k 1 (λ z. omega arith) b) in name-far at st nx h.0 h.1) (λ b.
      turn_pick n at (eqb k 44) (more 0 nx (tt {0})) _ (λ b. w (other k 44 (λ z. omega arith) b)) (λ b.
      turn_pick n at (eqb k 58) (last (ok 0 nx (tt {0}))) (last (no 2 st (tt {0})))
      (λ b. let h : (at < nx) × (at < n) = w (other k 58 (λ z. omega arith) b) in omega arith) (λ b. tt))))

  -- the names from a place on
  abbrev pub rest : ℕ → Outcome (Unit {0}) ℕ
  rest at = repeat (fresh_turn s t first) (suc (length s)) 0 at tt

  pub fresh_more : (at n : ℕ) → fresh_turn s t first 0 at tt ≡ more 0 n tt → rest at ≡ rest n
  fresh_more at n q = repeat_more s (fresh_turn s t first) fresh-far 0 0 at n tt tt q

  pub fresh_last : (at : ℕ) (r : Outcome (Unit {0}) ℕ) → fresh_turn s t first 0 at tt ≡ last r → rest at ≡ r
  fresh_last at r q = repeat_last s (fresh_turn s t first) fresh-far 0 at tt r q

  pub fresh_falls : (at n : ℕ) → fresh_turn s t first 0 at tt ≡ more 0 n tt → length s - n < length s - at
  fresh_falls at n q = repeat_falls s (fresh_turn s t first) fresh-far 0 0 at n tt tt q

  pub near_fresh : (from : ℕ) → from ≤ first → Near from (fresh_of s t first)
  unfolding fresh_of
  near_fresh from l = near_repeat s (fresh_turn s t first) fresh-far (suc (length s)) 0 from first tt l
