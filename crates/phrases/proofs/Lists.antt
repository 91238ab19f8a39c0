-- The lists of stage 2 as the loops use them: a turn goes on with the list from the next place, nearer to the text's end, or is its answer.
-- Assumes nothing.
use mathlib.Core.Path.{◌≡◌, refl, sym}
use mathlib.Core.List.{List}
use Prim.Native.Nat.{ℕ, zero, suc, ◌-◌, ◌<◌}
use native.Mathlib.Omega.{arith}
use native.Mathlib.Numerals.{sub-one}
use lib.ListN.{length}
use Rattle.grammar.specs.Outcome.{Outcome, ok, no, Turn, more, last, and_then}
use Rattle.grammar.specs.Grammar.{on_turn}
use Rattle.grammar.specs.Trees.{checks}
use Rattle.grammar.specs.Modules.{repeat, number_turn, statement_turn, statements, for_from, for_of}
use Rattle.grammar.specs.Forms.{blank, checked_statements}
use Rattle.phrases.specs.Turns.{Listed, Nearer, list_of}
use Rattle.grammar.proofs.Turns.{repeat_falls, past_number, past_statement, near_for_of}

abbrev pub Check : Type 0
Check = Outcome (Unit {0}) (Unit {0})

-- what is handed on as it is
pub handed : (r : Check) → and_then r (λ v e x. ok tt e x) ≡ r
handed (ok v e x) = refl
handed (no n p x) = refl

-- the list that each turn nearer to the text's end makes
module _ (l : Listed) (near : Nearer l) where
  on-enough : (n m at : ℕ) (t : Turn (Unit {0}) (Unit {0})) → t ≡ l.turns tt at tt → length l.text - at < suc n → length l.text - at < suc m
      → ((e : ℕ) → length l.text - e < n → length l.text - e < m → repeat l.turns n tt e tt ≡ repeat l.turns m tt e tt)
      → on_turn t (λ v e x. repeat l.turns n v e x) ≡ on_turn t (λ v e x. repeat l.turns m v e x)
  on-enough n m at (more v e x) q a b ih =
      let h : length l.text - e < length l.text - at = near at e q in
      ih e (omega arith) (omega arith)
  on-enough n m at (last o) q a b ih = refl

  enough : (n m at : ℕ) → length l.text - at < n → length l.text - at < m → repeat l.turns n tt at tt ≡ repeat l.turns m tt at tt
  unfolding repeat
  enough zero m at a b = absurd (omega arith)
  enough (suc n) zero at a b = absurd (omega arith)
  enough (suc n) (suc m) at a b = on-enough n m at (l.turns tt at tt) refl a b (λ e. enough n m e)

  pub list_more : (at e : ℕ) → more tt e tt ≡ l.turns tt at tt → list_of l at ≡ list_of l e
  unfolding repeat
  list_more at e q =
      let h : length l.text - e < length l.text - at = near at e q in
      rw (← q) (enough (length l.text) (suc (length l.text)) e (omega arith) (omega arith))

  pub list_last : (at : ℕ) (r : Check) → last r ≡ l.turns tt at tt → list_of l at ≡ r
  unfolding repeat
  list_last at r q = rw (← q) refl

-- the numbers of the position list that opens at q
pub number_nearer : (s : List ℕ) (d q : ℕ) → Nearer (record { text = s; turns = number_turn checks blank s d q })
number_nearer s d q at e h = repeat_falls s (number_turn checks blank s d q) (past_number checks blank s d q) tt tt at e tt tt (sym h)

-- the statements of a text, with d levels left
module _ (s : List ℕ) (d : ℕ) where
  abbrev Statements : Listed
  Statements = record { text = s; turns = statement_turn checks blank s d (for_of checks blank s d) }

  pub statement_nearer : Nearer Statements
  statement_nearer at e h = repeat_falls s Statements.turns (past_statement checks blank s d (for_of checks blank s d) (near_for_of checks blank s d)) tt tt at e tt tt (sym h)

  pub statement_more : (at e : ℕ) → more tt e tt ≡ Statements.turns tt at tt → checked_statements s d at ≡ checked_statements s d e
  unfolding statements
  statement_more = list_more Statements statement_nearer

  pub statement_last : (at : ℕ) (r : Check) → last r ≡ Statements.turns tt at tt → checked_statements s d at ≡ r
  unfolding statements
  statement_last = list_last Statements statement_nearer

-- a FOR takes a level
pub for_some : (s : List ℕ) (d p at : ℕ) → (d ≡ 0 → ⊥)
    → for_of checks blank s d p at tt ≡ for_from checks blank s (d - 1) (statements checks blank s (d - 1) (for_of checks blank s (d - 1))) p at tt
unfolding for_of
for_some s zero p at nz = absurd (nz refl)
for_some s (suc d) p at nz = rw sub-one refl

pub for_none : (s : List ℕ) (d p at : ℕ) → d ≡ 0 → for_of checks blank s d p at tt ≡ no 6 p tt
unfolding for_of
for_none s d p at z = rw z refl
