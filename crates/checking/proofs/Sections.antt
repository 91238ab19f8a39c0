-- The turns of the lists of declarations go nearer to the text's end; a meaning that a word must follow.
-- Assumes nothing.
use mathlib.Core.Path.{◌≡◌, refl, sym}
use mathlib.Core.List.{List}
use Prim.Native.Nat.{ℕ}
use lib.Dec.{eqb}
use mathlib.Core.Bool.{Bool, true, false}
use Rattle.basics.specs.Choice.{pick}
use Rattle.words.specs.Taken.{Taken}
use Rattle.words.specs.Taken.{Word, Refused}
use Rattle.words.specs.Words.{next_word}
use Rattle.grammar.specs.Outcome.{Outcome, ok, no, on_word, and_then}
use Rattle.grammar.specs.Grammar.{closed}
use Rattle.grammar.specs.Trees.{checks}
use Rattle.grammar.specs.Modules.{must, constant_turn, name_turn, list_turn}
use Rattle.grammar.specs.Forms.{blank}
use Rattle.grammar.proofs.Turns.{repeat_falls, past_constant, past_name, past_list}
use Rattle.phrases.specs.Turns.{Nearer}

abbrev Check : Type 0
Check = Outcome (Unit {0}) (Unit {0})

-- behind a name, a constant, a list of signals: each turn that goes on is nearer to the text's end
pub name_nearer : (s : List ℕ) → Nearer (record { text = s; turns = name_turn checks blank s })
name_nearer s at e h = repeat_falls s (name_turn checks blank s) (past_name checks blank s) tt tt at e tt tt (sym h)

pub constant_nearer : (s : List ℕ) → Nearer (record { text = s; turns = constant_turn checks blank s })
constant_nearer s at e h = repeat_falls s (constant_turn checks blank s) (past_constant checks blank s) tt tt at e tt tt (sym h)

pub list_nearer : (s : List ℕ) (c : ℕ) → Nearer (record { text = s; turns = list_turn checks blank s c })
list_nearer s c at e h = repeat_falls s (list_turn checks blank s c) (past_list checks blank s c) tt tt at e tt tt (sym h)

abbrev Headed : Type 0
Headed = Outcome (Unit {0}) (ℕ × ℕ)

abbrev with : ℕ × ℕ → Check → Headed
with m r = and_then r (λ u e x. ok m e x)

-- a meaning that the word of kind k must follow
pub closing : (s : List ℕ) (k : ℕ) (m : ℕ × ℕ) (at : ℕ) → closed s k m at (tt {0}) ≡ and_then (must s k at (tt {0})) (λ u e x. ok m e x)
unfolding closed
closing s k m at = go (next_word s at)
  where
    told : (b : Bool) (st nx : ℕ) → ◌≡◌ {A = Headed} (pick b (ok m nx tt) (no 2 st tt)) (with m (pick b (ok tt nx tt) (no 2 st tt)))
    told true st nx = refl
    told false st nx = refl

    go : (t : Taken)
        → ◌≡◌ {A = Headed} (on_word tt t (λ k' st v nx. pick (eqb k' k) (ok m nx tt) (no 2 st tt))) (with m (on_word tt t (λ k' st v nx. pick (eqb k' k) (ok tt nx tt) (no 2 st tt))))
    go (Word k' st v c) = told (eqb k' k) st c.at
    go (Refused n p) = refl
