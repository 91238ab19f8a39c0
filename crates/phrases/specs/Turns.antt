-- Turns as the lists of stage 2 take them.
use Rattle.std.specs.Prelude.{ℕ, ◌-◌, ◌<◌, ◌≡◌, List, length}
use Rattle.grammar.specs.Outcome.{Outcome, Turn, more}
use Rattle.grammar.specs.Trees.{checks}
use Rattle.grammar.specs.Modules.{repeated}
use Rattle.grammar.specs.Forms.{blank}

-- what the turn at a place is
abbrev pub Turns : Type 0
Turns = Unit {0} → ℕ → Unit {0} → Turn (Unit {0}) (Unit {0})

-- a text, and the turns of a list in it
pub record Listed : Type 0 where
  pub text : List ℕ
  pub turns : Turns

-- each turn that goes on ends nearer to the text's end
abbrev pub Nearer : Listed → Type 0
Nearer l = (at e : ℕ) → more tt e tt ≡ l.turns tt at tt → length l.text - e < length l.text - at

-- the list from a place on
abbrev pub list_of : Listed → ℕ → Outcome (Unit {0}) (Unit {0})
list_of l at = repeated checks blank l.text l.turns tt at tt
