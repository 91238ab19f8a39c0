-- The stages of a text on its module's tree (document 01, 'Refusal numbers', their order). Each definition takes the stage before it apart; stages 1, 2
-- and 5 are those of `texts`. Assumes nothing.
use Rattle.std.specs.Prelude.{ℕ, List, length, replicate, leb}
use Rattle.basics.specs.Choice.{pick}
use Rattle.grammar.specs.Outcome.{Outcome, ok, no, Built, built, bad}
use Rattle.grammar.specs.Modules.{Module}
use Rattle.grammar.specs.Forms.{Statements, Declarations, parsed_text}
use Rattle.judging.specs.Reading.{State}
use Rattle.texts.specs.Stages.{Front, refused, fifth}
use Rattle.texts.specs.Meaning.{Meaning, circuit_in}
use Rattle.treewise.specs.Unrolled.{carried}
use Rattle.treewise.specs.Declared.{declared_in}

-- (4) what the statements left is judged over all names
abbrev pub unrolled_in : Built State (Unit {0}) → Front
unrolled_in (built u x) = fifth x.0
unrolled_in (bad n p x) = refused n p

-- (4) the statements are carried out among the names t
unfoldable pub fourth_in : List ℕ → Statements → List ℕ → State → Front
fourth_in s u t x = unrolled_in (carried s t u x)

-- (3) behind the declarations, which left the names t
abbrev pub declared_on : List ℕ → Statements → Built State (List ℕ) → Front
declared_on s u (built t x) = fourth_in s u t x
declared_on s u (bad n p x) = refused n p

-- (3) the declarations. Nothing is declared before them: the memory is 2,588 zeros and has no tree node
unfoldable pub third_in : List ℕ → Module Declarations Statements → Front
third_in s m = declared_on s m.body (declared_in s m.declared (replicate 2588 0, 0))

-- (2) a text of the grammar has a tree
abbrev pub parsed_on : List ℕ → Outcome (Unit {0}) (Module Declarations Statements) → Front
parsed_on s (ok m at u) = third_in s m
parsed_on s (no n p u) = refused n p

-- all stages up to 5: what a text comes to is a function of its tree
unfoldable pub front_in : List ℕ → Front
front_in s = pick (leb (length s) 32768) (parsed_on s (parsed_text s)) (refused 1 0)

-- the circuit that a text describes, by its tree
unfoldable pub meaning_in : List ℕ → Meaning
meaning_in s = circuit_in (front_in s)
