-- What a text comes to, stage by stage (document 01, 'Refusal numbers', their order). Each definition takes the stage before it apart. Assumes nothing.
use Rattle.std.specs.Prelude.{ℕ, List, length, replicate, leb, ℤ}
use Rattle.basics.specs.Choice.{pick}
use Rattle.grammar.specs.Outcome.{Outcome, ok, no, levels}
use Rattle.grammar.specs.Modules.{Module}
use Rattle.grammar.specs.Forms.{checked_text}
use Rattle.judging.specs.Reading.{State}
use Rattle.declare.specs.Declarations.{declarations_of}
use Rattle.unroll.specs.Loops.{statements_of}
use Rattle.trees.specs.Layout.{elements_of}
use Rattle.circuit.specs.StageFive.{Verdict, stage_five}
use Rattle.circuit.specs.StageFive.Verdict.{fine, refused as faulty}
use Rattle.outputs.specs.Outputs.{stage_six}

-- what stays of a text that is let pass, the memory that its elements are read from; or a refusal's number and place
pub data Front : Type 0 where
  stays : List ℕ → Front
  refused : ℕ → ℕ → Front

-- what a stage over elements says of the memory they are read from
abbrev pub unless : Verdict → List ℕ → Front
unless fine parts = stays parts
unless (faulty n p) parts = refused n p

-- (5) over all names: 7, then 8, 9, 10
unfoldable pub fifth : List ℕ → Front
fifth parts = unless (stage_five (elements_of parts)) parts

-- (4) what the statements left is judged over all names
abbrev pub unrolled : Outcome State ℤ → Front
unrolled (ok v at x) = fifth x.0
unrolled (no n p x) = refused n p

-- (4) the statements from a place on, unrolled among the names t, with all levels of nesting left
unfoldable pub fourth : List ℕ → ℕ → List ℕ → State → Front
fourth s at t x = unrolled (statements_of s levels t at x)

-- (3) behind the declarations, which left the names t: the statements from b on
abbrev pub declared : List ℕ → ℕ → Outcome State (List ℕ) → Front
declared s b (ok t at x) = fourth s b t x
declared s b (no n p x) = refused n p

-- (3) the declarations from a place on. Nothing is declared before them: the memory is 2,588 zeros and has no tree node
unfoldable pub third : List ℕ → ℕ → ℕ → Front
third s at b = declared s b (declarations_of s at (replicate 2588 0, 0))

-- (2) of a text of the grammar, the declarations and the statements from where they start
abbrev pub checked : List ℕ → Outcome (Unit {0}) (Module (Unit {0}) (Unit {0})) → Front
checked s (ok m at u) = third s m.declarations m.statements
checked s (no n p u) = refused n p

-- (2) words and grammar, large literals and nesting
unfoldable pub second : List ℕ → Front
second s = checked s (checked_text s)

-- 1: a text has at most 32,768 bytes; the place is 0
unfoldable pub front_of : List ℕ → Front
front_of s = pick (leb (length s) 32768) (second s) (refused 1 0)

-- (6) of what stays, each OUT: 11, then 12
abbrev pub fitting : Front → Front
fitting (stays parts) = unless (stage_six (elements_of parts)) parts
fitting (refused n p) = refused n p

-- all stages of a text
unfoldable pub whole_of : List ℕ → Front
whole_of s = fitting (front_of s)
