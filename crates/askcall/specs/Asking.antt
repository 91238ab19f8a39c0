-- What `ask` answers and leaves (document 01, 'From equation to rows', on graders; 'Refusal numbers'). Assumes nothing.
use Rattle.std.specs.Prelude.{◌≡◌, List, ℕ, leb, length, replicate, Result}
use Rattle.basics.specs.Choice.{pick}
use Rattle.basics.specs.declared.refusal.Refusal.{Refusal}
use Rattle.engine.specs.declared.Grade.{Grade}
use Rattle.trees.specs.Layout.{elements_of}
use Rattle.question.specs.Question.Asked.{Refused as Refuses}
use Rattle.question.specs.Question.{Asked, seen, asked}
use Rattle.texts.specs.Stages.{Front, stays, refused, whole_of}

-- of a text that is let pass, the question over its elements
abbrev pub questioned : ℕ → ℕ → Front → Asked
questioned pin product (stays parts) = asked (elements_of parts) pin product
questioned pin product (refused n p) = Refuses n p

-- ask: what a text comes to at a pin and a product's number, with a working room of so many bytes ('Refusal numbers', their order: 13 first, then the
-- text's stages, last 14)
unfoldable pub graded_of : List ℕ → ℕ → ℕ → ℕ → Asked
graded_of s pin product room = pick (leb 65536 room) (questioned pin product (whole_of s)) (Refuses 13 0)

-- What is answered and left where a question comes to `o`, with a working room that held `room`: the answer by number (0 no implicant, 1 implicant, 2 prime;
-- or the refusal's number and place), and the room zeroed, whatever its length
pub record Does (o : Asked) (room : List ℕ) (answer : Result Grade Refusal) (room_after : List ℕ) : Type 0 where
  pub answers : seen answer ≡ o
  pub clears : room_after ≡ replicate (length room) 0

-- What a call of `ask` does.
abbrev pub Asks : List ℕ → ℕ → ℕ → List ℕ → Result Grade Refusal → List ℕ → Type 0
Asks text pin product room = Does (graded_of text pin product (length room)) room
