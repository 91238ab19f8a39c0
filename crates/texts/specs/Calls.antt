-- What the calls over a text come to, answer and leave (document 01, 'Refusal numbers', their order: 13 first, then the text's stages). Assumes nothing.
use Rattle.std.specs.Prelude.{ℕ, ◌≡◌, Bool, ◌&&◌, List, leb, length, replicate}
use Rattle.basics.specs.Choice.{pick}
use Rattle.trees.specs.Layout.{elements_of}
use Rattle.outputs.specs.Outputs.{map_for}
use Rattle.fusetext.specs.File.{file_of}
use Rattle.fusetext.specs.Outcome.{Outcome, gives, refuses, left}
use Rattle.texts.specs.Stages.{Front, stays, refused, whole_of}

-- 13: the output has 7,154 bytes or more, and the working room 65,536 or more
unfoldable pub lent : ℕ → ℕ → Bool
lent out room = leb 7154 out && leb 65536 room

-- of a text that is let pass, the bytes that a call says of its map
abbrev pub written : (List ℕ → List ℕ) → Front → Outcome
written says (stays parts) = gives (says (map_for (elements_of parts)))
written says (refused n p) = refuses n p

-- a call that says such bytes of a map: what a text comes to, with an output and a working room of so many bytes
unfoldable pub called : (List ℕ → List ℕ) → List ℕ → ℕ → ℕ → Outcome
called says s out room = pick (lent out room) (written says (whole_of s)) (refuses 13 0)

-- compile says the map's file
abbrev pub filed : Front → Outcome
filed f = written file_of f

abbrev pub compiled_of : List ℕ → ℕ → ℕ → Outcome
compiled_of s out room = called file_of s out room

-- What is answered and left where a text comes to an outcome, each outcome told by its answer, with an output that held `out` and a working room that held
-- `room`: the output starts with the bytes that are given and is unchanged beyond them, on a refusal all of it is unchanged; the room is zeroed, whatever
-- its length
pub record Does {A : Type 0} (told : Outcome → A) (o : Outcome) (out room : List ℕ) (answer : A) (out-after room_after : List ℕ) : Type 0 where
  pub answers : answer ≡ told o
  pub leaves : out-after ≡ left o out
  pub clears : room_after ≡ replicate (length room) 0
