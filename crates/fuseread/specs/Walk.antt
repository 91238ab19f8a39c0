-- The fields of a fuse file, one after the other (document 01, 'The fuse file', Reading). Assumes nothing.
use Rattle.std.specs.Prelude.{List, [], ◌∷◌, ℕ, ◌+◌, length, eqb, Result, Ok, Err}
use Rattle.basics.specs.Choice.{pick}
use Rattle.basics.specs.Refusal.{number_of}
use Rattle.basics.specs.declared.refusal.Refusal.{Refusal}
use Rattle.fusefields.specs.Bytes.{blank, front, past}
use Rattle.fusefields.specs.Fields.{only, Step, stop, go, judge}
use Rattle.fusefields.specs.declared.Seen.{Seen}
use Rattle.fuseread.specs.declared.Walk.{Walk}
use Rattle.fuseread.specs.declared.Walk.TheVariants.{Ended, Open}

-- a list cut at each `*` (42): all but the last piece are fields with the blanks before them
abbrev pub glue : ℕ → List (List ℕ) → List (List ℕ)
glue x [] = (x ∷ []) ∷ []
glue x (p ∷ ps) = (x ∷ p) ∷ ps

unfoldable pub pieces : List ℕ → List (List ℕ)
pieces [] = [] ∷ []
pieces (x ∷ xs) = pick (eqb x 42) ([] ∷ pieces xs) (glue x (pieces xs))

-- What the fields end with: all are judged, with what has been seen and the fuses; a fault and its place; or the place of a field
-- that has no `*`.
pub data Walked : Type 0 where
  ended : Seen → List ℕ → Walked
  fault : ℕ → ℕ → Walked
  open_at : ℕ → Walked

-- a field's fault is at its first byte; without one the fields go on
abbrev pub next : Step → ℕ → (Seen → List ℕ → Walked) → Walked
next (stop n) place more = fault n place
next (go s cells) place more = more s cells

-- Reading: the fields in turn, each on what those before it left, with blanks allowed between them. The first piece begins at byte
-- `at` of the file
unfoldable pub walk : Seen → List ℕ → ℕ → List (List ℕ) → Walked
walk s cells at [] = ended s cells
walk s cells at (p ∷ []) = pick (only blank p) (ended s cells) (open_at (at + length (front blank p)))
walk s cells at (p ∷ (q ∷ ps)) =
    next (judge s (past blank p) cells) (at + length (front blank p)) (λ s cells. walk s cells (at + length p + 1) (q ∷ ps))

-- the same of what the function that walks answers, and of the fuses that it leaves
abbrev pub walked_of : Result Walk Refusal → List ℕ → Walked
walked_of (Ok (Ended s)) cells = ended s cells
walked_of (Ok (Open place)) cells = open_at place
walked_of (Err r) cells = fault (number_of r.reason) r.place
