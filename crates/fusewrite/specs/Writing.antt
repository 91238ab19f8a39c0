-- What the writer of a map answers and leaves (document 01, 'Refusal numbers'). Assumes nothing.
use Rattle.std.specs.Prelude.{◌≡◌, ℕ, List, length, leb, Result, Ok}
use Rattle.basics.specs.Choice.{pick}
use Rattle.basics.specs.Refusal.{Numbered, answered, refused}
use Rattle.basics.specs.declared.refusal.Refusal.{Refusal}
use Rattle.fusetext.specs.File.{file_of, is_map}
use Rattle.fusetext.specs.Outcome.{Outcome, gives, refuses, left}

-- 'Refusal numbers', writer of a map: 31 where it is no map, then 13 where the output has less than 7,154 bytes, both at place 0;
-- else the map's file
unfoldable pub write_of : List ℕ → ℕ → Outcome
write_of map room = pick (is_map map) (pick (leb 7154 room) (gives (file_of map)) (refuses 13 0)) (refuses 31 0)

-- the writer's answer for each outcome: the file's length, or the refusal's number and place
abbrev pub written_of : Outcome → Result ℕ Numbered
written_of (gives file) = Ok (length file)
written_of (refuses number place) = refused number place

-- What a call of the writer does, on a map and an output that held `before`.
pub record Writes (map before : List ℕ) (answer : Result ℕ Refusal) (after : List ℕ) : Type 0 where
  pub answers : answered answer ≡ written_of (write_of map (length before))
  pub leaves : after ≡ left (write_of map (length before)) before
