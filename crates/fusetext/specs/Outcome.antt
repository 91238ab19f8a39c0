-- What a call over a fuse file comes to (document 01, 'Refusal numbers'). Assumes nothing.
use Rattle.std.specs.Prelude.{List, ◌++◌, ℕ, length, drop}

-- bytes (a file, or a map), or a refusal: its number and its place
pub data Outcome : Type 0 where
  gives : List ℕ → Outcome
  refuses : ℕ → ℕ → Outcome

-- 'Refusal numbers', at its end: what lent memory then holds. The bytes stand at its start and what is beyond them is unchanged;
-- on a refusal all of it is unchanged
abbrev pub left : Outcome → List ℕ → List ℕ
left (gives bytes) old = bytes ++ drop (length bytes) old
left (refuses number place) old = old
