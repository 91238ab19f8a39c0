-- What the programs print for what they read (document 01, 'The fuse file' and 'The device'; the form of lines is ours). Assumes nothing.
use Rattle.std.specs.Prelude.{List, [], ◌∷◌, ◌++◌, ℕ, suc, ◌+◌, length, take, drop, eqb, leb, ltb}
use Rattle.basics.specs.Choice.{pick}
use Rattle.fusetext.specs.Outcome.{Outcome, gives, refuses}
use Rattle.fuseread.specs.Reading.{read_of}
use Rattle.fusewrite.specs.Writing.{write_of}
use Rattle.lines.specs.Decimal.{refusal_line}
use Rattle.lines.specs.Line.{line_length, fuses_in, shown_line}
use Rattle.gallines.specs.Lines.{map_of, answer_to, contents}

-- decision 41: what is given, in a form of its own, or a refusal's line
abbrev pub printed : (List ℕ → List ℕ) → Outcome → List ℕ
printed form (gives bytes) = form bytes
printed form (refuses number place) = refusal_line number place

-- a fuse file of `total` bytes as a line of its map's digits. decision 39: where it is too long, its length alone decides, and `file` may
-- be a part of it
unfoldable pub read_answer : List ℕ → ℕ → List ℕ
read_answer file total = pick (leb total 65536) (printed shown_line (read_of file)) (refusal_line 20 total)

-- a map's fuse file
unfoldable pub file_answer : List ℕ → List ℕ
file_answer m = printed (λ file. file) (write_of m 7154)

-- the same of a line of the map's digits
unfoldable pub write_answer : List ℕ → List ℕ
write_answer digits = file_answer (fuses_in (take (line_length digits) digits))

-- a line that ended in LF without a CR at its end
abbrev pub bare : List ℕ → List ℕ
bare line = take (contents line) line

-- the answers to lines, of which the first has begun with `line`: each is answered at its LF, and what has none at the end if it is not empty
unfoldable pub answers_from : List ℕ → List ℕ → List ℕ → List ℕ
answers_from m line [] = pick (eqb (length line) 0) [] (answer_to m line)
answers_from m line (x ∷ xs) = pick (eqb x 10) (answer_to m (bare line) ++ answers_from m [] xs) (answers_from m (line ++ (x ∷ [])) xs)

-- how many bytes come before the first LF
unfoldable pub line_end : List ℕ → ℕ
line_end [] = 0
line_end (x ∷ xs) = pick (eqb x 10) 0 (suc (line_end xs))

-- how many of these are the digits of the map, which is the first line
unfoldable pub map_length : List ℕ → ℕ
map_length input = contents (take (line_end input) input)

-- the model's answers: the lines behind the map's are asked of it; where the first has no LF, nothing is asked
unfoldable pub model_answer : List ℕ → List ℕ
model_answer input =
    pick (ltb (line_end input) (length input))
    (answers_from (map_of (take (map_length input) input)) [] (drop (line_end input + 1) input))
    []

-- what is left where the input stood: the digits of the map are its fuses then
unfoldable pub map_taken : List ℕ → List ℕ
map_taken input = pick (ltb (line_end input) (length input)) (map_of (take (map_length input) input) ++ drop (map_length input) input) input
