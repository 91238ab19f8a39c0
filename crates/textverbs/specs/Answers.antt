-- What the programs print for a text (document 01, 'The fuse file', at its end, and 'Refusal numbers'; 'From equation to rows', on graders). decision 41: a
-- refusal is its line. Assumes nothing.
use Rattle.std.specs.Prelude.{List, ◌∷◌, ℕ, ◌+◌}
use Rattle.basics.specs.Text.{text}
use Rattle.question.specs.Question.{Asked}
use Rattle.question.specs.Question.Asked.{Verdict, Refused}
use Rattle.lines.specs.Decimal.{refusal_line}
use Rattle.texts.specs.Stages.{whole_of}
use Rattle.texts.specs.Calls.{filed}
use Rattle.fitcall.specs.Fitting.{lined}
use Rattle.askcall.specs.Asking.{questioned}
use Rattle.verbs.specs.Printed.{printed}

-- the compile program: the fuse file as it is
unfoldable pub compile_answer : List ℕ → List ℕ
compile_answer s = printed (λ file. file) (filed (whole_of s))

-- the fit program: the lines as they are, none for a text without OUT
unfoldable pub fit_answer : List ℕ → List ℕ
fit_answer s = printed (λ lines. lines) (lined (whole_of s))

-- what a question comes to: the digit of its grade and LF, or a refusal's line
abbrev pub grade_line : Asked → List ℕ
grade_line (Verdict grade) = (48 + grade) ∷ text "\n"
grade_line (Refused number place) = refusal_line number place

-- the ask program: the grade of a product, by its number, for the OUT at a pin
unfoldable pub ask_answer : List ℕ → ℕ → ℕ → List ℕ
ask_answer s pin product = grade_line (questioned pin product (whole_of s))
