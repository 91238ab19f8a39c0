-- The examples that document 01 marks ('Marked examples'), each as a text, what the definitions find for it, and what is expected. Assumes nothing.
use Rattle.std.specs.Prelude.{◌≡◌, Bool, true, false, List, [], ◌∷◌, ◌++◌, map, ℕ, suc, ℤ, pos, negsuc, length}
use Prim.Native.String.{String}
use Rattle.basics.specs.Choice.{bit}
use Rattle.basics.specs.Text.{text}
use Rattle.sums.specs.Product.{Digit, primes, factors}
use Rattle.engine.specs.Table.{function}
use Rattle.grammar.specs.Outcome.{Outcome, ok, no, levels}
use Rattle.judging.specs.Reading.{State}
use Rattle.readers.specs.Readers.{expression_of}
use Rattle.trees.specs.Layout.{Elements, elements_of}
use Rattle.meaning.specs.Circuit.{out_at, runs}
use Rattle.pins.specs.Variables.{count_of}
use Rattle.question.specs.Question.{Asked, question_table}
use Rattle.question.specs.Question.Asked.{Verdict, Refused}
use Rattle.askcall.specs.Asking.{graded_of}
use Rattle.texts.specs.Stages.{Front, stays, refused, front_of}
use Rattle.texts.specs.Meaning.{Meaning, means, nothing, meaning}

-- one cycle with all inputs 1
abbrev pub ones : List (ℕ → Bool)
ones = (λ p. true) ∷ []

-- what the text's circuit shows on pin 23 in these cycles from power-up; or the refusal's number and place
abbrev pub shown_by : List (ℕ → Bool) → Meaning → List ℕ
shown_by inputs (means c) = map (λ (f : ℕ → Bool). bit (f 23)) (runs c inputs)
shown_by inputs (nothing n p) = n ∷ p ∷ []

abbrev pub shown : String → List (ℕ → Bool) → List ℕ
shown s inputs = shown_by inputs (meaning (text s))

-- a number's sign, 1 for one below 0, and its magnitude; or the refusal's number and place
abbrev pub signed : Outcome State ℤ → List ℕ
signed (ok (pos n) at x) = 0 ∷ n ∷ []
signed (ok (negsuc n) at x) = 1 ∷ suc n ∷ []
signed (no n p x) = n ∷ p ∷ []

abbrev pub number : String → List ℕ
number s = signed (expression_of (text s) [] levels 1 0 ([], 0))

-- all primes of the function of pin 23's OUT
abbrev pub sum_for : Elements → List (List Digit)
sum_for e = primes (count_of e false (out_at e 23)) (function (question_table e (out_at e 23)))

-- how many they are, and how many factors each has; or the refusal's number and place
abbrev pub counted : Front → List ℕ
counted (stays parts) = length (sum_for (elements_of parts)) ∷ []
counted (refused n p) = n ∷ p ∷ []

abbrev pub factored : Front → List ℕ
factored (stays parts) = map factors (sum_for (elements_of parts))
factored (refused n p) = n ∷ p ∷ []

abbrev pub how_many : String → List ℕ
how_many s = counted (front_of (text s))

abbrev pub factors_of : String → List ℕ
factors_of s = factored (front_of (text s))

-- the answer about pin 23 and a product
abbrev pub graded : Asked → List ℕ
graded (Verdict g) = g ∷ []
graded (Refused n p) = n ∷ p ∷ []

abbrev pub question : String → ℕ → List ℕ
question s product = graded (graded_of (text s) 23 product 65536)

pub record Example : Type 0 where
  pub found : List ℕ
  pub expected : List ℕ

abbrev pub row : List ℕ → List ℕ → Example
row f e = record { found = f; expected = e }

abbrev pub examples : List Example
examples =
    -- a+b-c with all 1 is 0
    row (shown "MODULE T; IN a, b, c: BIT; OUT y: BIT; BEGIN a::2; b::3; c::4; y::23; y := a+b-c END T." ones) (0 ∷ [])
    -- MUX('0: '1, '0) is 1
    ∷ row (shown "MODULE T; OUT y: BIT; BEGIN y::23; y := MUX('0: '1, '0) END T." ones) (1 ∷ [])
    -- (0-7) DIV 2 is -4, MOD 1
    ∷ row (number "(0-7) DIV 2") (1 ∷ 4 ∷ [])
    ∷ row (number "(0-7) MOD 2") (0 ∷ 1 ∷ [])
    -- index 7 of 8 is taken, 8 is refused 5 at the index
    ∷ row (shown "MODULE T; IN v: [8] BIT; OUT y: BIT; BEGIN v::[2; 3; 4; 5; 6; 7; 8; 9]; y::23; y := v.7 END T." ones) (1 ∷ [])
    ∷ row (shown "MODULE T; IN v: [8] BIT; OUT y: BIT; BEGIN v::[2; 3; 4; 5; 6; 7; 8; 9]; y::23; y := v.8 END T." ones) (5 ∷ 85 ∷ [])
    -- parity of four has 8 primes, of five 16
    ∷ row (how_many "MODULE T; IN a, b, c, d: BIT; OUT y: BIT; BEGIN a::2; b::3; c::4; d::5; y::23; y := a-b-c-d END T.") (8 ∷ [])
    ∷ row (how_many "MODULE T; IN a, b, c, d, e: BIT; OUT y: BIT; BEGIN a::2; b::3; c::4; d::5; e::6; y::23; y := a-b-c-d-e END T.") (16 ∷ [])
    -- a*b + ~a*c has 3
    ∷ row (how_many "MODULE T; IN a, b, c: BIT; OUT y: BIT; BEGIN a::2; b::3; c::4; y::23; y := a*b + ~a*c END T.") (3 ∷ [])
    -- or of two on pins 2 and 3: product 4 gives 1, product 7 gives 2
    ∷ row (question "MODULE T; IN a, b: BIT; OUT y: BIT; BEGIN a::2; b::3; y::23; y := a+b END T." 4) (1 ∷ [])
    ∷ row (question "MODULE T; IN a, b: BIT; OUT y: BIT; BEGIN a::2; b::3; y::23; y := a+b END T." 7) (2 ∷ [])
    -- '0 has none, '1 has one, without factors
    ∷ row (how_many "MODULE T; OUT y: BIT; BEGIN y::23; y := '0 END T.") (0 ∷ [])
    ∷ row (how_many "MODULE T; OUT y: BIT; BEGIN y::23; y := '1 END T.") (1 ∷ [])
    ∷ row (factors_of "MODULE T; OUT y: BIT; BEGIN y::23; y := '1 END T.") (0 ∷ [])
    -- ~REG('1) shows 1, 0
    ∷ row (shown "MODULE T; OUT y: BIT; BEGIN y::23; y := ~REG('1) END T." (ones ++ ones)) (1 ∷ 0 ∷ [])
    ∷ []

-- every row is as expected
pub data AllFit : List Example → Type 0 where
  none : AllFit []
  more : {r : Example} {l : List Example} → r.found ≡ r.expected → AllFit l → AllFit (r ∷ l)
