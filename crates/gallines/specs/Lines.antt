-- The model's lines: a map as digits, registers and pins as digits, and the answer as digits (document 01, "The device"; the programs' form is ours).
-- Assumes nothing.
use Rattle.std.specs.Prelude.{Bool, ◌&&◌, List, ℕ, ◌+◌, ◌-◌, eqb, ltb, length, get_or}
use Rattle.basics.specs.Choice.{bit, on, pick}
use Rattle.basics.specs.Below.{listed}
use Rattle.lines.specs.Decimal.{refusal_line}
use Rattle.gal.specs.Model.Verdict.{Shown, Refused}
use Rattle.gal.specs.Model.{Answer, Verdict, modelled}

-- the value of a digit; a byte that is none counts as 10, which no fuse, pin or register can have
unfoldable pub digit : ℕ → ℕ
digit b = pick (ltb b 48) 10 (pick (ltb b 58) (b - 48) 10)

-- the map of a line of digits
unfoldable pub map_of : List ℕ → List ℕ
map_of line = listed (λ i. digit (get_or line i 0)) (length line)

-- a line asks by ten digits (registers of pins 14 to 23), a blank, twenty-four digits (pins 1 to 24). In a line of another length, or without the
-- blank, every value counts as 10, so that it is refused 32
unfoldable pub formed : List ℕ → Bool
formed line = eqb (length line) 35 && eqb (get_or line 10 0) 32

unfoldable pub given : List ℕ → ℕ → ℕ
given line i = pick (formed line) (digit (get_or line i 0)) 10

unfoldable pub bits_of : List ℕ → List ℕ
bits_of line = listed (given line) 10

unfoldable pub pins_of : List ℕ → List ℕ
pins_of line = listed (λ i. given line (i + 11)) 24

-- the answer's bytes: the pins shown, a blank, their values, a blank, the registers after the clock, LF
abbrev pub char_of : ℕ → ℕ
char_of v = 48 + bit (on v)

unfoldable pub shown_byte : List ℕ → List ℕ → List ℕ → ℕ → ℕ
shown_byte shown values next i =
    pick (ltb i 24) (char_of (get_or shown i 0))
    (pick (eqb i 24) 32 (pick (ltb i 49) (char_of (get_or values (i - 25) 0)) (pick (eqb i 49) 32 (pick (ltb i 60) (char_of (get_or next (i - 50) 0)) 10))))

-- what is printed for each verdict
abbrev pub text_for : Verdict → Answer → List ℕ
text_for Shown a = listed (shown_byte a.shown a.values a.next) 61
text_for (Refused number place) a = refusal_line number place

-- the answer to a line
unfoldable pub answer_to : List ℕ → List ℕ → List ℕ
answer_to m line = text_for (modelled m (bits_of line) (pins_of line)).verdict (modelled m (bits_of line) (pins_of line))

-- how much of a line that ends in LF is its contents: all but a CR at its end
unfoldable pub contents : List ℕ → ℕ
contents line = pick (eqb (length line) 0) 0 (pick (eqb (get_or line (length line - 1) 0) 13) (length line - 1) (length line))
