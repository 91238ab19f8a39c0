-- Decimal numbers as text. Assumes nothing.
use Rattle.std.specs.Prelude.{List, [], ◌∷◌, ◌++◌, ℕ, zero, suc, ◌+◌, ◌/◌, ◌%◌, eqb}
use Rattle.basics.specs.Choice.{pick}
use Rattle.basics.specs.Text.{text}

-- the digits of a number below 10 ^ k, highest first, none where it is 0
unfoldable pub spell : ℕ → ℕ → List ℕ
spell zero n = []
spell (suc k) n = pick (eqb n 0) [] (spell k (n / 10) ++ ((48 + n % 10) ∷ []))

-- a number below 10 ^ 20 without leading zeros: its last digit always, and those before it
unfoldable pub decimal : ℕ → List ℕ
decimal n = spell 19 (n / 10) ++ ((48 + n % 10) ∷ [])

-- 'The fuse file', at its end, and decision 41: a refusal's line
unfoldable pub refusal_line : ℕ → ℕ → List ℕ
refusal_line number place = decimal number ++ text " " ++ decimal place ++ text "\n"
