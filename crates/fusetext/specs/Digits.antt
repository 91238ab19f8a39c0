-- Numbers as the file writes them (document 01, 'The fuse file'). Assumes nothing.
use Rattle.std.specs.Prelude.{List, [], ◌∷◌, ℕ, ◌+◌, ◌/◌, ◌%◌, ltb}
use Rattle.basics.specs.Choice.{pick}

-- 'The fuse file', L: a number below 10,000 in four decimal digits, whose codes are 48 to 57
unfoldable pub dec4 : ℕ → List ℕ
dec4 n = (48 + n / 1000 % 10) ∷ (48 + n / 100 % 10) ∷ (48 + n / 10 % 10) ∷ (48 + n % 10) ∷ []

-- 'The fuse file': a digit of base sixteen, 0 to 9 (codes from 48 on) or, in upper case, A to F (codes from 65 = 55 + 10 on)
unfoldable pub hex_digit : ℕ → ℕ
hex_digit n = pick (ltb n 10) (48 + n) (55 + n)

-- 'The fuse file', C and the last four digits: the low sixteen bits of a sum, highest digit first
unfoldable pub hex4 : ℕ → List ℕ
hex4 n = hex_digit (n / 4096 % 16) ∷ hex_digit (n / 256 % 16) ∷ hex_digit (n / 16 % 16) ∷ hex_digit (n % 16) ∷ []
