-- Kinds of bytes, the longest front of one kind, and numbers (document 01, 'The fuse file', Reading). Assumes nothing.
use Rattle.std.specs.Prelude.{◌≡◌, length, List, [], ◌∷◌, Bool, true, false, not, ℕ, ◌+◌, ◌-◌, ◌*◌, get_or, leb, ltb, eqb}
use Rattle.basics.specs.Choice.{pick}
use Rattle.fusetext.specs.Put.{Computes}

-- decision 37: the four blanks of the language, here by their codes: space 32, tab 9, CR 13, LF 10
unfoldable pub blank : ℕ → Bool
blank b = pick (eqb b 32) true (pick (eqb b 9) true (pick (eqb b 13) true (eqb b 10)))

-- 0 to 9
unfoldable pub digit : ℕ → Bool
digit b = pick (ltb b 48) false (leb b 57)

-- 0 or 1
unfoldable pub fuse : ℕ → Bool
fuse b = pick (eqb b 48) true (eqb b 49)

-- 0 or 1 or a blank
unfoldable pub fuse_or_blank : ℕ → Bool
fuse_or_blank b = pick (fuse b) true (blank b)

-- a hex digit: 0 to 9, A to F, a to f
unfoldable pub hexit : ℕ → Bool
hexit b = pick (digit b) true (pick (ltb b 65) false (pick (leb b 70) true (pick (ltb b 97) false (leb b 102))))

-- not `*`; not byte 3
unfoldable pub not_star : ℕ → Bool
not_star b = not (eqb b 42)

unfoldable pub not_end : ℕ → Bool
not_end b = not (eqb b 3)

-- the longest front whose bytes all pass, and what is behind it
unfoldable pub front : (ℕ → Bool) → List ℕ → List ℕ
front p [] = []
front p (x ∷ xs) = pick (p x) (x ∷ front p xs) []

unfoldable pub past : (ℕ → Bool) → List ℕ → List ℕ
past p [] = []
past p (x ∷ xs) = pick (p x) (past p xs) (x ∷ xs)

-- n is the length of the longest front that passes a test, known by what it may answer, whatever it computes
abbrev pub CountsFront : (ℕ → Bool → Type 0) → List ℕ → ℕ → Type 0
CountsFront R s n = (p : ℕ → Bool) → Computes R p → n ≡ length (front p s)

-- decision 36: the number that decimal digits spell, behind others that spell n, however large. The digit 0 has the code 48
unfoldable pub value : ℕ → List ℕ → ℕ
value n [] = n
value n (x ∷ xs) = value (10 * n + (x - 48)) xs

-- the value of a hex digit, in either case: the codes of A and a are 65 = 55 + 10 and 97 = 87 + 10
unfoldable pub hex_of : ℕ → ℕ
hex_of b = pick (leb b 57) (b - 48) (pick (leb b 70) (b - 55) (b - 87))

-- four of them
unfoldable pub hex4_of : List ℕ → ℕ
hex4_of xs = 4096 * hex_of (get_or xs 0 0) + 256 * hex_of (get_or xs 1 0) + 16 * hex_of (get_or xs 2 0) + hex_of (get_or xs 3 0)

-- the fuses among the bytes, as 0 and 1
unfoldable pub fuses : List ℕ → List ℕ
fuses [] = []
fuses (x ∷ xs) = pick (fuse x) ((x - 48) ∷ fuses xs) (fuses xs)
