-- The fuse file of a map of 5,892 fuses, as bytes (document 01, 'The fuse file'). Assumes nothing.
use Rattle.std.specs.Prelude.{List, [], ◌∷◌, ◌++◌, Bool, true, false, ℕ, zero, suc, ◌+◌, ◌*◌, ◌≤◌, length, take, drop, get_or, eqb, leb}
use Rattle.basics.specs.Choice.{pick}
use Rattle.basics.specs.Text.{text}
use Rattle.fusetext.specs.Digits.{dec4, hex4}

-- 'Refusal numbers', 31: every fuse is 0 or 1, as a test
unfoldable pub bits : List ℕ → Bool
bits [] = true
bits (x ∷ xs) = pick (leb x 1) (bits xs) false

-- the same as a fact of each fuse
abbrev pub Bits : List ℕ → Type 0
Bits m = (i : ℕ) → get_or m i 0 ≤ 1

-- 'The device', 31: a map has 5,892 of them
unfoldable pub is_map : List ℕ → Bool
is_map m = pick (eqb (length m) 5892) (bits m) false

-- the fuses from `from` on, `count` of them
abbrev pub part : ℕ → ℕ → List ℕ → List ℕ
part from count m = take count (drop from m)

-- ---- the two sums

-- the sum of a list
unfoldable pub sum : List ℕ → ℕ
sum [] = 0
sum (x ∷ xs) = x + sum xs

-- 'The fuse file', C: eight fuses in turn make a byte; the first of them, the lowest fuse, is its lowest bit
unfoldable pub byte_of : List ℕ → ℕ
byte_of [] = 0
byte_of (x ∷ xs) = x + 2 * byte_of xs

-- the first n bytes of fuses; where fewer than eight are left, the bits above them are 0
unfoldable pub bytes_of : ℕ → List ℕ → List ℕ
bytes_of zero m = []
bytes_of (suc n) m = byte_of (take 8 m) ∷ bytes_of n (drop 8 m)

-- 'The fuse file', C: the sum of those bytes. A map's fuses make 736 and a half. (It is a 16-bit sum: the file shows its low 16 bits.)
unfoldable pub fuse_sum : List ℕ → ℕ
fuse_sum m = sum (bytes_of 737 m)

-- ---- the fields

-- fuses as the digits 0 and 1, whose codes are 48 and 49
unfoldable pub digits : List ℕ → List ℕ
digits [] = []
digits (x ∷ xs) = (48 + x) ∷ digits xs

-- 'The fuse file', L: the number of the first fuse, a space, and the fuses from it on
unfoldable pub listing : ℕ → List ℕ → List ℕ
listing from fuses = text "L" ++ dec4 from ++ text " " ++ digits fuses ++ text "*\r\n"

-- whether all fuses are 0
unfoldable pub zeros : List ℕ → Bool
zeros [] = true
zeros (x ∷ xs) = pick (eqb x 0) (zeros xs) false

-- an L field that is left out where all its fuses are 0
unfoldable pub listing_if : ℕ → List ℕ → List ℕ
listing_if from fuses = pick (zeros fuses) [] (listing from fuses)

-- the first r rows of 44
unfoldable pub rows : ℕ → List ℕ → List ℕ
rows zero m = []
rows (suc r) m = rows r m ++ listing_if (44 * r) (part (44 * r) 44 m)

-- 'The fuse file', C: the fuse checksum
unfoldable pub checking : List ℕ → List ℕ
checking m = text "C" ++ hex4 (fuse_sum m) ++ text "*\r\n"

-- 'The fuse file': byte 2, the heading, and QP, QF, G and F, which are the same in every file
unfoldable pub opening : List ℕ
opening = 2 ∷ text "Lola GAL22V10*\r\nQP24*\r\nQF5892*\r\nG0*\r\nF0*\r\n"

-- 'The fuse file': all that stands before byte 3. S0 and S1 of the ten cells are listed in every file, the signature only where it has a 1
unfoldable pub fields_of : List ℕ → List ℕ
fields_of m = opening ++ rows 132 m ++ listing 5808 (part 5808 20 m) ++ listing_if 5828 (part 5828 64 m) ++ checking m

-- from byte 2 up to byte 3, both with it
unfoldable pub body : List ℕ → List ℕ
body m = fields_of m ++ (3 ∷ [])

-- 'The fuse file': the whole file. At its end stands the 16-bit sum of all bytes up to byte 3
unfoldable pub file_of : List ℕ → List ℕ
file_of m = body m ++ hex4 (sum (body m))
