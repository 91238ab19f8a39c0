-- Document 01, 'The fuse file': the 244 bytes that it prints are the file of the map that they list. Computed. Assumes nothing.
use mathlib.Core.Path.{◌≡◌, refl}
use mathlib.Core.Bool.{true}
use mathlib.Core.List.{List, [], ◌∷◌, ◌++◌}
use Prim.Native.Nat.{ℕ}
use lib.ListN.{length, replicate}
use Rattle.basics.specs.Text.{text}
use Rattle.fusetext.specs.Digits.{dec4, hex_digit, hex4}
use Rattle.fusetext.specs.File.{digits, zeros, sum, byte_of, bytes_of, fuse_sum, listing, listing_if, rows, opening, checking, fields_of, body, file_of, bits, is_map}

-- row 0; rows 1, 2 and 3; the other rows; S0 and S1, of which only S1 of pin 23 is 0; the signature
unfoldable pub example_map : List ℕ
example_map =
    replicate 44 0
    ++ replicate 44 1
    ++ (1 ∷ 1 ∷ 0 ∷ 1 ∷ 0 ∷ []) ++ replicate 39 1
    ++ (1 ∷ 1 ∷ 1 ∷ 0 ∷ 1 ∷ 0 ∷ []) ++ replicate 38 1
    ++ replicate 5632 0
    ++ (1 ∷ 0 ∷ []) ++ replicate 18 1
    ++ replicate 64 0

unfoldable pub example_file : List ℕ
example_file =
    2 ∷ text "Lola GAL22V10*\r\nQP24*\r\nQF5892*\r\nG0*\r\nF0*\r\n"
    ++ text "L0044 11111111111111111111111111111111111111111111*\r\n"
    ++ text "L0088 11010111111111111111111111111111111111111111*\r\n"
    ++ text "L0132 11101011111111111111111111111111111111111111*\r\n"
    ++ text "L5808 10111111111111111111*\r\nC1255*\r\n\u{3}2C8F"

pub example_map_lem : is_map example_map ≡ true
unfolding example_map is_map bits
example_map_lem = refl

pub example_length : length example_file ≡ 244
unfolding example_file
example_length = refl

pub example_file_lem : file_of example_map ≡ example_file
unfolding example_map example_file file_of body opening rows fields_of listing listing_if zeros digits checking byte_of bytes_of fuse_sum sum dec4 hex_digit hex4
example_file_lem = refl
