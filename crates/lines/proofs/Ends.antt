-- Laws of lines of 0 and 1. Assumes nothing.
use mathlib.Core.Path.{◌≡◌, refl, ap}
use mathlib.Core.List.{List, [], ◌∷◌, map}
use Prim.Native.Nat.{ℕ, suc, ◌-◌, ◌≤◌, ◌<◌}
use native.Mathlib.Omega.{arith}
use lib.ListN.{length, get_or}
use lib.Dec.{eqb}
use Rattle.basics.specs.Choice.{pick}
use Rattle.lines.specs.Line.{line_length, fuses_in, shown}

-- each digit as a fuse
pub map_fuses : (s : List ℕ) → map (λ x. pick (eqb x 48) 0 (pick (eqb x 49) 1 2)) s ≡ fuses_in s
unfolding fuses_in
map_fuses [] = refl
map_fuses (x ∷ xs) = ap {B = List ℕ} (λ l. pick (eqb x 48) 0 (pick (eqb x 49) 1 2) ∷ l) (map_fuses xs)

pub length_fuses : (s : List ℕ) → length (fuses_in s) ≡ length s
unfolding fuses_in
length_fuses [] = refl
length_fuses (x ∷ xs) = ap suc (length_fuses xs)

-- a line that has no byte, or one that is LF
pub line_none : (s : List ℕ) → length s < 1 → length s ≡ line_length s
unfolding line_length
line_none [] h = refl
line_none (x ∷ s) h = absurd (omega arith)

pub line_one : (s : List ℕ) → 1 ≤ length s → length s < 2 → get_or s (length s - 1) 0 ≡ 10 → length s - 1 ≡ line_length s
unfolding line_length
line_one [] h k e = absurd (omega arith)
line_one (x ∷ []) h k e = let d : x ≡ 10 = e in rw d
line_one (x ∷ (y ∷ s)) h k e = absurd (omega arith)

-- and each fuse as a digit
pub map_shown : (s : List ℕ) → map (λ x. pick (eqb x 1) 49 48) s ≡ shown s
unfolding shown
map_shown [] = refl
map_shown (x ∷ xs) = ap {B = List ℕ} (λ l. pick (eqb x 1) 49 48 ∷ l) (map_shown xs)

pub length_shown : (s : List ℕ) → length (shown s) ≡ length s
unfolding shown
length_shown [] = refl
length_shown (x ∷ xs) = ap suc (length_shown xs)
