-- One line more, and how long a line is. Assumes nothing.
use mathlib.Core.Path.{◌≡◌, refl, ap}
use mathlib.Core.Bool.{Bool, true, false}
use mathlib.Core.List.{List, [], ◌++◌}
use Prim.Native.Nat.{ℕ, zero, suc, ◌+◌, ◌-◌, ◌*◌, ◌≤◌}
use native.Mathlib.Numerals.{add-one}
use native.Mathlib.Omega.{arith}
use lib.ListN.{length, get_or, length-append}
use Rattle.basics.specs.Choice.{pick}
use Rattle.basics.specs.Text.{text}
use Rattle.lines.proofs.Spelling.{length_decimal}
use Rattle.gal.specs.Map.{plain_out, registered, enabled}
use Rattle.fitlines.specs.Lines.{kind_of, level_of, head_of, line_of, line_if, lines_of, lines_by}

pub length_kind : (m : List ℕ) (k : ℕ) → length (kind_of m k) ≡ 2
unfolding kind_of
length_kind m k = go (registered m k)
  where
    go : (b : Bool) → length (pick b (text "R ") (text "C ")) ≡ 2
    go true = refl
    go false = refl

pub length_level : (m : List ℕ) (k : ℕ) → length (level_of m k) ≡ 2
unfolding level_of
length_level m k = go (plain_out m k)
  where
    go : (b : Bool) → length (pick b (text "H ") (text "L ")) ≡ 2
    go true = refl
    go false = refl

pub length_head : (m : List ℕ) (k : ℕ) → length (head_of m k) ≤ 25
unfolding head_of
length_head m k = simp length-append (omega (arith, length_decimal (23 - k), length_kind m k, length_level m k))

pub length_line : (m : List ℕ) (k n f : ℕ) → length (line_of m k n f) ≤ 67
unfolding line_of
length_line m k n f = simp length-append (omega (arith, length_head m k, length_decimal n, length_decimal f))

pub length_line_if : (m : List ℕ) (k n f : ℕ) → length (line_if m k n f) ≤ 67
unfolding line_if
length_line_if m k n f = go (enabled m k)
  where
    go : (b : Bool) → length (pick b (line_of m k n f) []) ≤ 67
    go true = length_line m k n f
    go false = omega arith

pub length_lines : (m : List ℕ) (p f : ℕ → ℕ) (n : ℕ) → length (lines_of m p f n) ≤ 67 * n
unfolding lines_of
length_lines m p f zero = omega arith
length_lines m p f (suc n) =
    simp length-append (omega (arith, length_lines m p f n, length_line_if m (9 - n) (p (9 - n)) (f (9 - n))))

pub line_kept : (m : List ℕ) (k n f : ℕ) → enabled m k ≡ true → line_of m k n f ≡ line_if m k n f
unfolding line_if
line_kept m k n f e = rw e

pub line_left : (m : List ℕ) (k n f : ℕ) → enabled m k ≡ false → [] ≡ line_if m k n f
unfolding line_if
line_left m k n f e = rw e

pub lines_none : (m : List ℕ) (p f : ℕ → ℕ) → [] ≡ lines_of m p f 0
unfolding lines_of
lines_none m p f = refl

pub lines_next : (m : List ℕ) (p f : ℕ → ℕ) (n : ℕ) → lines_of m p f n ++ line_if m (9 - n) (p (9 - n)) (f (9 - n)) ≡ lines_of m p f (n + 1)
unfolding lines_of
lines_next m p f n = rw add-one

-- all ten
pub lines_all : (m facts : List ℕ) (n : ℕ) → n ≡ 10 → lines_of m (λ k. get_or facts k 0) (λ k. get_or facts (10 + k) 0) n ≡ lines_by m facts
unfolding lines_by
lines_all m facts n e = ap (lines_of m (λ k. get_or facts k 0) (λ k. get_or facts (10 + k) 0)) e
