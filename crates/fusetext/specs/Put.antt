-- Memory with a field written into it at a place. Assumes nothing.
use Rattle.std.specs.Prelude.{◌≡◌, List, ◌++◌, ℕ, ◌+◌, ◌≤◌, ◌<◌, length, take, drop, map}

-- l with the elements of xs in place of those from index at on
unfoldable pub put : List ℕ → ℕ → List ℕ → List ℕ
put l at xs = take at l ++ xs ++ drop (at + length xs) l

-- What a function that writes a field ensures: there was room, the field stands at its place and all else is as it was, and the next place.
pub record Wrote (before : List ℕ) (at : ℕ) (xs after : List ℕ) (next : ℕ) : Type 0 where
  pub room : at + length xs ≤ length before
  pub holds : after ≡ put before at xs
  pub ends : next ≡ at + length xs

-- a function of a byte, known by what it may answer, computes p
abbrev pub Computes : {X : Type 0} → (ℕ → X → Type 0) → (ℕ → X) → Type 0
Computes {X} R p = (x : ℕ) (y : X) → x < 256 → R x y → y ≡ p x

-- each byte of s is written as such a function turns it, whatever it computes
abbrev pub WroteEach : (ℕ → ℕ → Type 0) → List ℕ → ℕ → List ℕ → List ℕ → ℕ → Type 0
WroteEach R before at s after next = (p : ℕ → ℕ) → Computes R p → Wrote before at (map p s) after next
