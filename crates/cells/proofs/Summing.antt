-- Factors counted: the set bits of the low half of each mask.
-- Assumes nothing.
use mathlib.Core.Path.{◌≡◌, refl, ap, ◌∙◌}
use mathlib.Core.List.{List, [], ◌∷◌, ◌++◌}
use Prim.Native.Nat.{ℕ, ◌+◌, ◌*◌, ◌%◌, ◌≤◌, ◌<◌}
use native.Mathlib.Numerals.{add-one}
use native.Mathlib.Omega.{arith}
use lib.Count.{ones, ones-le}
use lib.ListN.{length, take, get_or}
use lib.Seq.{take-suc}
use Rattle.cells.specs.Counts.{picks}

picks_snoc : (l : List ℕ) (m : ℕ) → picks (l ++ (m ∷ [])) ≡ picks l + ones (m % 4294967296)
unfolding picks
picks_snoc [] m = omega arith
picks_snoc (x ∷ l) m = let i = picks_snoc l m in omega arith

pub small : (m : ℕ) → ones (m % 4294967296) ≤ 32
small m = ones-le 32 (m % 4294967296) (omega arith)

pub record Counted (ms : List ℕ) (i sum : ℕ) : Type 0 where
  pub says : sum ≡ picks (take i ms)
  pub few : sum ≤ 32 * i

pub start : (ms : List ℕ) → Counted ms 0 0
unfolding picks
start ms = record { says = refl; few = omega arith }

pub step : (ms : List ℕ) (i sum : ℕ) → i < length ms → Counted ms i sum → Counted ms (i + 1) (sum + ones (get_or ms i 0 % 4294967296))
step ms i sum h c =
    let e = c.says in
    let f = c.few in
    let s = small (get_or ms i 0) in
    let t : picks (take (i + 1) ms) ≡ picks (take i ms) + ones (get_or ms i 0 % 4294967296) =
    ap (λ (k : ℕ). picks (take k ms)) (add-one i) ∙ ap picks (take-suc ms i 0 h) ∙ picks_snoc (take i ms) (get_or ms i 0) in
    record { says = omega arith; few = omega arith }
