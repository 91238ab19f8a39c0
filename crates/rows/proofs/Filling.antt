-- The row of a product, filled from its last pair to its first.
-- Assumes nothing.
use mathlib.Core.Path.{◌≡◌, refl, sym, ap, ◌∙◌}
use mathlib.Core.List.{List, [], ◌∷◌}
use Prim.Native.Nat.{ℕ, suc, ◌+◌, ◌*◌, ◌/◌, ◌%◌, ◌≤◌, ◌<◌}
use native.Mathlib.Omega.{arith}
use lib.ListN.{length, get_or, set, drop, length-set, drop_of_length-le}
use lib.Seq.{drop-cons, drop-set-lt, get_or-set_same, get_or-set_other}
use Rattle.basics.specs.Choice.{on}
use Rattle.rows.specs.Row.{plain_fuse, inverse_fuse, pairs_from}

-- left pairs are still to fill; those behind them stand
pub record Filling (N a₀ b₀ : ℕ) (fs : List ℕ) (a b left : ℕ) : Type 0 where
  pub under : left ≤ N
  pub size : length fs ≡ N * 2
  pub says : pairs_from left a b (drop (left * 2) fs) ≡ pairs_from N a₀ b₀ []

pairs_suc : (k a b : ℕ) (fs : List ℕ)
    → pairs_from (suc k) a b fs ≡ pairs_from k (a / 2) (b / 2) (plain_fuse (on (a % 2)) (on (b % 2)) ∷ inverse_fuse (on (a % 2)) (on (b % 2)) ∷ fs)
unfolding pairs_from
pairs_suc k a b fs = refl

pairs_zero : (a b : ℕ) (fs : List ℕ) → pairs_from 0 a b fs ≡ fs
unfolding pairs_from
pairs_zero a b fs = refl

pub start : (N a b : ℕ) (fs : List ℕ) → length fs ≡ N * 2 → Filling N a b fs a b N
start N a b fs h = record { under = omega arith; size = h; says = ap (pairs_from N a b) (drop_of_length-le fs {i = N * 2} (omega arith)) }

-- two fuses stored next to each other
two : (fs : List ℕ) (j x y : ℕ) → j + 1 < length fs → drop j (set (set fs j x) (j + 1) y) ≡ x ∷ y ∷ drop (suc (suc j)) fs
two fs j x y h =
    let l₁ = length-set fs j x in
    let l₂ = length-set (set fs j x) (j + 1) y in
    let n : j ≡ j + 1 → ⊥ = λ e. omega arith in
    let a : get_or (set (set fs j x) (j + 1) y) j 0 ≡ x = get_or-set_other (set fs j x) (j + 1) j y 0 n ∙ get_or-set_same fs j x 0 (omega arith) in
    let s : suc j ≡ j + 1 = omega arith in
    let b : get_or (set (set fs j x) (j + 1) y) (suc j) 0 ≡ y = ap (λ (i : ℕ). get_or (set (set fs j x) (j + 1) y) i 0) s ∙ get_or-set_same (set fs j x) (j + 1) y 0 (omega arith) in
    let c : drop (suc (suc j)) (set (set fs j x) (j + 1) y) ≡ drop (suc (suc j)) fs = drop-set-lt (suc (suc j)) (set fs j x) (j + 1) y (omega arith) ∙ drop-set-lt (suc (suc j)) fs j x (omega arith) in
    drop-cons (set (set fs j x) (j + 1) y) j 0 (omega arith)
    ∙ ap (λ (r : List ℕ). get_or (set (set fs j x) (j + 1) y) j 0 ∷ r) (drop-cons (set (set fs j x) (j + 1) y) (suc j) 0 (omega arith))
    ∙ (λ i. a i ∷ b i ∷ c i)

-- the pair before those that stand is filled
pub step : (N a₀ b₀ : ℕ) (fs : List ℕ) (a b left pair after x y : ℕ) → pair + 1 ≡ left → pair ≡ after → Filling N a₀ b₀ fs a b left
    → x ≡ plain_fuse (on (a % 2)) (on (b % 2)) → y ≡ inverse_fuse (on (a % 2)) (on (b % 2))
    → Filling N a₀ b₀ (set (set fs (pair * 2) x) (pair * 2 + 1) y) (a / 2) (b / 2) after
step N a₀ b₀ fs a b left pair after x y h w c ex ey =
    let u = c.under in
    let z = c.size in
    let e : suc (suc (pair * 2)) ≡ left * 2 = omega arith in
    let q : suc pair ≡ left = omega arith in
    let l₁ = length-set fs (pair * 2) x in
    record {
      under = omega arith;
      size = length-set (set fs (pair * 2) x) (pair * 2 + 1) y ∙ l₁ ∙ z;
      says = ap (λ (n : ℕ). pairs_from n (a / 2) (b / 2) (drop (n * 2) (set (set fs (pair * 2) x) (pair * 2 + 1) y))) (sym w)
          ∙ ap (pairs_from pair (a / 2) (b / 2)) (two fs (pair * 2) x y (omega arith) ∙ (λ i. ex i ∷ ey i ∷ drop (e i) fs))
          ∙ sym (pairs_suc pair a b (drop (left * 2) fs))
          ∙ ap (λ (n : ℕ). pairs_from n a b (drop (left * 2) fs)) q
          ∙ c.says;
    }

pub end : (N a₀ b₀ : ℕ) (fs : List ℕ) (a b left : ℕ) → left ≤ 0 → Filling N a₀ b₀ fs a b left → fs ≡ pairs_from N a₀ b₀ []
end N a₀ b₀ fs a b left h c =
    let z : 0 ≡ left = omega arith in
    sym (pairs_zero a b fs) ∙ ap (λ (n : ℕ). pairs_from n a b (drop (n * 2) fs)) z ∙ c.says
