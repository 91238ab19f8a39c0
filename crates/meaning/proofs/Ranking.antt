-- Where no element meets itself, the number of elements that an element meets falls along every name. Assumes nothing.
use mathlib.Core.Path.{◌≡◌, sym, subst}
use mathlib.Core.Logic.{⊎_elim}
use mathlib.Core.Bool.{Bool, true, false, ◌&&◌}
use mathlib.Core.List.{List}
use Prim.Native.Nat.{ℕ, zero, suc, ◌≤◌, ◌<◌}
use native.Mathlib.Nat.{eq-or-lt_of_le, le_of_suc-le-suc}
use native.Mathlib.Omega.{arith}
use lib.Dec.{T, ltb}
use borrow.Author.Tests.{lt-ltb}
use Rattle.basics.specs.Choice.{bit}
use Rattle.basics.specs.Below.{tally}
use Rattle.basics.proofs.Truth.{and_i, of_true}
use Rattle.basics.proofs.Folds.{tally_le}
use Rattle.trees.specs.Layout.{Elements}
use Rattle.reach.specs.Uses.{names, replaced, writes, uses}
use Rattle.reach.specs.Reach.{via}
use Rattle.reach.specs.Table.{Matrix, cell}
use Rattle.reach.proofs.Warshall.{via_through, edge_via, matrix_cell}
use Rattle.meaning.specs.Settle.{rank_in}
use Rattle.meaning.proofs.Unique.{Ranked}

bit_le : (a b : Bool) → (T a → T b) → bit a ≤ bit b
bit_le true true f = omega arith
bit_le true false f = absurd (f tt)
bit_le false true f = omega arith
bit_le false false f = omega arith

tally_more : (f g : ℕ → Bool) (n : ℕ) → ((x : ℕ) → x < n → T (f x) → T (g x)) → tally f n ≤ tally g n
unfolding tally
tally_more f g zero h = omega arith
tally_more f g (suc n) h = let a = bit_le (f n) (g n) (h n (omega arith)) in let b = tally_more f g n (λ x l. h x (omega arith)) in omega arith

bit_lt : (a b : Bool) → T b → (T a → ⊥) → bit a < bit b
bit_lt true b t n = absurd (n tt)
bit_lt false true t n = omega arith
bit_lt false false t n = absurd t

tally_lt : (f g : ℕ → Bool) (n j : ℕ) → j < n → ((x : ℕ) → x < n → T (f x) → T (g x)) → T (g j) → (T (f j) → ⊥) → tally f n < tally g n
unfolding tally
tally_lt f g zero j l h t k = absurd (omega arith)
tally_lt f g (suc n) j l h t k =
    ⊎_elim
    (λ (e : j ≡ n).
    let a = bit_lt (f n) (g n) (subst (λ (x : ℕ). T (g x)) e t) (λ z. k (subst (λ (x : ℕ). T (f x)) (sym e) z)) in
    let b = tally_more f g n (λ x m. h x (omega arith)) in
    omega arith)
    (λ (m : j < n). let a = bit_le (f n) (g n) (h n (omega arith)) in let b = tally_lt f g n j m (λ x z. h x (omega arith)) t k in omega arith)
    (eq-or-lt_of_le (le_of_suc-le-suc l))

pub rank_small : (m : List ℕ) (i : ℕ) → rank_in m i < 65
rank_small m i = let a = tally_le (cell m i) 64 in omega arith

named_uses : (e : Elements) (i j : ℕ) → T (replaced e i) → T (names (e.nodes i) j) → j < 64 → T (uses e i j)
unfolding uses writes
named_uses e i j r n h = and_i (replaced e i) (ltb j 64 && names (e.nodes i) j) r (and_i (ltb j 64) (names (e.nodes i) j) (of_true (ltb j 64) (lt-ltb j 64 h)) n)

-- how many elements an element meets
abbrev pub rank_of : Elements → ℕ → ℕ
rank_of e i = tally (via (uses e) 64 i) 64

-- it falls along every name where no element meets itself
pub ranked : (e : Elements) → ((i : ℕ) → T (replaced e i) → i < 64) → ((i : ℕ) → i < 64 → via (uses e) 64 i i ≡ false) → Ranked e (rank_of e)
ranked e few free = record { falls = falls }
  where
    falls : (i j : ℕ) → T (replaced e i) → T (replaced e j) → T (names (e.nodes i) j) → rank_of e j < rank_of e i
    falls i j ri rj n =
        let hj : j < 64 = few j rj in
        let u : T (via (uses e) 64 i j) = edge_via (uses e) 64 i j (named_uses e i j ri n hj) in
        tally_lt (via (uses e) 64 j) (via (uses e) 64 i) 64 j hj (λ x h z. via_through (uses e) 64 j i x hj u z) u (λ z. subst (λ (y : Bool). T y) (free j hj) z)

-- the table's count
pub rank_is : (e : Elements) (m : List ℕ) → Matrix m (via (uses e) 64) → (i : ℕ) → i < 64 → rank_in m i ≡ rank_of e i
rank_is e m mx i h =
    let a = tally_more (cell m i) (via (uses e) 64 i) 64 (λ x l t. subst (λ (y : Bool). T y) (matrix_cell m (via (uses e) 64) mx i x h l) t) in
    let b = tally_more (via (uses e) 64 i) (cell m i) 64 (λ x l t. subst (λ (y : Bool). T y) (sym (matrix_cell m (via (uses e) 64) mx i x h l)) t) in
    omega arith
