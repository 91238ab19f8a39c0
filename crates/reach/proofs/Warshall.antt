-- Warshall's rounds. A round may be done in place, since it changes neither the row nor the column that it reads.
-- Assumes nothing.
use mathlib.Core.Path.{◌≡◌, refl, sym, ap, ap₂, ◌∙◌, subst}
use mathlib.Core.Logic.{◌⊎◌, inl, inr, ⊎_elim}
use mathlib.Core.Bool.{Bool, true, false, ◌&&◌, ◌||◌}
use mathlib.Core.List.{List}
use Prim.Native.Nat.{ℕ, zero, suc, ◌+◌, ◌*◌, ◌/◌, ◌%◌, ◌≤◌, ◌<◌}
use native.Mathlib.Numerals.{add-one}
use native.Mathlib.Nat.{eq-or-lt_of_le, le_of_suc-le-suc}
use native.Mathlib.Omega.{arith}
use lib.Dec.{T}
use lib.ListN.{length, get_or, set, length-set, replicate, get_or-replicate, length-replicate}
use Rattle.basics.specs.Choice.{bit, on}
use Rattle.basics.specs.Below.{any_below}
use Rattle.basics.proofs.Truth.{or_cases, or_l, or_r, and_l, and_r, and_i, clash}
use Rattle.basics.proofs.Folds.{any_none}
use Rattle.basics.proofs.Store.{stored, kept, below_or_not}
use Rattle.reach.specs.Reach.{Meets, via}
use Rattle.reach.specs.Table.{Matrix, through, cell}
use Rattle.reach.specs.Reach.Meets.{here, on_the_way}
use Rattle.trees.proofs.Stack.{on_bit}

-- ---- the mathematics

pub joined : {e : ℕ → ℕ → Bool} {i k j : ℕ} → Meets e i k → Meets e k j → Meets e i j
joined (here t) m = on_the_way t m
joined (on_the_way t l) m = on_the_way t (joined l m)

pub via_meets : (e : ℕ → ℕ → Bool) (k i j : ℕ) → T (via e k i j) → Meets e i j
unfolding via
via_meets e zero i j t = here t
via_meets e (suc k) i j t =
    ⊎_elim (λ (l : T (via e k i j)). via_meets e k i j l)
    (λ (l : T (via e k i k && via e k k j)). joined (via_meets e k i k (and_l (via e k i k) (via e k k j) l)) (via_meets e k k j (and_r (via e k i k) (via e k k j) l)))
    (or_cases (via e k i j) (via e k i k && via e k k j) t)

-- what is met by way of fewer is met by way of more
pub via_more : (e : ℕ → ℕ → Bool) (k d i j : ℕ) → T (via e k i j) → T (via e (d + k) i j)
unfolding via
via_more e k zero i j t = subst (λ (n : ℕ). T (via e n i j)) z t
  where
    z : k ≡ 0 + k
    z = omega arith
via_more e k (suc d) i j t = subst (λ (n : ℕ). T (via e n i j)) s (or_l (via e (d + k) i j) (via e (d + k) i (d + k) && via e (d + k) (d + k) j) (via_more e k d i j t))
  where
    s : suc (d + k) ≡ suc d + k
    s = omega arith

mid : (e : ℕ → ℕ → Bool) (n k i j : ℕ) → ((i j : ℕ) → T (via e n i k) → T (via e n k j) → T (via e n i j))
    → (T (via e n i k) ⊎ T (via e n i n && via e n n k)) → (T (via e n k j) ⊎ T (via e n k n && via e n n j)) → T (via e (suc n) i j)
unfolding via
mid e n k i j ih (inl a) (inl b) = or_l (via e n i j) (via e n i n && via e n n j) (ih i j a b)
mid e n k i j ih (inl a) (inr b) = or_r (via e n i j) (via e n i n && via e n n j) (and_i (via e n i n) (via e n n j) (ih i n a (and_l (via e n k n) (via e n n j) b)) (and_r (via e n k n) (via e n n j) b))
mid e n k i j ih (inr a) (inl b) = or_r (via e n i j) (via e n i n && via e n n j) (and_i (via e n i n) (via e n n j) (and_l (via e n i n) (via e n n k) a) (ih n j (and_r (via e n i n) (via e n n k) a) b))
mid e n k i j ih (inr a) (inr b) = or_r (via e n i j) (via e n i n && via e n n j) (and_i (via e n i n) (via e n n j) (and_l (via e n i n) (via e n n k) a) (and_r (via e n k n) (via e n n j) b))

to_last : (e : ℕ → ℕ → Bool) (n i : ℕ) → T (via e (suc n) i n) → T (via e n i n)
unfolding via
to_last e n i t = ⊎_elim (λ (x : T (via e n i n)). x) (λ (x : T (via e n i n && via e n n n)). and_l (via e n i n) (via e n n n) x) (or_cases (via e n i n) (via e n i n && via e n n n) t)

from_last : (e : ℕ → ℕ → Bool) (n j : ℕ) → T (via e (suc n) n j) → T (via e n n j)
unfolding via
from_last e n j t = ⊎_elim (λ (x : T (via e n n j)). x) (λ (x : T (via e n n n && via e n n j)). and_r (via e n n n) (via e n n j) x) (or_cases (via e n n j) (via e n n n && via e n n j) t)

-- two ways that join at an element below n are one way
pub via_through : (e : ℕ → ℕ → Bool) (n k i j : ℕ) → k < n → T (via e n i k) → T (via e n k j) → T (via e n i j)
unfolding via
via_through e zero k i j h a b = absurd (omega arith)
via_through e (suc n) k i j h a b =
    ⊎_elim
    (λ (q : k ≡ n).
    or_r (via e n i j) (via e n i n && via e n n j)
    (and_i (via e n i n) (via e n n j)
    (to_last e n i (subst (λ (m : ℕ). T (via e (suc n) i m)) q a))
    (from_last e n j (subst (λ (m : ℕ). T (via e (suc n) m j)) q b))))
    (λ (l : k < n). mid e n k i j (λ x y. via_through e n k x y l) (or_cases (via e n i k) (via e n i n && via e n n k) a) (or_cases (via e n k j) (via e n k n && via e n n j) b))
    (eq-or-lt_of_le (le_of_suc-le-suc h))

pub edge_via : (e : ℕ → ℕ → Bool) (n i j : ℕ) → T (e i j) → T (via e n i j)
unfolding via
edge_via e n i j t = subst (λ (m : ℕ). T (via e m i j)) z (via_more e 0 n i j t)
  where
    z : n + 0 ≡ n
    z = omega arith

-- whatever is met among the first n elements is found
pub meets_via : (e : ℕ → ℕ → Bool) (n : ℕ) → ((i j : ℕ) → T (e i j) → j < n) → {i j : ℕ} → Meets e i j → T (via e n i j)
meets_via e n small (here {i} {j} t) = edge_via e n i j t
meets_via e n small (on_the_way {i} {k} {j} t m) = via_through e n k i j (small i k t) (edge_via e n i k t) (meets_via e n small m)

-- ---- a round, in place

absorb_row : (x y : Bool) → (x || (x && y)) ≡ x
absorb_row true y = refl
absorb_row false y = refl

absorb_column : (x y : Bool) → (x || (y && x)) ≡ x
absorb_column true y = refl
absorb_column false true = refl
absorb_column false false = refl

pub record Rounding (t₀ t : List ℕ) (k p : ℕ) : Type 0 where
  pub size : length t ≡ 4096
  pub under : p ≤ 4096
  pub done : (q : ℕ) → q < p → get_or t q 0 ≡ bit (through k (cell t₀) (q / 64) (q % 64))
  pub rest : (q : ℕ) → p ≤ q → get_or t q 0 ≡ get_or t₀ q 0

pub start : (t : List ℕ) (k : ℕ) → length t ≡ 4096 → Rounding t t k 0
start t k h = record { size = h; under = omega arith; done = λ q l. absurd (omega arith); rest = λ q l. refl }

place : (i j : ℕ) → j < 64 → (v : ℕ → ℕ → Bool) → v ((i * 64 + j) / 64) ((i * 64 + j) % 64) ≡ v i j
place i j h v =
    let a : (i * 64 + j) / 64 ≡ i = omega arith in
    let b : (i * 64 + j) % 64 ≡ j = omega arith in
    ap₂ v a b

-- what a round reads is as it was before the round
unchanged : (t₀ t : List ℕ) (k p i j : ℕ) → Rounding t₀ t k p → j < 64 → through k (cell t₀) i j ≡ cell t₀ i j → on (get_or t (i * 64 + j) 0) ≡ cell t₀ i j
unchanged t₀ t k p i j c h e =
    ⊎_elim
    (λ (l : i * 64 + j < p). ap on (c.done (i * 64 + j) l) ∙ on_bit (through k (cell t₀) ((i * 64 + j) / 64) ((i * 64 + j) % 64)) ∙ place i j h (through k (cell t₀)) ∙ e)
    (λ (l : p ≤ i * 64 + j). ap on (c.rest (i * 64 + j) l))
    (below_or_not (i * 64 + j) p)

pub turn : (t₀ t : List ℕ) (k p v : ℕ) → k < 64 → p < 4096 → Rounding t₀ t k p → v ≡ bit (on (get_or t p 0) || (on (get_or t (p / 64 * 64 + k) 0) && on (get_or t (k * 64 + p % 64) 0))) → Rounding t₀ (set t p v) k (p + 1)
turn t₀ t k p v hk hp c e =
    let z = c.size in
    record {
      size = length-set t p v ∙ c.size;
      under = omega arith;
      done = stored (λ q x. x ≡ bit (through k (cell t₀) (q / 64) (q % 64))) t p v (omega arith) c.done (e ∙ ap bit value);
      rest = λ q l. kept t p v q l ∙ c.rest q (omega arith);
    }
  where
    low : p % 64 < 64
    low = omega arith

    whole : p ≡ p / 64 * 64 + p % 64
    whole = omega arith

    own : on (get_or t p 0) ≡ cell t₀ (p / 64) (p % 64)
    own = ap on (c.rest p (omega arith) ∙ ap (λ (q : ℕ). get_or t₀ q 0) whole)

    value : (on (get_or t p 0) || (on (get_or t (p / 64 * 64 + k) 0) && on (get_or t (k * 64 + p % 64) 0))) ≡ through k (cell t₀) (p / 64) (p % 64)
    value =
        λ i.
        own i
        || (unchanged t₀ t k p (p / 64) k c hk (absorb_row (cell t₀ (p / 64) k) (cell t₀ k k)) i
        && unchanged t₀ t k p k (p % 64) c low (absorb_column (cell t₀ k (p % 64)) (cell t₀ k k)) i)

pub finish : (t₀ t : List ℕ) (k p : ℕ) → Rounding t₀ t k p → 4096 ≤ p → Matrix t (through k (cell t₀))
finish t₀ t k p c h = let u = c.under in record { size = c.size; says = λ q l. c.done q (omega arith) }

-- ---- all rounds

pub matrix_cell : (t : List ℕ) (v : ℕ → ℕ → Bool) → Matrix t v → (i j : ℕ) → i < 64 → j < 64 → cell t i j ≡ v i j
matrix_cell t v c i j hi hj = ap on (c.says (i * 64 + j) (omega arith)) ∙ on_bit (v ((i * 64 + j) / 64) ((i * 64 + j) % 64)) ∙ place i j hj v

pub matrix_same : (t : List ℕ) (v w : ℕ → ℕ → Bool) → Matrix t v → ((i j : ℕ) → i < 64 → j < 64 → v i j ≡ w i j) → Matrix t w
matrix_same t v w c e = record { size = c.size; says = λ p h. c.says p h ∙ ap bit (e (p / 64) (p % 64) (omega arith) (omega arith)) }

pub closing : (e : ℕ → ℕ → Bool) (t t' : List ℕ) (k : ℕ) → k < 64 → Matrix t (via e k) → Matrix t' (through k (cell t)) → Matrix t' (via e (k + 1))
unfolding via
closing e t t' k h c d =
    matrix_same t' (through k (cell t)) (via e (k + 1)) d
    (λ i j hi hj.
    (λ x. matrix_cell t (via e k) c i j hi hj x || (matrix_cell t (via e k) c i k hi h x && matrix_cell t (via e k) c k j h hj x))
    ∙ ap (λ (n : ℕ). via e n i j) (sym (add-one k)))

pub close_start : (t : List ℕ) → Matrix t (cell t) → Matrix t (via (cell t) 0)
unfolding via
close_start t c = matrix_same t (cell t) (via (cell t) 0) c (λ i j hi hj. refl)

pub close_end : (e : ℕ → ℕ → Bool) (t : List ℕ) (k : ℕ) → k ≤ 64 → 64 ≤ k → Matrix t (via e k) → Matrix t (via e 64)
close_end e t k h l c = subst (λ (n : ℕ). Matrix t (via e n)) (omega arith) c

-- by way of an element that names none nothing more is met
pub round_none : (t : List ℕ) (k : ℕ) → Matrix t (cell t) → any_below (cell t k) 64 ≡ false → Matrix t (through k (cell t))
round_none t k c e = matrix_same t (cell t) (through k (cell t)) c (λ i j hi hj. go (cell t i j) (cell t i k) (cell t k j) (any_none (cell t k) 64 e j hj))
  where
    go : (a b d : Bool) → d ≡ false → a ≡ (a || (b && d))
    go a b true p = absurd (clash p)
    go true b false p = refl
    go false true false p = refl
    go false false false p = refl

-- where no relation is known yet
pub matrix_none : (t : List ℕ) (v : ℕ → ℕ → Bool) → t ≡ replicate 4096 0 → ((i j : ℕ) → v i j ≡ false) → Matrix t v
matrix_none t v e f =
    record {
      size = ap length e ∙ length-replicate {A = ℕ} 4096 0;
      says = λ p h. ap (λ (l : List ℕ). get_or l p 0) e ∙ get_or-replicate 4096 p 0 0 h ∙ sym (ap bit (f (p / 64) (p % 64)));
    }

-- the way from one table to the other
pub via_same : (e f : ℕ → ℕ → Bool) (k : ℕ) → k ≤ 64 → ((i j : ℕ) → i < 64 → j < 64 → e i j ≡ f i j) → (i j : ℕ) → i < 64 → j < 64 → via e k i j ≡ via f k i j
unfolding via
via_same e f zero h s i j hi hj = s i j hi hj
via_same e f (suc k) h s i j hi hj =
    λ x. via_same e f k (omega arith) s i j hi hj x || (via_same e f k (omega arith) s i k hi (omega arith) x && via_same e f k (omega arith) s k j (omega arith) hj x)

pub closed_edges : (e : ℕ → ℕ → Bool) (t t' : List ℕ) → Matrix t e → Matrix t' (via (cell t) 64) → Matrix t' (via e 64)
closed_edges e t t' c d = matrix_same t' (via (cell t) 64) (via e 64) d (via_same (cell t) e 64 (omega arith) (λ i j hi hj. matrix_cell t e c i j hi hj))

pub matrix_own : (t : List ℕ) (v : ℕ → ℕ → Bool) → Matrix t v → Matrix t (cell t)
matrix_own t v c = matrix_same t v (cell t) c (λ i j hi hj. sym (matrix_cell t v c i j hi hj))
