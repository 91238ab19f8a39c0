-- What a register holds has no effect on an equation without a two-part REG. Assumes nothing.
use mathlib.Core.Path.{◌≡◌, refl, sym, ap, ap₂, ◌∙◌}
use mathlib.Core.Bool.{Bool, true, false, not, ◌&&◌, ◌||◌}
use mathlib.Core.List.{List, [], ◌∷◌}
use Prim.Native.Nat.{ℕ, suc, ◌+◌, ◌-◌, ◌≤◌, ◌<◌}
use native.Mathlib.Nat.{eq-or-lt_of_le}
use native.Mathlib.Omega.{arith}
use mathlib.Core.Logic.{⊎_elim}
use lib.Dec.{eqb, ltb}
use borrow.Author.Tests.{lt-ltb, eqb-false, ltb-true}
use lib.ListN.{length, get_or, drop}
use Rattle.basics.specs.Choice.{pick}
use Rattle.basics.proofs.Truth.{clash}
use Rattle.trees.specs.Machine.{run, step, gate, node_value, arity, value_of}
use Rattle.reach.specs.Uses.{is_reg, from_end, keeps}
use Rattle.circuit.specs.Placed.{placed_n}

-- some node is a two-part REG
unfoldable pub two_part : List ℕ → Bool
two_part [] = false
two_part (c ∷ ns) = eqb c 8 || two_part ns

from_cons : (c d : ℕ) (l : List ℕ) (k : ℕ) → k < length (d ∷ l) → from_end (c ∷ d ∷ l) k ≡ from_end (d ∷ l) k
unfolding from_end
from_cons c d l k h =
    let a : length (c ∷ d ∷ l) - 1 - k ≡ suc (length (d ∷ l) - 1 - k) = omega arith in
    ap₂ (λ (b : Bool) (i : ℕ). pick b (get_or (c ∷ d ∷ l) i 0) 0) (lt-ltb k (length (c ∷ d ∷ l)) (omega arith)) a
    ∙ sym (ap (λ (b : Bool). pick b (get_or (d ∷ l) (length (d ∷ l) - 1 - k) 0) 0) (lt-ltb k (length (d ∷ l)) h))

keeps_cons : (c d e : ℕ) (l : List ℕ) → keeps (c ∷ d ∷ e ∷ l) ≡ keeps (d ∷ e ∷ l)
unfolding keeps
keeps_cons c d e l =
    ap₂ (λ (x y : ℕ). pick (eqb x 8) true (pick (eqb x 2) (eqb y 8) false)) (from_cons c d (e ∷ l) 0 (omega arith)) (from_cons c d (e ∷ l) 1 (omega arith))

plain_eight : (c : ℕ) → not (is_reg c) ≡ true → eqb c 8 ≡ false
plain_eight c q = go (eqb c 7) (eqb c 8) q
  where
    go : (a b : Bool) → not (a || b) ≡ true → b ≡ false
    go true b z = absurd (clash (sym z))
    go false true z = absurd (clash (sym z))
    go false false z = refl

both_true : (a b : Bool) → (a && b) ≡ true → (a ≡ true) × (b ≡ true)
both_true true b q = (refl, q)
both_true false b q = absurd (clash (sym q))

-- where REG stands at the top only, and is none of two parts, no node is one
pub none_two : (ns : List ℕ) → placed_n ns ≡ true → keeps ns ≡ false → two_part ns ≡ false
unfolding placed_n two_part keeps from_end
none_two [] p k = refl
none_two (c ∷ []) p k = one (eqb c 8) (eqb c 2) (eqb 0 8) k
  where
    one : (a b d : Bool) → pick a true (pick b d false) ≡ false → (a || false) ≡ false
    one true b d q = q
    one false b d q = refl
none_two (c ∷ d ∷ []) p k = two (eqb c 7) (eqb c 8) (eqb d 2) (eqb d 8) p k
  where
    two : (x y b a : Bool) → (not (x || y) || b) ≡ true → pick a true (pick b y false) ≡ false → (y || (a || false)) ≡ false
    two x y b true p q = absurd (clash q)
    two x false b false p q = refl
    two x true true false p q = absurd (clash q)
    two true true false false p q = absurd (clash (sym p))
    two false true false false p q = absurd (clash (sym p))
none_two (c ∷ d ∷ e ∷ ns) p k =
    let b = both_true (not (is_reg c)) (placed_n (d ∷ e ∷ ns)) p in
    ap₂ (λ (x y : Bool). x || y) (plain_eight c b.0) (none_two (d ∷ e ∷ ns) b.1 (sym (keeps_cons c d e ns) ∙ k))

least : (c : ℕ) → 0 ≤ c
least c = omega arith

up : (k c : ℕ) → k ≤ c → (c ≡ k → ⊥) → k + 1 ≤ c
up k c h n = ⊎_elim (λ (e : k ≡ c). absurd (n (sym e))) (λ (l : k < c). next k c l) (eq-or-lt_of_le h)
  where
    next : (k c : ℕ) → k < c → k + 1 ≤ c
    next k c l = omega arith

apart : (c : ℕ) → c < 9 → 9 ≤ c → ⊥
apart c h l = absurd (omega arith)

gate_same : (c : ℕ) (x y z q r : Bool) → eqb c 8 ≡ false → ltb c 9 ≡ true → gate c x y z q ≡ gate c x y z r
gate_same c x y z q r n l = go (eqb c 0) (eqb c 1) (eqb c 2) (eqb c 3) (eqb c 4) (eqb c 5) (eqb c 6) (eqb c 7) refl refl refl refl refl refl refl refl
  where
    h : c < 9
    h = ltb-true c 9 l

    go : (a₀ a₁ a₂ a₃ a₄ a₅ a₆ a₇ : Bool) → eqb c 0 ≡ a₀ → eqb c 1 ≡ a₁ → eqb c 2 ≡ a₂ → eqb c 3 ≡ a₃ → eqb c 4 ≡ a₄ → eqb c 5 ≡ a₅ → eqb c 6 ≡ a₆ → eqb c 7 ≡ a₇ → gate c x y z q ≡ gate c x y z r
    go true a₁ a₂ a₃ a₄ a₅ a₆ a₇ e₀ e₁ e₂ e₃ e₄ e₅ e₆ e₇ = simp e₀
    go false true a₂ a₃ a₄ a₅ a₆ a₇ e₀ e₁ e₂ e₃ e₄ e₅ e₆ e₇ = simp (e₀, e₁)
    go false false true a₃ a₄ a₅ a₆ a₇ e₀ e₁ e₂ e₃ e₄ e₅ e₆ e₇ = simp (e₀, e₁, e₂)
    go false false false true a₄ a₅ a₆ a₇ e₀ e₁ e₂ e₃ e₄ e₅ e₆ e₇ = simp (e₀, e₁, e₂, e₃)
    go false false false false true a₅ a₆ a₇ e₀ e₁ e₂ e₃ e₄ e₅ e₆ e₇ = simp (e₀, e₁, e₂, e₃, e₄)
    go false false false false false true a₆ a₇ e₀ e₁ e₂ e₃ e₄ e₅ e₆ e₇ = simp (e₀, e₁, e₂, e₃, e₄, e₅)
    go false false false false false false true a₇ e₀ e₁ e₂ e₃ e₄ e₅ e₆ e₇ = simp (e₀, e₁, e₂, e₃, e₄, e₅, e₆)
    go false false false false false false false true e₀ e₁ e₂ e₃ e₄ e₅ e₆ e₇ = simp (e₀, e₁, e₂, e₃, e₄, e₅, e₆, e₇)
    go false false false false false false false false e₀ e₁ e₂ e₃ e₄ e₅ e₆ e₇ =
        let n₀ = eqb-false c 0 e₀ in
        let n₁ = eqb-false c 1 e₁ in
        let n₂ = eqb-false c 2 e₂ in
        let n₃ = eqb-false c 3 e₃ in
        let n₄ = eqb-false c 4 e₄ in
        let n₅ = eqb-false c 5 e₅ in
        absurd (last n₀ n₁ n₂ n₃ n₄ n₅ (eqb-false c 6 e₆) (eqb-false c 7 e₇) (eqb-false c 8 n))
      where
        last : (c ≡ 0 → ⊥) → (c ≡ 1 → ⊥) → (c ≡ 2 → ⊥) → (c ≡ 3 → ⊥) → (c ≡ 4 → ⊥) → (c ≡ 5 → ⊥) → (c ≡ 6 → ⊥) → (c ≡ 7 → ⊥) → (c ≡ 8 → ⊥) → ⊥
        last n₀ n₁ n₂ n₃ n₄ n₅ n₆ n₇ n₈ = apart c h (up 8 c (up 7 c (up 6 c (up 5 c (up 4 c (up 3 c (up 2 c (up 1 c (up 0 c (least c) n₀) n₁) n₂) n₃) n₄) n₅) n₆) n₇) n₈)

node_same : (v : ℕ → Bool) (c : ℕ) (x y z q r : Bool) → eqb c 8 ≡ false → node_value v q c x y z ≡ node_value v r c x y z
node_same v c x y z q r n = go (ltb c 9) refl
  where
    go : (b : Bool) → ltb c 9 ≡ b → pick b (gate c x y z q) (v (c - 9)) ≡ pick b (gate c x y z r) (v (c - 9))
    go true e = gate_same c x y z q r n e
    go false e = refl

or_both : (a b : Bool) → (a || b) ≡ false → (a ≡ false) × (b ≡ false)
or_both true b q = absurd (clash q)
or_both false b q = (refl, q)

pub run_own : (v : ℕ → Bool) (q r : Bool) (ns : List ℕ) (st : List Bool) → two_part ns ≡ false → run v q ns st ≡ run v r ns st
unfolding run two_part
run_own v q r [] st n = refl
run_own v q r (c ∷ ns) st n =
    let b = or_both (eqb c 8) (two_part ns) n in
    run_own v q r ns (step v q c st) b.1
    ∙ ap (run v r ns) (ap (λ (x : Bool). x ∷ drop (arity c) st) (node_same v c (get_or st 0 false) (get_or st 1 false) (get_or st 2 false) q r b.0))

pub value_own : (v : ℕ → Bool) (q r : Bool) (ns : List ℕ) → two_part ns ≡ false → value_of v q ns ≡ value_of v r ns
unfolding value_of
value_own v q r ns n = ap (λ (l : List Bool). get_or l 0 false) (run_own v q r ns [] n)
