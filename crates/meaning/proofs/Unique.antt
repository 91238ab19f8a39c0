-- Elements of which none meets itself have exactly one value each on a setting of the pins. Assumes nothing.
use mathlib.Core.Path.{◌≡◌, refl, sym, ap, ◌∙◌}
use mathlib.Core.Bool.{Bool, true, false}
use mathlib.Core.List.{List, [], ◌∷◌}
use Prim.Native.Nat.{ℕ, zero, suc, ◌+◌, ◌-◌, ◌≤◌, ◌<◌}
use native.Mathlib.Omega.{arith}
use lib.Dec.{T, eqb, ltb}
use borrow.Author.Tests.{ltb-false, eq-eqb}
use lib.ListN.{get_or, drop}
use Rattle.basics.specs.Choice.{pick}
use Rattle.basics.proofs.Truth.{or_l, or_r, of_true}
use Rattle.trees.specs.Machine.{run, step, gate, node_value, arity, value_of}
use Rattle.trees.specs.Layout.{Elements}
use Rattle.reach.specs.Uses.{names, replaced}
use Rattle.meaning.specs.Meaning.{known, Solves, value}

-- the value of nodes rests on the named elements only
node_same : (v w : ℕ → Bool) (q : Bool) (c : ℕ) (x y z : Bool) → ((j : ℕ) → c ≡ 9 + j → v j ≡ w j) → node_value v q c x y z ≡ node_value w q c x y z
node_same v w q c x y z f = go (ltb c 9) refl
  where
    go : (b : Bool) → ltb c 9 ≡ b → pick b (gate c x y z q) (v (c - 9)) ≡ pick b (gate c x y z q) (w (c - 9))
    go true e = refl
    go false e = let h : 9 ≤ c = ltb-false c 9 e in f (c - 9) (omega arith)

pub run_same : (v w : ℕ → Bool) (q : Bool) (ns : List ℕ) (st : List Bool) → ((j : ℕ) → T (names ns j) → v j ≡ w j) → run v q ns st ≡ run w q ns st
unfolding run names
run_same v w q [] st f = refl
run_same v w q (c ∷ ns) st f =
    run_same v w q ns (step v q c st) (λ j t. f j (or_r (eqb c (9 + j)) (names ns j) t))
    ∙ ap (run w q ns)
    (ap (λ (b : Bool). b ∷ drop (arity c) st)
    (node_same v w q c (get_or st 0 false) (get_or st 1 false) (get_or st 2 false) (λ j e. f j (or_l (eqb c (9 + j)) (names ns j) (of_true (eqb c (9 + j)) (eq-eqb c (9 + j) e))))))

pub value_same : (v w : ℕ → Bool) (q : Bool) (ns : List ℕ) → ((j : ℕ) → T (names ns j) → v j ≡ w j) → value_of v q ns ≡ value_of w q ns
unfolding value_of
value_same v w q ns f = ap (λ (l : List Bool). get_or l 0 false) (run_same v w q ns [] f)

-- a rank falls along every name from an element that is replaced to another: there is no loop
pub record Ranked (e : Elements) (rank : ℕ → ℕ) : Type 0 where
  pub falls : (i j : ℕ) → T (replaced e i) → T (replaced e j) → T (names (e.nodes i) j) → rank j < rank i

-- an equation's right side, where the elements that it names have the same values
side : (e : Elements) (s v w : ℕ → Bool) (i : ℕ) → (T (replaced e i) → (j : ℕ) → T (names (e.nodes i) j) → v j ≡ w j)
    → pick (replaced e i) (value_of v false (e.nodes i)) (known e s i) ≡ pick (replaced e i) (value_of w false (e.nodes i)) (known e s i)
side e s v w i f = go (replaced e i) refl
  where
    go : (b : Bool) → replaced e i ≡ b → pick b (value_of v false (e.nodes i)) (known e s i) ≡ pick b (value_of w false (e.nodes i)) (known e s i)
    go true q = value_same v w false (e.nodes i) (f (of_true (replaced e i) q))
    go false q = refl

-- an element that is not replaced
leaf : (e : Elements) (s v : ℕ → Bool) → Solves e s v → (i : ℕ) → replaced e i ≡ false → v i ≡ known e s i
leaf e s v z i q = z.says i ∙ ap (λ (b : Bool). pick b (value_of v false (e.nodes i)) (known e s i)) q

-- elements named by one of rank d at most agree, where those of rank below d do
named_agree : (e : Elements) (rank : ℕ → ℕ) → Ranked e rank → (v w : ℕ → Bool) (d i : ℕ) → rank i < suc d
    → ((j : ℕ) → rank j < d → v j ≡ w j) → ((j : ℕ) → replaced e j ≡ false → v j ≡ w j)
    → T (replaced e i) → (j : ℕ) → T (names (e.nodes i) j) → v j ≡ w j
named_agree e rank r v w d i h lower leaves t j n = go (replaced e j) refl
  where
    go : (b : Bool) → replaced e j ≡ b → v j ≡ w j
    go true q = let f = r.falls i j t (of_true (replaced e j) q) n in lower j (omega arith)
    go false q = leaves j q

-- two solutions agree at every element of rank below d
agree : (e : Elements) (s : ℕ → Bool) (rank : ℕ → ℕ) → Ranked e rank → (v w : ℕ → Bool) → Solves e s v → Solves e s w → (d i : ℕ) → rank i < d → v i ≡ w i
agree e s rank r v w sv sw zero i h = absurd (omega arith)
agree e s rank r v w sv sw (suc d) i h =
    sv.says i
    ∙ side e s v w i (named_agree e rank r v w d i h (λ j l. agree e s rank r v w sv sw d j l) (λ j q. leaf e s v sv j q ∙ sym (leaf e s w sw j q)))
    ∙ sym (sw.says i)

pub unique : (e : Elements) (s : ℕ → Bool) (rank : ℕ → ℕ) → Ranked e rank → (v w : ℕ → Bool) → Solves e s v → Solves e s w → (i : ℕ) → v i ≡ w i
unique e s rank r v w sv sw i = agree e s rank r v w sv sw (suc (rank i)) i (omega arith)

-- the value does not change with the depth, once that is above the rank
pub value_suc : (e : Elements) (s : ℕ → Bool) (d i : ℕ) → value e s (suc d) i ≡ pick (replaced e i) (value_of (value e s d) false (e.nodes i)) (known e s i)
unfolding value
value_suc e s d i = refl

pub value_leaf : (e : Elements) (s : ℕ → Bool) (d i : ℕ) → replaced e i ≡ false → value e s d i ≡ known e s i
unfolding value
value_leaf e s zero i q = refl
value_leaf e s (suc d) i q = ap (λ (b : Bool). pick b (value_of (value e s d) false (e.nodes i)) (known e s i)) q

deep : (e : Elements) (s : ℕ → Bool) (rank : ℕ → ℕ) → Ranked e rank → (d i : ℕ) → rank i < d → value e s d i ≡ value e s (suc d) i
deep e s rank r zero i h = absurd (omega arith)
deep e s rank r (suc d) i h =
    value_suc e s d i
    ∙ side e s (value e s d) (value e s (suc d)) i
    (named_agree e rank r (value e s d) (value e s (suc d)) d i h (λ j l. deep e s rank r d j l) (λ j q. value_leaf e s d j q ∙ sym (value_leaf e s (suc d) j q)))
    ∙ sym (value_suc e s (suc d) i)

-- there is a solution
pub exists : (e : Elements) (s : ℕ → Bool) (rank : ℕ → ℕ) → Ranked e rank → (n : ℕ) → ((i : ℕ) → rank i < n) → Solves e s (value e s n)
exists e s rank r n small = record { says = λ i. deep e s rank r n i (small i) ∙ value_suc e s n i }
