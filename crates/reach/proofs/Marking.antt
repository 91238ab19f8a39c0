-- Which element names which, in a table.
-- Assumes nothing.
use mathlib.Core.Path.{◌≡◌, refl, sym, ap, ap₂, ◌∙◌, subst}
use mathlib.Core.Bool.{Bool, true, false, ◌&&◌, ◌||◌}
use mathlib.Core.List.{List, [], ◌∷◌}
use Prim.Native.Nat.{ℕ, suc, ◌+◌, ◌-◌, ◌*◌, ◌/◌, ◌%◌, ◌≤◌, ◌<◌}
use native.Mathlib.Numerals.{add-one}
use native.Mathlib.Omega.{arith}
use lib.Dec.{eqb, ltb}
use borrow.Author.Tests.{eq-eqb, ne_eqb, lt-ltb, le-ltb, ltb-true, ltb-false, eqb-true, eqb-false}
use lib.ListN.{length, get_or, set, length-set, drop, drop_of_length-le, replicate}
use lib.Seq.{get_or-set_same, get_or-set_other, drop-cons}
use Rattle.basics.specs.Choice.{bit, pick}
use Rattle.basics.proofs.Truth.{or_true}
use Rattle.trees.specs.Layout.{Elements}
use Rattle.reach.specs.Table.{Matrix, mark1, marked}
use Rattle.reach.specs.Uses.{names, replaced, writes, uses}
use Rattle.reach.proofs.Warshall.{matrix_same, matrix_none}

-- ---- the loop over an equation's nodes

marked_cons : (m : List ℕ) (i c : ℕ) (ns : List ℕ) → marked m i (c ∷ ns) ≡ marked (mark1 m i c) i ns
unfolding marked
marked_cons m i c ns = refl

marked_nil : (m : List ℕ) (i : ℕ) → marked m i [] ≡ m
unfolding marked
marked_nil m i = refl

pub mark_length : (m : List ℕ) (i c : ℕ) → length (mark1 m i c) ≡ length m
mark_length m i c = go (ltb c 9) (ltb c 73)
  where
    go : (a b : Bool) → length (pick a m (pick b (set m (i * 64 + (c - 9)) 1) m)) ≡ length m
    go true b = refl
    go false true = length-set m (i * 64 + (c - 9)) 1
    go false false = refl

pub record Naming (m₀ : List ℕ) (i : ℕ) (ns m : List ℕ) (k : ℕ) : Type 0 where
  pub size : length m ≡ 4096
  pub says : marked m i (drop k ns) ≡ marked m₀ i ns

pub naming_more : (m₀ : List ℕ) (i : ℕ) (ns m m' : List ℕ) (k : ℕ) → k < length ns → Naming m₀ i ns m k → m' ≡ mark1 m i (get_or ns k 0) → Naming m₀ i ns m' (k + 1)
naming_more m₀ i ns m m' k h c e =
    record {
      size = ap length e ∙ mark_length m i (get_or ns k 0) ∙ c.size;
      says =
          ap₂ (λ (x : List ℕ) (j : ℕ). marked x i (drop j ns)) e (add-one k)
          ∙ sym (marked_cons m i (get_or ns k 0) (drop (suc k) ns))
          ∙ ap (marked m i) (sym (drop-cons ns k 0 h))
          ∙ c.says;
    }

pub naming_end : (m₀ : List ℕ) (i : ℕ) (ns m : List ℕ) (k : ℕ) → length ns ≤ k → Naming m₀ i ns m k → m ≡ marked m₀ i ns
naming_end m₀ i ns m k h c = sym (marked_nil m i) ∙ ap (marked m i) (sym (drop_of_length-le ns h)) ∙ c.says

-- ---- what the marked table says

none : (x y : Bool) → (x || (y && false)) ≡ x
none true y = refl
none false true = refl
none false false = refl

both_false : (x y : Bool) → (x ≡ true → y ≡ true → ⊥) → (x && y) ≡ false
both_false true true f = absurd (f refl refl)
both_false true false f = refl
both_false false y f = refl

spread_or : (x y z w : Bool) → ((x || (y && z)) || (y && w)) ≡ (x || (y && (z || w)))
spread_or true y z w = refl
spread_or false true z w = refl
spread_or false false z w = refl

or_false : (x : Bool) → (x || false) ≡ x
or_false true = refl
or_false false = refl

one_set : (m : List ℕ) (v : ℕ → ℕ → Bool) (i c : ℕ) → i < 64 → 9 ≤ c → c < 73 → Matrix m v → Matrix (set m (i * 64 + (c - 9)) 1) (λ a b. v a b || (eqb a i && eqb c (9 + b)))
one_set m v i c hi lo up z = record { size = length-set m (i * 64 + (c - 9)) 1 ∙ z.size; says = says }
  where
    says : (p : ℕ) → p < 4096 → get_or (set m (i * 64 + (c - 9)) 1) p 0 ≡ bit (v (p / 64) (p % 64) || (eqb (p / 64) i && eqb c (9 + p % 64)))
    says p hp = go (eqb p (i * 64 + (c - 9))) refl
      where
        go : (x : Bool) → eqb p (i * 64 + (c - 9)) ≡ x → get_or (set m (i * 64 + (c - 9)) 1) p 0 ≡ bit (v (p / 64) (p % 64) || (eqb (p / 64) i && eqb c (9 + p % 64)))
        go true e =
            let q : p ≡ i * 64 + (c - 9) = eqb-true p (i * 64 + (c - 9)) e in
            let s = z.size in
            ap (λ (x : ℕ). get_or (set m (i * 64 + (c - 9)) 1) x 0) q
            ∙ get_or-set_same m (i * 64 + (c - 9)) 1 0 (omega arith)
            ∙ sym (ap₂ (λ (x y : Bool). bit (v (p / 64) (p % 64) || (x && y))) (eq-eqb (p / 64) i (omega arith)) (eq-eqb c (9 + p % 64) (omega arith)) ∙ ap bit (or_true (v (p / 64) (p % 64))))
        go false e =
            get_or-set_other m (i * 64 + (c - 9)) p 1 0 (eqb-false p (i * 64 + (c - 9)) e)
            ∙ z.says p hp
            ∙ sym
            (ap (λ (x : Bool). bit (v (p / 64) (p % 64) || x))
            (both_false (eqb (p / 64) i) (eqb c (9 + p % 64))
            (λ x y. let a = eqb-true (p / 64) i x in let b = eqb-true c (9 + p % 64) y in eqb-false p (i * 64 + (c - 9)) e (omega arith)))
            ∙ ap bit (or_false (v (p / 64) (p % 64))))

one_node : (m : List ℕ) (v : ℕ → ℕ → Bool) (i c : ℕ) → i < 64 → Matrix m v → Matrix (mark1 m i c) (λ a b. v a b || (eqb a i && eqb c (9 + b)))
one_node m v i c hi z = go (ltb c 9) (ltb c 73) refl refl
  where
    w : ℕ → ℕ → Bool
    w a b = v a b || (eqb a i && eqb c (9 + b))

    keep : ((b : ℕ) → b < 64 → eqb c (9 + b) ≡ false) → Matrix m w
    keep f = matrix_same m v w z (λ a b ha hb. sym (ap (λ (x : Bool). v a b || (eqb a i && x)) (f b hb) ∙ none (v a b) (eqb a i)))

    go : (x y : Bool) → ltb c 9 ≡ x → ltb c 73 ≡ y → Matrix (pick x m (pick y (set m (i * 64 + (c - 9)) 1) m)) w
    go true y ex ey = let l : c < 9 = ltb-true c 9 ex in keep (λ b hb. ne_eqb c (9 + b) (λ e. omega arith))
    go false false ex ey = let l : 73 ≤ c = ltb-false c 73 ey in keep (λ b hb. ne_eqb c (9 + b) (λ e. omega arith))
    go false true ex ey = one_set m v i c hi (ltb-false c 9 ex) (ltb-true c 73 ey) z

pub marks : (ns m : List ℕ) (v : ℕ → ℕ → Bool) (i : ℕ) → i < 64 → Matrix m v → Matrix (marked m i ns) (λ a b. v a b || (eqb a i && names ns b))
unfolding marked names
marks [] m v i hi z = matrix_same m v (λ a b. v a b || (eqb a i && names [] b)) z (λ a b ha hb. sym (none (v a b) (eqb a i)))
marks (c ∷ ns) m v i hi z = matrix_same (marked (mark1 m i c) i ns) (λ a b. (v a b || (eqb a i && eqb c (9 + b))) || (eqb a i && names ns b)) (λ a b. v a b || (eqb a i && names (c ∷ ns) b)) (marks ns (mark1 m i c) (λ a b. v a b || (eqb a i && eqb c (9 + b))) i hi (one_node m v i c hi z)) (λ a b ha hb. spread_or (v a b) (eqb a i) (eqb c (9 + b)) (names ns b))

-- ---- all elements

pub record Edging (e : Elements) (m : List ℕ) (i : ℕ) : Type 0 where
  pub under : i ≤ 64
  pub says : Matrix m (λ a b. ltb a i && uses e a b)

pub edging_start : (e : Elements) (m : List ℕ) → m ≡ replicate 4096 0 → Edging e m 0
edging_start e m q = record { under = omega arith; says = matrix_none m (λ a b. ltb a 0 && uses e a b) q (λ i j. ap (λ (x : Bool). x && uses e i j) (le-ltb i 0 (omega arith))) }

next_row : (x y : Bool) (a i : ℕ) → (a ≡ i → y ≡ x) → ((ltb a i && x) || (eqb a i && y)) ≡ (ltb a (i + 1) && x)
next_row x y a i f = go (ltb a i) (eqb a i) refl refl
  where
    go : (l q : Bool) → ltb a i ≡ l → eqb a i ≡ q → ((l && x) || (q && y)) ≡ (ltb a (i + 1) && x)
    go true q el eq =
        let h : a < i = ltb-true a i el in
        let z : eqb a i ≡ false = ne_eqb a i (λ e. omega arith) in
        ap (λ (b : Bool). x || (b && y)) (sym eq ∙ z) ∙ or_false x ∙ sym (ap (λ (b : Bool). b && x) (lt-ltb a (i + 1) (omega arith)))
    go false true el eq = let h : a ≡ i = eqb-true a i eq in f h ∙ sym (ap (λ (b : Bool). b && x) (lt-ltb a (i + 1) (omega arith)))
    go false false el eq =
        let h : i ≤ a = ltb-false a i el in
        let n = eqb-false a i eq in
        sym (ap (λ (b : Bool). b && x) (le-ltb a (i + 1) (omega arith)))

-- in the row of an element that is replaced
in_row : (e : Elements) (a b : ℕ) → replaced e a ≡ true → b < 64 → names (e.nodes a) b ≡ uses e a b
unfolding uses writes
in_row e a b q h = sym (λ x. q x && (lt-ltb b 64 h x && names (e.nodes a) b))

no_row : (e : Elements) (a b : ℕ) → replaced e a ≡ false → false ≡ uses e a b
unfolding uses
no_row e a b q = sym (λ x. q x && writes e a b)

pub edging_more : (e : Elements) (m m' : List ℕ) (i : ℕ) → i < 64 → Edging e m i → m' ≡ pick (replaced e i) (marked m i (e.nodes i)) m → Edging e m' (i + 1)
edging_more e m m' i h c q = record { under = omega arith; says = subst (λ (l : List ℕ). Matrix l (λ a b. ltb a (i + 1) && uses e a b)) (sym q) (go (replaced e i) refl) }
  where
    go : (x : Bool) → replaced e i ≡ x → Matrix (pick x (marked m i (e.nodes i)) m) (λ a b. ltb a (i + 1) && uses e a b)
    go true q =
        matrix_same (marked m i (e.nodes i)) (λ a b. (ltb a i && uses e a b) || (eqb a i && names (e.nodes i) b)) (λ a b. ltb a (i + 1) && uses e a b)
        (marks (e.nodes i) m (λ a b. ltb a i && uses e a b) i h c.says)
        (λ a b ha hb. next_row (uses e a b) (names (e.nodes i) b) a i (λ z. in_row e i b q hb ∙ ap (λ (k : ℕ). uses e k b) (sym z)))
    go false q =
        matrix_same m (λ a b. ltb a i && uses e a b) (λ a b. ltb a (i + 1) && uses e a b) c.says
        (λ a b ha hb. sym (or_false (ltb a i && uses e a b)) ∙ sym (ap (λ (x : Bool). (ltb a i && uses e a b) || x) (none false (eqb a i))) ∙ next_row (uses e a b) false a i
        (λ z. no_row e i b q ∙ ap (λ (k : ℕ). uses e k b) (sym z)))

pub edging_end : (e : Elements) (m : List ℕ) (i : ℕ) → 64 ≤ i → Edging e m i → Matrix m (uses e)
edging_end e m i h c =
    let u = c.under in
    matrix_same m (λ a b. ltb a i && uses e a b) (uses e) c.says
    (λ a b ha hb. ap (λ (x : Bool). x && uses e a b) (lt-ltb a i (omega arith)))
