-- The last nodes of a tree show whether it is a register, shown inverted, and one that keeps its value. Assumes nothing.
use mathlib.Core.Path.{◌≡◌, refl, ap, ap₂, ◌∙◌}
use mathlib.Core.Bool.{Bool, true, false, ◌||◌}
use mathlib.Core.List.{List, [], ◌∷◌, ◌++◌, append_assoc}
use Prim.Native.Nat.{ℕ, ◌+◌, ◌-◌}
use native.Mathlib.Omega.{arith}
use lib.Dec.{eqb}
use borrow.Author.Tests.{lt-ltb, ne_eqb}
use lib.ListN.{length, get_or, length-append}
use lib.Seq.{get_or_at}
use Rattle.basics.specs.Choice.{pick}
use Rattle.trees.specs.Tree.{Tree, flat}
use Rattle.trees.specs.Tree.Tree.{name, low, high, neg, conj, disj, differ, mux, reg, held}
use Rattle.reach.specs.Uses.{is_reg, from_end, inverts, registers}

-- REG at the top, with one part or with two
unfoldable pub is_register : Tree → Bool
is_register (name k) = false
is_register low = false
is_register high = false
is_register (neg t) = false
is_register (conj t u) = false
is_register (disj t u) = false
is_register (differ t u) = false
is_register (mux s a b) = false
is_register (reg d) = true
is_register (held e d) = true

-- under one ~
unfoldable pub is_inverse : Tree → Bool
is_inverse (name k) = false
is_inverse low = false
is_inverse high = false
is_inverse (neg t) = is_register t
is_inverse (conj t u) = false
is_inverse (disj t u) = false
is_inverse (differ t u) = false
is_inverse (mux s a b) = false
is_inverse (reg d) = false
is_inverse (held e d) = false

-- the last node, and the one before it
last_is : (xs : List ℕ) (c : ℕ) → from_end (xs ++ c ∷ []) 0 ≡ c
unfolding from_end
last_is xs c =
    let a = length-append xs (c ∷ []) in
    let b : length xs ≡ length (xs ++ c ∷ []) - 1 - 0 = omega arith in
    ap (λ (x : Bool). pick x (get_or (xs ++ c ∷ []) (length (xs ++ c ∷ []) - 1 - 0) 0) 0) (lt-ltb 0 (length (xs ++ c ∷ [])) (omega arith))
    ∙ get_or_at xs c [] 0 (length (xs ++ c ∷ []) - 1 - 0) b

before_is : (xs : List ℕ) (c d : ℕ) → from_end ((xs ++ c ∷ []) ++ d ∷ []) 1 ≡ c
unfolding from_end
before_is xs c d =
    let a = length-append xs (c ∷ []) in
    let e = length-append (xs ++ c ∷ []) (d ∷ []) in
    let b : length xs ≡ length ((xs ++ c ∷ []) ++ d ∷ []) - 1 - 1 = omega arith in
    ap (λ (x : Bool). pick x (get_or ((xs ++ c ∷ []) ++ d ∷ []) (length ((xs ++ c ∷ []) ++ d ∷ []) - 1 - 1) 0) 0) (lt-ltb 1 (length ((xs ++ c ∷ []) ++ d ∷ [])) (omega arith))
    ∙ ap (λ (l : List ℕ). get_or l (length ((xs ++ c ∷ []) ++ d ∷ []) - 1 - 1) 0) (append_assoc xs (c ∷ []) (d ∷ []))
    ∙ get_or_at xs c (d ∷ []) 0 (length ((xs ++ c ∷ []) ++ d ∷ []) - 1 - 1) b

-- a tree's last node
unfoldable top : Tree → ℕ
top (name k) = 9 + k
top low = 0
top high = 1
top (neg t) = 2
top (conj t u) = 3
top (disj t u) = 4
top (differ t u) = 5
top (mux s a b) = 6
top (reg d) = 7
top (held e d) = 8

-- and the nodes before it
unfoldable rest : Tree → List ℕ
rest (name k) = []
rest low = []
rest high = []
rest (neg t) = flat t
rest (conj t u) = flat t ++ flat u
rest (disj t u) = flat t ++ flat u
rest (differ t u) = flat t ++ flat u
rest (mux s a b) = flat s ++ flat a ++ flat b
rest (reg d) = flat d
rest (held e d) = flat e ++ flat d

parts : (t : Tree) → flat t ≡ rest t ++ top t ∷ []
unfolding flat top rest
parts (name k) = refl
parts low = refl
parts high = refl
parts (neg t) = refl
parts (conj t u) = refl
parts (disj t u) = refl
parts (differ t u) = refl
parts (mux s a b) = refl
parts (reg d) = refl
parts (held e d) = refl

top_at : (t : Tree) → from_end (flat t) 0 ≡ top t
top_at t = ap (λ (l : List ℕ). from_end l 0) (parts t) ∙ last_is (rest t) (top t)

under_at : (t : Tree) → from_end (flat t ++ 2 ∷ []) 1 ≡ top t
under_at t = ap (λ (l : List ℕ). from_end (l ++ 2 ∷ []) 1) (parts t) ∙ before_is (rest t) (top t) 2

name_top : (k : ℕ) → is_reg (9 + k) ≡ false
name_top k = ap₂ (λ (x y : Bool). x || y) (ne_eqb (9 + k) 7 (λ e. omega arith)) (ne_eqb (9 + k) 8 (λ e. omega arith))

top_reg : (t : Tree) → is_reg (top t) ≡ is_register t
unfolding top is_register
top_reg (name k) = name_top k
top_reg low = refl
top_reg high = refl
top_reg (neg t) = refl
top_reg (conj t u) = refl
top_reg (disj t u) = refl
top_reg (differ t u) = refl
top_reg (mux s a b) = refl
top_reg (reg d) = refl
top_reg (held e d) = refl

inverts_by : (ns : List ℕ) (b : Bool) → eqb (from_end ns 0) 2 ≡ b → inverts ns ≡ pick b (is_reg (from_end ns 1)) false
unfolding inverts
inverts_by ns b q = ap (λ (x : Bool). pick x (is_reg (from_end ns 1)) false) q

plain_top : (t : Tree) → eqb (top t) 2 ≡ false → inverts (flat t) ≡ false
plain_top t q = inverts_by (flat t) false (ap (λ (c : ℕ). eqb c 2) (top_at t) ∙ q)

pub inverts_flat : (t : Tree) → inverts (flat t) ≡ is_inverse t
unfolding top is_inverse flat
inverts_flat (name k) = plain_top (name k) (ne_eqb (9 + k) 2 (λ e. omega arith))
inverts_flat low = plain_top low refl
inverts_flat high = plain_top high refl
inverts_flat (neg t) = inverts_by (flat t ++ 2 ∷ []) true (ap (λ (c : ℕ). eqb c 2) (last_is (flat t) 2)) ∙ ap is_reg (under_at t) ∙ top_reg t
inverts_flat (conj t u) = plain_top (conj t u) refl
inverts_flat (disj t u) = plain_top (disj t u) refl
inverts_flat (differ t u) = plain_top (differ t u) refl
inverts_flat (mux s a b) = plain_top (mux s a b) refl
inverts_flat (reg d) = plain_top (reg d) refl
inverts_flat (held e d) = plain_top (held e d) refl

pub registers_flat : (t : Tree) → registers (flat t) ≡ (is_register t || is_inverse t)
unfolding registers
registers_flat t = ap₂ (λ (a b : Bool). pick a true b) (ap is_reg (top_at t) ∙ top_reg t) (inverts_flat t) ∙ or_is (is_register t) (is_inverse t)
  where
    or_is : (a b : Bool) → pick a true b ≡ (a || b)
    or_is true b = refl
    or_is false b = refl
