-- The nodes of a tree show where its REGs stand.
-- Assumes nothing.
use mathlib.Core.Path.{◌≡◌, refl, sym, ap, ap₂, ◌∙◌}
use mathlib.Core.Bool.{Bool, true, false, not, ◌&&◌, ◌||◌}
use mathlib.Core.List.{List, [], ◌∷◌, ◌++◌}
use Prim.Native.Nat.{ℕ, suc, ◌+◌, ◌-◌, ◌≤◌, ◌<◌}
use native.Mathlib.Numerals.{add-one}
use native.Mathlib.Omega.{arith}
use lib.Dec.{eqb}
use borrow.Author.Tests.{ne_eqb}
use lib.ListN.{length, get_or, take, drop, drop_of_length-le}
use lib.Seq.{drop-cons}
use Rattle.std.proofs.Common.{take-append-drop}
use Rattle.trees.specs.Tree.{Tree, flat}
use Rattle.trees.specs.Tree.Tree.{name, low, high, neg, conj, disj, differ, mux, reg, held}
use Rattle.circuit.specs.Placed.{plain, topped, placed, plain_n, placed_n}
use Rattle.reach.specs.Uses.{is_reg}

and_assoc : (a b c : Bool) → (a && b && c) ≡ (a && (b && c))
and_assoc true b c = refl
and_assoc false b c = refl

and_one : (a : Bool) → (a && true) ≡ a
and_one true = refl
and_one false = refl

or_none : (a : Bool) → (a || false) ≡ a
or_none true = refl
or_none false = refl

or_one : (a : Bool) → (a || true) ≡ true
or_one true = refl
or_one false = refl

plain_append : (xs ys : List ℕ) → plain_n (xs ++ ys) ≡ (plain_n xs && plain_n ys)
unfolding plain_n
plain_append [] ys = refl
plain_append (x ∷ xs) ys = ap (λ (b : Bool). not (is_reg x) && b) (plain_append xs ys) ∙ sym (and_assoc (not (is_reg x)) (plain_n xs) (plain_n ys))

two_plain : (xs ys : List ℕ) (a b : Bool) → plain_n xs ≡ a → plain_n ys ≡ b → plain_n (xs ++ ys) ≡ (a && b)
two_plain xs ys a b e f = plain_append xs ys ∙ ap₂ (λ (x y : Bool). x && y) e f

last_plain : (xs : List ℕ) (c : ℕ) (a : Bool) → is_reg c ≡ false → plain_n xs ≡ a → plain_n (xs ++ c ∷ []) ≡ a
unfolding plain_n
last_plain xs c a n e = plain_append xs (c ∷ []) ∙ ap₂ (λ (x y : Bool). x && (not y && true)) e n ∙ and_one a

last_reg : (xs : List ℕ) (c : ℕ) → is_reg c ≡ true → plain_n (xs ++ c ∷ []) ≡ false
unfolding plain_n
last_reg xs c n = plain_append xs (c ∷ []) ∙ ap (λ (y : Bool). plain_n xs && (not y && true)) n ∙ zero (plain_n xs)
  where
    zero : (a : Bool) → (a && false) ≡ false
    zero true = refl
    zero false = refl

name_plain : (k : ℕ) → is_reg (9 + k) ≡ false
name_plain k = ap₂ (λ (x y : Bool). x || y) (ne_eqb (9 + k) 7 (λ e. omega arith)) (ne_eqb (9 + k) 8 (λ e. omega arith))

pub plain_flat : (t : Tree) → plain_n (flat t) ≡ plain t
unfolding flat plain plain_n
plain_flat (name k) = ap (λ (b : Bool). not b && true) (name_plain k)
plain_flat low = refl
plain_flat high = refl
plain_flat (neg t) = last_plain (flat t) 2 (plain t) refl (plain_flat t)
plain_flat (conj t u) = last_plain (flat t ++ flat u) 3 (plain t && plain u) refl (two_plain (flat t) (flat u) (plain t) (plain u) (plain_flat t) (plain_flat u))
plain_flat (disj t u) = last_plain (flat t ++ flat u) 4 (plain t && plain u) refl (two_plain (flat t) (flat u) (plain t) (plain u) (plain_flat t) (plain_flat u))
plain_flat (differ t u) = last_plain (flat t ++ flat u) 5 (plain t && plain u) refl (two_plain (flat t) (flat u) (plain t) (plain u) (plain_flat t) (plain_flat u))
plain_flat (mux s a b) =
    last_plain (flat s ++ flat a ++ flat b) 6 (plain s && (plain a && plain b)) refl
    (two_plain (flat s ++ flat a) (flat b) (plain s && plain a) (plain b) (two_plain (flat s) (flat a) (plain s) (plain a) (plain_flat s) (plain_flat a)) (plain_flat b) ∙ and_assoc (plain s) (plain a) (plain b))
plain_flat (reg d) = last_reg (flat d) 7 refl
plain_flat (held e d) = last_reg (flat e ++ flat d) 8 refl

-- the last node may be anything but ~
end_one : (xs : List ℕ) (c : ℕ) → eqb c 2 ≡ false → placed_n (xs ++ c ∷ []) ≡ plain_n xs
unfolding placed_n plain_n
end_one [] c n = refl
end_one (x ∷ []) c n = ap (λ (b : Bool). not (is_reg x) || b) n ∙ or_none (not (is_reg x)) ∙ sym (and_one (not (is_reg x)))
end_one (x ∷ y ∷ []) c n = ap (λ (b : Bool). not (is_reg x) && b) (end_one (y ∷ []) c n)
end_one (x ∷ y ∷ z ∷ xs) c n = ap (λ (b : Bool). not (is_reg x) && b) (end_one (y ∷ z ∷ xs) c n)

-- and where it is ~, so may the one before
end_two : (xs : List ℕ) (c : ℕ) → placed_n ((xs ++ c ∷ []) ++ 2 ∷ []) ≡ plain_n xs
unfolding placed_n plain_n
end_two [] c = or_one (not (is_reg c))
end_two (x ∷ []) c = ap (λ (b : Bool). not (is_reg x) && b) (end_two [] c)
end_two (x ∷ y ∷ []) c = ap (λ (b : Bool). not (is_reg x) && b) (end_two (y ∷ []) c)
end_two (x ∷ y ∷ z ∷ xs) c = ap (λ (b : Bool). not (is_reg x) && b) (end_two (y ∷ z ∷ xs) c)

both : (t u : Tree) → plain_n (flat t ++ flat u) ≡ (plain t && plain u)
both t u = two_plain (flat t) (flat u) (plain t) (plain u) (plain_flat t) (plain_flat u)

three : (s a b : Tree) → plain_n (flat s ++ flat a ++ flat b) ≡ (plain s && (plain a && plain b))
three s a b = two_plain (flat s ++ flat a) (flat b) (plain s && plain a) (plain b) (both s a) (plain_flat b) ∙ and_assoc (plain s) (plain a) (plain b)

under : (t : Tree) → placed_n (flat t ++ 2 ∷ []) ≡ topped t
unfolding flat topped plain_n
under (name k) = end_two [] (9 + k)
under low = end_two [] 0
under high = end_two [] 1
under (neg t) = end_two (flat t) 2 ∙ plain_flat t
under (conj t u) = end_two (flat t ++ flat u) 3 ∙ both t u
under (disj t u) = end_two (flat t ++ flat u) 4 ∙ both t u
under (differ t u) = end_two (flat t ++ flat u) 5 ∙ both t u
under (mux s a b) = end_two (flat s ++ flat a ++ flat b) 6 ∙ three s a b
under (reg d) = end_two (flat d) 7 ∙ plain_flat d
under (held e d) = end_two (flat e ++ flat d) 8 ∙ both e d

pub placed_flat : (t : Tree) → placed_n (flat t) ≡ placed t
unfolding flat placed plain_n
placed_flat (name k) = end_one [] (9 + k) (ne_eqb (9 + k) 2 (λ e. omega arith))
placed_flat low = end_one [] 0 refl
placed_flat high = end_one [] 1 refl
placed_flat (neg t) = under t
placed_flat (conj t u) = end_one (flat t ++ flat u) 3 refl ∙ both t u
placed_flat (disj t u) = end_one (flat t ++ flat u) 4 refl ∙ both t u
placed_flat (differ t u) = end_one (flat t ++ flat u) 5 refl ∙ both t u
placed_flat (mux s a b) = end_one (flat s ++ flat a ++ flat b) 6 refl ∙ three s a b
placed_flat (reg d) = end_one (flat d) 7 refl ∙ plain_flat d
placed_flat (held e d) = end_one (flat e ++ flat d) 8 refl ∙ both e d

-- ---- the nodes before the last two, and those

placed_split : (xs : List ℕ) (a b : ℕ) → placed_n (xs ++ a ∷ b ∷ []) ≡ (plain_n xs && (not (is_reg a) || eqb b 2))
unfolding placed_n plain_n
placed_split [] a b = refl
placed_split (x ∷ []) a b = ap (λ (r : Bool). r && (not (is_reg a) || eqb b 2)) (sym (and_one (not (is_reg x))))
placed_split (x ∷ y ∷ []) a b = ap (λ (r : Bool). not (is_reg x) && r) (placed_split (y ∷ []) a b) ∙ sym (and_assoc (not (is_reg x)) (plain_n (y ∷ [])) (not (is_reg a) || eqb b 2))
placed_split (x ∷ y ∷ z ∷ xs) a b = ap (λ (r : Bool). not (is_reg x) && r) (placed_split (y ∷ z ∷ xs) a b) ∙ sym (and_assoc (not (is_reg x)) (plain_n (y ∷ z ∷ xs)) (not (is_reg a) || eqb b 2))

two_left : (ns : List ℕ) (n : ℕ) → n + 2 ≡ length ns → drop n ns ≡ get_or ns n 0 ∷ get_or ns (n + 1) 0 ∷ []
two_left ns n h =
    drop-cons ns n 0 (omega arith)
    ∙ ap (λ (l : List ℕ). get_or ns n 0 ∷ l) (ap (λ (k : ℕ). drop k ns) (sym (add-one n)) ∙ drop-cons ns (n + 1) 0 (omega arith) ∙ ap (λ (l : List ℕ). get_or ns (n + 1) 0 ∷ l) (drop_of_length-le ns {i = suc (n + 1)} (omega arith)))

placed_at : (ns : List ℕ) (n : ℕ) → n + 2 ≡ length ns → placed_n ns ≡ (plain_n (take n ns) && (not (is_reg (get_or ns n 0)) || eqb (get_or ns (n + 1) 0) 2))
placed_at ns n h = ap placed_n (sym (take-append-drop n ns) ∙ ap (λ (l : List ℕ). take n ns ++ l) (two_left ns n h)) ∙ placed_split (take n ns) (get_or ns n 0) (get_or ns (n + 1) 0)

pub placed_parts : (ns : List ℕ) → 2 ≤ length ns → placed_n ns ≡ (plain_n (take (length ns - 2) ns) && (not (is_reg (get_or ns (length ns - 2) 0)) || eqb (get_or ns (length ns - 2 + 1) 0) 2))
placed_parts ns h = placed_at ns (length ns - 2) (omega arith)

pub no_two : (ns : List ℕ) → length ns < 2 → placed_n ns ≡ true
unfolding placed_n
no_two [] h = refl
no_two (c ∷ []) h = refl
no_two (c ∷ d ∷ ns) h = absurd (omega arith)

-- ---- no REG at all

pub plain_next : (ns : List ℕ) (i : ℕ) → i < length ns → plain_n (drop i ns) ≡ (not (is_reg (get_or ns i 0)) && plain_n (drop (i + 1) ns))
unfolding plain_n
plain_next ns i h = ap plain_n (drop-cons ns i 0 h) ∙ ap (λ (k : ℕ). not (is_reg (get_or ns i 0)) && plain_n (drop k ns)) (sym (add-one i))

pub plain_none : (ns : List ℕ) (i : ℕ) → length ns ≤ i → plain_n (drop i ns) ≡ true
unfolding plain_n
plain_none ns i h = ap plain_n (drop_of_length-le ns h)
