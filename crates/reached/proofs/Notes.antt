-- Where a place or a count is at most 65,535 it is noted, and where there is room a name is added. What declarations write leaves the tables of pins and the
-- counts as they were.
-- Assumes nothing.
use mathlib.Core.Path.{◌≡◌, refl, ap, ◌∙◌}
use mathlib.Core.List.{List}
use Prim.Native.Nat.{ℕ, zero, suc, ◌+◌, ◌-◌, ◌≤◌}
use native.Mathlib.Omega.{arith}
use lib.ListN.{length, get_or, set, length-set}
use lib.Seq.{get_or-set_other}
use borrow.Author.Tests.{le-leb}
use Rattle.names.specs.Names.{extended}
use Rattle.trees.specs.Layout.{class_at, place_at, start_at, size_at, times_at}
use Rattle.parts.specs.Parts.{noted, raised, declared_from, assigned_in}
use Rattle.reached.proofs.Unbounded as free

-- a place or a count that a text can bring is noted
pub noted_sets : (l : List ℕ) (k v : ℕ) → v ≤ 65535 → noted l k v ≡ set l k v
unfolding noted
noted_sets l k v h = simp (le-leb v 65535 h)

-- a name is added where fewer than 128 stand, five numbers each
pub extended_adds : (t : List ℕ) (st n k v m : ℕ) → length t ≤ 635 → st ≤ 65535 → n ≤ 65535 → extended t st n k v m ≡ free.added t st n k v m
unfolding extended
extended_adds t st n k v m h a b = simp (le-leb (length t) 635 h, le-leb st 65535 a, le-leb n 65535 b)

pub declared_free : (c p : ℕ) → p ≤ 65535 → (n : ℕ) (l : List ℕ) (k : ℕ) → declared_from l c p k n ≡ free.declared_from l c p k n
unfolding declared_from free.declared_from
declared_free c p h zero l k = refl
declared_free c p h (suc n) l k =
    ap (λ (m : List ℕ). declared_from m c p (k + 1) n) (noted_sets (set l (class_at + k) c) (place_at + k) p h)
    ∙ declared_free c p h n (set (set l (class_at + k) c) (place_at + k) p) (k + 1)

pub assigned_free : (l : List ℕ) (k a b : ℕ) → a ≤ 65535 → b ≤ 65535 → assigned_in l k a b ≡ free.assigned_in l k a b
unfolding assigned_in free.assigned_in
assigned_free l k a b h g =
    ap (λ (m : List ℕ). raised m (times_at + k))
    (ap (λ (m : List ℕ). noted m (size_at + k) (b - a)) (noted_sets l (start_at + k) a h) ∙ noted_sets (set l (start_at + k) a) (size_at + k) (b - a) (omega arith))

pub declared_size : (c p n : ℕ) (l : List ℕ) (k : ℕ) → length (free.declared_from l c p k n) ≡ length l
unfolding free.declared_from
declared_size c p zero l k = refl
declared_size c p (suc n) l k =
    declared_size c p n (set (set l (class_at + k) c) (place_at + k) p) (k + 1)
    ∙ length-set (set l (class_at + k) c) (place_at + k) p ∙ length-set l (class_at + k) c

pub declared_leaves : (c p n : ℕ) (l : List ℕ) (k j : ℕ) → k + n ≤ 64 → 2176 ≤ j → get_or (free.declared_from l c p k n) j 0 ≡ get_or l j 0
unfolding free.declared_from
declared_leaves c p zero l k j h g = refl
declared_leaves c p (suc n) l k j h g =
    declared_leaves c p n (set (set l (class_at + k) c) (place_at + k) p) (k + 1) j (omega arith) g
    ∙ get_or-set_other (set l (class_at + k) c) (place_at + k) j p 0 (λ q. omega arith) ∙ get_or-set_other l (class_at + k) j c 0 (λ q. omega arith)
