-- The nodes of an equation lie among the 2,048: so a run of nodes is never cut. What statements write keeps this.
-- Assumes nothing.
use mathlib.Core.Path.{◌≡◌, refl, sym, ap, subst, ◌∙◌}
use mathlib.Core.Bool.{Bool, true, false}
use mathlib.Core.List.{List, [], ◌∷◌}
use Prim.Native.Nat.{ℕ, zero, suc, ◌+◌, ◌-◌, ◌<◌, ◌≤◌}
use native.Mathlib.Omega.{arith}
use lib.ListN.{length, get_or, set, take, drop, length-set}
use lib.Seq.{get_or-set_same, get_or-set_other}
use lib.Dec.{eqb, leb}
use lib.IntN.{ℤ, pos, negsuc}
use borrow.Author.Tests.{eqb-true, eqb-false, leb-true}
use Rattle.basics.specs.Choice.{pick}
use Rattle.trees.specs.Layout.{start_at, size_at, times_at, named_at, pin_at, count_at, given_at, nodes_at}
use Rattle.parts.specs.Parts.{used_at, raised, allows, one_more, pinned_in, positioned_in, miscounted_from}
use Rattle.reached.proofs.Unbounded as free

abbrev pub begins : List ℕ → ℕ → ℕ
begins l i = get_or l (start_at + i) 0

abbrev pub counts : List ℕ → ℕ → ℕ
counts l i = get_or l (size_at + i) 0

-- the memory of the circuit: each element's nodes are a run among the first 2,048 numbers
pub record Runs (l : List ℕ) : Type 0 where
  pub size : length l ≡ 2588
  pub run : (i : ℕ) → i < 64 → begins l i + counts l i ≤ 2048

-- ---- a write that is not to the tables of runs

pub set_beside : (l : List ℕ) (k v : ℕ) → ((i : ℕ) → i < 64 → start_at + i ≡ k → ⊥) → ((i : ℕ) → i < 64 → size_at + i ≡ k → ⊥) → Runs l → Runs (set l k v)
set_beside l k v a b r =
    record {
      size = length-set l k v ∙ r.size;
      run = λ i h.
          let e : begins (set l k v) i ≡ begins l i = get_or-set_other l k (start_at + i) v 0 (a i h) in
          let f : counts (set l k v) i ≡ counts l i = get_or-set_other l k (size_at + i) v 0 (b i h) in
          let o = r.run i h in
          omega arith;
    }

raised_beside : (l : List ℕ) (k : ℕ) → ((i : ℕ) → i < 64 → start_at + i ≡ k → ⊥) → ((i : ℕ) → i < 64 → size_at + i ≡ k → ⊥) → Runs l → Runs (raised l k)
unfolding raised
raised_beside l k a b r = set_beside l k (pick (eqb (get_or l k 0) 0) 1 2) a b r

pick_keeps : (b : Bool) (x y : List ℕ) → (b ≡ true → Runs x) → (b ≡ false → Runs y) → Runs (pick b x y)
pick_keeps true x y p q = p refl
pick_keeps false x y p q = q refl

pinned_runs : (l : List ℕ) (k : ℕ) (z : ℤ) → k < 64 → Runs l → Runs (pinned_in l k z)
pinned_runs l k (pos p) h r =
    pick_keeps (leb 1 p) _ l (λ a. pick_keeps (leb p 24) (raised (set l (pin_at + k) p) (given_at + p)) l
    (λ b. let u : p ≤ 24 = leb-true p 24 b in
    raised_beside (set l (pin_at + k) p) (given_at + p) (λ i g e. omega arith) (λ i g e. omega arith)
    (set_beside l (pin_at + k) p (λ i g e. omega arith) (λ i g e. omega arith) r)) (λ b. r)) (λ a. r)
pinned_runs l k (negsuc p) h r = r

pub positioned_runs : (l : List ℕ) (k : ℕ) (z : ℤ) → k < 64 → Runs l → Runs (positioned_in l k z)
unfolding positioned_in
positioned_runs l k z h r = pinned_runs (raised l (named_at + k)) k z h (raised_beside l (named_at + k) (λ i g e. omega arith) (λ i g e. omega arith) r)

pub miscounted_runs : (n : ℕ) (l : List ℕ) (k : ℕ) → k + n ≤ 64 → Runs l → Runs (miscounted_from l k n)
unfolding miscounted_from
miscounted_runs zero l k h r = r
miscounted_runs (suc n) l k h r =
    miscounted_runs n (set (raised l (named_at + k)) (count_at + k) 1) (k + 1) (omega arith)
    (set_beside (raised l (named_at + k)) (count_at + k) 1 (λ i g e. omega arith) (λ i g e. omega arith)
    (raised_beside l (named_at + k) (λ i g e. omega arith) (λ i g e. omega arith) r))

pub used_runs : (l : List ℕ) → Runs l → Runs (one_more l used_at 4096)
unfolding one_more
used_runs l r =
    pick_keeps (allows l used_at 4096) (set l used_at (get_or l used_at 0 + 1)) l
    (λ b. set_beside l used_at (get_or l used_at 0 + 1) (λ i g e. omega arith) (λ i g e. omega arith) r) (λ b. r)

-- ---- an assignment

module _ (l : List ℕ) (k a b : ℕ) (h : k < 64) (lo : a ≤ 2048) (hi : b ≤ 2048) (r : Runs l) where
  abbrev l₁ : List ℕ
  l₁ = set l (start_at + k) a

  abbrev l₂ : List ℕ
  l₂ = set l₁ (size_at + k) (b - a)

  run-here : begins l₂ k + counts l₂ k ≤ 2048
  run-here =
      let z = r.size in
      let y : length l₁ ≡ length l = length-set l (start_at + k) a in
      let e : begins l₂ k ≡ a = get_or-set_other l₁ (size_at + k) (start_at + k) (b - a) 0 (λ q. omega arith) ∙ get_or-set_same l (start_at + k) a 0 (omega arith) in
      let f : counts l₂ k ≡ b - a = get_or-set_same l₁ (size_at + k) (b - a) 0 (omega arith) in
      omega arith

  run-there : (i : ℕ) → i < 64 → (i ≡ k → ⊥) → begins l₂ i + counts l₂ i ≤ 2048
  run-there i g n =
      let e : begins l₂ i ≡ begins l i =
      get_or-set_other l₁ (size_at + k) (start_at + i) (b - a) 0 (λ q. omega arith) ∙ get_or-set_other l (start_at + k) (start_at + i) a 0 (λ q. n (let u : i ≡ k = omega arith in u)) in
      let f : counts l₂ i ≡ counts l i =
      get_or-set_other l₁ (size_at + k) (size_at + i) (b - a) 0 (λ q. n (let u : i ≡ k = omega arith in u)) ∙ get_or-set_other l (start_at + k) (size_at + i) a 0 (λ q. omega arith) in
      let o = r.run i g in
      omega arith

  noted-run : Runs l₂
  noted-run = record { size = length-set l₁ (size_at + k) (b - a) ∙ length-set l (start_at + k) a ∙ r.size; run = λ i g. go i g (eqb i k) refl }
    where
      go : (i : ℕ) → i < 64 → (c : Bool) → eqb i k ≡ c → begins l₂ i + counts l₂ i ≤ 2048
      go i g true e = subst (λ (j : ℕ). begins l₂ j + counts l₂ j ≤ 2048) (sym (eqb-true i k e)) run-here
      go i g false e = run-there i g (eqb-false i k e)

  pub assigned_runs : Runs (free.assigned_in l k a b)
  unfolding free.assigned_in
  assigned_runs = raised_beside l₂ (times_at + k) (λ i g e. omega arith) (λ i g e. omega arith) noted-run

-- ---- a run is not cut

take_inside : (n m : ℕ) (l : List ℕ) → m ≤ n → take m (take n l) ≡ take m l
take_inside n zero l h = refl
take_inside zero (suc m) l h = absurd (omega arith)
take_inside (suc n) (suc m) [] h = refl
take_inside (suc n) (suc m) (a ∷ l) h = ap (λ (u : List ℕ). a ∷ u) (take_inside n m l (omega arith))

uncut : (k m n : ℕ) (l : List ℕ) → k + m ≤ n → take m (drop k (take n l)) ≡ take m (drop k l)
uncut zero m n l h = take_inside n m l (omega arith)
uncut (suc k) m zero l h = absurd (omega arith)
uncut (suc k) m (suc n) [] h = refl
uncut (suc k) m (suc n) (a ∷ l) h = uncut k m n l (omega arith)

-- the nodes of an element are all that were written for it
pub nodes_whole : (l : List ℕ) (i : ℕ) → i < 64 → Runs l → nodes_at l i ≡ take (counts l i) (drop (begins l i) l)
unfolding nodes_at
nodes_whole l i h r = uncut (begins l i) (counts l i) 2048 l (r.run i h)
