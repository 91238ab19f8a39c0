-- Two elements at one pin: then that pin's number was given twice. What statements write keeps this.
-- Assumes nothing.
use mathlib.Core.Path.{◌≡◌, refl, sym, ap, subst, ◌∙◌}
use mathlib.Core.Bool.{Bool, true, false}
use mathlib.Core.List.{List}
use Prim.Native.Nat.{ℕ, zero, suc, ◌+◌, ◌-◌, ◌<◌, ◌≤◌}
use native.Mathlib.Omega.{arith}
use lib.ListN.{length, get_or, set, length-set}
use lib.Seq.{get_or-set_same, get_or-set_other}
use lib.Dec.{eqb, leb}
use lib.IntN.{ℤ, pos, negsuc}
use borrow.Author.Tests.{eqb-true, eqb-false, ne_eqb, leb-true}
use Rattle.basics.specs.Choice.{pick}
use Rattle.trees.specs.Layout.{start_at, size_at, times_at, named_at, pin_at, count_at, given_at}
use Rattle.parts.specs.Parts.{used_at, raised, allows, one_more, pinned_in, positioned_in, miscounted_from}
use Rattle.reached.proofs.Unbounded as free

-- the pin of an element, and how often a number was given
abbrev pub pin : List ℕ → ℕ → ℕ
pin l i = get_or l (pin_at + i) 0

abbrev pub given : List ℕ → ℕ → ℕ
given l p = get_or l (given_at + p) 0

-- the memory of the circuit: an element's pin was given, and a pin of two elements was given twice
pub record Pinned (l : List ℕ) : Type 0 where
  pub size : length l ≡ 2588
  pub once : (i : ℕ) → i < 64 → 1 ≤ pin l i → pin l i ≤ 24 → 1 ≤ given l (pin l i)
  pub twice : (i j : ℕ) → i < 64 → j < 64 → (i ≡ j → ⊥) → pin l i ≡ pin l j → 1 ≤ pin l i → pin l i ≤ 24 → 2 ≤ given l (pin l i)

-- ---- a write that is not to the tables of pins

module _ (l : List ℕ) (k v : ℕ) (pins : (i : ℕ) → i < 64 → pin_at + i ≡ k → ⊥) (gifts : (p : ℕ) → p ≤ 24 → given_at + p ≡ k → ⊥) where
  abbrev l' : List ℕ
  l' = set l k v

  pin-stays : (i : ℕ) → i < 64 → pin l' i ≡ pin l i
  pin-stays i h = get_or-set_other l k (pin_at + i) v 0 (pins i h)

  given_stays : (i : ℕ) → i < 64 → pin l i ≤ 24 → given l' (pin l' i) ≡ given l (pin l i)
  given_stays i h g = ap (given l') (pin-stays i h) ∙ get_or-set_other l k (given_at + pin l i) v 0 (gifts (pin l i) g)

  pub set_aside : Pinned l → Pinned l'
  set_aside r =
      record {
        size = length-set l k v ∙ r.size;
        once = λ i h a b.
            let e = pin-stays i h in
            let q = given_stays i h (omega arith) in
            let o : 1 ≤ given l (pin l i) = r.once i h (omega arith) (omega arith) in
            omega arith;
        twice = λ i j h g n s a b.
            let e = pin-stays i h in
            let f = pin-stays j g in
            let q = given_stays i h (omega arith) in
            let o : 2 ≤ given l (pin l i) = r.twice i j h g n (sym e ∙ s ∙ f) (omega arith) (omega arith) in
            omega arith;
      }

pub raised_aside : (l : List ℕ) (k : ℕ) → ((i : ℕ) → i < 64 → pin_at + i ≡ k → ⊥) → ((p : ℕ) → p ≤ 24 → given_at + p ≡ k → ⊥) → Pinned l → Pinned (raised l k)
unfolding raised
raised_aside l k a b r = set_aside l k (pick (eqb (get_or l k 0) 0) 1 2) a b r

-- ---- a number is given to an element

-- one more, counted to 2
abbrev upped : ℕ → ℕ
upped n = pick (eqb n 0) 1 2

one_up : (n : ℕ) → 1 ≤ upped n
one_up n = go (eqb n 0)
  where
    go : (b : Bool) → 1 ≤ pick b 1 2
    go true = omega arith
    go false = omega arith

two_up : (n : ℕ) → 1 ≤ n → upped n ≡ 2
two_up n h = simp (ne_eqb n 0 (λ q. omega arith))

module _ (l : List ℕ) (k p : ℕ) (r : Pinned l) (hk : k < 64) (lo : 1 ≤ p) (hi : p ≤ 24) where
  abbrev l₁ : List ℕ
  l₁ = set l (pin_at + k) p

  abbrev up : ℕ
  up = upped (get_or l₁ (given_at + p) 0)

  abbrev l₂ : List ℕ
  l₂ = set l₁ (given_at + p) up

  was : (q : ℕ) → q ≤ 24 → given l₁ q ≡ given l q
  was q h = get_or-set_other l (pin_at + k) (given_at + q) p 0 (λ e. omega arith)

  here : given l₂ p ≡ up
  here =
      let z = r.size in
      let y : length l₁ ≡ length l = length-set l (pin_at + k) p in
      get_or-set_same l₁ (given_at + p) up 0 (omega arith)

  there : (q : ℕ) → q ≤ 24 → (q ≡ p → ⊥) → given l₂ q ≡ given l q
  there q h n = get_or-set_other l₁ (given_at + p) (given_at + q) up 0 (λ e. n (let g : q ≡ p = omega arith in g)) ∙ was q h

  pin-here : pin l₂ k ≡ p
  pin-here =
      let z = r.size in
      get_or-set_other l₁ (given_at + p) (pin_at + k) up 0 (λ e. omega arith) ∙ get_or-set_same l (pin_at + k) p 0 (omega arith)

  pin-there : (i : ℕ) → i < 64 → (i ≡ k → ⊥) → pin l₂ i ≡ pin l i
  pin-there i h n =
      get_or-set_other l₁ (given_at + p) (pin_at + i) up 0 (λ e. omega arith)
      ∙ get_or-set_other l (pin_at + k) (pin_at + i) p 0 (λ e. n (let g : i ≡ k = omega arith in g))

  given-once : 1 ≤ given l₂ p
  given-once = let e = here in let u : 1 ≤ up = one_up (get_or l₁ (given_at + p) 0) in omega arith

  given-twice : 1 ≤ given l p → 2 ≤ given l₂ p
  given-twice h = let e = here in let w = was p hi in let u : up ≡ 2 = two_up (get_or l₁ (given_at + p) 0) (omega arith) in omega arith

  -- how often the number q was given does not fall
  never_less : (q : ℕ) → q ≤ 24 → 1 ≤ given l q → 1 ≤ given l₂ q
  never_less q h g = go (eqb q p) refl
    where
      go : (b : Bool) → eqb q p ≡ b → 1 ≤ given l₂ q
      go true e = subst (λ (n : ℕ). 1 ≤ given l₂ n) (sym (eqb-true q p e)) given-once
      go false e = let w = there q h (eqb-false q p e) in omega arith

  never-fewer : (q : ℕ) → q ≤ 24 → 2 ≤ given l q → 2 ≤ given l₂ q
  never-fewer q h g = go (eqb q p) refl
    where
      go : (b : Bool) → eqb q p ≡ b → 2 ≤ given l₂ q
      go true e =
          let m : 1 ≤ given l p = subst (λ (n : ℕ). 1 ≤ given l n) (eqb-true q p e) (let f : 1 ≤ given l q = omega arith in f) in
          subst (λ (n : ℕ). 2 ≤ given l₂ n) (sym (eqb-true q p e)) (given-twice m)
      go false e = let w = there q h (eqb-false q p e) in omega arith

  -- element i other than k
  other-once : (i : ℕ) → i < 64 → (i ≡ k → ⊥) → 1 ≤ pin l₂ i → pin l₂ i ≤ 24 → 1 ≤ given l₂ (pin l₂ i)
  other-once i h n a b =
      let e = pin-there i h n in
      subst (λ (q : ℕ). 1 ≤ given l₂ q) (sym e) (never_less (pin l i) (omega arith) (r.once i h (omega arith) (omega arith)))

  with-other : (j : ℕ) → j < 64 → (j ≡ k → ⊥) → pin l₂ j ≡ p → 2 ≤ given l₂ p
  with-other j h n s =
      let e = pin-there j h n in
      let q : pin l j ≡ p = sym e ∙ s in
      given-twice (subst (λ (m : ℕ). 1 ≤ given l m) q (r.once j h (omega arith) (omega arith)))

  pub gift : Pinned l₂
  gift =
      record {
        size = length-set l₁ (given_at + p) up ∙ length-set l (pin_at + k) p ∙ r.size;
        once = λ i h a b. one i h a b (eqb i k) refl;
        twice = λ i j h g n s a b. two i j h g n s a b (eqb i k) refl (eqb j k) refl;
      }
    where
      one : (i : ℕ) → i < 64 → 1 ≤ pin l₂ i → pin l₂ i ≤ 24 → (b : Bool) → eqb i k ≡ b → 1 ≤ given l₂ (pin l₂ i)
      one i h a b true e = subst (λ (m : ℕ). 1 ≤ given l₂ (pin l₂ m)) (sym (eqb-true i k e)) (subst (λ (q : ℕ). 1 ≤ given l₂ q) (sym pin-here) given-once)
      one i h a b false e = other-once i h (eqb-false i k e) a b

      two : (i j : ℕ) → i < 64 → j < 64 → (i ≡ j → ⊥) → pin l₂ i ≡ pin l₂ j → 1 ≤ pin l₂ i → pin l₂ i ≤ 24
          → (b : Bool) → eqb i k ≡ b → (c : Bool) → eqb j k ≡ c → 2 ≤ given l₂ (pin l₂ i)
      two i j h g n s a b true e true f = absurd (n (eqb-true i k e ∙ sym (eqb-true j k f)))
      two i j h g n s a b true e false f =
          let u : pin l₂ i ≡ p = ap (pin l₂) (eqb-true i k e) ∙ pin-here in
          subst (λ (q : ℕ). 2 ≤ given l₂ q) (sym u) (with-other j g (eqb-false j k f) (sym s ∙ u))
      two i j h g n s a b false e true f =
          let u : pin l₂ i ≡ p = s ∙ ap (pin l₂) (eqb-true j k f) ∙ pin-here in
          subst (λ (q : ℕ). 2 ≤ given l₂ q) (sym u) (with-other i h (eqb-false i k e) u)
      two i j h g n s a b false e false f =
          let u = pin-there i h (eqb-false i k e) in
          let v = pin-there j g (eqb-false j k f) in
          subst (λ (q : ℕ). 2 ≤ given l₂ q) (sym u) (never-fewer (pin l i) (omega arith) (r.twice i j h g n (sym u ∙ s ∙ v) (omega arith) (omega arith)))

-- ---- what statements write

pick_keeps : (b : Bool) (x y : List ℕ) → (b ≡ true → Pinned x) → (b ≡ false → Pinned y) → Pinned (pick b x y)
pick_keeps true x y p q = p refl
pick_keeps false x y p q = q refl

pinned_keeps : (l : List ℕ) (k : ℕ) (z : ℤ) → k < 64 → Pinned l → Pinned (pinned_in l k z)
unfolding raised
pinned_keeps l k (pos p) h r =
    pick_keeps (leb 1 p) _ l (λ a. pick_keeps (leb p 24) (raised (set l (pin_at + k) p) (given_at + p)) l (λ b. gift l k p r h (leb-true 1 p a) (leb-true p 24 b)) (λ b. r)) (λ a. r)
pinned_keeps l k (negsuc p) h r = r

-- a position
pub positioned_keeps : (l : List ℕ) (k : ℕ) (z : ℤ) → k < 64 → Pinned l → Pinned (positioned_in l k z)
unfolding positioned_in
positioned_keeps l k z h r = pinned_keeps (raised l (named_at + k)) k z h (raised_aside l (named_at + k) (λ i g e. omega arith) (λ p g e. omega arith) r)

-- a position of wrong count
pub miscounted_keeps : (n : ℕ) (l : List ℕ) (k : ℕ) → k + n ≤ 64 → Pinned l → Pinned (miscounted_from l k n)
unfolding miscounted_from
miscounted_keeps zero l k h r = r
miscounted_keeps (suc n) l k h r =
    miscounted_keeps n (set (raised l (named_at + k)) (count_at + k) 1) (k + 1) (omega arith)
    (set_aside (raised l (named_at + k)) (count_at + k) 1 (λ i g e. omega arith) (λ p g e. omega arith)
    (raised_aside l (named_at + k) (λ i g e. omega arith) (λ p g e. omega arith) r))

-- an assignment
pub assigned_keeps : (l : List ℕ) (k a b : ℕ) → k < 64 → Pinned l → Pinned (free.assigned_in l k a b)
unfolding free.assigned_in
assigned_keeps l k a b h r =
    raised_aside (set (set l (start_at + k) a) (size_at + k) (b - a)) (times_at + k) (λ i g e. omega arith) (λ p g e. omega arith)
    (set_aside (set l (start_at + k) a) (size_at + k) (b - a) (λ i g e. omega arith) (λ p g e. omega arith)
    (set_aside l (start_at + k) a (λ i g e. omega arith) (λ p g e. omega arith) r))

-- a count of rounds and statements
pub used_keeps : (l : List ℕ) → Pinned l → Pinned (one_more l used_at 4096)
unfolding one_more
used_keeps l r =
    pick_keeps (allows l used_at 4096) (set l used_at (get_or l used_at 0 + 1)) l
    (λ b. set_aside l used_at (get_or l used_at 0 + 1) (λ i g e. omega arith) (λ p g e. omega arith) r) (λ b. r)
