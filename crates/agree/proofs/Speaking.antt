-- The pins that an equation names are those of INs and of registered OUTs. Assumes nothing.
use mathlib.Core.Path.{◌≡◌, refl, sym, ap, ap₂, ◌∙◌, subst}
use mathlib.Core.Logic.{◌⊎◌, inl, inr, ⊎_elim}
use mathlib.Core.Bool.{Bool, true, false, ◌&&◌, ◌||◌}
use mathlib.Core.List.{List}
use Prim.Native.Nat.{ℕ, ◌<◌}
use lib.Dec.{T, eqb, ltb}
use borrow.Author.Tests.{lt-ltb, eqb-true}
use Rattle.basics.specs.Choice.{pick}
use Rattle.basics.specs.Below.{any_below}
use Rattle.basics.proofs.Truth.{clash, true_of, or_cases, or_true, and_l, and_r}
use Rattle.trees.specs.Layout.{Elements}
use Rattle.reach.specs.Uses.{is_reg, from_end, registers, inverts, keeps, remains}
use Rattle.meaning.specs.Circuit.{circuit_of}
use Rattle.pins.specs.Named.{mentions, mentions_at, names_pin}
use Rattle.agree.specs.Passed.{Passed}
use Rattle.agree.proofs.Basic.{any_some, and_first, and_second}
use Rattle.agree.proofs.Positions.{is_in, right_in, out_own}

-- an equation that keeps its value has a register, and so has one that inverts it
pub keeps_registers : (ns : List ℕ) → keeps ns ≡ true → registers ns ≡ true
unfolding keeps registers inverts
keeps_registers ns e = go (eqb (from_end ns 0) 7) (eqb (from_end ns 0) 8) (eqb (from_end ns 0) 2) (eqb (from_end ns 1) 7) (eqb (from_end ns 1) 8) e
  where
    go : (a b c d f : Bool) → pick b true (pick c f false) ≡ true → pick (a || b) true (pick c (d || f) false) ≡ true
    go true b c d f t = refl
    go false true c d f t = refl
    go false false true d true t = or_true d
    go false false true d false t = absurd (clash (sym t))
    go false false false d f t = t

pub inverts_registers : (ns : List ℕ) → inverts ns ≡ true → registers ns ≡ true
unfolding registers
inverts_registers ns e = go (is_reg (from_end ns 0))
  where
    go : (b : Bool) → pick b true (inverts ns) ≡ true
    go true = refl
    go false = e

-- an element that remains
remains_cases : (e : Elements) (j : ℕ) → remains e j ≡ true → (e.class j ≡ 1) ⊎ ((e.class j ≡ 2) × (registers (e.nodes j) ≡ true))
unfolding remains
remains_cases e j t = go (eqb (e.class j) 1) refl (eqb (e.class j) 2) refl t
  where
    go : (a : Bool) → eqb (e.class j) 1 ≡ a → (b : Bool) → eqb (e.class j) 2 ≡ b → pick a true (pick b (registers (e.nodes j)) false) ≡ true
        → (e.class j ≡ 1) ⊎ ((e.class j ≡ 2) × (registers (e.nodes j) ≡ true))
    go true p b q t = inl (eqb-true _ _ p)
    go false p true q t = inr (eqb-true _ _ q, t)
    go false p false q t = absurd (clash (sym t))

module _ (e : Elements) (ok : Passed e) where
  -- the pin of an OUT with register
  register-at : (i : ℕ) → i < 64 → e.class i ≡ 2 → registers (e.nodes i) ≡ true → (circuit_of e).registered (e.pin i) ≡ true
  register-at i h c r =
      ap (λ (x : ℕ). ltb x 64 && registers (e.nodes x)) (out_own e ok i h c) ∙ ap₂ (λ (a b : Bool). a && b) (lt-ltb i 64 h) r

  mentioned : (o p j : ℕ) → j < 64 → mentions_at e o p j ≡ true → (is_in p ≡ true) ⊎ ((circuit_of e).registered p ≡ true)
  mentioned o p j h t =
      let a = and_first (remains e j) (eqb (e.pin j) p && mentions e o j) t in
      let b = eqb-true _ _ (and_first (eqb (e.pin j) p) (mentions e o j) (and_second (remains e j) (eqb (e.pin j) p && mentions e o j) t)) in
      ⊎_elim
      (λ (c : e.class j ≡ 1). inl (subst (λ (x : ℕ). is_in x ≡ true) b (right_in e ok j h c)))
      (λ (c : (e.class j ≡ 2) × (registers (e.nodes j) ≡ true)). inr (subst (λ (x : ℕ). (circuit_of e).registered x ≡ true) b (register-at j h c.0 c.1)))
      (remains_cases e j a)

  -- THE LAW: a pin that an OUT's equation names is that of an IN, or of an OUT with register
  pub named_is : (o p : ℕ) → o < 64 → e.class o ≡ 2 → T (names_pin e o p) → (is_in p ≡ true) ⊎ ((circuit_of e).registered p ≡ true)
  unfolding names_pin
  named_is o p h c t =
      ⊎_elim
      (λ (u : T (any_below (mentions_at e o p) 64)). let s = any_some (mentions_at e o p) 64 u in mentioned o p s.one s.small s.passes)
      (λ (u : T (keeps (e.nodes o) && eqb (e.pin o) p)).
      let k = true_of _ (and_l (keeps (e.nodes o)) (eqb (e.pin o) p) u) in
      let q = eqb-true _ _ (true_of _ (and_r (keeps (e.nodes o)) (eqb (e.pin o) p) u)) in
      inr (subst (λ (x : ℕ). (circuit_of e).registered x ≡ true) q (register-at o h c (keeps_registers (e.nodes o) k))))
      (or_cases (any_below (mentions_at e o p) 64) (keeps (e.nodes o) && eqb (e.pin o) p) t)
