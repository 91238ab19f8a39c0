-- The pins of elements that stage 5 lets pass. Assumes nothing.
use mathlib.Core.Path.{◌≡◌, refl, sym, ap, ◌∙◌, subst}
use mathlib.Core.Logic.{◌⊎◌, inl, inr, ⊎_elim}
use mathlib.Core.Bool.{Bool, true, false, not, ◌&&◌, ◌||◌}
use Prim.Native.Nat.{ℕ, zero, suc, ◌≤◌, ◌<◌}
use native.Mathlib.Omega.{arith}
use lib.Dec.{eqb, ltb}
use borrow.Author.Tests.{ltb-true, lt-ltb, le-ltb, eq-eqb, eqb-true}
use Rattle.basics.specs.Choice.{pick}
use Rattle.basics.proofs.Truth.{clash}
use Rattle.basics.specs.Below.{all_below}
use Rattle.basics.proofs.Folds.{all_at}
use Rattle.basics.proofs.Store.{below_or_not}
use Rattle.trees.specs.Layout.{Elements}
use Rattle.circuit.specs.Pins.{role_of}
use Rattle.circuit.specs.Placed.{placed_n, plain_n}
use Rattle.circuit.specs.StageFive.{positioned_right, mispositioned, misplaced, first_below}
use Rattle.circuit.proofs.First.{first_is}
use Rattle.meaning.specs.Circuit.{out_at}
use Rattle.meaning.proofs.Fine.{Fine, fine_is}
use Rattle.meaning.proofs.Standing.{right_role, out_at_lem}
use Rattle.gal.specs.Map.{is_cell}
use Rattle.agree.specs.Passed.{Passed}
use Rattle.agree.proofs.Basic.{first_passes, and_first, and_second, not_false}

-- ---- roles

role_beyond : (p : ℕ) → 24 ≤ p → role_of p ≡ 0
unfolding role_of
role_beyond p h =
    simp (le-ltb p 1 (omega arith), le-ltb p 2 (omega arith), le-ltb p 12 (omega arith), le-ltb p 13 (omega arith), le-ltb p 14 (omega arith), le-ltb p 24 h)

-- what a role says, by each pin
role_says : (r : ℕ) (f : ℕ → Bool) → eqb 0 r ≡ false → all_below (λ p. not (eqb (role_of p) r) || f p) 24 ≡ true → (p : ℕ) → role_of p ≡ r → f p ≡ true
role_says r f n t p e =
    ⊎_elim
    (λ (h : p < 24). sym (ap (λ (b : Bool). not b || f p) (eq-eqb (role_of p) r e)) ∙ all_at (λ p. not (eqb (role_of p) r) || f p) 24 t p h)
    (λ (h : 24 ≤ p). absurd (clash (sym (eq-eqb 0 r (sym (role_beyond p h) ∙ e)) ∙ n)))
    (below_or_not p 24)

-- an IN's pin
abbrev pub is_in : ℕ → Bool
is_in p = (ltb 1 p && ltb p 12) || eqb p 13

pub role_in : (p : ℕ) → role_of p ≡ 1 → is_in p ≡ true
unfolding role_of all_below
role_in p e = role_says 1 is_in refl refl p e

pub role_out : (p : ℕ) → role_of p ≡ 2 → is_cell p ≡ true
unfolding role_of all_below
role_out p e = role_says 2 is_cell refl refl p e

-- where none is first, none passes
pub none_first : (f : ℕ → Bool) (n i : ℕ) → i ≤ n → ltb (first_below f n) n ≡ false → (k : ℕ) → k < i → f k ≡ false
none_first f n zero h e k l = absurd (omega arith)
none_first f n (suc i) h e k l = next f n i (omega arith) e (λ j m. none_first f n i (omega arith) e j m) k l
  where
    next : (f : ℕ → Bool) (n i : ℕ) → i < n → ltb (first_below f n) n ≡ false → ((j : ℕ) → j < i → f j ≡ false) → (k : ℕ) → k < suc i → f k ≡ false
    next f n i h e before k l = go (f i) refl
      where
        go : (b : Bool) → f i ≡ b → f k ≡ false
        go true q = absurd (clash (sym (lt-ltb (first_below f n) n (subst (λ (x : ℕ). x < n) (sym (first_is f n i h before q)) h)) ∙ e))
        go false q = ⊎_elim (λ (z : k < i). before k z) (λ (z : i ≤ k). let w : k ≡ i = omega arith in ap f w ∙ q) (below_or_not k i)

-- an IN or an OUT of right position
right : (e : Elements) (i : ℕ) → mispositioned e i ≡ false → (e.class i ≡ 1) ⊎ (e.class i ≡ 2) → positioned_right e i ≡ true
unfolding mispositioned
right e i q (inl c) = not_false _ (sym (ap (λ (k : ℕ). pick (eqb k 1) (not (positioned_right e i)) (pick (eqb k 2) (not (positioned_right e i)) (pick (eqb k 3) (not (eqb (e.positioned i) 0)) false))) c) ∙ q)
right e i q (inr c) = not_false _ (sym (ap (λ (k : ℕ). pick (eqb k 1) (not (positioned_right e i)) (pick (eqb k 2) (not (positioned_right e i)) (pick (eqb k 3) (not (eqb (e.positioned i) 0)) false))) c) ∙ q)

-- ---- the OUT at a pin

module _ (e : Elements) (ok : Passed e) where
  fine-all : Fine e
  fine-all = fine_is e ok.five

  pub right_in : (i : ℕ) → i < 64 → e.class i ≡ 1 → is_in (e.pin i) ≡ true
  right_in i h c = role_in (e.pin i) (eqb-true _ _ (right_role e i (right e i (fine-all.positioned i h) (inl c))) ∙ c)

  pub right_out : (i : ℕ) → i < 64 → e.class i ≡ 2 → is_cell (e.pin i) ≡ true
  right_out i h c = role_out (e.pin i) (eqb-true _ _ (right_role e i (right e i (fine-all.positioned i h) (inr c))) ∙ c)

  -- its REG stands where it may
  pub right_placed : (i : ℕ) → i < 64 → e.class i ≡ 2 → placed_n (e.nodes i) ≡ true
  unfolding misplaced
  right_placed i h c = not_false _ (sym (ap (λ (k : ℕ). pick (eqb k 2) (not (placed_n (e.nodes i))) (pick (eqb k 3) (not (plain_n (e.nodes i))) false)) c) ∙ fine-all.placed i h)

  -- where there is an OUT at a pin: it is an OUT, at that pin, which is a cell's
  pub record Out (p : ℕ) : Type 0 where
    pub small : out_at e p < 64
    pub class : e.class (out_at e p) ≡ 2
    pub pin : e.pin (out_at e p) ≡ p

  pub out_is : (p : ℕ) → ltb (out_at e p) 64 ≡ true → Out p
  unfolding out_at
  out_is p t =
      let f : ℕ → Bool = λ i. eqb (e.class i) 2 && eqb (e.pin i) p in
      let q = first_passes f 64 t in
      record {
        small = ltb-true (first_below f 64) 64 t;
        class = eqb-true _ _ (and_first (eqb (e.class (first_below f 64)) 2) (eqb (e.pin (first_below f 64)) p) q);
        pin = eqb-true _ _ (and_second (eqb (e.class (first_below f 64)) 2) (eqb (e.pin (first_below f 64)) p) q);
      }

  pub out_cell : (p : ℕ) → ltb (out_at e p) 64 ≡ true → is_cell p ≡ true
  out_cell p t = let o = out_is p t in subst (λ (x : ℕ). is_cell x ≡ true) o.pin (right_out (out_at e p) o.small o.class)

  -- an OUT is the one at its pin
  pub out_own : (i : ℕ) → i < 64 → e.class i ≡ 2 → out_at e (e.pin i) ≡ i
  out_own i h c = out_at_lem e fine-all i h c
