-- Arrays by cell that are filled as the elements have their turns. Assumes nothing.
use mathlib.Core.Path.{◌≡◌, refl, sym, ap, ap₂, ◌∙◌, subst}
use mathlib.Core.Logic.{⊎_elim}
use mathlib.Core.Bool.{Bool, true, false, ◌&&◌}
use mathlib.Core.List.{List}
use Prim.Native.Nat.{ℕ, zero, suc, ◌+◌, ◌-◌, ◌≤◌, ◌<◌}
use native.Mathlib.Omega.{arith}
use lib.Dec.{eqb, ltb}
use borrow.Author.Tests.{eqb-true, eqb-false, eq-eqb, le-ltb, lt-ltb, ltb-true}
use lib.ListN.{length, get_or, set, replicate, length-set, get_or-replicate}
use lib.Seq.{get_or-set_same, get_or-set_other, ext_get_or}
use Rattle.basics.specs.Choice.{pick}
use Rattle.basics.proofs.Truth.{and_l, and_r, true_of, of_true, clash}
use Rattle.basics.proofs.Store.{below_or_not}
use Rattle.trees.specs.Layout.{Elements}
use Rattle.circuit.specs.StageFive.{first_below, stage_five}
use Rattle.circuit.specs.StageFive.Verdict.{fine}
use Rattle.meaning.specs.Circuit.{out_at}
use Rattle.fit.specs.Fit.{Programmed, refused as noProducts}
use Rattle.outputs.specs.Outputs.{out_of, fitted_out, cell_of, ten}
use Rattle.outputs.specs.Trial.{tried_of}
use Rattle.outputs.proofs.Trying.{out_pin}
use Rattle.outmap.specs.Sixth.{fills, placed, number_of}

-- ---- the OUT of a cell

first_hit : (f : ℕ → Bool) (n : ℕ) → first_below f n < n → f (first_below f n) ≡ true
unfolding first_below
first_hit f zero h = absurd (omega arith)
first_hit f (suc n) h = go (λ l. first_hit f n l) (ltb (first_below f n) n) refl (f n) refl h
  where
    go : (first_below f n < n → f (first_below f n) ≡ true) → (b : Bool) → ltb (first_below f n) n ≡ b → (c : Bool) → f n ≡ c → pick b (first_below f n) (pick c n (suc n)) < suc n → f (pick b (first_below f n) (pick c n (suc n))) ≡ true
    go w true q c r l = w (ltb-true (first_below f n) n q)
    go w false q true r l = r
    go w false q false r l = absurd (omega arith)

both : (a b : ℕ) (c d : ℕ) → (eqb a b && eqb c d) ≡ true → (a ≡ b) × (c ≡ d)
both a b c d q =
    (eqb-true a b (true_of (eqb a b) (and_l (eqb a b) (eqb c d) (of_true _ q))), eqb-true c d (true_of (eqb c d) (and_r (eqb a b) (eqb c d) (of_true _ q))))

pub out_is : (e : Elements) (p i : ℕ) → out_at e p ≡ i → i < 64 → (e.class i ≡ 2) × (e.pin i ≡ p)
unfolding out_at
out_is e p i q h =
    both (e.class i) 2 (e.pin i) p
    (ap (λ (x : ℕ). eqb (e.class x) 2 && eqb (e.pin x) p) (sym q)
    ∙ first_hit (λ x. eqb (e.class x) 2 && eqb (e.pin x) p) 64 (subst (λ (x : ℕ). x < 64) (sym q) h))

-- ---- what cell k is fitted to among the elements before i

unfoldable pub up_to : Elements → ℕ → ℕ → Programmed
up_to e i k = pick (ltb (out_of e k) i) (fitted_out e (out_of e k)) noProducts

later : (x i : ℕ) → (x ≡ i → ⊥) → ltb x (i + 1) ≡ ltb x i
later x i n =
    ⊎_elim
    (λ (h : x < i). lt-ltb x (i + 1) (omega arith) ∙ sym (lt-ltb x i h))
    (λ (h : i ≤ x).
    ⊎_elim (λ (g : x < i + 1). absurd (n (omega arith))) (λ (g : i + 1 ≤ x). le-ltb x (i + 1) g ∙ sym (le-ltb x i h)) (below_or_not x (i + 1)))
    (below_or_not x i)

upto_same : (e : Elements) (i k : ℕ) → (out_of e k ≡ i → ⊥) → up_to e (i + 1) k ≡ up_to e i k
unfolding up_to
upto_same e i k n = ap (λ (b : Bool). pick b (fitted_out e (out_of e k)) noProducts) (later (out_of e k) i n)

upto_here : (e : Elements) (i k : ℕ) → out_of e k ≡ i → up_to e (i + 1) k ≡ fitted_out e i
unfolding up_to
upto_here e i k q =
    ap (λ (x : ℕ). pick (ltb x (i + 1)) (fitted_out e x) noProducts) q ∙ ap (λ (b : Bool). pick b (fitted_out e i) noProducts) (lt-ltb i (i + 1) (omega arith))

upto_none : (e : Elements) (k : ℕ) → up_to e 0 k ≡ noProducts
unfolding up_to
upto_none e k = ap (λ (b : Bool). pick b (fitted_out e (out_of e k)) noProducts) (le-ltb (out_of e k) 0 (omega arith))

upto_all : (e : Elements) (k : ℕ) → up_to e 64 k ≡ cell_of e k
unfolding up_to cell_of
upto_all e k = refl

pub record Held {A : Type 0} (e : Elements) (pr : Programmed → A) (d : A) (l : List A) (i : ℕ) : Type 0 where
  pub size : length l ≡ 10
  pub says : (k : ℕ) → k < 10 → get_or l k d ≡ pr (up_to e i k)

pub held_start : {A : Type 0} (e : Elements) (pr : Programmed → A) (d : A) (l : List A) → l ≡ replicate 10 (pr noProducts) → Held e pr d l 0
held_start e pr d l q =
    record {
      size = ap length q;
      says = λ k h. ap (λ x. get_or x k d) q ∙ get_or-replicate 10 k (pr noProducts) d h ∙ sym (ap pr (upto_none e k));
    }

held_skip : {A : Type 0} (e : Elements) (pr : Programmed → A) (d : A) (l : List A) (i : ℕ) → ((k : ℕ) → k < 10 → out_of e k ≡ i → ⊥) → Held e pr d l i → Held e pr d l (i + 1)
held_skip e pr d l i n c = record { size = c.size; says = λ k h. c.says k h ∙ sym (ap pr (upto_same e i k (n k h))) }

-- an element that is no OUT of a cell
skipped : (e : Elements) (i : ℕ) → i < 64 → (eqb (e.class i) 2 && eqb (out_at e (e.pin i)) i) ≡ false → (k : ℕ) → k < 10 → out_of e k ≡ i → ⊥
skipped e i h q k l r =
    let w = out_is e (23 - k) i r h in
    clash
    (sym
    (ap₂ (λ (x y : Bool). x && y) (eq-eqb (e.class i) 2 w.0) (eq-eqb (out_at e (e.pin i)) i (ap (out_at e) w.1 ∙ r)))
    ∙ q)

stored : {A : Type 0} (e : Elements) (pr : Programmed → A) (d : A) (l : List A) (i : ℕ) (v : A) → i < 64 → out_at e (e.pin i) ≡ i → 14 ≤ e.pin i → e.pin i < 24
    → Held e pr d l i → v ≡ pr (fitted_out e i) → Held e pr d (set l (23 - e.pin i) v) (i + 1)
stored e pr d l i v h q lo hi c w = record { size = length-set l (23 - e.pin i) v ∙ c.size; says = λ k g. at k g (eqb k (23 - e.pin i)) refl }
  where
    at : (k : ℕ) → k < 10 → (b : Bool) → eqb k (23 - e.pin i) ≡ b → get_or (set l (23 - e.pin i) v) k d ≡ pr (up_to e (i + 1) k)
    at k g true r =
        let z = eqb-true k (23 - e.pin i) r in
        let s = c.size in
        let y : 23 - k ≡ e.pin i = omega (arith, z, lo, hi) in
        ap (λ (j : ℕ). get_or (set l (23 - e.pin i) v) j d) z
        ∙ get_or-set_same l (23 - e.pin i) v d (omega (arith, s, lo, hi))
        ∙ w
        ∙ sym (ap pr (upto_here e i k (ap (out_at e) y ∙ q)))
    at k g false r =
        get_or-set_other l (23 - e.pin i) k v d (eqb-false k (23 - e.pin i) r)
        ∙ c.says k g
        ∙ sym (ap pr (upto_same e i k (λ x. eqb-false k (23 - e.pin i) r (let y = (out_is e (23 - k) i x h).1 in omega (arith, y, g)))))

fills_is : (e : Elements) (i : ℕ) → number_of e i ≡ 0 → fills e i ≡ (eqb (e.class i) 2 && eqb (out_at e (e.pin i)) i)
unfolding fills number_of
fills_is e i q = go (eqb (e.class i) 2) (eqb (out_at e (e.pin i)) i) q
  where
    go : (a b : Bool) → pick a (tried_of e i).number 0 ≡ 0 → (a && (b && eqb (tried_of e i).number 0)) ≡ (a && b)
    go true true q = eq-eqb (tried_of e i).number 0 q
    go true false q = refl
    go false b q = refl

pub held_more : {A : Type 0} (e : Elements) (pr : Programmed → A) (d : A) (l : List A) (i : ℕ) (v : A) → stage_five e ≡ fine → i < 64 → number_of e i ≡ 0
    → Held e pr d l i → v ≡ pr (fitted_out e i) → Held e pr d (placed e i l v) (i + 1)
held_more {A} e pr d l i v ok h q c w = go (fills e i) (sym (fills_is e i q))
  where
    go : (b : Bool) → (eqb (e.class i) 2 && eqb (out_at e (e.pin i)) i) ≡ b → Held e pr d (pick b (set l (23 - e.pin i) v) l) (i + 1)
    go true r =
        let z = both (e.class i) 2 (out_at e (e.pin i)) i r in
        let p = out_pin e i ok h z.0 in
        stored e pr d l i v h z.1 p.0 p.1 c w
    go false r = held_skip e pr d l i (skipped e i h r) c

ten_at : {A : Type 0} (f : ℕ → A) (d : A) (k : ℕ) → k < 10 → get_or (ten f) k d ≡ f k
ten_at f d zero h = refl
ten_at f d (suc zero) h = refl
ten_at f d (suc (suc zero)) h = refl
ten_at f d (suc (suc (suc zero))) h = refl
ten_at f d (suc (suc (suc (suc zero)))) h = refl
ten_at f d (suc (suc (suc (suc (suc zero))))) h = refl
ten_at f d (suc (suc (suc (suc (suc (suc zero)))))) h = refl
ten_at f d (suc (suc (suc (suc (suc (suc (suc zero))))))) h = refl
ten_at f d (suc (suc (suc (suc (suc (suc (suc (suc zero)))))))) h = refl
ten_at f d (suc (suc (suc (suc (suc (suc (suc (suc (suc zero))))))))) h = refl
ten_at f d (suc (suc (suc (suc (suc (suc (suc (suc (suc (suc k)))))))))) h = absurd (omega arith)

pub ten_is : {A : Type 0} (f : ℕ → A) (d : A) (k : ℕ) → k < 10 → get_or (ten f) k d ≡ f k
ten_is = ten_at

pub held_end : {A : Type 0} (e : Elements) (pr : Programmed → A) (d : A) (l : List A) (i : ℕ) → 64 ≤ i → i ≤ 64 → Held e pr d l i → l ≡ ten (λ k. pr (cell_of e k))
held_end e pr d l i h u c =
    let z : i ≡ 64 = omega (arith, h, u) in
    ext_get_or d l (ten (λ k. pr (cell_of e k))) c.size
    (λ k g. c.says k (subst (λ (n : ℕ). k < n) c.size g) ∙ ap (λ (j : ℕ). pr (up_to e j k)) z ∙ ap pr (upto_all e k) ∙ sym (ten_at (λ k. pr (cell_of e k)) d k (subst (λ (n : ℕ). k < n) c.size g)))
