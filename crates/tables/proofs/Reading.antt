-- A table says its OUT's function: the entry at the number of a setting is the function's value on it. Assumes nothing.
use mathlib.Core.Path.{◌≡◌, refl, sym, ap, ap₂, ◌∙◌, subst}
use mathlib.Core.Logic.{⊎_elim}
use mathlib.Core.Bool.{Bool, true, false, not, ◌&&◌, ◌||◌}
use mathlib.Core.List.{List, [], ◌∷◌, ◌++◌}
use Prim.Native.Nat.{ℕ, zero, suc, ◌+◌, ◌*◌, ◌/◌, ◌%◌, ◌≤◌, ◌<◌}
use native.Mathlib.Omega.{arith}
use lib.Dec.{T, eqb}
use borrow.Author.Tests.{eq-eqb, eqb-true, le-ltb}
use Rattle.basics.specs.Choice.{bit, pick, on, xor}
use Rattle.basics.specs.Below.{any_below, all_below}
use Rattle.basics.proofs.Truth.{or_cases, or_l, or_r, and_l, and_r, of_true, true_of}
use Rattle.basics.proofs.Folds.{all_at}
use Rattle.basics.proofs.Store.{below_or_not}
use Rattle.trees.specs.Layout.{Elements, elements_of}
use Rattle.reach.specs.Uses.{inverts, registers, keeps, remains}
use Rattle.circuit.specs.Pins.{role_of}
use Rattle.circuit.specs.StageFive.{stage_five, mispositioned}
use Rattle.circuit.specs.StageFive.Verdict.{fine}
use Rattle.meaning.proofs.Fine.{fine_is}
use Rattle.meaning.proofs.Standing.{positioned_right_lem, right_role}
use Rattle.pins.specs.Named.{mentions, mentions_at, names_pin}
use Rattle.device.specs.Device.{column_of}
use Rattle.pins.specs.Variables.{variable_pin, names_variable, chosen, variables_of}
use Rattle.pins.proofs.Resting.{rests}
use Rattle.tables.specs.Tables.{flip_at, set_bits, setting_at, outcome, entry_of}

-- the number whose bits are the variables of a setting, lowest first
unfoldable pub number_of : (ℕ → Bool) → (ℕ → Bool) → List ℕ → ℕ
number_of flip s [] = 0
number_of flip s (x ∷ xs) = bit (xor (flip x) (s x)) + 2 * number_of flip s xs

-- p is one of the pins
unfoldable pub among : ℕ → List ℕ → Bool
among p [] = false
among p (x ∷ xs) = eqb p x || among p xs

twice : (a b : Bool) → xor a (xor a b) ≡ b
twice true true = refl
twice true false = refl
twice false b = refl

low_bit : (b : Bool) (n : ℕ) → on ((bit b + 2 * n) % 2) ≡ b
low_bit true n = let e : (1 + 2 * n) % 2 ≡ 1 = omega arith in ap on e
low_bit false n = let e : (0 + 2 * n) % 2 ≡ 0 = omega arith in ap on e

high_bits : (b : Bool) (n : ℕ) → (bit b + 2 * n) / 2 ≡ n
high_bits true n = omega arith
high_bits false n = omega arith

-- a pin that has its value keeps it, and a pin among the variables gets it
bits_step : (flip s s₀ : ℕ → Bool) (x : ℕ) (xs : List ℕ) (p : ℕ)
    → set_bits flip s₀ (x ∷ xs) (number_of flip s (x ∷ xs)) p ≡ set_bits flip (λ y. pick (eqb y x) (s x) (s₀ y)) xs (number_of flip s xs) p
unfolding set_bits number_of
bits_step flip s s₀ x xs p =
    ap₂ (λ (b : Bool) (n : ℕ). set_bits flip (λ y. pick (eqb y x) (xor (flip x) b) (s₀ y)) xs n p) (low_bit (xor (flip x) (s x)) (number_of flip s xs)) (high_bits (xor (flip x) (s x)) (number_of flip s xs))
    ∙ ap (λ (b : Bool). set_bits flip (λ y. pick (eqb y x) b (s₀ y)) xs (number_of flip s xs) p) (twice (flip x) (s x))

bits_nil : (flip s₀ : ℕ → Bool) (k p : ℕ) → set_bits flip s₀ [] k p ≡ s₀ p
unfolding set_bits
bits_nil flip s₀ k p = refl

pub bits_kept : (flip s s₀ : ℕ → Bool) (xs : List ℕ) (p : ℕ) → s₀ p ≡ s p → set_bits flip s₀ xs (number_of flip s xs) p ≡ s p
bits_kept flip s s₀ [] p e = bits_nil flip s₀ (number_of flip s []) p ∙ e
bits_kept flip s s₀ (x ∷ xs) p e = bits_step flip s s₀ x xs p ∙ bits_kept flip s (λ y. pick (eqb y x) (s x) (s₀ y)) xs p (now (eqb p x) refl)
  where
    now : (b : Bool) → eqb p x ≡ b → pick b (s x) (s₀ p) ≡ s p
    now true q = ap s (sym (eqb-true p x q))
    now false q = e

pub bits_found : (flip s s₀ : ℕ → Bool) (xs : List ℕ) (p : ℕ) → T (among p xs) → set_bits flip s₀ xs (number_of flip s xs) p ≡ s p
unfolding among
bits_found flip s s₀ [] p t = absurd t
bits_found flip s s₀ (x ∷ xs) p t =
    bits_step flip s s₀ x xs p
    ∙ ⊎_elim
    (λ (l : T (eqb p x)).
    bits_kept flip s (λ y. pick (eqb y x) (s x) (s₀ y)) xs p
    (ap (λ (b : Bool). pick b (s x) (s₀ p)) (true_of (eqb p x) l) ∙ ap s (sym (eqb-true p x (true_of (eqb p x) l)))))
    (λ (l : T (among p xs)). bits_found flip s (λ y. pick (eqb y x) (s x) (s₀ y)) xs p l)
    (or_cases (eqb p x) (among p xs) t)

-- a named variable is among the variables
among_left : (p : ℕ) (xs ys : List ℕ) → T (among p xs) → T (among p (xs ++ ys))
unfolding among
among_left p [] ys t = absurd t
among_left p (x ∷ xs) ys t =
    ⊎_elim (λ (l : T (eqb p x)). or_l (eqb p x) (among p (xs ++ ys)) l) (λ (l : T (among p xs)). or_r (eqb p x) (among p (xs ++ ys)) (among_left p xs ys l)) (or_cases (eqb p x) (among p xs) t)

among_last : (p : ℕ) (xs : List ℕ) → T (among p (xs ++ (p ∷ [])))
unfolding among
among_last p [] = or_l (eqb p p) false (of_true (eqb p p) (eq-eqb p p refl))
among_last p (x ∷ xs) = or_r (eqb p x) (among p (xs ++ (p ∷ []))) (among_last p xs)

pub chosen_has : (f : ℕ → Bool) (g : ℕ → ℕ) (n i : ℕ) → i < n → T (f i) → T (among (g i) (chosen f g n))
unfolding chosen
chosen_has f g zero i h t = absurd (omega arith)
chosen_has f g (suc n) i h t = step (f n) refl (λ l. chosen_has f g n i l t)
  where
    step : (b : Bool) → f n ≡ b → (i < n → T (among (g i) (chosen f g n))) → T (among (g i) (pick b (chosen f g n ++ (g n ∷ [])) (chosen f g n)))
    step true q more =
        ⊎_elim (λ (l : i < n). among_left (g i) (chosen f g n) (g n ∷ []) (more l))
        (λ (l : n ≤ i). let w : i ≡ n = omega arith in subst (λ (k : ℕ). T (among (g k) (chosen f g n ++ (g n ∷ [])))) (sym w) (among_last (g n) (chosen f g n)))
        (below_or_not i n)
    step false q more =
        ⊎_elim (λ (l : i < n). more l)
        (λ (l : n ≤ i). let w : i ≡ n = omega arith in absurd (subst (λ (b : Bool). T b) (ap f w ∙ q) t))
        (below_or_not i n)

module _ (parts : List ℕ) (ok : stage_five (elements_of parts) ≡ fine) (o : ℕ) (ho : o < 64) (out : (elements_of parts).class o ≡ 2) where
  -- the function rests on the named pins
  pub outcome_rests : (rows : Bool) (s t : ℕ → Bool) → ((p : ℕ) → T (names_pin (elements_of parts) o p) → s p ≡ t p) → outcome (elements_of parts) rows o s ≡ outcome (elements_of parts) rows o t
  outcome_rests true s t same = ap (xor (inverts ((elements_of parts).nodes o))) (rests parts o s t same ho out ((fine_is (elements_of parts) ok).placed o ho))
  outcome_rests false s t same = rests parts o s t same ho out ((fine_is (elements_of parts) ok).placed o ho)

  -- the entry at the number of a setting, where every named pin is that of a variable
  pub entry_reads : (rows : Bool) → ((p : ℕ) → T (names_pin (elements_of parts) o p) → (i : ℕ) × ((i < 22) × (variable_pin rows i ≡ p))) → (s : ℕ → Bool)
      → entry_of (elements_of parts) rows o (number_of (flip_at (elements_of parts) rows) s (variables_of (elements_of parts) rows o)) ≡ outcome (elements_of parts) rows o s
  entry_reads rows all s =
      outcome_rests rows
      (setting_at (elements_of parts) rows (variables_of (elements_of parts) rows o) (number_of (flip_at (elements_of parts) rows) s (variables_of (elements_of parts) rows o))) s
      (λ p n.
      let w = all p n in
      bits_found (flip_at (elements_of parts) rows) s (flip_at (elements_of parts) rows) (variables_of (elements_of parts) rows o) p
      (subst (λ (x : ℕ). T (among x (variables_of (elements_of parts) rows o))) w.1.1
      (chosen_has (names_variable (elements_of parts) rows o) (variable_pin rows) 22 w.0 w.1.0
      (subst (λ (x : ℕ). T (names_pin (elements_of parts) o x)) (sym w.1.1) n))))

-- ---- every named pin is that of a variable

any_found : (f : ℕ → Bool) (n : ℕ) → T (any_below f n) → (k : ℕ) × ((k < n) × T (f k))
unfolding any_below
any_found f zero t = absurd t
any_found f (suc n) t =
    ⊎_elim
    (λ (l : T (any_below f n)). let r = any_found f n l in let h = r.1.0 in (r.0, (omega arith, r.1.1)))
    (λ (l : T (f n)). (n, (omega arith, l)))
    (or_cases (any_below f n) (f n) t)

-- an input or an output
unfoldable pub signal_role : ℕ → Bool
signal_role p = eqb (role_of p) 1 || eqb (role_of p) 2

unfoldable covered : Bool → ℕ → Bool
covered rows p = not (signal_role p) || any_below (λ i. eqb (variable_pin rows i) p) 22

covers : (rows : Bool) → all_below (covered rows) 24 ≡ true
unfolding all_below any_below covered signal_role role_of variable_pin column_of
covers true = refl
covers false = refl

no_role : (p : ℕ) → 24 ≤ p → signal_role p ≡ false
unfolding signal_role role_of
no_role p h = simp (le-ltb p 1 (omega arith), le-ltb p 2 (omega arith), le-ltb p 12 (omega arith), le-ltb p 13 (omega arith), le-ltb p 14 (omega arith), le-ltb p 24 h)

drop_not : (a b : Bool) → T (not a || b) → T a → T b
drop_not true b t u = t
drop_not false b t u = absurd u

pub variable_of : (rows : Bool) (p : ℕ) → T (signal_role p) → (i : ℕ) × ((i < 22) × (variable_pin rows i ≡ p))
unfolding covered
variable_of rows p t =
    ⊎_elim
    (λ (h : p < 24).
    let f = any_found (λ i. eqb (variable_pin rows i) p) 22 (drop_not (signal_role p) (any_below (λ i. eqb (variable_pin rows i) p) 22) (of_true _ (all_at (covered rows) 24 (covers rows) p h)) t) in
    (f.0, (f.1.0, eqb-true (variable_pin rows f.0) p (true_of (eqb (variable_pin rows f.0) p) f.1.1))))
    (λ (h : 24 ≤ p). absurd (subst (λ (b : Bool). T b) (no_role p h) t))
    (below_or_not p 24)

signal_pin : (e : Elements) (i : ℕ) → mispositioned e i ≡ false → T (eqb (e.class i) 1 || eqb (e.class i) 2) → T (signal_role (e.pin i))
unfolding signal_role
signal_pin e i q t =
    let r : role_of (e.pin i) ≡ e.class i = eqb-true (role_of (e.pin i)) (e.class i) (right_role e i (positioned_right_lem e i q t)) in
    subst (λ (k : ℕ). T (eqb k 1 || eqb k 2)) (sym r) t

remains_class : (e : Elements) (i : ℕ) → T (remains e i) → T (eqb (e.class i) 1 || eqb (e.class i) 2)
unfolding remains
remains_class e i t = go (eqb (e.class i) 1) (eqb (e.class i) 2) (registers (e.nodes i)) t
  where
    go : (a b r : Bool) → T (pick a true (pick b r false)) → T (a || b)
    go true b r u = tt
    go false true r u = tt
    go false false r u = absurd u

module _ (parts : List ℕ) (ok : stage_five (elements_of parts) ≡ fine) (o : ℕ) (ho : o < 64) (out : (elements_of parts).class o ≡ 2) where
  pub named_signal : (p : ℕ) → T (names_pin (elements_of parts) o p) → T (signal_role p)
  unfolding names_pin
  named_signal p t =
      ⊎_elim
      (λ (l : T (any_below (mentions_at (elements_of parts) o p) 64)).
      let f = any_found (mentions_at (elements_of parts) o p) 64 l in
      let j = f.0 in
      let r = and_l (remains (elements_of parts) j) (eqb ((elements_of parts).pin j) p && mentions (elements_of parts) o j) f.1.1 in
      let q = and_l (eqb ((elements_of parts).pin j) p) (mentions (elements_of parts) o j) (and_r (remains (elements_of parts) j) (eqb ((elements_of parts).pin j) p && mentions (elements_of parts) o j) f.1.1) in
      subst (λ (k : ℕ). T (signal_role k)) (eqb-true ((elements_of parts).pin j) p (true_of (eqb ((elements_of parts).pin j) p) q))
      (signal_pin (elements_of parts) j ((fine_is (elements_of parts) ok).positioned j f.1.0) (remains_class (elements_of parts) j r)))
      (λ (l : T (keeps ((elements_of parts).nodes o) && eqb ((elements_of parts).pin o) p)).
      let q = and_r (keeps ((elements_of parts).nodes o)) (eqb ((elements_of parts).pin o) p) l in
      subst (λ (k : ℕ). T (signal_role k)) (eqb-true ((elements_of parts).pin o) p (true_of (eqb ((elements_of parts).pin o) p) q))
      (signal_pin (elements_of parts) o ((fine_is (elements_of parts) ok).positioned o ho)
      (or_r (eqb ((elements_of parts).class o) 1) (eqb ((elements_of parts).class o) 2) (of_true (eqb ((elements_of parts).class o) 2) (eq-eqb ((elements_of parts).class o) 2 out)))))
      (or_cases (any_below (mentions_at (elements_of parts) o p) 64) (keeps ((elements_of parts).nodes o) && eqb ((elements_of parts).pin o) p) t)

  -- the table at the number of a setting is the function's value on it
  pub table_says : (rows : Bool) (s : ℕ → Bool)
      → entry_of (elements_of parts) rows o (number_of (flip_at (elements_of parts) rows) s (variables_of (elements_of parts) rows o)) ≡ outcome (elements_of parts) rows o s
  table_says rows s = entry_reads parts ok o ho out rows (λ p n. variable_of rows p (named_signal p n)) s
