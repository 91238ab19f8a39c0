-- An expression that is read for a number writes nothing, and its value is the same whatever the memory holds.
-- Assumes nothing.
use mathlib.Core.Path.{◌≡◌, refl, sym, ap, ◌∙◌}
use mathlib.Core.Bool.{false}
use mathlib.Core.List.{List}
use Prim.Native.Nat.{ℕ}
use lib.Dec.{eqb}
use Rattle.basics.proofs.Truth.{clash}
use Rattle.grammar.specs.Outcome.{Built, built, bad, and_built}
use Rattle.grammar.specs.Grammar.{index_sort, part_sort}
use Rattle.grammar.specs.Trees.{Tree, literal, logic, plain, element, invert, apply, choose, hold, keep, eval}
use Rattle.judging.specs.Judging.{Verdict, number, node, fault, Array, base, unfit, meaning_of, mark_of, literal_of, logic_of, plain_of, opened_of, element_of, operator_of}
use Rattle.judging.specs.Reading.{State, done, based, reads}
use Rattle.equations.proofs.Written.{Emits, emits_mark, emits_literal, emits_logic, emits_plain, emits_element, emits_operator, logic_code, name_code, element_code, operator_code, part_two, index_two}

-- what is known without looking at the memory
pub data Known (A : Type 0) : Type 0 where
  gave : A → Known A
  failed : ℕ → ℕ → Known A

abbrev pub stated : {A : Type 0} → Known A → State → Built State A
stated (gave v) x = built v x
stated (failed n p) x = bad n p x

abbrev pub Quiet : {A : Type 0} → (State → Built State A) → Type 0
Quiet {A} f = (k : Known A) × ((x : State) → f x ≡ stated k x)

pub quiet_then : {A B : Type 0} (f : State → Built State A) (g : A → State → Built State B) → Quiet f → ((v : A) → Quiet (g v)) → Quiet (λ x. and_built (f x) g)
quiet_then {A} {B} f g q h = go q.0 q.1
  where
    go : (k : Known A) → ((x : State) → f x ≡ stated k x) → Quiet (λ x. and_built (f x) g)
    go (gave v) e = ((h v).0, λ x. ap (λ (b : Built State A). and_built b g) (e x) ∙ (h v).1 x)
    go (failed n p) e = (failed n p, λ x. ap (λ (b : Built State A). and_built b g) (e x))

-- for a sort that is not that of a signal which is counted
quiet_done : (o c : ℕ) (j : Verdict) (p : ℕ) → Emits o c j → eqb o 2 ≡ false → Quiet (λ x. done j p x)
quiet_done o c (number v) p e h = (gave v, λ x. refl)
quiet_done o c (node k) p e h = absurd (clash (sym e.0 ∙ h))
quiet_done o c (fault n q) p e h = (failed n q, λ x. refl)

quiet_based : (a : Array) → Quiet (λ x. based a x)
quiet_based (base f n) = (gave (f, n), λ x. refl)
quiet_based (unfit n p) = (failed n p, λ x. refl)

module _ (s t : List ℕ) where
  pub quiet_eval : (w : Tree) (o : ℕ) → eqb o 2 ≡ false → Quiet (λ x. eval (reads s t) o w x)
  quiet_eval (literal p v) o h = quiet_done o 0 (literal_of o p v) p (emits_literal o 0 p v) h
  quiet_eval (logic p v) o h = quiet_done o (logic_code v) (logic_of o p v) p (emits_logic o p v) h
  quiet_eval (plain st e) o h = quiet_done o (name_code (meaning_of s t st e)) (plain_of s t o st e) st (emits_plain s t o st e) h
  quiet_eval (element st e p i) o h =
      quiet_then (λ x. based (opened_of s t o st e p) x) (λ b x. and_built (eval (reads s t) (index_sort o) i x) (λ v x. done (element_of o st p b.0 b.1 v) st x))
      (quiet_based (opened_of s t o st e p)) (λ b.
      quiet_then (λ x. eval (reads s t) (index_sort o) i x) (λ v x. done (element_of o st p b.0 b.1 v) st x) (quiet_eval i (index_sort o) (index_two o)) (λ v.
      quiet_done o (element_code b.0 v) (element_of o st p b.0 b.1 v) st (emits_element o st p b.0 b.1 v) h))
  quiet_eval (invert p v) o h =
      quiet_then (λ x. eval (reads s t) o v x) (λ v x. done (mark_of o 2 p) p x) (quiet_eval v o h) (λ v. quiet_done o 2 (mark_of o 2 p) p (emits_mark o 2 p) h)
  quiet_eval (apply k p l r) o h =
      quiet_then (λ x. eval (reads s t) o l x) (λ v x. and_built (eval (reads s t) o r x) (λ w x. done (operator_of o k p v w) p x)) (quiet_eval l o h) (λ v.
      quiet_then (λ x. eval (reads s t) o r x) (λ w x. done (operator_of o k p v w) p x) (quiet_eval r o h) (λ w.
      quiet_done o (operator_code k) (operator_of o k p v w) p (emits_operator o k p v w) h))
  quiet_eval (choose p a b c) o h =
      quiet_then (λ x. eval (reads s t) (part_sort o) a x)
      (λ u x. and_built (eval (reads s t) (part_sort o) b x) (λ v x. and_built (eval (reads s t) (part_sort o) c x) (λ w x. done (mark_of o 6 p) p x)))
      (quiet_eval a (part_sort o) (part_two o ∙ h)) (λ u.
      quiet_then (λ x. eval (reads s t) (part_sort o) b x) (λ v x. and_built (eval (reads s t) (part_sort o) c x) (λ w x. done (mark_of o 6 p) p x))
      (quiet_eval b (part_sort o) (part_two o ∙ h)) (λ v.
      quiet_then (λ x. eval (reads s t) (part_sort o) c x) (λ w x. done (mark_of o 6 p) p x) (quiet_eval c (part_sort o) (part_two o ∙ h)) (λ w.
      quiet_done o 6 (mark_of o 6 p) p (emits_mark o 6 p) h)))
  quiet_eval (hold p a) o h =
      quiet_then (λ x. eval (reads s t) (part_sort o) a x) (λ v x. done (mark_of o 7 p) p x) (quiet_eval a (part_sort o) (part_two o ∙ h)) (λ v.
      quiet_done o 7 (mark_of o 7 p) p (emits_mark o 7 p) h)
  quiet_eval (keep p a b) o h =
      quiet_then (λ x. eval (reads s t) (part_sort o) a x) (λ u x. and_built (eval (reads s t) (part_sort o) b x) (λ v x. done (mark_of o 8 p) p x))
      (quiet_eval a (part_sort o) (part_two o ∙ h)) (λ u.
      quiet_then (λ x. eval (reads s t) (part_sort o) b x) (λ v x. done (mark_of o 8 p) p x) (quiet_eval b (part_sort o) (part_two o ∙ h)) (λ v.
      quiet_done o 8 (mark_of o 8 p) p (emits_mark o 8 p) h))
