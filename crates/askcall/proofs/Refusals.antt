-- A grader that breaks the promise. Assumes nothing.
use mathlib.Core.Path.{◌≡◌, ◌∙◌, subst}
use mathlib.Core.List.{List}
use Prim.Native.Nat.{ℕ}
use Rattle.question.specs.Question.{Asked}
use Rattle.question.specs.Question.Asked.{Verdict, Refused as Refuses}
use Rattle.std.specs.Prelude.{Err}
use Rattle.basics.specs.declared.refusal.Refusal.{Refusal}
use Rattle.askcall.specs.Asking.{graded_of, Asks}
use lib.ListN.{length}

abbrev is_refusal : Asked → Type 0
is_refusal (Verdict n) = ⊥
is_refusal (Refuses n p) = Unit {0}

-- a grader that refuses all questions: no question that has a grade is refused
pub refusing_all : (text : List ℕ) (pin product : ℕ) (room : List ℕ) (g : ℕ) (r : Refusal) (y : List ℕ) → graded_of text pin product (length room) ≡ Verdict g
    → Asks text pin product room (Err r) y → ⊥
refusing_all text pin product room g r y e c = subst is_refusal (c.answers ∙ e) tt
