-- The promise of `ask` determines what a call does: no second outcome fits. Assumes nothing.
use mathlib.Core.Path.{◌≡◌, refl, sym, ap, ◌∙◌}
use mathlib.Core.List.{List}
use Prim.Native.Nat.{ℕ}
use Rattle.std.specs.Prelude.{Result, Ok, Err}
use Rattle.basics.specs.declared.refusal.Refusal.{Refusal}
use Rattle.basics.specs.Refusal.{Numbered, answered}
use Rattle.basics.proofs.Refusals.{answered_once}
use Rattle.basics.specs.Choice.{pick}
use lib.Dec.{eqb}
use Rattle.engine.specs.declared.Grade.{Grade}
use Rattle.engine.specs.declared.Grade.TheVariants.{NoImplicant, Implicant, Prime}
use Rattle.question.specs.Question.Asked.{Verdict, Refused}
use Rattle.question.specs.Question.{Asked, seen}
use Rattle.askcall.specs.Asking.{Asks}

-- the number tells the grade
grade_from : ℕ → Grade
grade_from n = pick (eqb n 0) NoImplicant (pick (eqb n 1) Implicant Prime)

-- what is seen tells the answer, with its refusal by number
told : Asked → Result Grade Numbered
told (Verdict n) = Ok (grade_from n)
told (Refused n p) = Err (record { number = n; place = p })

told_seen : (a : Result Grade Refusal) → told (seen a) ≡ answered a
unfolding told grade_from
told_seen (Ok NoImplicant) = refl
told_seen (Ok Implicant) = refl
told_seen (Ok Prime) = refl
told_seen (Err r) = refl

pub same_answer : (a b : Result Grade Refusal) → seen a ≡ seen b → a ≡ b
same_answer a b e = answered_once a b (sym (told_seen a) ∙ ap told e ∙ told_seen b)

-- two outcomes of `ask` on the same text, pin, product and room, each an answer and the final contents of the room, are equal
pub ask_once : (text : List ℕ) (pin product : ℕ) (room : List ℕ) (a b : Result Grade Refusal) (v w : List ℕ) → Asks text pin product room a v → Asks text pin product room b w → (a ≡ b) × (v ≡ w)
ask_once text pin product room a b v w p q = (same_answer a b (p.answers ∙ sym q.answers), p.clears ∙ sym q.clears)
