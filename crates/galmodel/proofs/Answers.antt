-- The model's answer, put together; and no second answer fits.
-- Assumes nothing.
use mathlib.Core.Path.{◌≡◌, refl, sym, ap, ◌∙◌}
use mathlib.Core.Bool.{Bool, true, false, not, ◌||◌}
use mathlib.Core.List.{List}
use Prim.Native.Nat.{ℕ}
use lib.Dec.{eqb, ltb}
use lib.ListN.{length, get_or}
use borrow.Author.Tests.{eqb-true}
use Rattle.std.specs.Prelude.{Result, Ok, Err}
use Rattle.basics.specs.Below.{any_below}
use Rattle.basics.specs.Refusal.{Numbered, refused, answered as numbered}
use Rattle.basics.specs.declared.refusal.Refusal.{Refusal}
use Rattle.basics.proofs.Refusals.{answered_once}
use Rattle.basics.proofs.Truth.{clash}
use Rattle.gal.specs.Map.{signals}
use Rattle.gal.specs.Refuse.{no_map}
use Rattle.gal.specs.Show.{shown_pins, value_pins}
use Rattle.gal.specs.Clock.{next_bits}
use Rattle.gal.specs.declared.Answer.{Answer as Pins}
use Rattle.gal.specs.Model.{Verdict, Answer, answer_of, answered, modelled}
use Rattle.gal.specs.Model.Verdict.{Shown, Refused}

-- a map that is not refused 31 has its 5,892 bytes
pub sized : (m : List ℕ) → no_map m ≡ false → length m ≡ 5892
unfolding no_map
sized m e = go (eqb (length m) 5892) refl e
  where
    go : (b : Bool) → eqb (length m) 5892 ≡ b → (not b || any_below (λ i. ltb 1 (get_or m i 0)) 5892) ≡ false → length m ≡ 5892
    go true q z = eqb-true (length m) 5892 q
    go false q z = absurd (clash z)

pub answer_is : (m bits pins sig a b n : List ℕ) → sig ≡ signals m bits pins → a ≡ shown_pins m → b ≡ value_pins m bits sig → n ≡ next_bits m sig
    → ◌≡◌ {A = Answer} (record { verdict = Shown; shown = a; values = b; next = n }) (answered m bits pins)
answer_is m bits pins sig a b n es ea eb en = λ i. record { verdict = Shown; shown = ea i; values = (eb ∙ ap (value_pins m bits) es) i; next = (en ∙ ap (next_bits m) es) i }

-- two answers that both keep the promise are one
pub one_answer : (m bits pins : List ℕ) (r s : Answer) → r ≡ modelled m bits pins → s ≡ modelled m bits pins → r ≡ s
one_answer m bits pins r s e f = e ∙ sym f

-- what an answer of the model says, as a Result with a refusal by its number
told : Answer → Result Pins Numbered
told a = said a.verdict
  where
    said : Verdict → Result Pins Numbered
    said Shown = Ok (record { shown = a.shown; values = a.values; next = a.next })
    said (Refused n p) = refused n p

told_answer : (r : Result Pins Refusal) → told (answer_of r) ≡ numbered r
unfolding told
told_answer (Ok a) = refl
told_answer (Err r) = refl

-- a call answers one thing only: two answers of it that both keep the promise are one
pub one_result : (m bits pins : List ℕ) (r s : Result Pins Refusal) → answer_of r ≡ modelled m bits pins → answer_of s ≡ modelled m bits pins → r ≡ s
one_result m bits pins r s e f =
    answered_once r s (sym (told_answer r) ∙ ap told (one_answer m bits pins (answer_of r) (answer_of s) e f) ∙ told_answer s)
