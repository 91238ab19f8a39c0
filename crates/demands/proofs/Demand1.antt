-- Demand 1, as far as it is not the checker's own: when each call refuses, and what a refusal leaves. That no memory is touched that was not lent, and that
-- every call ends, holds of every function here, or the checker would not pass it. Assumes nothing.
use mathlib.Core.Path.{◌≡◌, refl, sym, ap, ◌∙◌, subst}
use mathlib.Core.Bool.{Bool, true, false}
use mathlib.Core.List.{List, []}
use Prim.Native.Nat.{ℕ, ◌<◌}
use native.Mathlib.Omega.{arith}
use lib.ListN.{length, replicate}
use Rattle.std.specs.Prelude.{Result, Ok, Err}
use Rattle.basics.specs.Choice.{pick}
use Rattle.basics.specs.Refusal.{Numbered, number_of as reason_number}
use Rattle.basics.specs.declared.refusal.Refusal.{Refusal as Refused}
use Rattle.fusetext.specs.Outcome.{Outcome, gives, refuses, left}
use Rattle.texts.specs.Calls.{compiled_of}
use Rattle.compilecall.specs.Compiling.{Compiles}
use Rattle.fitcall.specs.Fitting.{fitted_of, Fits}
use Rattle.question.specs.Question.Asked.{Refused as Refuses}
use Rattle.askcall.specs.Asking.{graded_of, Asks}
use Rattle.fuseread.specs.Reading.{read_into, reading_of, Reads}
use Rattle.fusewrite.specs.Writing.{write_of, written_of, Writes}
use Rattle.gal.specs.Refuse.{no_map, outside, no_values}
use Rattle.gal.specs.Model.{number_of, place_of, refusal, answered, modelled}

-- What a refusal with number n at place p means, where the definition says that the call comes to the outcome o: it refuses so by the definition, and the
-- lent output, or the lent map, holds what it held.
pub record Refusal (o : Outcome) (n p : ℕ) (before after : List ℕ) : Type 0 where
  pub because : o ≡ refuses n p
  pub untouched : after ≡ before

-- ---- an answer tells a refusal's number and place

abbrev without : Outcome → Outcome
without (gives l) = gives []
without (refuses n p) = refuses n p

abbrev is_refusal : Outcome → Type 0
is_refusal (gives l) = ⊥
is_refusal (refuses n p) = Unit {0}

exact : (o : Outcome) (n p : ℕ) → refuses n p ≡ without o → o ≡ refuses n p
exact (gives l) n p e = absurd (subst is_refusal e tt)
exact (refuses k q) n p e = sym e

-- each outcome is told by its answer, and the answer says of it all but the bytes
refusal_of : {A : Type 0} (told : Outcome → A) (back : A → Outcome) → ((l : List ℕ) → back (told (gives l)) ≡ gives []) → ((n p : ℕ) → back (told (refuses n p)) ≡ refuses n p)
    → (o : Outcome) (n p : ℕ) (before after : List ℕ) → told (refuses n p) ≡ told o → after ≡ left o before → Refusal o n p before after
refusal_of told back gave denied o n p before after e l = record { because = same; untouched = l ∙ ap (λ (x : Outcome). left x before) same }
  where
    says : (o : Outcome) → back (told o) ≡ without o
    says (gives l) = gave l
    says (refuses n p) = denied n p

    same : o ≡ refuses n p
    same = exact o n p (sym (denied n p) ∙ ap back e ∙ says o)

abbrev of_result : {A : Type 0} → Result A Numbered → Outcome
of_result (Ok a) = gives []
of_result (Err r) = refuses r.number r.place

-- ---- THE THEOREMS, for each call

-- compile and fit: the working room is zeroed too
pub compile_refuses : (text out room : List ℕ) (r : Refused) (x y : List ℕ) → Compiles text out room (Err r) x y
    → Refusal (compiled_of text (length out) (length room)) (reason_number r.reason) r.place out x × (y ≡ replicate (length room) 0)
compile_refuses text out room r x y c =
    (refusal_of written_of of_result (λ l. refl) (λ n p. refl) (compiled_of text (length out) (length room)) (reason_number r.reason) r.place out x c.answers c.leaves, c.clears)

pub fit_refuses : (text out room : List ℕ) (r : Refused) (x y : List ℕ) → Fits text out room (Err r) x y
    → Refusal (fitted_of text (length out) (length room)) (reason_number r.reason) r.place out x × (y ≡ replicate (length room) 0)
fit_refuses text out room r x y c =
    (refusal_of written_of of_result (λ l. refl) (λ n p. refl) (fitted_of text (length out) (length room)) (reason_number r.reason) r.place out x c.answers c.leaves, c.clears)

-- ask is lent a working room only
pub ask_refuses : (text : List ℕ) (pin product : ℕ) (room : List ℕ) (r : Refused) (y : List ℕ) → Asks text pin product room (Err r) y
    → (graded_of text pin product (length room) ≡ Refuses (reason_number r.reason) r.place) × (y ≡ replicate (length room) 0)
ask_refuses text pin product room r y c = (sym c.answers, c.clears)

pub read_refuses : (file map : List ℕ) (r : Refused) (x : List ℕ) → Reads file map (Err r) x → Refusal (read_into file (length map)) (reason_number r.reason) r.place map x
read_refuses file map r x c =
    refusal_of reading_of of_result (λ l. refl) (λ n p. refl) (read_into file (length map)) (reason_number r.reason) r.place map x c.answers c.leaves

pub write_refuses : (map out : List ℕ) (r : Refused) (x : List ℕ) → Writes map out (Err r) x → Refusal (write_of map (length out)) (reason_number r.reason) r.place out x
write_refuses map out r x c =
    refusal_of written_of of_result (λ l. refl) (λ n p. refl) (write_of map (length out)) (reason_number r.reason) r.place out x c.answers c.leaves

-- the model is lent nothing to write to: a refusal, one of 31, 30 and 32, has place 0 and answers 0 for all pins and bits
pub model_refuses : (map bits pins : List ℕ) → 0 < number_of (modelled map bits pins).verdict
    → (modelled map bits pins ≡ refusal (number_of (modelled map bits pins).verdict)) × (place_of (modelled map bits pins).verdict ≡ 0)
unfolding modelled
model_refuses map bits pins h = go (no_map map) (outside map) (no_values map bits pins) h
  where
    go : (a b c : Bool) → 0 < number_of (pick a (refusal 31) (pick b (refusal 30) (pick c (refusal 32) (answered map bits pins)))).verdict
        → (pick a (refusal 31) (pick b (refusal 30) (pick c (refusal 32) (answered map bits pins)))
        ≡ refusal (number_of (pick a (refusal 31) (pick b (refusal 30) (pick c (refusal 32) (answered map bits pins)))).verdict))
        × (place_of (pick a (refusal 31) (pick b (refusal 30) (pick c (refusal 32) (answered map bits pins)))).verdict ≡ 0)
    go true b c h = (refl, refl)
    go false true c h = (refl, refl)
    go false false true h = (refl, refl)
    go false false false h = absurd (omega arith)
