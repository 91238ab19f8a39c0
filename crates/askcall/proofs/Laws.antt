-- What the calls did, stage by stage, as the definitions say it. Assumes nothing.
use mathlib.Core.Path.{◌≡◌, refl, sym, ap, ◌∙◌, subst}
use mathlib.Core.Bool.{Bool}
use mathlib.Core.List.{List}
use Prim.Native.Nat.{ℕ, ◌≤◌, ◌<◌}
use lib.ListN.{length, replicate}
use borrow.Author.Tests.{le-leb, lt-leb}
use Rattle.std.specs.Prelude.{Result, Err}
use Rattle.basics.specs.Choice.{pick}
use Rattle.basics.specs.Refusal.{number_of}
use Rattle.basics.specs.declared.refusal.Reason.TheVariants.{Memory}
use Rattle.basics.specs.declared.refusal.Refusal.{Refusal}
use Rattle.engine.specs.declared.Grade.{Grade}
use Rattle.trees.specs.Layout.{elements_of}
use Rattle.circuit.specs.StageFive.{Verdict}
use Rattle.circuit.specs.StageFive.Verdict.{fine, refused as faulty}
use Rattle.outputs.specs.Outputs.{stage_six}
use Rattle.question.specs.Question.Asked.{Refused as Refuses}
use Rattle.question.specs.Question.{seen, asked}
use Rattle.texts.specs.Stages.{Front, stays, refused, unless, front_of, whole_of}
use Rattle.texts.proofs.Calling.{zeros_length, zeros_twice, whole_stays, whole_refused}
use Rattle.askcall.specs.Asking.{questioned, graded_of, Does, Asks}

-- ---- the room

pub zeros_long : (k : ℕ) (room z : List ℕ) → z ≡ replicate (length room) 0 → k ≤ length room → k ≤ length z
zeros_long k room z e h = subst (λ (n : ℕ). k ≤ n) (sym (zeros_length room z e)) h

-- ---- stage 6

pub asked_fits : (parts : List ℕ) (pin product : ℕ) (room z : List ℕ) (a : Result Grade Refusal) (y : List ℕ) → fine ≡ stage_six (elements_of parts) → z ≡ replicate (length room) 0
    → seen a ≡ asked (elements_of parts) pin product → y ≡ replicate (length z) 0
    → Does (questioned pin product (unless (stage_six (elements_of parts)) parts)) room a y
asked_fits parts pin product room z a y six e r w =
    record { answers = r ∙ ap (λ (v : Verdict). questioned pin product (unless v parts)) six; clears = zeros_twice room z y e w }

pub asked_misfits : (parts : List ℕ) (pin product : ℕ) (room : List ℕ) (r : Refusal) (y : List ℕ) → faulty (number_of r.reason) r.place ≡ stage_six (elements_of parts)
    → y ≡ replicate (length room) 0 → Does (questioned pin product (unless (stage_six (elements_of parts)) parts)) room (Err r) y
asked_misfits parts pin product room r y six z = record { answers = ap (λ (v : Verdict). questioned pin product (unless v parts)) six; clears = z }

-- ---- stages 1 to 5

pub text_stays : (s parts : List ℕ) (pin product : ℕ) (room : List ℕ) (a : Result Grade Refusal) (y : List ℕ) → stays parts ≡ front_of s
    → Does (questioned pin product (unless (stage_six (elements_of parts)) parts)) room a y → Does (questioned pin product (whole_of s)) room a y
text_stays s parts pin product room a y e d = subst (λ (f : Front). Does (questioned pin product f) room a y) (whole_stays s parts e) d

pub text_refused : (s : List ℕ) (pin product : ℕ) (room : List ℕ) (r : Refusal) (y : List ℕ) → refused (number_of r.reason) r.place ≡ front_of s → y ≡ replicate (length room) 0
    → Does (questioned pin product (whole_of s)) room (Err r) y
text_refused s pin product room r y e z =
    subst (λ (f : Front). Does (questioned pin product f) room (Err r) y) (whole_refused s (number_of r.reason) r.place e) (record { answers = refl; clears = z })

-- ---- 13

pub lent_room : (s : List ℕ) (pin product : ℕ) (room z : List ℕ) (a : Result Grade Refusal) (y : List ℕ) → z ≡ replicate (length room) 0 → 65536 ≤ length z
    → Does (questioned pin product (whole_of s)) z a y → Asks s pin product room a y
unfolding graded_of
lent_room s pin product room z a y e h d =
    record {
      answers =
          d.answers
          ∙ sym (ap (λ (b : Bool). pick b (questioned pin product (whole_of s)) (Refuses 13 0)) (le-leb _ _ (subst (λ (n : ℕ). 65536 ≤ n) (zeros_length room z e) h)));
      clears = zeros_twice room z y e d.clears;
    }

pub short_room : (s : List ℕ) (pin product : ℕ) (room z : List ℕ) → z ≡ replicate (length room) 0 → length z < 65536 → Asks s pin product room (Err (record { reason = Memory; place = 0 })) z
unfolding graded_of
short_room s pin product room z e h =
    record {
      answers = sym (ap (λ (b : Bool). pick b (questioned pin product (whole_of s)) (Refuses 13 0)) (lt-leb _ _ (subst (λ (n : ℕ). n < 65536) (zeros_length room z e) h)));
      clears = e;
    }
