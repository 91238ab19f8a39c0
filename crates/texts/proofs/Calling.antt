-- What a call over a text did, stage by stage, as the definitions say it: for all bytes that it says of a map, and all answers for the outcomes. Assumes nothing.
use mathlib.Core.Path.{◌≡◌, sym, ap, ap₂, ◌∙◌, subst}
use mathlib.Core.Bool.{Bool, ◌&&◌}
use mathlib.Core.List.{List}
use Prim.Native.Nat.{ℕ, ◌≤◌, ◌<◌}
use lib.Dec.{leb}
use lib.ListN.{length, replicate, length-replicate}
use borrow.Author.Tests.{le-leb, lt-leb}
use Rattle.basics.specs.Choice.{pick}
use Rattle.basics.proofs.Truth.{and_false}
use Rattle.trees.specs.Layout.{elements_of}
use Rattle.circuit.specs.StageFive.{Verdict}
use Rattle.circuit.specs.StageFive.Verdict.{fine, refused as faulty}
use Rattle.outputs.specs.Outputs.{stage_six, map_for}
use Rattle.fusetext.specs.Outcome.{Outcome, gives, refuses, left}
use Rattle.texts.specs.Stages.{Front, stays, refused, unless, front_of, fitting, whole_of}
use Rattle.texts.specs.Calls.{lent, written, called, Does}

-- ---- a room that is cleared first

pub zeros_length : (room z : List ℕ) → z ≡ replicate (length room) 0 → length z ≡ length room
zeros_length room z e = ap length e ∙ length-replicate (length room) 0

pub zeros_again : (room z : List ℕ) → z ≡ replicate (length room) 0 → z ≡ replicate (length z) 0
zeros_again room z e = e ∙ ap (λ (n : ℕ). replicate n 0) (sym (zeros_length room z e))

pub zeros_twice : (room z y : List ℕ) → z ≡ replicate (length room) 0 → y ≡ replicate (length z) 0 → y ≡ replicate (length room) 0
zeros_twice room z y e w = w ∙ ap (λ (n : ℕ). replicate n 0) (zeros_length room z e)

-- ---- all stages, where stages 1 to 5 are known

pub whole_stays : (s parts : List ℕ) → stays parts ≡ front_of s → unless (stage_six (elements_of parts)) parts ≡ whole_of s
unfolding whole_of
whole_stays s parts e = ap fitting e

pub whole_refused : (s : List ℕ) (n p : ℕ) → refused n p ≡ front_of s → refused n p ≡ whole_of s
unfolding whole_of
whole_refused s n p e = ap fitting e

-- ---- what is lent

pub called_lent : (says : List ℕ → List ℕ) (s : List ℕ) (out room : ℕ) → 7154 ≤ out → 65536 ≤ room → called says s out room ≡ written says (whole_of s)
unfolding called lent
called_lent says s out room h k = ap₂ (λ (b c : Bool). pick (b && c) (written says (whole_of s)) (refuses 13 0)) (le-leb _ _ h) (le-leb _ _ k)

called_output : (says : List ℕ → List ℕ) (s : List ℕ) (out room : ℕ) → out < 7154 → called says s out room ≡ refuses 13 0
unfolding called lent
called_output says s out room h = ap (λ (b : Bool). pick (b && leb 65536 room) (written says (whole_of s)) (refuses 13 0)) (lt-leb _ _ h)

called_room : (says : List ℕ → List ℕ) (s : List ℕ) (out room : ℕ) → room < 65536 → called says s out room ≡ refuses 13 0
unfolding called lent
called_room says s out room h =
    ap (λ (b : Bool). pick b (written says (whole_of s)) (refuses 13 0)) (ap (λ (b : Bool). leb 7154 out && b) (lt-leb _ _ h) ∙ and_false (leb 7154 out))

module _ {A : Type 0} (told : Outcome → A) where
  -- no second outcome fits
  pub does_once : (o : Outcome) (out room : List ℕ) (a b : A) (x y v w : List ℕ) → Does told o out room a x v → Does told o out room b y w → (a ≡ b) × (x ≡ y) × (v ≡ w)
  does_once o out room a b x y v w p q = (p.answers ∙ sym q.answers, p.leaves ∙ sym q.leaves, p.clears ∙ sym q.clears)

  -- a refusal that leaves the output alone
  does-refuse : (o : Outcome) (out room : List ℕ) (n p : ℕ) (y : List ℕ) → refuses n p ≡ o → y ≡ replicate (length room) 0 → Does told o out room (told (refuses n p)) out y
  does-refuse o out room n p y e z = record { answers = ap told e; leaves = ap (λ (q : Outcome). left q out) e; clears = z }

  module _ (says : List ℕ → List ℕ) where
    -- ---- stage 6

    pub says_fits : (parts out room l : List ℕ) (a : A) (x y : List ℕ) → fine ≡ stage_six (elements_of parts) → l ≡ says (map_for (elements_of parts))
        → a ≡ told (gives l) → x ≡ left (gives l) out → y ≡ replicate (length room) 0
        → Does told (written says (unless (stage_six (elements_of parts)) parts)) out room a x y
    says_fits parts out room l a x y six m r w z =
        let e : gives l ≡ written says (unless (stage_six (elements_of parts)) parts) = ap gives m ∙ ap (λ (v : Verdict). written says (unless v parts)) six in
        record { answers = r ∙ ap told e; leaves = w ∙ ap (λ (o : Outcome). left o out) e; clears = z }

    pub misfits : (parts out room : List ℕ) (n p : ℕ) (y : List ℕ) → faulty n p ≡ stage_six (elements_of parts) → y ≡ replicate (length room) 0
        → Does told (written says (unless (stage_six (elements_of parts)) parts)) out room (told (refuses n p)) out y
    misfits parts out room n p y six z = does-refuse _ out room n p y (ap (λ (v : Verdict). written says (unless v parts)) six) z

    -- ---- stages 1 to 5

    pub text_stays : (s parts out room : List ℕ) (a : A) (x y : List ℕ) → stays parts ≡ front_of s
        → Does told (written says (unless (stage_six (elements_of parts)) parts)) out room a x y → Does told (written says (whole_of s)) out room a x y
    text_stays s parts out room a x y e d = subst (λ (f : Front). Does told (written says f) out room a x y) (whole_stays s parts e) d

    pub text_refused : (s out room : List ℕ) (n p : ℕ) (y : List ℕ) → refused n p ≡ front_of s → y ≡ replicate (length room) 0
        → Does told (written says (whole_of s)) out room (told (refuses n p)) out y
    text_refused s out room n p y e z = does-refuse _ out room n p y (ap (written says) (whole_refused s n p e)) z

    -- ---- 13

    pub short_output : (s out room y : List ℕ) → length out < 7154 → y ≡ replicate (length room) 0
        → Does told (called says s (length out) (length room)) out room (told (refuses 13 0)) out y
    short_output s out room y h z = does-refuse _ out room 13 0 y (sym (called_output says s (length out) (length room) h)) z

    pub short_cleared : (s out room z : List ℕ) → z ≡ replicate (length room) 0 → length z < 65536
        → Does told (called says s (length out) (length room)) out room (told (refuses 13 0)) out z
    short_cleared s out room z e h =
        does-refuse _ out room 13 0 z (sym (called_room says s (length out) (length room) (subst (λ (n : ℕ). n < 65536) (zeros_length room z e) h))) e

    pub lent_cleared : (s out room z : List ℕ) (a : A) (x y : List ℕ) → z ≡ replicate (length room) 0 → 7154 ≤ length out → 65536 ≤ length z
        → Does told (written says (whole_of s)) out z a x y → Does told (called says s (length out) (length room)) out room a x y
    lent_cleared s out room z a x y e h k d =
        let c : written says (whole_of s) ≡ called says s (length out) (length room) =
        sym (called_lent says s (length out) (length room) h (subst (λ (n : ℕ). 65536 ≤ n) (zeros_length room z e) k)) in
        record { answers = d.answers ∙ ap told c; leaves = d.leaves ∙ ap (λ (o : Outcome). left o out) c; clears = zeros_twice room z y e d.clears }
