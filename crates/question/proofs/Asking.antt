-- How many pins an OUT names doesn't depend on their order, and the laws of the question. Assumes nothing.
use mathlib.Core.Path.{◌≡◌, refl, sym, ap, ap₂, ◌∙◌, subst}
use mathlib.Core.Bool.{Bool, true, false, not, ◌&&◌, ◌||◌}
use mathlib.Core.List.{List}
use mathlib.Core.Logic.{⊎_elim}
use Prim.Native.Nat.{ℕ, zero, suc, ◌^◌, ◌≤◌, ◌<◌}
use native.Mathlib.Omega.{arith}
use lib.Dec.{eqb, leb, ltb}
use borrow.Author.Tests.{lt-ltb, le-ltb, ltb-true, leb-true, le-leb, eq-eqb}
use lib.ListN.{length}
use Rattle.basics.specs.Choice.{pick, bit}
use Rattle.basics.specs.Below.{tally, listed}
use Rattle.basics.proofs.Folds.{listed_length}
use Rattle.basics.proofs.Truth.{clash}
use Rattle.basics.proofs.Store.{below_or_not}
use Rattle.trees.specs.Layout.{Elements}
use Rattle.circuit.specs.StageFive.{Verdict, first_below}
use Rattle.circuit.specs.StageFive.Verdict.{fine, refused}
use Rattle.meaning.specs.Circuit.{out_at}
use Rattle.tables.specs.Tables.{entry_of}
use Rattle.sums.specs.Product.{digits, verdict}
use Rattle.engine.specs.Table.{function}
use Rattle.outputs.specs.Outputs.{fitted_out, too_many, misfits, stage_six}
use Rattle.outmap.proofs.Filling.{out_is}
use Rattle.question.specs.Question.Asked.{Verdict as Verdict', Refused}
use Rattle.question.specs.Question.{Asked, question_table, asked_of, asked}
use Rattle.pins.specs.Named.{names_pin}
use Rattle.device.specs.Device.{column_of}
use Rattle.pins.specs.Variables.{variable_pin, count_of}

same_pins : (f : ℕ → Bool) → tally (λ i. f (variable_pin true i)) 22 ≡ tally (λ i. f (variable_pin false i)) 22
unfolding tally variable_pin column_of
same_pins f = omega arith

pub same_count : (e : Elements) (o : ℕ) → count_of e true o ≡ count_of e false o
same_count e o = same_pins (names_pin e o)

-- ---- an OUT of a module that stage 6 lets pass names at most ten pins

first_under : (f : ℕ → Bool) (n k : ℕ) → k < n → f k ≡ true → first_below f n < n
unfolding first_below
first_under f zero k h q = absurd (omega arith)
first_under f (suc n) k h q = go (λ l. first_under f n k l q) (ltb (first_below f n) n) refl (f n) refl
  where
    go : (k < n → first_below f n < n) → (b : Bool) → ltb (first_below f n) n ≡ b → (c : Bool) → f n ≡ c → pick b (first_below f n) (pick c n (suc n)) < suc n
    go w true r c s = let a = ltb-true (first_below f n) n r in omega (arith, a)
    go w false r true s = omega arith
    go w false r false s =
        ⊎_elim
        (λ (l : k < n). absurd (clash (sym (lt-ltb (first_below f n) n (w l)) ∙ r)))
        (λ (l : n ≤ k). let z : k ≡ n = omega (arith, l, h) in absurd (clash (sym q ∙ ap f z ∙ s)))
        (below_or_not k n)

is_fine : Verdict → Bool
is_fine fine = true
is_fine (refused n p) = false

no_misfit : (e : Elements) (k : ℕ) → stage_six e ≡ fine → k < 64 → misfits e k ≡ false
unfolding stage_six is_fine
no_misfit e k q h = go (misfits e k) refl
  where
    go : (b : Bool) → misfits e k ≡ b → misfits e k ≡ false
    go false r = r
    go true r =
        absurd
        (clash
        (sym (ap is_fine q)
        ∙ ap (λ (b : Bool). is_fine (pick b (refused (pick (too_many e (first_below (misfits e) 64)) 11 12) (e.place (first_below (misfits e) 64))) fine)) (lt-ltb _ 64 (first_under (misfits e) 64 k h r))))

ten_pins : (e : Elements) (k : ℕ) → e.class k ≡ 2 → misfits e k ≡ false → count_of e true k ≤ 10
unfolding misfits too_many
ten_pins e k c q = leb-true (count_of e true k) 10 (go (eqb (e.class k) 2) (leb (count_of e true k) 10) (fitted_out e k).ok (eq-eqb (e.class k) 2 c) q)
  where
    go : (a b d : Bool) → a ≡ true → (a && (not b || not d)) ≡ false → b ≡ true
    go true true d s r = refl
    go true false d s r = absurd (clash r)
    go false b d s r = absurd (clash (sym s))

pub few_pins : (e : Elements) (p o : ℕ) → stage_six e ≡ fine → o ≡ out_at e p → o < 64 → count_of e false o ≤ 10
few_pins e p o q w h = subst (λ (n : ℕ). n ≤ 10) (same_count e o) (ten_pins e o (out_is e p o (sym w) h).0 (no_misfit e o q h))

-- ---- the answers

pub question_length : (e : Elements) (o n : ℕ) (f : List ℕ) → n ≡ count_of e false o → f ≡ question_table e o → length f ≡ 2 ^ n
unfolding question_table
question_length e o n f q w = ap length w ∙ listed_length (λ k. bit (entry_of e false o k)) (2 ^ count_of e false o) ∙ ap (λ (j : ℕ). 2 ^ j) (sym q)

pub question_is : (e : Elements) (o : ℕ) → listed (λ k. bit (entry_of e false o k)) (2 ^ count_of e false o) ≡ question_table e o
unfolding question_table
question_is e o = refl

pub graded : (e : Elements) (o number n g : ℕ) (f : List ℕ) (x : ℕ) → n ≡ count_of e false o → f ≡ question_table e o → x ≡ 3 ^ n → number < x → g ≡ verdict (digits n number) (function f)
    → Verdict' g ≡ asked_of e o number
unfolding asked_of
graded e o number n g f x q w z h r =
    ap Verdict' (r ∙ ap₂ (λ (j : ℕ) (l : List ℕ). verdict (digits j number) (function l)) q w)
    ∙ sym
    (ap (λ (b : Bool). pick b (Verdict' (verdict (digits (count_of e false o) number) (function (question_table e o)))) (Refused 14 0)) (lt-ltb number (3 ^ count_of e false o) (subst (λ (j : ℕ). number < j) (z ∙ ap (λ (j : ℕ). 3 ^ j) q) h)))

pub beyond : (e : Elements) (o number n x : ℕ) → n ≡ count_of e false o → x ≡ 3 ^ n → x ≤ number → Refused 14 0 ≡ asked_of e o number
unfolding asked_of
beyond e o number n x q z h =
    sym
    (ap (λ (b : Bool). pick b (Verdict' (verdict (digits (count_of e false o) number) (function (question_table e o)))) (Refused 14 0)) (le-ltb number (3 ^ count_of e false o) (subst (λ (j : ℕ). j ≤ number) (z ∙ ap (λ (j : ℕ). 3 ^ j) q) h)))

pub asked_out : (e : Elements) (p number o : ℕ) (r : Asked) → o ≡ out_at e p → o < 64 → r ≡ asked_of e o number → r ≡ asked e p number
unfolding asked
asked_out e p number o r q h w =
    w
    ∙ ap (λ (j : ℕ). asked_of e j number) q
    ∙ sym (ap (λ (b : Bool). pick b (asked_of e (out_at e p) number) (Refused 14 0)) (lt-ltb (out_at e p) 64 (subst (λ (j : ℕ). j < 64) q h)))

pub asked_none : (e : Elements) (p number o : ℕ) → o ≡ out_at e p → 64 ≤ o → Refused 14 0 ≡ asked e p number
unfolding asked
asked_none e p number o q h = sym (ap (λ (b : Bool). pick b (asked_of e (out_at e p) number) (Refused 14 0)) (le-ltb (out_at e p) 64 (subst (λ (j : ℕ). 64 ≤ j) q h)))

pub impossible : (n : ℕ) → n ≤ 10 → leb n 10 ≡ false → ⊥
impossible n h q = clash (sym (le-leb n 10 h) ∙ q)
