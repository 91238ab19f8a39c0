-- What is printed for a text, by what the calls answered. Assumes nothing.
use mathlib.Core.Path.{◌≡◌, sym, ap, ◌∙◌}
use mathlib.Core.Bool.{Bool}
use mathlib.Core.List.{List}
use Prim.Native.Nat.{ℕ, ◌≤◌}
use lib.ListN.{length}
use borrow.Author.Tests.{le-leb}
use Rattle.std.specs.Prelude.{Result, Ok, Err}
use Rattle.basics.specs.Choice.{pick}
use Rattle.basics.specs.Refusal.{number_of, answered}
use Rattle.basics.specs.declared.refusal.Refusal.{Refusal}
use Rattle.engine.specs.declared.Grade.{Grade}
use Rattle.fusetext.specs.Outcome.{Outcome, left}
use Rattle.fusetext.specs.Put.{Wrote}
use Rattle.fusewrite.specs.Writing.{written_of}
use Rattle.lines.specs.Decimal.{refusal_line}
use Rattle.texts.specs.Stages.{whole_of}
use Rattle.texts.specs.Calls.{written, called, Does}
use Rattle.texts.proofs.Calling.{called_lent}
use Rattle.question.specs.Question.Asked.{Refused as Refuses}
use Rattle.question.specs.Question.{seen}
use Rattle.askcall.specs.Asking.{questioned, graded_of, Asks}
use Rattle.verbs.specs.Printed.{printed}
use Rattle.verbs.proofs.Files.{bytes_printed, refusal_printed}
use Rattle.textverbs.specs.Answers.{grade_line, ask_answer}

-- ---- compile and fit

-- a call that says such bytes of a map, and prints them as they stand: what is lent is enough, so that it does not matter how much more it is
module _ (says : List ℕ → List ℕ) (s out room : List ℕ) (a : Result ℕ Refusal) (after y : List ℕ) (h : 7154 ≤ length out) (k : 65536 ≤ length room)
    (d : Does written_of (called says s (length out) (length room)) out room (answered a) after y) where
  tells : answered a ≡ written_of (written says (whole_of s))
  tells = d.answers ∙ ap written_of (called_lent says s (length out) (length room) h k)

  leaves : after ≡ left (written says (whole_of s)) out
  leaves = d.leaves ∙ ap (λ (o : Outcome). left o out) (called_lent says s (length out) (length room) h k)

  pub said_given : (len : ℕ) → a ≡ Ok len → length after ≡ length out → Wrote out 0 (printed (λ bytes. bytes) (written says (whole_of s))) after len
  said_given len e z = bytes_printed (written says (whole_of s)) out after len (sym (ap answered e) ∙ tells) leaves z

  pub said_refused : (r : Refusal) (last : List ℕ) (n : ℕ) → a ≡ Err r → Wrote after 0 (refusal_line (number_of r.reason) r.place) last n
      → Wrote out 0 (printed (λ bytes. bytes) (written says (whole_of s))) last n
  said_refused r last n e w = refusal_printed (written says (whole_of s)) out after (number_of r.reason) r.place last n (sym (ap answered e) ∙ tells) leaves w

-- ---- ask

ask_lent : (s : List ℕ) (pin product room : ℕ) → 65536 ≤ room → graded_of s pin product room ≡ questioned pin product (whole_of s)
unfolding graded_of
ask_lent s pin product room k = ap (λ (b : Bool). pick b (questioned pin product (whole_of s)) (Refuses 13 0)) (le-leb _ _ k)

pub ask_printed : (s : List ℕ) (pin product : ℕ) (room : List ℕ) (a b : Result Grade Refusal) (y : List ℕ) → 65536 ≤ length room → Asks s pin product room a y → a ≡ b
    → grade_line (seen b) ≡ ask_answer s pin product
unfolding ask_answer
ask_printed s pin product room a b y k d e =
    ap grade_line (ap seen (sym e) ∙ d.answers ∙ ask_lent s pin product (length room) k)
