-- The answer to a line, written out; and what a line that is not of the form is answered.
-- Assumes nothing.
use mathlib.Core.Path.{◌≡◌, refl, sym, ap, ◌∙◌}
use mathlib.Core.Bool.{Bool, true, false, ◌||◌}
use mathlib.Core.List.{List, ◌++◌}
use Prim.Native.Nat.{ℕ, ◌+◌, ◌≤◌, ◌<◌}
use native.Mathlib.Omega.{arith}
use lib.ListN.{length, get_or, drop}
use Rattle.basics.specs.Choice.{pick}
use Rattle.basics.specs.Below.{listed}
use Rattle.basics.proofs.Folds.{listed_length, listed_at, any_hit}
use Rattle.gal.specs.Model.Verdict.{Shown, Refused}
use Rattle.std.specs.Prelude.{Result, Ok, Err}
use Rattle.basics.specs.Refusal.{number_of}
use Rattle.basics.specs.declared.refusal.Refusal.{Refusal}
use Rattle.gal.specs.declared.Answer.{Answer as Pins}
use Rattle.gal.specs.Model.{Answer, Verdict, answer_of, modelled, refusal, answered}
use Rattle.gal.specs.Refuse.{no_map, outside, callers, wrong, wrong_pins, wrong_bits, no_values}
use Rattle.lines.specs.Decimal.{spell, decimal, refusal_line}
use Rattle.fusetext.specs.Put.{Wrote}
use Rattle.fusetext.proofs.Puts.{put_front, wrote_as}
use Rattle.gallines.specs.Lines.{bits_of, pins_of, shown_byte, text_for, answer_to, formed, given}

text_is : (m line bits pins : List ℕ) (a : Answer) (v : Verdict) → bits ≡ bits_of line → pins ≡ pins_of line → a ≡ modelled m bits pins → a.verdict ≡ v → text_for v a ≡ answer_to m line
unfolding answer_to
text_is m line bits pins a v eb ep ea ev =
    ap (λ (w : Verdict). text_for w a) (sym ev) ∙ ap (λ (x : Answer). text_for x.verdict x) (ea ∙ (λ i. modelled m (eb i) (ep i)))

pub answer_shown : (m line bits pins : List ℕ) (r : Result Pins Refusal) (a : Pins) (out now-out : List ℕ) → bits ≡ bits_of line → pins ≡ pins_of line → answer_of r ≡ modelled m bits pins
    → r ≡ Ok a → 61 ≤ length out → now-out ≡ listed (shown_byte a.shown a.values a.next) 61 ++ drop 61 out → Wrote out 0 (answer_to m line) now-out 61
answer_shown m line bits pins r a out now-out eb ep ea er h w =
    let f : ℕ → ℕ = shown_byte a.shown a.values a.next in
    let l : length (listed f 61) ≡ 61 = listed_length f 61 in
    wrote_as
    (record { room = omega arith; holds = w ∙ ap (λ (n : ℕ). listed f 61 ++ drop n out) (sym l) ∙ sym (put_front out (listed f 61)); ends = omega arith })
    (text_is m line bits pins (answer_of (Ok a)) Shown eb ep (ap answer_of (sym er) ∙ ea) refl)

pub answer_refused : (m line bits pins : List ℕ) (r : Result Pins Refusal) (a : Refusal) {out now-out : List ℕ} {k : ℕ} → bits ≡ bits_of line → pins ≡ pins_of line
    → answer_of r ≡ modelled m bits pins → r ≡ Err a → Wrote out 0 (refusal_line (number_of a.reason) a.place) now-out k → Wrote out 0 (answer_to m line) now-out k
answer_refused m line bits pins r a eb ep ea er w =
    wrote_as w (text_is m line bits pins (answer_of (Err a)) (Refused (number_of a.reason) a.place) eb ep (ap answer_of (sym er) ∙ ea) refl)

-- ---- what is not of the form is refused 32, once the map is taken

ten_pin : (m line : List ℕ) (i : ℕ) → i < 24 → given line (i + 11) ≡ 10 → no_values m (bits_of line) (pins_of line) ≡ true
unfolding no_values wrong_pins pins_of
ten_pin m line i h e =
    ap (λ (b : Bool). b || wrong_bits m (bits_of line)) (any_hit (λ j. wrong (callers m (j + 1)) (get_or (listed (λ k. given line (k + 11)) 24) j 0)) 24 i h (big i h e))
  where
    big : (j : ℕ) → j < 24 → given line (j + 11) ≡ 10 → wrong (callers m (j + 1)) (get_or (listed (λ k. given line (k + 11)) 24) j 0) ≡ true
    big j l q = ap (wrong (callers m (j + 1))) (listed_at (λ k. given line (k + 11)) 24 j l ∙ q)

all_ten : (line : List ℕ) (i : ℕ) → formed line ≡ false → given line i ≡ 10
unfolding given
all_ten line i q = simp q

pub not_formed : (m line : List ℕ) → formed line ≡ false → no_map m ≡ false → outside m ≡ false → modelled m (bits_of line) (pins_of line) ≡ refusal 32
unfolding modelled
not_formed m line e f g = simp (f, g, ten_pin m line 0 (omega arith) (all_ten line (0 + 11) e))

-- ---- how long an answer is, for a caller that lends its room: five bytes where the line is not of the form

refusal_five : (m line : List ℕ) (n : ℕ) → length (refusal_line n 0) ≡ 5 → modelled m (bits_of line) (pins_of line) ≡ refusal n → length (answer_to m line) ≡ 5
unfolding answer_to
refusal_five m line n h e = ap (λ (a : Answer). length (text_for a.verdict a)) e ∙ h

five : (length (refusal_line 30 0) ≡ 5) × (length (refusal_line 31 0) ≡ 5) × (length (refusal_line 32 0) ≡ 5)
unfolding refusal_line decimal spell
five = (refl, refl, refl)

shown_size : (m line : List ℕ) → modelled m (bits_of line) (pins_of line) ≡ answered m (bits_of line) (pins_of line) → length (answer_to m line) ≡ 61
unfolding answer_to
shown_size m line e = ap (λ (a : Answer). length (text_for a.verdict a)) e ∙ listed_length _ 61

pub answer_size : (m line : List ℕ) → length (answer_to m line) ≤ pick (formed line) 61 5
answer_size m line = go (no_map m) (outside m) (no_values m (bits_of line) (pins_of line)) (formed line) refl refl refl refl
  where
    small : (b : Bool) → length (answer_to m line) ≡ 5 → length (answer_to m line) ≤ pick b 61 5
    small true e = omega arith
    small false e = omega arith

    go : (a b c d : Bool) → no_map m ≡ a → outside m ≡ b → no_values m (bits_of line) (pins_of line) ≡ c → formed line ≡ d → length (answer_to m line) ≤ pick d 61 5
    go true b c d p q r s = small d (refusal_five m line 31 five.1 (unfold modelled in simp p))
    go false true c d p q r s = small d (refusal_five m line 30 five.0 (unfold modelled in simp (p, q)))
    go false false c false p q r s = small false (refusal_five m line 32 five.2 (not_formed m line s p q))
    go false false true true p q r s = small true (refusal_five m line 32 five.2 (unfold modelled in simp (p, q, r)))
    go false false false true p q r s = let e = shown_size m line (unfold modelled in simp (p, q, r)) in omega arith
