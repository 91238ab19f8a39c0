use native.Mathlib.Omega.{arith}
use Rattle.std.proofs.Common.{sym, ◌∙◌}
use Rattle.words.proofs.Laws.{value_stop, value_end}
use Rattle.words.proofs.Values.{digit_range, literal_here, literal_next, literal_over}
use Rattle.words.proofs.literal.Goals as goal

pub returns-then-not-is_digit : goal.returns-then-not-is_digit
returns-then-not-is_digit c =
    literal_here _ _ (omega arith) (sym (value_stop _ _ c.loop-b-test.true _ (sym c.is_digit.ensures ∙ c.if-not-is_digit.true)) ∙ c.loop-b.invariant.says)

pub returns-in_err-checked_mul : goal.returns-in_err-checked_mul
returns-in_err-checked_mul c =
    c.from_residual.ensures ∙ literal_over _ _ c.loop-b.value c.loop-b-test.true (sym c.is_digit.ensures ∙ c.if-not-is_digit.false) c.loop-b.invariant.says (omega arith)

pub overflow_sub-b : goal.overflow_sub-b
overflow_sub-b c = (digit_range _ (sym c.is_digit.ensures ∙ c.if-not-is_digit.false)).0

pub returns-in_err-value : goal.returns-in_err-value
returns-in_err-value c =
    c.from_residual-in_err-value.ensures ∙ literal_over _ _ c.loop-b.value c.loop-b-test.true (sym c.is_digit.ensures ∙ c.if-not-is_digit.false) c.loop-b.invariant.says (omega arith)

pub loop-b-preserved : goal.loop-b-preserved
loop-b-preserved c = record {
  small = omega (arith, c.in_ok-value.ensures);
  says = literal_next _ _ c.loop-b.value c.loop-b-test.true (sym c.is_digit.ensures ∙ c.if-not-is_digit.false) c.loop-b.invariant.says _ _ c.in_ok-checked_mul.ensures.1 c.in_ok-value.ensures.1;
}

pub returns : goal.returns
returns c = literal_here _ _ (omega arith) (sym (value_end _ _ c.loop-b-test.false _) ∙ c.loop-b.invariant.says)
