use native.Mathlib.Omega.{arith}
use Rattle.std.proofs.Common.{◌≡◌, length, sym, ap, ◌∙◌}
use Rattle.words.specs.Kinds.{gapped}
use Rattle.words.proofs.Laws.{gap_closes, gap_within, gap_ends}
use Rattle.words.proofs.comment_end.Goals as goal

pub returns-then-closes-clause-value : goal.returns-then-closes-clause-value
returns-then-closes-clause-value c =
    ap gapped (sym (gap_closes _ _ c.loop-i-test.true (sym (rw c.byte_at.ensures at c.closes.ensures) ∙ c.if-closes.true)) ∙ c.loop-i.invariant)

pub loop-i-preserved : goal.loop-i-preserved
loop-i-preserved c = sym (gap_within _ _ c.loop-i-test.true (sym (rw c.byte_at.ensures at c.closes.ensures) ∙ c.if-closes.false)) ∙ c.loop-i.invariant

pub returns-clause-value : goal.returns-clause-value
returns-clause-value c =
    let q : c.loop-i.i ≡ length c.args.text.now = omega arith in
    rw c.new.ensures (ap gapped (sym (gap_ends _ _ q) ∙ c.loop-i.invariant))
