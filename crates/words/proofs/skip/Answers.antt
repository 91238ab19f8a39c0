use Rattle.std.proofs.Common.{sym, ap, ◌∙◌}
use Rattle.std.proofs.lemmas.Result.{err_from_is_err_and}
use Rattle.words.specs.Kinds.{gapped}
use Rattle.words.proofs.Laws.{gap_opens, gap_blank, gap_word, gap_here}
use Rattle.words.proofs.Laws.{gapped_one}
use Rattle.words.proofs.skip.Goals as goal

pub returns-in_err-i : goal.returns-in_err-i
returns-in_err-i c =
    let p = err_from_is_err_and c.from_residual.result c.from_residual.ensures.1 in
    rw (p.1, p.2) (c.in_err-i.ensures.value ∙ ap gapped (sym (gap_opens _ _ c.loop-i-test.true (sym (rw c.byte_at.ensures at c.opens.ensures) ∙ c.if-opens.true)) ∙ c.loop-i.invariant))

pub loop-i-preserved-then-opens : goal.loop-i-preserved-then-opens
loop-i-preserved-then-opens c =
    gapped_one _ _ c.in_ok-i.ensures.value ∙ sym (gap_opens _ _ c.loop-i-test.true (sym (rw c.byte_at.ensures at c.opens.ensures) ∙ c.if-opens.true)) ∙ c.loop-i.invariant

pub loop-i-preserved : goal.loop-i-preserved
loop-i-preserved c = sym (gap_blank _ _ c.loop-i-test.true (sym c.is_blank.ensures ∙ c.if-is_blank.true)) ∙ c.loop-i.invariant

pub returns-else-is_blank : goal.returns-else-is_blank
returns-else-is_blank c =
    ap gapped (sym (gap_word _ _ c.loop-i-test.true (sym (rw c.byte_at.ensures at c.opens.ensures) ∙ c.if-opens.false) (sym c.is_blank.ensures ∙ c.if-is_blank.false)) ∙ c.loop-i.invariant)

pub returns : goal.returns
returns c = ap gapped (sym (gap_here _ _ c.loop-i-test.false) ∙ c.loop-i.invariant)
