use native.Mathlib.Omega.{arith}
use Rattle.std.proofs.Common.{◌≡◌, length, sym, ◌∙◌}
use Rattle.words.proofs.Laws.{end_stop, end_more, end_end}
use Rattle.words.proofs.end_of.Goals as goal

pub returns-then-not-passes-clause-end : goal.returns-then-not-passes-clause-end
returns-then-not-passes-clause-end g c = λ p h.
    sym (end_stop _ _ c.loop-i-test.true p (sym (h _ _ (omega (arith, c.type_inv.text c.loop-i.i)) c.passes.ensures) ∙ c.if-not-passes.true)) ∙ c.loop-i.invariant p h

pub loop-i-preserved : goal.loop-i-preserved
loop-i-preserved g c = λ p h.
    sym (end_more _ _ c.loop-i-test.true p (sym (h _ _ (omega (arith, c.type_inv.text c.loop-i.i)) c.passes.ensures) ∙ c.if-not-passes.false)) ∙ c.loop-i.invariant p h

pub returns-clause-end : goal.returns-clause-end
returns-clause-end g c = λ p h.
    let q : c.loop-i.i ≡ length c.args.text.now = omega arith in
    sym q ∙ sym (end_end _ _ c.loop-i-test.false p) ∙ c.loop-i.invariant p h
