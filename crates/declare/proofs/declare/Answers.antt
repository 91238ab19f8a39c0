use Rattle.std.proofs.Common.{sym, ◌∙◌, arith}
use Rattle.std.proofs.lemmas.Grind.{common_steps}
use Rattle.declare.proofs.Laws.{declared_more, declared_stop}
use Rattle.declare.proofs.declare.Goals as goal

pub returns-in_err-made : goal.returns-in_err-made
returns-in_err-made c =
    let e = sym (declared_stop _ _ _ _ _ _ _ c.loop-section-test.true _ _ _ c.in_err-made.ensures) ∙ c.loop-section.invariant in
    grind (arith, common_steps)

pub loop-section-preserved : goal.loop-section-preserved
loop-section-preserved c = sym (declared_more _ _ _ _ _ _ _ c.loop-section-test.true _ _ _ c.in_ok-made.ensures) ∙ c.loop-section.invariant
