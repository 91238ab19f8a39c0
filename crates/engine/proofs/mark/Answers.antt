-- `engine::mark` meets its contract: what is stored is the grade by the entries that were live at first.
use mathlib.Core.Path.{◌∙◌}
use native.Mathlib.Omega.{arith}
use Rattle.std.proofs.lemmas.Grind.{common_steps}
use Rattle.engine.proofs.Marking.{same_grade}
use Rattle.engine.proofs.mark.Goals as goal

pub loop-p-preserved : goal.loop-p-preserved
loop-p-preserved c =
    let e = c.number.ensures ∙ c.graded.ensures ∙ same_grade _ _ _ _ c.loop-p.p c.loop-p.invariant.graded in
    grind (arith, common_steps, e)
