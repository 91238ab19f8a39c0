use Rattle.parts.proofs.Runs.{miscounted_more, miscounted_end, miscounted_start}
use mathlib.Core.Path.{refl, sym, ◌∙◌}
use Rattle.parts.proofs.miscount.Goals as goal

pub loop-i-init : goal.loop-i-init
loop-i-init c = (refl, miscounted_start _ _ _)

pub loop-i-preserved : goal.loop-i-preserved
loop-i-preserved c = (c.put.auto.room ∙ c.raise.auto.room ∙ c.loop-i.invariant.0, miscounted_more _ _ _ _ _ _ c.loop-i-test.true c.raise.ensures c.put.ensures ∙ c.loop-i.invariant.1)

pub shape_of-room : goal.shape_of-room
shape_of-room c = c.loop-i.invariant.0

pub returns : goal.returns
returns c = sym (miscounted_end _ _ _ _ c.loop-i-test.false) ∙ c.loop-i.invariant.1
