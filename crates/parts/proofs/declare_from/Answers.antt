use Rattle.parts.proofs.Runs.{declared_more, declared_end, declared_start}
use mathlib.Core.Path.{refl, sym, ◌∙◌}
use Rattle.parts.proofs.declare_from.Goals as goal

pub loop-i-init : goal.loop-i-init
loop-i-init c = (refl, declared_start _ _ _ _ _)

pub loop-i-preserved : goal.loop-i-preserved
loop-i-preserved c = (c.note.auto.room ∙ c.put.auto.room ∙ c.loop-i.invariant.0, declared_more _ _ _ _ _ _ _ _ c.loop-i-test.true c.put.ensures c.note.ensures ∙ c.loop-i.invariant.1)

pub shape_of-room : goal.shape_of-room
shape_of-room c = c.loop-i.invariant.0

pub returns : goal.returns
returns c = sym (declared_end _ _ _ _ _ _ c.loop-i-test.false) ∙ c.loop-i.invariant.1
