use Rattle.tables.proofs.Setting.{placing_more, placing_end, differs}
use mathlib.Core.Path.{refl}
use Rattle.tables.proofs.pins_of.Goals as goal

pub loop-var-preserved : goal.loop-var-preserved
loop-var-preserved c = placing_more _ _ _ _ _ _ _ _ _ _ _ c.loop-var-test.true (c.requires.small c.loop-var.var-index) c.loop-var.invariant refl c.named.ensures refl (differs _ _) c.byte_of.ensures

pub returns : goal.returns
returns c = placing_end _ _ _ _ _ _ c.loop-var-test.false c.loop-var.invariant
