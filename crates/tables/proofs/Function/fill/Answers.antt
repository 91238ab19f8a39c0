use Rattle.tables.proofs.Filling.{filling_start, filling_more, filling_end}
use Rattle.basics.specs.Choice.{bit}
use mathlib.Core.Path.{ap, ◌∙◌}
use Rattle.tables.proofs.Function.fill.Goals as goal

pub loop-k-init : goal.loop-k-init
loop-k-init c = filling_start _ _ _

pub loop-k-preserved : goal.loop-k-preserved
loop-k-preserved c = filling_more _ _ _ _ _ _ c.loop-k-test.true c.requires.size_in_bounds c.loop-k.invariant (c.byte_of.ensures ∙ ap bit c.entry.ensures)

pub returns : goal.returns
returns c = filling_end _ _ _ _ _ c.loop-k-test.false c.requires.size_in_bounds c.loop-k.invariant
