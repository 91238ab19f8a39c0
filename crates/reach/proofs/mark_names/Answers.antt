use Rattle.reach.proofs.Marking.{naming_more, naming_end}
use Rattle.reach.specs.Table.{mark1}
use mathlib.Core.Path.{ap, ◌∙◌}
use Rattle.reach.proofs.mark_names.Goals as goal

pub loop-c-preserved : goal.loop-c-preserved
loop-c-preserved c = naming_more _ _ _ _ _ _ c.loop-c-test.true c.loop-c.invariant (c.mark_one.ensures ∙ ap (mark1 _ _) c.from.ensures)

pub returns : goal.returns
returns c = naming_end _ _ _ _ _ c.loop-c-test.false c.loop-c.invariant
