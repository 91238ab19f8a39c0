use Rattle.gallines.proofs.Writing.{end}
use Rattle.gallines.proofs.put_shown.Goals as goal

pub returns : goal.returns
returns c = end _ _ _ _ _ c.loop-i-test.false c.requires c.loop-i.invariant.1
