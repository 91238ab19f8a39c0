-- `engine::judge` meets its contract.
use Rattle.engine.proofs.Judging.{judged}
use Rattle.engine.proofs.judge.Goals as goal

pub returns : goal.returns
returns c = let m = c.mark.ensures in judged _ _ _ _ c.fill.ensures.filled m.room m.graded
