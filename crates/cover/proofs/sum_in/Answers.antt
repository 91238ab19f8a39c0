-- `cover::sum_in` meets its contract.
use mathlib.Core.Path.{◌∙◌}
use Rattle.cover.proofs.Joining.{joined}
use Rattle.cover.proofs.sum_in.Goals as goal

pub returns : goal.returns
returns c = c.collect.ensures ∙ joined _ _ _ _ c.judge.ensures c.requires.named_value
