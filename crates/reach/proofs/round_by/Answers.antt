use Rattle.reach.proofs.Warshall.{round_none}
use mathlib.Core.Path.{sym, ◌∙◌}
use Rattle.reach.proofs.round_by.Goals as goal

pub returns-else-names_any : goal.returns-else-names_any
returns-else-names_any c = round_none _ _ c.requires.matrix (sym c.names_any.ensures ∙ c.if-names_any.false)
