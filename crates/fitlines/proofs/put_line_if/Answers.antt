use mathlib.Core.Path.{sym, ◌∙◌}
use native.Mathlib.Omega.{arith}
use Rattle.fusetext.proofs.Puts.{wrote_as, wrote_nothing}
use Rattle.fitlines.proofs.Turns.{line_kept, line_left}
use Rattle.fitlines.proofs.put_line_if.Goals as goal

pub returns-then-is_enabled : goal.returns-then-is_enabled
returns-then-is_enabled c = wrote_as c.put_line.ensures (line_kept c.args.map.now c.args.k c.args.products c.args.factors (sym c.is_enabled.ensures ∙ c.if-is_enabled.true))

pub returns-else-is_enabled : goal.returns-else-is_enabled
returns-else-is_enabled c = wrote_as (wrote_nothing _ _ (omega arith)) (line_left c.args.map.now c.args.k c.args.products c.args.factors (sym c.is_enabled.ensures ∙ c.if-is_enabled.false))
