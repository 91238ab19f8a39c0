use Rattle.tables.proofs.Values.{values_are}
use Rattle.basics.proofs.Folds.{listed_length}
use lib.ListN.{length}
use mathlib.Core.Path.{sym, ap, ◌∙◌}
use Rattle.tables.proofs.all_values.Goals as goal

pub slice_bounds-settle-end : goal.slice_bounds-settle-end
slice_bounds-settle-end c = sym (ap length c.known_values-vals.ensures ∙ listed_length _ 64)

pub settle-requires : goal.settle-requires
settle-requires c = ap length c.known_values-vals.ensures ∙ listed_length _ 64

pub returns : goal.returns
returns c = values_are _ c.requires.parts_value _ c.requires.in_order _ _ _ c.known_values-vals.ensures c.settle.ensures
