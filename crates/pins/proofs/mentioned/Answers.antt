use Rattle.pins.proofs.Naming.{row_is}
use Rattle.trees.specs.Layout.{elements_of}
use mathlib.Core.Path.{refl, ◌∙◌}
use Rattle.pins.proofs.mentioned.Goals as goal

pub returns : goal.returns
returns c = c.named_row.ensures ∙ row_is (elements_of c.args.parts.now) _ _ _ _ c.requires.o_bound refl c.mark_equation.ensures c.requires.matrix
