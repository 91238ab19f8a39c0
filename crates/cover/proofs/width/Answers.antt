-- `cover::width` meets its contract.
use mathlib.Core.Path.{ap, ◌∙◌}
use lib.Count.{ones}
use Rattle.std.proofs.lemmas.Nat.{and_mask}
use Rattle.cover.proofs.Naming.{ones_named}
use Rattle.cover.proofs.width.Goals as goal

pub returns : goal.returns
returns c = ap ones (and_mask c.args.named 22) ∙ ones_named 22 c.args.named
