use native.Mathlib.Omega.{arith}
use mathlib.Core.Path.{sym, ◌∙◌}
use Rattle.fusetext.proofs.Files.{listing_left, listing_kept}
use Rattle.fusetext.proofs.Puts.{wrote_as, wrote_nothing}
use Rattle.fusewrite.proofs.put_listing_if.Goals as goal

pub returns-then-is_zero : goal.returns-then-is_zero
returns-then-is_zero c = wrote_as (wrote_nothing _ _ (omega arith)) (listing_left _ _ (sym c.is_zero.ensures ∙ c.if-is_zero.true))

pub returns-else-is_zero : goal.returns-else-is_zero
returns-else-is_zero c = wrote_as c.put_listing.ensures (listing_kept _ _ (sym c.is_zero.ensures ∙ c.if-is_zero.false))
