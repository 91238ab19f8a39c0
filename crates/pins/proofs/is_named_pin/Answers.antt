use Rattle.std.proofs.Common.{rules}
use Rattle.circuit.proofs.First.{found_any}
use Rattle.pins.specs.Named.{names_pin}
use Rattle.pins.proofs.Naming.{or_then, or_else}
use mathlib.Core.Path.{◌∙◌}
use Rattle.pins.proofs.is_named_pin.Goals as goal

pub returns-then-is_some : goal.returns-then-is_some
unfolding names_pin
returns-then-is_some c = or_then _ _ _ (c.is_some.ensures ∙ found_any _ _ (λ k b h p. search rules) c.find.ensures.some c.find.ensures.none) c.if-is_some.true

pub returns-else-is_some : goal.returns-else-is_some
unfolding names_pin
returns-else-is_some c = or_else _ _ _ _ (c.is_some.ensures ∙ found_any _ _ (λ k b h p. search rules) c.find.ensures.some c.find.ensures.none) c.if-is_some.false c.is_own.ensures
