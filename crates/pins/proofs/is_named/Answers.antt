use Rattle.std.proofs.Common.{rules}
use Rattle.circuit.proofs.First.{found_any}
use Rattle.pins.specs.Memory.{named_in}
use Rattle.pins.proofs.Naming.{or_then, or_else}
use mathlib.Core.Path.{◌∙◌}
use Rattle.pins.proofs.is_named.Goals as goal

pub returns-then-named : goal.returns-then-named
unfolding named_in
returns-then-named c = or_then _ _ _ c.named.ensures c.if-named.true

pub returns-else-named : goal.returns-else-named
unfolding named_in
returns-else-named c = or_else _ _ _ _ c.named.ensures c.if-named.false (c.is_some.ensures ∙ found_any _ _ (λ k b h p. search rules) c.find.ensures.some c.find.ensures.none)
