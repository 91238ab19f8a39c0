use Rattle.std.proofs.Common.{rules}
use Rattle.circuit.proofs.Bytes.{listed_bits}
use Rattle.tables.proofs.known_values.Goals as goal

pub returns : goal.returns
returns c = listed_bits _ _ _ (λ k b h p. search rules) c.bits.ensures
