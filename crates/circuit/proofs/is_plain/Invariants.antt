use Rattle.circuit.specs.Placed.{plain_n}
use lib.ListN.{drop}
use mathlib.Core.Path.{◌≡◌}
use Rattle.circuit.proofs.is_plain.Given as goal

abbrev pub invariant-loop-c : goal.invariant-loop-c
invariant-loop-c l = plain_n (drop l.c-index l.nodes) ≡ plain_n l.nodes
