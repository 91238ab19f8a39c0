use Rattle.trees.proofs.Stack.{Running}
use Rattle.trees.specs.Machine.{env_of}
use Rattle.trees.proofs.value_of.Given as goal

abbrev pub invariant-loop-c : goal.invariant-loop-c
invariant-loop-c l = Running (env_of l.vals) l.q l.nodes l.stack l.n l.c-index
