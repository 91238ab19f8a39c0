use mathlib.Core.Path.{refl}
use Rattle.trees.proofs.Stack.{begin, more, end}
use Rattle.trees.proofs.value_of.Goals as goal

pub loop-c-init : goal.loop-c-init
loop-c-init c = begin _ _ _ _ refl

pub loop-c-preserved : goal.loop-c-preserved
loop-c-preserved c = more _ _ _ _ _ _ _ _ _ _ _ _ _ _ c.loop-c-test.true c.requires c.loop-c.invariant c.from-node.ensures c.peek-x.ensures c.peek-y.ensures c.peek-z.ensures c.value-v.ensures c.byte_of.ensures c.operands.ensures c.saturating_sub-n.ensures

pub returns : goal.returns
returns c = end _ _ _ _ _ _ _ c.loop-c-test.false c.loop-c.invariant c.peek.ensures
