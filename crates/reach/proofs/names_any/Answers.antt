use Rattle.basics.proofs.Folds.{none_start, none_more, any_hit}
use borrow.Author.Tests.{eq-eqb, ne_eqb}
use mathlib.Core.Path.{sym}
use Rattle.reach.proofs.names_any.Goals as goal

pub loop-j-init : goal.loop-j-init
loop-j-init c = none_start _ _

pub returns-then-m-k-eq1 : goal.returns-then-m-k-eq1
returns-then-m-k-eq1 c = sym (any_hit _ _ _ c.loop-j-test.true (eq-eqb _ _ c.if-m-k-eq1.true))

pub loop-j-preserved : goal.loop-j-preserved
loop-j-preserved c = none_more _ _ _ c.loop-j-test.true c.loop-j.invariant (ne_eqb _ _ c.if-m-k-eq1.false)
