-- `engine::implicant` meets its contract.
use mathlib.Core.Path.{sym}
use native.Mathlib.Numerals.{unary_clauses}
use native.Mathlib.Omega.{arith}
use Rattle.engine.proofs.Walk.{one_less}
use Rattle.engine.proofs.Place.{start, step, two, lifted, bounds, absent_no, absent_yes, ended}
use Rattle.engine.proofs.implicant.Goals as goal

pub loop-init : goal.loop-init
loop-init c = simp unary_clauses (start _ _ _ c.requires.p_bound)

pub returns-else-t-p-ne0 : goal.returns-else-t-p-ne0
returns-else-t-p-ne0 c = absent_no _ _ _ _ _ c.requires.filled (two _ _ _ _ _ _ _ _ (lifted _ _ _ _ _ _ _ _ _ (one_less _ _ c.loop-test.true) c.loop.invariant) c.if-d-eq2.true) c.if-t-p-ne0.false

pub returns-then-t-p-ne0 : goal.returns-then-t-p-ne0
returns-then-t-p-ne0 c = absent_yes _ _ _ _ _ c.requires.filled (two _ _ _ _ _ _ _ _ (lifted _ _ _ _ _ _ _ _ _ (one_less _ _ c.loop-test.true) c.loop.invariant) c.if-d-eq2.true) c.if-t-p-ne0.true

pub overflow_mul-pow-in-loop : goal.overflow_mul-pow-in-loop
overflow_mul-pow-in-loop c = let b = bounds _ _ _ _ _ _ _ _ c.requires.sized.few (lifted _ _ _ _ _ _ _ _ _ (one_less _ _ c.loop-test.true) c.loop.invariant) in omega arith

pub loop-preserved : goal.loop-preserved
loop-preserved c = step _ _ _ _ _ _ _ _ (lifted _ _ _ _ _ _ _ _ _ (one_less _ _ c.loop-test.true) c.loop.invariant) (omega arith)

pub returns : goal.returns
returns c = sym (ended _ _ _ _ _ _ _ _ (omega arith) c.loop.invariant).answer
