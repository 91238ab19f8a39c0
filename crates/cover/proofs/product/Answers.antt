-- `cover::product` meets its contract.
use Prim.Native.Nat.{◌%◌}
use native.Mathlib.Omega.{arith}
use Rattle.engine.proofs.Walk.{one_less}
use Rattle.cover.proofs.Masking.{start, lifted, small, step_in, step_out, end}
use Rattle.cover.proofs.product.Goals as goal
use Rattle.cover.proofs.product.Goals.{then-m-eq1, else-m-eq1}

pub loop-init : goal.loop-init
loop-init c = start _ _

pub overflow_mul-a : goal.overflow_mul-a
overflow_mul-a c = let s = small _ _ _ _ _ _ _ (c.loop.q % 3) (omega arith) (lifted _ _ _ _ _ _ _ _ (one_less _ _ c.loop-test.true) c.loop.invariant) in omega (arith, s)

pub overflow_add-a : goal.overflow_add-a
overflow_add-a c = let s = small _ _ _ _ _ _ _ (c.loop.q % 3) (omega arith) (lifted _ _ _ _ _ _ _ _ (one_less _ _ c.loop-test.true) c.loop.invariant) in omega (arith, s)

pub overflow_mul-w : goal.overflow_mul-w
overflow_mul-w c = let s = small _ _ _ _ _ _ _ 0 (omega arith) (lifted _ _ _ _ _ _ _ _ (one_less _ _ c.loop-test.true) c.loop.invariant) in omega (arith, s)

pub loop-preserved : goal.loop-preserved
loop-preserved c =
    let i = lifted _ _ _ _ _ _ _ _ (one_less _ _ c.loop-test.true) c.loop.invariant in
    elim c.if-m-eq1.branch [
      | then-m-eq1 w ↦ rw (w.q-is, w.a-is) (step_in _ _ _ _ _ _ _ i w.if-m-eq1.true)
      | else-m-eq1 w ↦ rw (w.q-is, w.a-is) (step_out _ _ _ _ _ _ _ i w.if-m-eq1.false)
    ]

pub returns : goal.returns
returns c = end _ _ _ _ _ _ _ (omega arith) c.loop.invariant
