use native.Mathlib.Omega.{arith}
use mathlib.Core.Path.{sym, ap, ◌∙◌}
use lib.ListN.{length, get_or}
use Rattle.fusefields.proofs.Fronts.{front_stop, front_go, front_none}
use Rattle.fusefields.proofs.bytes.run.Goals as goal

pub returns-then-not-test-clause-count : goal.returns-then-not-test-clause-count
returns-then-not-test-clause-count g c p k =
    omega (arith, c.loop-j.invariant p k, front_stop p c.args.s.now c.loop-j.j (omega arith) (sym (k (get_or c.args.s.now c.loop-j.j 0) c.test.result (omega (arith, c.type_inv.s c.loop-j.j)) c.test.ensures) ∙ c.if-not-test.true))

pub loop-j-preserved : goal.loop-j-preserved
loop-j-preserved g c p k =
    omega (arith, c.loop-j.invariant p k, front_go p c.args.s.now c.loop-j.j (omega arith) (sym (k (get_or c.args.s.now c.loop-j.j 0) c.test.result (omega (arith, c.type_inv.s c.loop-j.j)) c.test.ensures) ∙ c.if-not-test.false))

pub returns-clause-count : goal.returns-clause-count
returns-clause-count g c p k = omega (arith, c.loop-j.invariant p k, ap length (front_none p c.args.s.now c.loop-j.j (omega arith)))
