-- `cover::collect` meets its contract.
use Rattle.cover.proofs.Collecting.{start, more, pass, stop, end}
use Rattle.cover.proofs.collect.Goals as goal
use Rattle.cover.proofs.collect.Goals.{then-t-p+else-n-eq16, else-t-p}

pub loop-p-init : goal.loop-p-init
loop-p-init c = start _ _

pub returns-then-n-eq16 : goal.returns-then-n-eq16
returns-then-n-eq16 c = stop _ _ _ _ _ c.loop-p.invariant c.loop-p-test.true c.if-t-p.true c.if-n-eq16.true

pub loop-p-preserved : goal.loop-p-preserved
loop-p-preserved c =
    let i = c.loop-p.invariant in
    let l = c.loop-p-test.true in
    elim c.if-t-p.branch [
      | then-t-p+else-n-eq16 w ↦ rw (w.masks-is, w.n-is) (more _ _ _ _ _ i l w.if-t-p.true w.if-n-eq16.false w.product.result w.product.ensures)
      | else-t-p w ↦ rw (w.masks-is, w.n-is) (pass _ _ _ _ _ i l w.if-t-p.false)
    ]

pub returns : goal.returns
returns c = end _ _ _ _ _ c.loop-p.invariant c.loop-p-test.false
