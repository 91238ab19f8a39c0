use Rattle.meaning.proofs.Ordering.{count_more, count_small, count_none, bit_one, row_length, row_at}
use Rattle.basics.specs.Choice.{bit, on}
use Rattle.basics.specs.Below.{tally}
use Rattle.reach.specs.Table.{cell}
use mathlib.Core.Path.{ap, ◌∙◌}
use Prim.Native.Nat.{ℕ}
use native.Mathlib.Omega.{arith}
use Rattle.meaning.proofs.rank_of.Goals as goal

pub loop-b-init : goal.loop-b-init
loop-b-init c = count_none _

pub overflow_add-n : goal.overflow_add-n
overflow_add-n c =
    let a = count_small _ _ _ c.loop-b.invariant in
    let b = bit_one _ _ c.byte_of-n.ensures in
    let l = row_length c.args.m.now c.args.i c.requires.m_len c.requires.i_bound in
    omega (arith, c.loop-b-test.true)

pub loop-b-preserved : goal.loop-b-preserved
loop-b-preserved c =
    let l = row_length c.args.m.now c.args.i c.requires.m_len c.requires.i_bound in
    count_more _ _ _ _ c.loop-b.invariant
    (c.byte_of-n.ensures ∙ ap (λ (x : ℕ). bit (on x)) (row_at c.args.m.now c.args.i c.loop-b.b-index (omega (arith, c.loop-b-test.true))))

pub returns : goal.returns
returns c =
    let l = row_length c.args.m.now c.args.i c.requires.m_len c.requires.i_bound in
    c.loop-b.invariant ∙ ap (tally (cell c.args.m.now c.args.i)) (omega (arith, c.loop-b-test.false, c.loop-b.auto.b-index-end))
