use native.Mathlib.Omega.{arith}
use borrow.Author.Rules.{rules}
use mathlib.Core.Path.{refl, sym, ◌∙◌}
use lib.Seq.{length-take-le}
use Rattle.fusefields.specs.Bytes.{blank, not_star}
use Rattle.fuseread.proofs.Turns.{turn_ended, turn_open, turn_good, turn_bad, length_rest}
use Rattle.fuseread.proofs.fields.Goals as goal

pub loop-piece-init : goal.loop-piece-init
loop-piece-init c = (refl, omega arith, omega arith)

pub slice_bounds-piece-end : goal.slice_bounds-piece-end
slice_bounds-piece-end c = sym (length-take-le _ _ c.run-n.ensures.upper_bound)

pub returns-then-n-b : goal.returns-then-n-b
returns-then-n-b c =
    let l = c.loop-piece in
    let en = c.run-n.ensures.count not_star (λ x b h q. search rules) in
    let eb = c.run-b.ensures.count blank (λ x b h q. search rules) in
    sym (turn_ended l.seen l.cells c.args.s.now l.at c.run-n.result c.run-b.result l.invariant.1 en eb c.if-rest-n.true c.if-n-b.true) ∙ l.invariant.0

pub returns-else-n-b : goal.returns-else-n-b
returns-else-n-b c =
    let l = c.loop-piece in
    let en = c.run-n.ensures.count not_star (λ x b h q. search rules) in
    let eb = c.run-b.ensures.count blank (λ x b h q. search rules) in
    sym (turn_open l.seen l.cells c.args.s.now l.at c.run-n.result c.run-b.result l.invariant.1 en eb c.if-rest-n.true c.if-n-b.false) ∙ l.invariant.0

pub loop-piece-preserved : goal.loop-piece-preserved
loop-piece-preserved c =
    let l = c.loop-piece in
    let en = c.run-n.ensures.count not_star (λ x b h q. search rules) in
    let eb = c.run-b.ensures.count blank (λ x b h q. search rules) in
    let h = length_rest l.seen l.cells c.args.s.now l.at 0 0 l.invariant.1 in (
      turn_good l.seen l.cells c.args.s.now l.at c.run-n.result c.run-b.result l.invariant.1 en eb (omega arith) _ _ c.in-Ok.ensures ∙ l.invariant.0,
      omega arith,
      omega arith,
    )

pub returns-in-Err : goal.returns-in-Err
returns-in-Err c =
    let l = c.loop-piece in
    let en = c.run-n.ensures.count not_star (λ x b h q. search rules) in
    let eb = c.run-b.ensures.count blank (λ x b h q. search rules) in
    rw c.new.ensures (turn_bad l.seen l.cells c.args.s.now l.at c.run-n.result c.run-b.result l.invariant.1 en eb (omega arith) _ c.in-Err.ensures ∙ l.invariant.0)
