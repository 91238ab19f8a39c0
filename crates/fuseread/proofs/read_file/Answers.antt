use native.Mathlib.Omega.{arith}
use borrow.Author.Rules.{rules}
use mathlib.Core.List.{List}
use mathlib.Core.Path.{ap, ◌∙◌}
use Prim.Native.Nat.{ℕ, ◌≤◌}
use lib.ListN.{length}
use Rattle.fusefields.specs.Bytes.{front, not_star, not_end}
use Rattle.fusetext.specs.Outcome.{refuses}
use Rattle.fuseread.proofs.Endings.{opened_fault, opened_cut, read_open, read_past, heading_is}
use Rattle.fuseread.proofs.read_file.Goals.{then-z-s, else-z-s}
use Rattle.fuseread.proofs.read_file.Goals as goal

pub slice_bounds-run-count : goal.slice_bounds-run-count
slice_bounds-run-count c = omega (arith, c.run-z.ensures.count not_end (λ x b h q. search rules), read_past c.args.s.now c.if-s-ne2.false)

pub slice_bounds-run-start : goal.slice_bounds-run-start
slice_bounds-run-start c = omega (arith, c.run-z.ensures.count not_end (λ x b h q. search rules), read_past c.args.s.now c.if-s-ne2.false)

pub returns-then-z-h : goal.returns-then-z-h
returns-then-z-h c =
    let s = c.args.s.now in
    let z = c.run-z.result in
    let h = c.run-h.result in
    let ez = c.run-z.ensures.count not_end (λ x b h q. search rules) in
    let past : 1 ≤ z = omega (arith, read_past s c.if-s-ne2.false) in
    let eh = c.run-h.ensures.count not_star (λ x b h q. search rules) ∙ ap (λ (l : List ℕ). length (front not_star l)) (heading_is s z past) in
    let o = read_open s z h (omega arith) c.if-s-ne2.false ez eh in
    rw c.new-then-z-h.ensures (elim c.if-z-s.branch [
      | then-z-s w ↦ ap (refuses 20) w.place-is ∙ opened_fault s z h c.if-z-h.true w.if-z-s.true ∙ o
      | else-z-s w ↦ ap (refuses 20) w.place-is ∙ opened_cut s z h c.if-z-h.true w.if-z-s.false ∙ o
    ])
