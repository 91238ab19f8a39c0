use mathlib.Core.Bool.{true}
use mathlib.Core.Path.{◌≡◌, sym, ap, ◌∙◌}
use native.Mathlib.Omega.{arith}
use Prim.Native.Nat.{ℕ}
use Rattle.std.proofs.lemmas.Grind.{common_steps}
use Rattle.fusetext.proofs.Puts.{wrote_all}
use Rattle.fusetext.specs.File.{bits}
use Rattle.fuseread.proofs.Endings.{length_filled, whole_gap, whole_full}
use Rattle.fuseread.specs.Reading.{filled, summed}
use Rattle.fuseread.proofs.finish.Goals as goal

pub returns-then-not-is_bits : goal.returns-then-not-is_bits
returns-then-not-is_bits c =
    let a = c.args in
    let q : a.seen.qf ≡ true = grind (arith, common_steps) in
    let e = wrote_all c.fill.ensures (omega (arith, length_filled c.unwrap_or.result a.cells.now)) ∙ ap (λ (f : ℕ). filled f a.cells.now) c.unwrap_or.ensures in
    rw c.new-then-not-is_bits.ensures (whole_gap a.s.now a.z a.seen a.cells.now q (sym (ap bits e) ∙ sym c.is_bits.ensures ∙ c.if-not-is_bits.true))

pub returns : goal.returns
returns c =
    let a = c.args in
    let q : a.seen.qf ≡ true = grind (arith, common_steps) in
    let e = wrote_all c.fill.ensures (omega (arith, length_filled c.unwrap_or.result a.cells.now)) ∙ ap (λ (f : ℕ). filled f a.cells.now) c.unwrap_or.ensures in
    c.sums.ensures ∙ ap (summed a.s.now a.z a.seen.c) e ∙ whole_full a.s.now a.z a.seen a.cells.now q (sym (ap bits e) ∙ sym c.is_bits.ensures ∙ c.if-not-is_bits.false)
