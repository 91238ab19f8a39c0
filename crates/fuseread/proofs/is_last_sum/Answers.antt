use Rattle.fuseread.proofs.Endings.{to_end}
use Rattle.fuseread.specs.Reading.{last_sum_fits}
use Rattle.fusefields.specs.Bytes.{hex4_of}
use lib.Seq.{length-take-le}
use lib.Dec.{eqb}
use Prim.Native.Nat.{ℕ, ◌+◌, ◌%◌}
use mathlib.Core.Path.{sym, ap, ap₂, ◌∙◌}
use native.Mathlib.Omega.{arith}
use Rattle.fuseread.proofs.is_last_sum.Goals as goal

pub slice_bounds-sum_of-end : goal.slice_bounds-sum_of-end
slice_bounds-sum_of-end c = sym (length-take-le (c.args.z + 1) c.args.s.now (omega arith))

pub sum_of-w-requires : goal.sum_of-w-requires
sum_of-w-requires c = omega (arith, length-take-le (c.args.z + 1) c.args.s.now (omega arith))

pub returns : goal.returns
unfolding last_sum_fits
returns c = ap₂ eqb (ap (λ (n : ℕ). n % 65536) c.sum_of-w.ensures) (c.hex4_of.ensures ∙ ap hex4_of (to_end c.args.s.now (c.args.z + 1)))
