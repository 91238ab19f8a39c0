-- `fusefields::bytes::value_of` meets its contract: the digits still to come, read behind n, give the value. Assumes nothing.
use native.Mathlib.Omega.{arith}
use mathlib.Core.Path.{◌≡◌, ap, ◌∙◌}
use Prim.Native.Nat.{ℕ, ◌+◌, ◌-◌, ◌*◌, min}
use lib.ListN.{drop, get_or}
use Rattle.fusefields.specs.Bytes.{value}
use Rattle.fusefields.proofs.Fronts.{value_turn, value_none}
use Rattle.fusefields.proofs.bytes.value_of.Goals as goal

pub loop-b-preserved : goal.loop-b-preserved
loop-b-preserved c =
    let s = c.args.s.now in let j = c.loop-b.b-index in
    let e : c.min-n.result ≡ min c.args.most (10 * c.loop-b.n + (get_or s j 0 - 48)) = omega arith in
    (ap (λ (k : ℕ). min c.args.most (value k (drop (j + 1) s))) e ∙ value_turn c.args.most c.loop-b.n s j (omega arith) ∙ c.loop-b.invariant.0, omega arith)

pub returns : goal.returns
returns c = let e = value_none c.loop-b.n c.args.s.now c.loop-b.b-index (omega arith) in omega arith
