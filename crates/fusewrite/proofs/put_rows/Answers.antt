use native.Mathlib.Omega.{arith}
use mathlib.Core.Path.{◌≡◌, refl, ap}
use Prim.Native.Nat.{ℕ, ◌+◌, ◌-◌, ◌*◌}
use lib.ListN.{length}
use Rattle.fusetext.proofs.Files.{rows_next, length_rows, span, length_part, bits_part}
use Rattle.fusetext.proofs.Puts.{then, wrote_as, wrote_nothing, length_wrote}
use Rattle.fusetext.specs.File.{rows, listing_if}
use Rattle.fusewrite.proofs.put_rows.Goals as goal

pub loop-r-init : goal.loop-r-init
unfolding rows
loop-r-init c = wrote_nothing _ _ (omega arith)

pub put_listing_if-o-requires : goal.put_listing_if-o-requires
put_listing_if-o-requires c = let m = c.args.map.now in let r = c.loop-r.r in let e = span m (44 * r) (44 * r + 44) 44 refl in record {
  fuses_in_bounds = omega (arith, ap length e, length_part (44 * r) 44 m (omega arith), length_rows r m (omega arith), length_wrote c.loop-r.invariant);
  bits = bits_part (44 * r) (44 * r + 44 - 44 * r) m c.requires.bits;
}

pub loop-r-preserved : goal.loop-r-preserved
loop-r-preserved c =
    let m = c.args.map.now in
    let r = c.loop-r.r in
    let e = ap (listing_if (44 * r)) (span m (44 * r) (44 * r + 44) 44 refl) in
    wrote_as (then c.loop-r.invariant (wrote_as c.put_listing_if-o.ensures e)) (rows_next r m)

pub shape_of-out : goal.shape_of-out
shape_of-out c = length_wrote c.loop-r.invariant

pub returns : goal.returns
returns c =
    let e : c.loop-r.r ≡ 132 = omega arith in
    wrote_as c.loop-r.invariant (ap (λ (r : ℕ). rows r c.args.map.now) e)
