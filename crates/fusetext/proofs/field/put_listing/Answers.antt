use native.Mathlib.Omega.{arith}
use Rattle.fusetext.proofs.Files.{length_digits}
use Rattle.fusetext.proofs.Puts.{then}
use Rattle.fusetext.specs.Digits.{dec4}
use Rattle.fusetext.specs.File.{listing}
use Rattle.fusetext.proofs.field.put_listing.Goals as goal

pub put_text-c-requires : goal.put_text-c-requires
unfolding dec4
put_text-c-requires c = omega arith

pub put_digits-d-requires : goal.put_digits-d-requires
unfolding dec4
put_digits-d-requires c = record {
  src_in_bounds = omega arith;
  bits = c.requires.bits;
}

pub put_text-requires : goal.put_text-requires
unfolding dec4
put_text-requires c = omega (arith, length_digits c.args.fuses.now)

pub returns : goal.returns
unfolding listing
returns c =
    then (then (then (then c.put_text-a.ensures c.put_dec4-b.ensures) c.put_text-c.ensures)
    c.put_digits-d.ensures) c.put_text.ensures
