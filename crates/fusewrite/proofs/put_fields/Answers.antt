use Rattle.fusetext.specs.File.{fields_of, opening}
use Rattle.fusetext.proofs.Files.{sizes, bits_part}
use Rattle.fusetext.proofs.Puts.{then}
use native.Mathlib.Omega.{arith}
use Rattle.fusewrite.proofs.put_fields.Goals as goal

pub put_listing-c-requires : goal.put_listing-c-requires
put_listing-c-requires c = record {
  fuses_in_bounds = omega (arith, sizes c.args.map.now c.requires.map_len);
  bits = bits_part 5808 20 c.args.map.now c.requires.bits;
}

pub put_listing_if-d-requires : goal.put_listing_if-d-requires
put_listing_if-d-requires c = record {
  fuses_in_bounds = omega (arith, sizes c.args.map.now c.requires.map_len);
  bits = bits_part 5828 64 c.args.map.now c.requires.bits;
}

pub put_check-requires : goal.put_check-requires
put_check-requires c = record {
  at_in_bounds = omega (arith, sizes c.args.map.now c.requires.map_len);
  map_len = c.requires.map_len;
  bits = c.requires.bits;
}

pub returns : goal.returns
unfolding fields_of opening
returns c = let w =
    then (then (then (then c.put_text-a.ensures c.put_rows-b.ensures) c.put_listing-c.ensures) c.put_listing_if-d.ensures) c.put_check.ensures in record {
      wrote = w;
      upper_bound = omega (arith, sizes c.args.map.now c.requires.map_len, c.put_rows-b.ensures.ends, c.put_text-a.ensures.ends);
    }
