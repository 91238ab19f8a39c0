use Prim.Native.Nat.{◌-◌}
use native.Mathlib.Omega.{arith}
use Rattle.fusetext.proofs.Puts.{then}
use Rattle.lines.proofs.Spelling.{length_decimal}
use Rattle.fitlines.specs.Lines.{head_of}
use Rattle.fitlines.proofs.Turns.{length_kind}
use Rattle.fitlines.proofs.put_head.Goals as goal

pub put_text-b-requires : goal.put_text-b-requires
put_text-b-requires c = omega (arith, length_decimal (23 - c.args.k))

pub put_kind-c-requires : goal.put_kind-c-requires
put_kind-c-requires c = record {
  map_len = c.requires.map_len;
  k_bound = c.requires.k_bound;
  at_in_bounds = omega (arith, length_decimal (23 - c.args.k));
}

pub put_level-requires : goal.put_level-requires
put_level-requires c = record {
  map_len = c.requires.map_len;
  k_bound = c.requires.k_bound;
  at_in_bounds = omega (arith, length_decimal (23 - c.args.k), length_kind c.args.map.now c.args.k);
}

pub returns : goal.returns
unfolding head_of
returns c = then (then (then c.put_decimal-a.ensures c.put_text-b.ensures) c.put_kind-c.ensures) c.put_level.ensures
