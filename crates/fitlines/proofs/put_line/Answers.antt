use native.Mathlib.Omega.{arith}
use Rattle.fusetext.proofs.Puts.{then}
use Rattle.lines.proofs.Spelling.{length_decimal}
use Rattle.fitlines.specs.Lines.{line_of}
use Rattle.fitlines.proofs.Turns.{length_head}
use Rattle.fitlines.proofs.put_line.Goals as goal

pub put_decimal-b-requires : goal.put_decimal-b-requires
put_decimal-b-requires c = omega (arith, length_head c.args.map.now c.args.k)

pub put_text-c-requires : goal.put_text-c-requires
put_text-c-requires c = omega (arith, length_head c.args.map.now c.args.k, length_decimal c.args.products)

pub put_decimal-d-requires : goal.put_decimal-d-requires
put_decimal-d-requires c = omega (arith, length_head c.args.map.now c.args.k, length_decimal c.args.products)

pub put_text-requires : goal.put_text-requires
put_text-requires c = omega (arith, length_head c.args.map.now c.args.k, length_decimal c.args.products, length_decimal c.args.factors)

pub returns : goal.returns
unfolding line_of
returns c = then (then (then (then c.put_head-a.ensures c.put_decimal-b.ensures) c.put_text-c.ensures) c.put_decimal-d.ensures) c.put_text.ensures
