use Rattle.lines.proofs.Spelling.{length_decimal}
use Rattle.lines.specs.Decimal.{refusal_line}
use Rattle.fusetext.proofs.Puts.{then}
use native.Mathlib.Omega.{arith}
use Rattle.lines.proofs.put_refusal.Goals as goal

pub put_text-b-requires : goal.put_text-b-requires
put_text-b-requires c = omega (arith, length_decimal c.args.number)

pub put_decimal-c-requires : goal.put_decimal-c-requires
put_decimal-c-requires c = omega (arith, length_decimal c.args.number)

pub put_text-requires : goal.put_text-requires
put_text-requires c = omega (arith, length_decimal c.args.number, length_decimal c.args.place)

pub returns : goal.returns
unfolding refusal_line
returns c = then (then (then c.put_decimal-a.ensures c.put_text-b.ensures) c.put_decimal-c.ensures) c.put_text.ensures
