use Prim.Native.Nat.{◌-◌, ◌/◌, ◌%◌}
use Rattle.rows.proofs.Filling.{Filling}
use Rattle.rows.proofs.Row.of_product.Given as goal

abbrev pub invariant-loop-i : goal.invariant-loop-i
invariant-loop-i l = Filling 22 (l.product % 4294967296) (l.product / 4294967296) l.fuses l.a l.b (22 - l.i)
