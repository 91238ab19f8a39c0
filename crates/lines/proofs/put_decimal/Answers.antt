use Rattle.fusetext.proofs.Puts.{wrote_as}
use lib.Seq.{take_all}
use lib.ListN.{drop, length-drop}
use Prim.Native.Nat.{◌-◌}
use mathlib.Core.Path.{◌∙◌}
use native.Mathlib.Omega.{arith}
use Rattle.lines.proofs.put_decimal.Goals as goal

pub returns : goal.returns
returns c = let d = c.spell-i.new.digits in
    let i = c.spell-i.result in
    wrote_as c.put_text.ensures (take_all (20 - i) (drop i d) (simp length-drop (omega arith)) ∙ c.spell-i.ensures.0)
