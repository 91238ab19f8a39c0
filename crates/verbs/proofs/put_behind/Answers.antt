use native.Mathlib.Omega.{arith}
use mathlib.Core.Path.{sym, ap}
use lib.ListN.{take}
use Prim.Native.Nat.{ℕ}
use lib.Seq.{length-take-le}
use Rattle.fusetext.proofs.Puts.{wrote_as}
use Rattle.fuseread.proofs.Endings.{to_end}
use Rattle.verbs.specs.Printed.{answers_from}
use mathlib.Core.List.{List, []}
use Rattle.verbs.proofs.put_behind.Goals as goal

pub slice_bounds-put_answers-end : goal.slice_bounds-put_answers-end
slice_bounds-put_answers-end c = sym (length-take-le c.args.k c.args.s.now (omega arith))

pub returns : goal.returns
returns c = wrote_as c.put_answers.ensures (ap (λ (l : List ℕ). answers_from (take c.args.k c.args.s.now) [] l) (to_end c.args.s.now c.args.e))
