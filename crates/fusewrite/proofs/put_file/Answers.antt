use Rattle.fusetext.specs.File.{file_of, sum, body}
use Rattle.fusetext.specs.Digits.{hex4}
use Rattle.fusetext.proofs.Puts.{then, wrote_as, wrote_front}
use lib.Seq.{length-take-le}
use lib.ListN.{length-take}
use mathlib.Core.Path.{ap, sym, ◌∙◌}
use native.Mathlib.Omega.{arith}
use Rattle.fusewrite.proofs.put_file.Goals as goal

pub slice_bounds-sum_of-end-2 : goal.slice_bounds-sum_of-end-2
slice_bounds-sum_of-end-2 c = sym (length-take-le _ _ (omega arith))

pub sum_of-sum-requires : goal.sum_of-sum-requires
sum_of-sum-requires c = simp length-take (omega arith)

pub returns : goal.returns
unfolding file_of body
returns c = let w = then c.put_fields-n.ensures.wrote c.put_text-e.ensures in
    then w (wrote_as c.put_hex4.ensures (ap hex4 (c.sum_of-sum.ensures ∙ ap sum (wrote_front w))))
