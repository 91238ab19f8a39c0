use Prim.Native.Nat.{ℕ, ◌+◌}
use native.Mathlib.Omega.{arith}
use Rattle.fusetext.proofs.Puts.{then, wrote_as, wrote_nothing, length_wrote}
use lib.ListN.{get_or}
use Rattle.fitlines.specs.Lines.{lines_of}
use Rattle.fitlines.proofs.Turns.{length_lines, lines_next, lines_all}
use Rattle.fitlines.proofs.put_lines.Goals as goal

pub loop-n-init : goal.loop-n-init
unfolding lines_of
loop-n-init c = wrote_nothing _ _ (omega arith)

pub put_line_if-at-requires : goal.put_line_if-at-requires
put_line_if-at-requires c = record {
  map_len = c.requires.map_len;
  k_bound = omega arith;
  at_in_bounds = omega (arith, length_lines c.args.map.now (λ (k : ℕ). get_or c.args.facts.now k 0) (λ (k : ℕ). get_or c.args.facts.now (10 + k) 0) c.loop-n.n, length_wrote c.loop-n.invariant);
}

pub loop-n-preserved : goal.loop-n-preserved
loop-n-preserved c = wrote_as (then c.loop-n.invariant c.put_line_if-at.ensures) (lines_next c.args.map.now (λ (k : ℕ). get_or c.args.facts.now k 0) (λ (k : ℕ). get_or c.args.facts.now (10 + k) 0) c.loop-n.n)

pub shape_of-out : goal.shape_of-out
shape_of-out c = length_wrote c.loop-n.invariant

pub returns : goal.returns
returns c = wrote_as c.loop-n.invariant (lines_all c.args.map.now c.args.facts.now c.loop-n.n (omega arith))
