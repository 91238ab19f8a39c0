-- `fusetext::field::put_each` meets its contract. Invariant: what is still to be written, written at `o`, gives what the whole written at `at` gives. Assumes nothing.
use mathlib.Core.Path.{refl, sym}
use native.Mathlib.Nat.{add-zero}
use native.Mathlib.Omega.{arith}
use lib.ListN.{length-set, get_or}
use Rattle.fusetext.proofs.Files.{map_next, map_none, length_map}
use Rattle.fusetext.proofs.Puts.{put_turn, put_done}
use Rattle.fusetext.proofs.field.put_each.Goals as goal

pub loop-x-init : goal.loop-x-init
loop-x-init g c = (λ p k. refl, sym (add-zero _), refl)

pub loop-x-preserved : goal.loop-x-preserved
loop-x-preserved g c =
    let s = c.args.src.now in let j = c.loop-x.x-index in (
      λ p k. put_turn _ _ _ (c.loop-x.invariant.0 p k) (map_next p s j _ (omega arith) (k (get_or s j 0) c.f.result (omega (arith, c.type_inv.src j)) c.f.ensures)) (omega arith),
      omega arith,
      simp length-set c.loop-x.invariant.2,
    )

pub returns : goal.returns
returns g c p k =
    record {
      room = simp length_map (omega arith);
      holds = put_done _ _ (c.loop-x.invariant.0 p k) (map_none p c.args.src.now c.loop-x.x-index (omega arith));
      ends = simp length_map (omega arith);
    }
