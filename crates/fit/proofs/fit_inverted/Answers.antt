-- `fit::fit_inverted` meets its contract.
-- Assumes nothing.
use Rattle.engine.proofs.Walk.{few_two}
use lib.Seq.{length-take-le}
use lib.ListN.{length}
use mathlib.Core.List.{List}
use native.Mathlib.Omega.{arith}
use Prim.Native.Nat.{ℕ, ◌^◌, ◌≤◌, ◌<◌}
use mathlib.Core.Path.{◌≡◌, sym}
use Rattle.fit.proofs.fit_inverted.Goals as goal

-- the table fits the room
small : (n : ℕ) (f : List ℕ) → n < 11 → length f ≡ 2 ^ n → length f ≤ 1024
small n f h l = let q = few_two n (omega arith) in omega arith

pub slice_bounds-g-end : goal.slice_bounds-g-end
slice_bounds-g-end c = small _ _ c.requires.n_bound c.requires.f_len

pub slice_bounds-fit_turned-end : goal.slice_bounds-fit_turned-end
slice_bounds-fit_turned-end c = sym (length-take-le _ _ (small _ _ c.requires.n_bound c.requires.f_len))

pub fit_turned-requires : goal.fit_turned-requires
fit_turned-requires c = let p = c.requires in record {
  k_bound = p.k_bound;
  n_bound = p.n_bound;
  f_len = p.f_len;
  g_len = length-take-le _ _ (small _ _ c.requires.n_bound c.requires.f_len);
  in_bounds = p.in_bounds;
  named_value = p.named_value;
}
