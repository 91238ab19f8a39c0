use Prim.Native.Nat.{◌-◌}
use Rattle.outputs.proofs.Trying.{table_length, fitted_is}
use Rattle.outputs.proofs.Counting.{named_count}
use Rattle.sums.specs.Named.{count}
use Rattle.cover.specs.Sum.{bits_of}
use Rattle.trees.specs.Layout.{elements_of}
use Prim.Native.Nat.{ℕ}
use mathlib.Core.Bool.{true, not}
use mathlib.Core.Path.{sym, ap, ◌∙◌}
use native.Mathlib.Omega.{arith}
use Rattle.outputs.proofs.fit_table.Goals as goal

pub fit_cell-requires : goal.fit_cell-requires
fit_cell-requires c = record {
  k_bound = let a = c.at-k.ensures in omega (arith, c.requires.bound, c.requires.o_bound_2, a);
  n_bound = c.requires.n_bound;
  f_len = table_length _ _ _ _ c.requires.n_value c.requires.f_value;
  in_bounds = c.requires.in_bounds;
  named_value = ap (λ (m : ℕ). count (bits_of 22 m)) c.requires.mask_value ∙ named_count _ true _ ∙ sym c.requires.n_value;
}

pub returns-clause-value : goal.returns-clause-value
returns-clause-value c =
    fitted_is (elements_of c.args.parts.now) c.args.o _ _ _ _ _ _ (ap (λ (x : ℕ). 23 - x) c.at-k.ensures) c.registered-held.ensures (ap not c.inverse-inverted.ensures) c.requires.mask_value c.requires.f_value c.fit_cell.ensures.value
