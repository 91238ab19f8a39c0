-- `outputs::try_out` meets its contract.
use mathlib.Core.Bool.{true}
use mathlib.Core.Path.{◌≡◌, sym, ap, ◌∙◌}
use native.Mathlib.Omega.{arith}
use borrow.Author.Rules.{rules}
use lib.ListN.{length}
use lib.Seq.{length-take-le}
use Rattle.trees.specs.Layout.{elements_of}
use Rattle.outputs.specs.Trial.{seen as seen_trial}
use Rattle.outputs.proofs.Trying.{Made, made, out_pin, not_table, table_is, tried_fits, tried_many}
use Rattle.outputs.proofs.try_out.Goals as goal
use Rattle.outputs.proofs.try_out.Goals.{In-Ok}

found : (c : In-Ok) → Made (elements_of c.args.parts.now) true c.args.o c.in-Ok.chosen.count c.in-Ok.chosen.mask
found c = made _ _ _ _ _ c.in-Ok.ensures.said

pub power-size-requires : goal.power-size-requires
power-size-requires c = (found (goal.at.power-size-requires c).In-Ok).few

pub slice_bounds-t-end : goal.slice_bounds-t-end
slice_bounds-t-end c = let w = found (goal.at.slice_bounds-t-end c).In-Ok in let l : length c.rows_table.new.t ≡ 1024 = search rules in omega (arith, w, l, c.power-size.ensures)

pub slice_bounds-fit_table-end : goal.slice_bounds-fit_table-end
slice_bounds-fit_table-end c =
    let w = found (goal.at.slice_bounds-fit_table-end c).In-Ok in
    let l : length c.rows_table.new.t ≡ 1024 = search rules in
    sym (length-take-le _ _ (omega (arith, w, l, c.power-size.ensures)))

pub fit_table-requires : goal.fit_table-requires
fit_table-requires c =
    let w = found (goal.at.fit_table-requires c).In-Ok in
    let p = out_pin (elements_of c.args.parts.now) c.args.o c.requires.parts_value c.requires.o_bound c.requires.o_value in
    record {
      o_bound = c.requires.o_bound;
      bound = p.0;
      o_bound_2 = p.1;
      n_value = w.count;
      n_bound = w.few;
      mask_value = w.mask;
      f_value = w.part _ _ c.rows_table.ensures.filled _ c.power-size.ensures ∙ table_is _ _;
      in_bounds = c.requires.in_bounds;
    }

pub returns-in-Ok-clause-value : goal.returns-in-Ok-clause-value
returns-in-Ok-clause-value c =
    let w = found (goal.at.returns-in-Ok-clause-value c).In-Ok in
    ap seen_trial c.ok_or.ensures.value ∙ tried_fits _ _ _ _ w.count w.few c.fit_table.ensures.value

pub returns-in-Err-clause-value : goal.returns-in-Err-clause-value
returns-in-Err-clause-value c = tried_many (elements_of c.args.parts.now) c.args.o _ c.in-Err.ensures.reason (not_table (elements_of c.args.parts.now) true c.args.o _ c.in-Err.ensures.said)
