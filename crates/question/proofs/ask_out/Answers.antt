use mathlib.Core.Bool.{false}
use mathlib.Core.Path.{◌≡◌, sym, ◌∙◌}
use native.Mathlib.Omega.{arith}
use borrow.Author.Rules.{rules}
use lib.ListN.{length}
use lib.Seq.{length-take-le}
use Rattle.trees.specs.Layout.{elements_of}
use Rattle.outputs.proofs.Trying.{Made, made, not_table}
use Rattle.question.proofs.Asking.{question_is, impossible}
use Rattle.question.proofs.ask_out.Goals as goal
use Rattle.question.proofs.ask_out.Goals.{In_ok-chosen}

found : (c : In_ok-chosen) → Made (elements_of c.args.parts.now) false c.args.o c.in_ok-chosen.chosen.count c.in_ok-chosen.chosen.mask
found c = made _ _ _ _ _ c.in_ok-chosen.ensures.said

pub returns-in_err-chosen-clause-value : goal.returns-in_err-chosen-clause-value
returns-in_err-chosen-clause-value c =
    absurd (impossible _ c.requires.o_bound_2 (not_table (elements_of c.args.parts.now) false c.args.o _ c.in_err-chosen.ensures.said))

pub power-size-requires : goal.power-size-requires
power-size-requires c = (found (goal.at.power-size-requires c).In_ok-chosen).few

pub slice_bounds-t-end : goal.slice_bounds-t-end
slice_bounds-t-end c = let w = found (goal.at.slice_bounds-t-end c).In_ok-chosen in let l : length c.question_table.new.t ≡ 1024 = search rules in omega (arith, w, l, c.power-size.ensures)

pub slice_bounds-ask_table-end : goal.slice_bounds-ask_table-end
slice_bounds-ask_table-end c =
    let w = found (goal.at.slice_bounds-ask_table-end c).In_ok-chosen in
    let l : length c.question_table.new.t ≡ 1024 = search rules in
    sym (length-take-le _ _ (omega (arith, w, l, c.power-size.ensures)))

pub ask_table-requires : goal.ask_table-requires
ask_table-requires c =
    let w = found (goal.at.ask_table-requires c).In_ok-chosen in
    record {
      n_value = w.count;
      n_bound = w.few;
      f_value = w.part _ _ c.question_table.ensures.filled _ c.power-size.ensures ∙ question_is _ _;
      in_bounds = c.requires.in_bounds;
      room_value = c.requires.room_value;
    }
