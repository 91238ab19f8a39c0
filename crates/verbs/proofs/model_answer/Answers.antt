use native.Mathlib.Omega.{arith}
use mathlib.Core.Path.{sym}
use lib.Seq.{length-take-le}
use Rattle.verbs.proofs.Asking.{model_none, in_room, in_front, taken_length, model_some}
use Rattle.verbs.proofs.model_answer.Goals as goal

pub returns-then-input-h : goal.returns-then-input-h
returns-then-input-h c =
    let w = model_none c.args.input.now c.line_end-h.result c.line_end-h.ensures.0 c.args.out.now c.if-input-h.true in
    record { wrote = w.0; input_after = w.1 }

pub slice_bounds-contents_of-end-2 : goal.slice_bounds-contents_of-end-2
slice_bounds-contents_of-end-2 c = sym (length-take-le c.line_end-h.result c.args.input.now c.line_end-h.ensures.1)

pub slice_bounds-map_in-end : goal.slice_bounds-map_in-end
slice_bounds-map_in-end c = in_room c.args.input.now c.line_end-h.result c.line_end-h.ensures.0 c.contents_of-k.result c.contents_of-k.ensures.0 c.contents_of-k.ensures.1

pub slice_bounds-map_in-end-2 : goal.slice_bounds-map_in-end-2
slice_bounds-map_in-end-2 c = sym (length-take-le c.contents_of-k.result c.args.input.now (in_room c.args.input.now c.line_end-h.result c.line_end-h.ensures.0 c.contents_of-k.result c.contents_of-k.ensures.0 c.contents_of-k.ensures.1))

pub put_behind-requires : goal.put_behind-requires
put_behind-requires c = let l = taken_length c.args.input.now c.line_end-h.result c.line_end-h.ensures.0 c.contents_of-k.result c.contents_of-k.ensures.0 c.contents_of-k.ensures.1 c.map_in.new.line c.map_in.ensures c.map_in.auto.line in let k = in_front c.args.input.now c.line_end-h.result c.line_end-h.ensures.0 c.contents_of-k.result c.contents_of-k.ensures.0 c.contents_of-k.ensures.1 in (omega arith, omega arith, omega arith)

pub returns : goal.returns
returns c =
    let w = model_some c.args.input.now c.line_end-h.result c.line_end-h.ensures.0 c.contents_of-k.result c.contents_of-k.ensures.0 c.contents_of-k.ensures.1 c.map_in.new.line c.map_in.ensures c.map_in.auto.line c.args.out.now _ _ (omega arith) c.put_behind.ensures in
    record { wrote = w.0; input_after = w.1 }
