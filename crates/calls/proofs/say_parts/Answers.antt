use native.Mathlib.Omega.{arith}
use borrow.Author.Rules.{rules}
use Rattle.std.proofs.lemmas.Result.{err_from_is_err_and}
use Rattle.texts.proofs.Calling.{misfits}
use Rattle.fusewrite.specs.Writing.{written_of}
use Rattle.calls.proofs.Laws.{mapped, said}
use Rattle.calls.proofs.say_parts.Goals as goal

pub map_outputs-requires : goal.map_outputs-requires
map_outputs-requires g c = let h = c.requires.in_bounds_2 in record {
  parts_value = c.requires.parts_value;
  in_bounds = omega arith;
  map_len = search rules;
  facts_len = search rules;
}

pub returns-in_err-map_outputs : goal.returns-in_err-map_outputs
returns-in_err-map_outputs g c =
    let p = err_from_is_err_and c.from_residual.result c.from_residual.ensures.1 in
    rw (p.1, p.2) (misfits written_of g.S.Says.says _ _ _ _ _ _ c.in_err-map_outputs.ensures.result_value c.in_err-map_outputs.ensures.room_after)

pub put-requires : goal.put-requires
put-requires g c = record {
  mapped = mapped _ _ _ _ _ c.requires.parts_value c.in_ok-map_outputs.ensures.result_value c.in_ok-map_outputs.ensures.map_after c.in_ok-map_outputs.ensures.facts_after;
  in_bounds = c.requires.in_bounds;
}

pub returns : goal.returns
returns g c =
    said g.S.Says.says _ _ _ _ _ _ _ _ c.in_ok-map_outputs.ensures.result_value c.in_ok-map_outputs.ensures.map_after c.put.ensures c.in_ok-map_outputs.ensures.room_after
