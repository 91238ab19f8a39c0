-- `cover::ask` meets its contract.
use mathlib.Core.Path.{sym, ap, ◌∙◌}
use Prim.Native.Nat.{ℕ}
use native.Mathlib.Omega.{arith}
use lib.ListN.{replicate}
use lib.Seq.{length-take-le, length_front}
use Rattle.engine.proofs.Walk.{few_three}
use Rattle.cover.proofs.ask.Goals as goal

pub slice_bounds-verdict_in-end : goal.slice_bounds-verdict_in-end
slice_bounds-verdict_in-end c = omega (arith, c.pow3-size.ensures, few_three c.args.n (let h = c.requires.n_bound in omega arith), c.requires.in_bounds)

pub slice_bounds-verdict_in-end-2 : goal.slice_bounds-verdict_in-end-2
slice_bounds-verdict_in-end-2 c = sym (length-take-le _ _ (omega (arith, c.pow3-size.ensures, few_three c.args.n (let h = c.requires.n_bound in omega arith), c.requires.in_bounds)))

pub verdict_in-r-requires : goal.verdict_in-r-requires
verdict_in-r-requires c = let p = c.requires in record {
  sized = record { few = let h = p.n_bound in omega arith; settings = p.f_len; entries = length-take-le _ _ (omega (arith, c.pow3-size.ensures, few_three c.args.n (let h = c.requires.n_bound in omega arith), c.requires.in_bounds)) ∙ c.pow3-size.ensures };
  p_bound = p.p_bound;
}

pub returns : goal.returns
returns c = record {
  value = c.verdict_in-r.ensures;
  room_after = c.clear.ensures ∙ ap (λ (k : ℕ). replicate k 0) (length_front c.args.room.now c.verdict_in-r.new.t c.pow3-size.result c.verdict_in-r.auto.t);
}
