-- `fit::fit_turned` meets its contract.
use mathlib.Core.Bool.{false}
use mathlib.Core.List.{List}
use mathlib.Core.Path.{ap, ◌∙◌}
use Prim.Native.Nat.{ℕ}
use Rattle.cover.specs.Sum.{Found, complete}
use Rattle.engine.specs.Table.{function}
use Rattle.fit.specs.Fit.{sum_within}
use Rattle.fit.proofs.Fitting.{turned, turned_is}
use Rattle.fit.proofs.fit_turned.Goals as goal

pub returns-clause-value : goal.returns-clause-value
returns-clause-value c =
    c.within.ensures
    ∙ ap (λ (p : Found). sum_within c.args.k false p) (c.cover.ensures.value ∙ ap (λ (x : List ℕ). complete c.args.named (function x)) c.turn.ensures ∙ turned c.args.f.now c.args.n c.args.named c.requires.f_len c.requires.named_value)
    ∙ turned_is c.args.k c.args.named (function c.args.f.now) c.requires.k_bound
