-- `fit::fit_cell` meets its contract.
use mathlib.Core.Bool.{Bool}
use mathlib.Core.Path.{sym, ap₂, ◌∙◌}
use Rattle.cover.specs.Sum.{Found}
use Rattle.fit.specs.Fit.{sum_within}
use Rattle.fit.proofs.Fitting.{ok_is, own_taken, own_refused, own_turned}
use Rattle.fit.proofs.fit_cell.Goals as goal
use Rattle.fit.proofs.fit_cell.Goals.{then-is_some-via-then-is_some, then-is_some-via-else-is_some+then-registered}

pub returns-then-is_some-clause-value : goal.returns-then-is_some-clause-value
returns-then-is_some-clause-value c =
    let e = c.within-own.ensures ∙ ap₂ (λ (s : Bool) (p : Found). sum_within c.args.k s p) c.own_s0.ensures c.cover.ensures.value in
    elim c.then-is_some.branch [
      | then-is_some-via-then-is_some w ↦ own_taken _ _ _ c.requires.k_bound _ _ _ e (ok_is _ ∙ sym c.is_some.ensures ∙ w.if-is_some.true)
      | then-is_some-via-else-is_some+then-registered w ↦ own_refused _ _ _ c.requires.k_bound _ _ _ e w.if-registered.true
    ]

pub returns-clause-value : goal.returns-clause-value
returns-clause-value c =
    let e = c.within-own.ensures ∙ ap₂ (λ (s : Bool) (p : Found). sum_within c.args.k s p) c.own_s0.ensures c.cover.ensures.value in
    own_turned _ _ _ c.requires.k_bound _ _ _ e _ (ok_is _ ∙ sym c.is_some.ensures ∙ c.if-is_some.false) c.if-registered.false c.fit_inverted.ensures.value
