use Rattle.std.proofs.Common.{sym, ap, ◌∙◌}
use Rattle.std.specs.Prelude.{Ok}
use Rattle.lists.specs.Lists.{seen_walk}
use Rattle.lists.proofs.Sifted.{along_start, along_more}
use Rattle.lists.proofs.fresh_along.Goals as goal

pub loop-next-init : goal.loop-next-init
loop-next-init c = along_start _ _ _ _

pub loop-next-preserved : goal.loop-next-preserved
loop-next-preserved c =
    along_more _ _ _ _ _ _ c.loop-next.invariant _ (sym c.in_ok-next.ensures.walk ∙ ap (λ w. seen_walk (Ok w)) c.in-On.is) _ c.in_ok-next.ensures.sieve
