use Rattle.outmap.proofs.Turns.{fact_low, fact_high}
use Rattle.outmap.proofs.fact.Goals as goal

pub returns-then-j-lt10 : goal.returns-then-j-lt10
returns-then-j-lt10 c = fact_low _ _ _ c.if-j-lt10.true

pub returns-else-j-lt10 : goal.returns-else-j-lt10
returns-else-j-lt10 c = fact_high _ _ _ _ c.if-j-lt10.false c.factors.ensures
