use native.Mathlib.Omega.{arith}
use mathlib.Core.Path.{sym, ap}
use lib.ListN.{length}
use Rattle.fusetext.proofs.Puts.{wrote_as, wrote_nothing}
use Rattle.verbs.proofs.Asking.{last_none, last_some}
use Rattle.verbs.proofs.put_last.Goals as goal

pub returns-then-line-eq0 : goal.returns-then-line-eq0
returns-then-line-eq0 c = wrote_as (wrote_nothing c.args.out.now c.args.at (omega arith)) (sym (last_none c.args.map.now c.args.line.now c.if-line-eq0.true))

pub put_answer-requires : goal.put_answer-requires
put_answer-requires c = let e = ap length (last_some c.args.map.now c.args.line.now c.if-line-eq0.false) in omega arith

pub returns-else-line-eq0 : goal.returns-else-line-eq0
returns-else-line-eq0 c = wrote_as c.put_answer.ensures (sym (last_some c.args.map.now c.args.line.now c.if-line-eq0.false))
