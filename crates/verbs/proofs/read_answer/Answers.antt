use native.Mathlib.Omega.{arith}
use mathlib.Core.Path.{refl}
use Rattle.fusetext.proofs.Puts.{wrote_as}
use Rattle.verbs.proofs.Files.{read_long, read_map, read_refused}
use Rattle.verbs.proofs.read_answer.Goals as goal

pub returns-then-total-gt65536 : goal.returns-then-total-gt65536
returns-then-total-gt65536 c = wrote_as (rw c.new.ensures at c.put_refused.ensures) (read_long c.args.file.now c.args.total c.if-total-gt65536.true)

pub returns-in-Ok : goal.returns-in-Ok
returns-in-Ok c = wrote_as c.put_shown_line.ensures (read_map c.args.file.now _ _ c.args.total _ refl c.read.ensures c.in-Ok.is (omega arith))

pub returns-in-Err : goal.returns-in-Err
returns-in-Err c = wrote_as c.put_refused-in-Err.ensures (read_refused c.args.file.now _ _ c.args.total _ _ refl c.read.ensures c.in-Err.is (omega arith))
