use Rattle.std.proofs.Common.{◌≡◌, ◌≤◌, length}
use Rattle.answers.proofs.read_line.Given as goal

abbrev pub invariant-loop : goal.invariant-loop
invariant-loop g l = (l.n ≤ length l.buf) × (length l.buf ≡ length l.fn.buf)
