use Rattle.std.proofs.Common.{◌≤◌, length}
use Rattle.fit_tables.proofs.skip.Given as goal

abbrev pub invariant-loop : goal.invariant-loop
invariant-loop l = length l.rest ≤ length l.text
