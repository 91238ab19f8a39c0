use Rattle.std.proofs.Common.{◌≡◌}
use Rattle.names.specs.Names.{spelling}
use Rattle.lists.specs.Sieve.{spot_of}
use Rattle.lists.proofs.Sifted.{seek}
use Rattle.lists.proofs.spot_in.Given as goal

abbrev pub invariant-loop-d : goal.invariant-loop-d
invariant-loop-d l = seek l.text l.sieve l.start l.n l.d l.i ≡ spot_of l.text l.sieve (spelling l.text l.start l.n)
