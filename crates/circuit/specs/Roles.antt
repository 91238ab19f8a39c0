-- The number of what a pin is for, 0 where it is for nothing. Assumes nothing.
use Rattle.std.specs.Prelude.{ℕ, Option, Some, None}
use Rattle.circuit.specs.declared.Role.{Role}
use Rattle.circuit.specs.declared.Role.TheVariants.{In, Out, Clock}

abbrev pub role_number : Option Role → ℕ
role_number None = 0
role_number (Some In) = 1
role_number (Some Out) = 2
role_number (Some Clock) = 3
