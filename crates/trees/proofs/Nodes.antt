-- A node that is no ~, or no REG of two parts, has another number. Assumes nothing.
use mathlib.Core.Path.{◌≡◌, refl}
use mathlib.Core.Bool.{false}
use Prim.Native.Nat.{◌+◌}
use native.Mathlib.Omega.{arith}
use lib.Dec.{eqb}
use borrow.Author.Tests.{ne_eqb}
use Rattle.trees.specs.declared.Node.{Node}
use Rattle.trees.specs.declared.Node.TheVariants.{Low, High, Not, And, Or, Xor, Mux, Reg, Held, Name}
use Rattle.trees.specs.Node.{code_of}

pub other_than_not : (x : Node) → (x ≡ Not → ⊥) → eqb (code_of x) 2 ≡ false
other_than_not Low h = refl
other_than_not High h = refl
other_than_not Not h = absurd (h refl)
other_than_not And h = refl
other_than_not Or h = refl
other_than_not Xor h = refl
other_than_not Mux h = refl
other_than_not Reg h = refl
other_than_not Held h = refl
other_than_not (Name k) h = ne_eqb (9 + k) 2 (λ e. omega arith)

pub other_than_held : (x : Node) → (x ≡ Held → ⊥) → eqb (code_of x) 8 ≡ false
other_than_held Low h = refl
other_than_held High h = refl
other_than_held Not h = refl
other_than_held And h = refl
other_than_held Or h = refl
other_than_held Xor h = refl
other_than_held Mux h = refl
other_than_held Reg h = refl
other_than_held Held h = absurd (h refl)
other_than_held (Name k) h = ne_eqb (9 + k) 8 (λ e. omega arith)

-- both, for a match over the last nodes
pub ruleset others = (other_than_not, other_than_held)
