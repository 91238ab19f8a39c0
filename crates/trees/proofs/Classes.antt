-- What a class says of the number that it was read from. Assumes nothing.
use mathlib.Core.Path.{◌≡◌, refl, ap}
use mathlib.Core.Bool.{Bool, true, false}
use Prim.Native.Nat.{ℕ}
use lib.Dec.{eqb}
use borrow.Author.Tests.{eqb-true, eqb-false}
use Rattle.std.specs.Prelude.{Option, Some, None}
use Rattle.basics.specs.Choice.{pick}
use Rattle.trees.specs.declared.Class.{Class}
use Rattle.trees.specs.declared.Class.TheVariants.{In, Out, Var}
use Rattle.trees.specs.Class.{class_numbered}

abbrev code : Option Class → ℕ
code None = 0
code (Some In) = 1
code (Some Out) = 2
code (Some Var) = 3

abbrev chosen : Bool → Bool → Bool → Option Class
chosen a b c = pick a (Some In) (pick b (Some Out) (pick c (Some Var) None))

pub in_number : (n : ℕ) → class_numbered n ≡ Some In → n ≡ 1
in_number n e = eqb-true n 1 (go (eqb n 1) (eqb n 2) (eqb n 3) (ap code e))
  where
    go : (a b c : Bool) → code (chosen a b c) ≡ 1 → a ≡ true
    go true b c q = refl
    go false true c q = absurd (eqb-false 2 1 refl q)
    go false false true q = absurd (eqb-false 3 1 refl q)
    go false false false q = absurd (eqb-false 0 1 refl q)

pub out_number : (n : ℕ) → class_numbered n ≡ Some Out → n ≡ 2
out_number n e = eqb-true n 2 (go (eqb n 1) (eqb n 2) (eqb n 3) (ap code e))
  where
    go : (a b c : Bool) → code (chosen a b c) ≡ 2 → b ≡ true
    go true b c q = absurd (eqb-false 1 2 refl q)
    go false true c q = refl
    go false false true q = absurd (eqb-false 3 2 refl q)
    go false false false q = absurd (eqb-false 0 2 refl q)

pub var_number : (n : ℕ) → class_numbered n ≡ Some Var → n ≡ 3
var_number n e = eqb-true n 3 (go (eqb n 1) (eqb n 2) (eqb n 3) (ap code e))
  where
    go : (a b c : Bool) → code (chosen a b c) ≡ 3 → c ≡ true
    go true b c q = absurd (eqb-false 1 3 refl q)
    go false true c q = absurd (eqb-false 2 3 refl q)
    go false false true q = refl
    go false false false q = absurd (eqb-false 0 3 refl q)

pub no_number : (n : ℕ) → class_numbered n ≡ None → (eqb n 1 ≡ false) × (eqb n 2 ≡ false) × (eqb n 3 ≡ false)
no_number n e = go (eqb n 1) (eqb n 2) (eqb n 3) (ap code e)
  where
    go : (a b c : Bool) → code (chosen a b c) ≡ 0 → (a ≡ false) × (b ≡ false) × (c ≡ false)
    go true b c q = absurd (eqb-false 1 0 refl q)
    go false true c q = absurd (eqb-false 2 0 refl q)
    go false false true q = absurd (eqb-false 3 0 refl q)
    go false false false q = (refl, refl, refl)

-- all four, for a match over the classes
pub ruleset numbers = (in_number, out_number, var_number, no_number)
