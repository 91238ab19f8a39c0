-- The variables of truth tables, in their two orders (document 01, "The device": the columns; "From equation to rows": the order of rows, and the
-- product question). Assumes nothing.
use Rattle.std.specs.Prelude.{Bool, List, [], ◌∷◌, ◌++◌, ℕ, zero, suc, ◌+◌, ◌-◌, ◌^◌, get_or}
use Rattle.basics.specs.Choice.{pick}
use Rattle.basics.specs.Below.{tally}
use Rattle.trees.specs.Layout.{Elements}
use Rattle.device.specs.Device.{column_of}
use Rattle.pins.specs.Named.{names_pin}

-- the pins of the column pairs, rising
abbrev pub rising_pins : List ℕ
rising_pins = 1 ∷ 2 ∷ 3 ∷ 4 ∷ 5 ∷ 6 ∷ 7 ∷ 8 ∷ 9 ∷ 10 ∷ 11 ∷ 13 ∷ 14 ∷ 15 ∷ 16 ∷ 17 ∷ 18 ∷ 19 ∷ 20 ∷ 21 ∷ 22 ∷ 23 ∷ []

-- the pin of variable i: for rows the pin of column pair 21 - i, for the question the i-th pin
unfoldable pub variable_pin : Bool → ℕ → ℕ
variable_pin rows i = pick rows (column_of (21 - i)) (get_or rising_pins i 0)

-- variable i is named by the equation of o
abbrev pub names_variable : Elements → Bool → ℕ → ℕ → Bool
names_variable e rows o i = names_pin e o (variable_pin rows i)

-- the values at the numbers below n that pass, in order
unfoldable pub chosen : (ℕ → Bool) → (ℕ → ℕ) → ℕ → List ℕ
chosen f g zero = []
chosen f g (suc n) = pick (f n) (chosen f g n ++ (g n ∷ [])) (chosen f g n)

-- the numbers below n that pass, as bits
unfoldable pub mask_below : (ℕ → Bool) → ℕ → ℕ
mask_below f zero = 0
mask_below f (suc n) = pick (f n) (2 ^ n) 0 + mask_below f n

-- the pins of the named variables, lowest variable first; how many there are; and which, as a mask over the 22
abbrev pub variables_of : Elements → Bool → ℕ → List ℕ
variables_of e rows o = chosen (names_variable e rows o) (variable_pin rows) 22

abbrev pub count_of : Elements → Bool → ℕ → ℕ
count_of e rows o = tally (names_variable e rows o) 22

abbrev pub mask_of : Elements → Bool → ℕ → ℕ
mask_of e rows o = mask_below (names_variable e rows o) 22
