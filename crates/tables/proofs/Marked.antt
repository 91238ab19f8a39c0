-- The tables of the module of document 01, "The fuse file", y := REG(y - a) with a at pin 2 and y at pin 23: over the columns' signals, whose two
-- rows are true where Q is 0 and a is 1, and where Q is 1 and a is 0; and over the pins. Assumes nothing.
use mathlib.Core.Path.{◌≡◌, refl}
use mathlib.Core.Bool.{true, false}
use mathlib.Core.List.{[], ◌∷◌, map}
use Rattle.basics.specs.Below.{any_below, tally}
use Rattle.trees.specs.Machine.{run, value_of}
use Rattle.reach.specs.Uses.{from_end, inverts, registers, keeps, names, replaced, remains, writes, uses}
use Rattle.reach.specs.Reach.{via}
use Rattle.reach.specs.Meeting.{top_below, meets}
use Rattle.circuit.specs.StageFive.{first_below}
use Rattle.meaning.specs.Meaning.{value, shows_next}
use Rattle.meaning.specs.Circuit.{out_at}
use Rattle.meaning.proofs.Marked.{toggles}
use Rattle.pins.specs.Named.{mentions, names_pin}
use Rattle.device.specs.Device.{column_of}
use Rattle.pins.specs.Variables.{variable_pin, chosen, mask_below}
use Rattle.tables.specs.Tables.{flip_at, set_bits, entry_of, tabled}
use Rattle.tables.specs.Tables.Tabled.{table}

-- over variables 19 (pin 2) and 20 (pin 23): which they are, the entries for rows, and those for the question
pub tables_of_toggles : (tabled toggles true 1 ≡ table 2 1572864)
    × (map (entry_of toggles true 1) (0 ∷ 1 ∷ 2 ∷ 3 ∷ []) ≡ true ∷ false ∷ false ∷ true ∷ [])
    × (map (entry_of toggles false 1) (0 ∷ 1 ∷ 2 ∷ 3 ∷ []) ≡ false ∷ true ∷ true ∷ false ∷ [])
unfolding any_below tally run value_of from_end inverts registers keeps names replaced remains writes uses via top_below meets first_below value shows_next out_at mentions names_pin variable_pin column_of chosen mask_below flip_at set_bits tabled
tables_of_toggles = (refl, refl, refl)
