-- Document 01, "The fuse file": the line that it prints is that of the map of its example. Computed. Assumes nothing.
use mathlib.Core.Path.{◌≡◌, refl}
use Rattle.basics.specs.Below.{all_below, tally}
use Rattle.basics.specs.Text.{text}
use Rattle.device.specs.Device.{enable_of, products_of}
use Rattle.lines.specs.Decimal.{spell, decimal}
use Rattle.gal.specs.Map.{row_is, enabled}
use Rattle.cells.specs.Counts.{products_in, sum_below, factors_in}
use Rattle.fusetrip.proofs.Example.{example_map}
use Rattle.fitlines.specs.Lines.{kind_of, level_of, head_of, line_of, line_if, lines_of, fit_lines}

pub example_lines : fit_lines example_map ≡ text "23 R H 2 4\n"
unfolding example_map fit_lines lines_of line_if line_of head_of kind_of level_of enabled row_is all_below tally sum_below products_in factors_in enable_of products_of decimal spell
example_lines = refl
