-- What a call says bytes of is a map. Assumes nothing.
use mathlib.Core.Path.{◌≡◌, ap, ◌∙◌}
use mathlib.Core.Bool.{true}
use mathlib.Core.List.{List}
use Prim.Native.Nat.{ℕ}
use lib.Dec.{eqb}
use lib.ListN.{length}
use borrow.Author.Tests.{eqb-true}
use Rattle.trees.specs.Layout.{elements_of}
use Rattle.fusetext.specs.File.{is_map, bits, Bits}
use Rattle.fusetext.proofs.Files.{pick_both, bits_all}
use Rattle.texts.proofs.Emits.{emits_map}
use Rattle.calls.specs.Saying.{Mapped}

map_tests : (map facts : List ℕ) → Mapped map facts → (eqb (length map) 5892 ≡ true) × (bits map ≡ true)
unfolding is_map
map_tests map facts m = pick_both (eqb (length map) 5892) (bits map) (ap is_map m.map_is ∙ emits_map (elements_of m.parts))

pub map_length : (map facts : List ℕ) → Mapped map facts → length map ≡ 5892
map_length map facts m = eqb-true (length map) 5892 (map_tests map facts m).0

pub map_bits : (map facts : List ℕ) → Mapped map facts → Bits map
map_bits map facts m = bits_all map (map_tests map facts m).1
