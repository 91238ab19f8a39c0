-- What is emitted is a map. Assumes nothing.
use mathlib.Core.Path.{◌≡◌, refl, ap, ◌∙◌}
use mathlib.Core.Bool.{Bool, true, false}
use mathlib.Core.List.{List, [], ◌∷◌}
use Prim.Native.Nat.{ℕ, suc, ◌≤◌, ◌<◌}
use native.Mathlib.Omega.{arith}
use lib.ListN.{length, get_or}
use borrow.Author.Tests.{le-leb}
use Rattle.basics.specs.Choice.{pick}
use Rattle.trees.specs.Layout.{Elements}
use Rattle.behave.proofs.Emitted.{map_size, fuse_small}
use Rattle.outputs.specs.Outputs.{map_for, masks_of, counts_of, kinds_of, s0s_of}
use Rattle.fusetext.specs.File.{bits, is_map}
use Rattle.fusetext.proofs.Files.{is_map_yes}

all_bits : (m : List ℕ) → ((i : ℕ) → i < length m → get_or m i 0 ≤ 1) → bits m ≡ true
unfolding bits
all_bits [] h = refl
all_bits (x ∷ m) h = ap (λ (b : Bool). pick b (bits m) false) (le-leb x 1 (h 0 (omega arith))) ∙ all_bits m (λ i l. h (suc i) (omega arith))

pub emits_map : (e : Elements) → is_map (map_for e) ≡ true
unfolding map_for
emits_map e =
    let z = map_size (masks_of e) (counts_of e) (kinds_of e) (s0s_of e) in
    is_map_yes (map_for e) z (all_bits (map_for e) (λ i l. fuse_small (masks_of e) (counts_of e) (kinds_of e) (s0s_of e) i (omega (arith, z, l))))
