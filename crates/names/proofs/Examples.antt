-- Worked examples of names: the newest of a spelling is meant, and a longer name is another. Assumes nothing.
use mathlib.Core.Path.{◌≡◌, refl}
use mathlib.Core.List.{List, [], ◌∷◌}
use Prim.Native.Nat.{ℕ}
use lib.IntN.{ℤ, pos, negsuc}
use Rattle.basics.specs.Text.{text}
use Rattle.names.specs.Names.{spelling, same_bytes, same, find, entry, entries, Seen, known, unknown, looked_up, extended, number_of}

-- a constant i = 9, then a signal in, then a loop variable i = -1
abbrev pub standing : List ℕ
standing = extended (extended (extended [] 0 1 1 9 0) 2 2 2 0 8) 5 1 3 0 1

pub newest_meant : ◌≡◌ {A = List Seen}
    (looked_up (text "i in i x") standing 0 1 ∷ looked_up (text "i in i x") standing 2 2 ∷ looked_up (text "i in i x") standing 7 1 ∷ [])
    (known 3 0 1 ∷ known 2 0 8 ∷ unknown ∷ [])
unfolding spelling same_bytes same find entry entries looked_up extended
newest_meant = refl

pub signs_meant : ◌≡◌ {A = List ℤ} (number_of 9 0 ∷ number_of 0 1 ∷ []) (pos 9 ∷ negsuc 0 ∷ [])
unfolding number_of
signs_meant = refl
