-- A writer that writes nothing breaks the promise. Assumes nothing.
use mathlib.Core.Path.{◌≡◌, refl, ap, ◌∙◌}
use mathlib.Core.Bool.{true}
use mathlib.Core.List.{List, ◌++◌}
use Prim.Native.Nat.{ℕ}
use native.Mathlib.Omega.{arith}
use lib.ListN.{length, drop, get_or, replicate}
use Rattle.fusetext.specs.File.{is_map, opening, fields_of, body, file_of}
use Rattle.std.specs.Prelude.{Result}
use Rattle.basics.specs.declared.refusal.Refusal.{Refusal}
use Rattle.fusewrite.specs.Writing.{write_of, Writes}

-- a file starts with byte 2
starts : (map rest : List ℕ) → get_or (file_of map ++ rest) 0 0 ≡ 2
unfolding file_of body fields_of opening
starts map rest = refl

-- whatever a call answers, it did not leave an output of zeros as it was
pub nothing_written : (map : List ℕ) (answer : Result ℕ Refusal) → is_map map ≡ true → Writes map (replicate 7154 0) answer (replicate 7154 0) → ⊥
unfolding write_of
nothing_written map answer m w =
    let e : replicate 7154 0 ≡ file_of map ++ drop (length (file_of map)) (replicate 7154 0) = w.leaves ∙ rw m in
    let d : ◌≡◌ {A = ℕ} 0 2 = ap (λ (l : List ℕ). get_or l 0 0) e ∙ starts map (drop (length (file_of map)) (replicate 7154 0)) in
    omega arith
