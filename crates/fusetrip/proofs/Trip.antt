-- What was written is read back, for every map. Assumes nothing.
use mathlib.Core.Path.{◌≡◌, refl, sym, ap, ◌∙◌}
use mathlib.Core.Bool.{true}
use mathlib.Core.List.{List, [], ◌++◌, append-nil}
use Prim.Native.Nat.{ℕ, ◌≤◌}
use native.Mathlib.Omega.{arith}
use lib.ListN.{length, take, drop, drop_of_length-le}
use lib.Seq.{take_at}
use borrow.Author.Tests.{le-leb}
use Rattle.fusetext.specs.File.{is_map, file_of}
use Rattle.fusetext.specs.Outcome.{Outcome, gives, refuses, left}
use Rattle.fusetext.proofs.Files.{map_length_lem, map_bits}
use Rattle.std.specs.Prelude.{Result, Ok}
use Rattle.basics.specs.declared.refusal.Refusal.{Refusal}
use Rattle.basics.proofs.Refusals.{answered_once}
use Rattle.fusewrite.specs.Writing.{write_of, written_of, Writes}
use Rattle.fuseread.specs.Reading.{read_of, read_into, reading_of, Reads}
use Rattle.fuseread.proofs.Endings.{into_map}
use Rattle.fusetrip.proofs.Whole.{whole_trip}

-- reading the file of a map gives the map
pub trip : (m : List ℕ) → is_map m ≡ true → read_of (file_of m) ≡ gives m
trip m h = whole_trip m (map_length_lem m h) (map_bits m h)

-- maps with the same file are the same map
pub file_tells : (m n : List ℕ) → is_map m ≡ true → is_map n ≡ true → file_of m ≡ file_of n → m ≡ n
file_tells m n h k e = ap bytes (sym (trip m h) ∙ ap read_of e ∙ trip n k)
  where
    bytes : Outcome → List ℕ
    bytes (gives l) = l
    bytes (refuses number place) = m

-- the same of the two calls: what `write` leaves of a map's file at the start of its output, `read` takes into a lent map, whole
pub write_read : (m before after old new : List ℕ) (w : Result ℕ Refusal) (r : Result (Unit {0}) Refusal) → is_map m ≡ true → 7154 ≤ length before → length old ≡ 5892
    → Writes m before w after → Reads (take (length (file_of m)) after) old r new → (w ≡ Ok (length (file_of m))) × (r ≡ Ok tt) × (new ≡ m)
write_read m before after old new w r h room size p q =
    let written : write_of m (length before) ≡ gives (file_of m) = wrote-file m (length before) h room in
    let file : take (length (file_of m)) after ≡ file_of m =
    ap (take (length (file_of m))) (p.leaves ∙ ap (λ (o : Outcome). left o before) written) ∙ take_at (file_of m) (drop (length (file_of m)) before) (length (file_of m)) refl in
    let got : read_into (take (length (file_of m)) after) (length old) ≡ gives m =
    sym (into_map (take (length (file_of m)) after) (length old) size) ∙ ap read_of file ∙ trip m h in
    let none : drop (length m) old ≡ [] = let e = map_length_lem m h in drop_of_length-le old {i = length m} (omega arith) in (
      answered_once w (Ok (length (file_of m))) (p.answers ∙ ap written_of written),
      answered_once r (Ok tt) (q.answers ∙ ap reading_of got),
      q.leaves ∙ ap (λ (o : Outcome). left o old) got ∙ ap (λ (l : List ℕ). m ++ l) none ∙ append-nil m,
    )
  where
    wrote-file : (m : List ℕ) (n : ℕ) → is_map m ≡ true → 7154 ≤ n → write_of m n ≡ gives (file_of m)
    wrote-file m n h k = unfold write_of in rw (h, le-leb _ _ k)
