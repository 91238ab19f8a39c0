-- What is printed for a fuse file and for a map, by what the reader and the writer answered. Assumes nothing.
use mathlib.Core.Path.{◌≡◌, sym, ap, subst, ◌∙◌}
use mathlib.Core.List.{List, ◌++◌}
use Prim.Native.Nat.{ℕ, ◌+◌, ◌≤◌, ◌<◌}
use native.Mathlib.Omega.{arith}
use lib.ListN.{length, take, drop, length-append}
use lib.Seq.{length-take-le}
use borrow.Author.Tests.{le-leb, lt-leb, ne_eqb}
use Rattle.fusetext.specs.File.{is_map}
use Rattle.fusetext.specs.Outcome.{Outcome, gives, refuses, left}
use Rattle.fusetext.specs.Put.{Wrote}
use Rattle.fusetext.proofs.Puts.{put_front, wrote_front}
use Rattle.std.specs.Prelude.{Result, Ok, Err}
use Rattle.basics.specs.Refusal.{number_of, Numbered, answered, refused}
use Rattle.basics.specs.declared.refusal.Refusal.{Refusal}
use Rattle.fuseread.specs.Reading.{outcome_of, Reads}
use Rattle.fuseread.proofs.Endings.{into_map}
use Rattle.fusewrite.specs.Writing.{write_of, written_of, Writes}
use Rattle.lines.specs.Decimal.{refusal_line}
use Rattle.lines.specs.Line.{line_length, fuses_in, shown_line}
use Rattle.lines.proofs.Ends.{length_fuses}
use Rattle.verbs.specs.Printed.{printed, read_answer, file_answer, write_answer}

-- ---- reading

pub read_long : (file : List ℕ) (total : ℕ) → 65536 < total → refusal_line 20 total ≡ read_answer file total
unfolding read_answer
read_long file total h = simp (lt-leb _ _ h)

read_short : (file before after : List ℕ) (total : ℕ) (r v : Result (Unit {0}) Refusal) → length before ≡ 5892 → Reads file before r after → r ≡ v → total ≤ 65536
    → printed shown_line (outcome_of v after) ≡ read_answer file total
unfolding read_answer
read_short file before after total r v l d e h =
    simp (le-leb _ _ h) (ap (printed shown_line) (ap (λ (x : Result (Unit {0}) Refusal). outcome_of x after) (sym e) ∙ d.fills ∙ sym (into_map file (length before) l)))

pub read_map : (file before after : List ℕ) (total : ℕ) (r : Result (Unit {0}) Refusal) → length before ≡ 5892 → Reads file before r after → r ≡ Ok tt → total ≤ 65536 → shown_line after ≡ read_answer file total
read_map file before after total r l d e h = read_short file before after total r (Ok tt) l d e h

pub read_refused : (file before after : List ℕ) (total : ℕ) (r : Result (Unit {0}) Refusal) (refusal : Refusal) → length before ≡ 5892 → Reads file before r after → r ≡ Err refusal → total ≤ 65536
    → refusal_line (number_of refusal.reason) refusal.place ≡ read_answer file total
read_refused file before after total r refusal l d e h = read_short file before after total r (Err refusal) l d e h

-- ---- writing

-- the room that is lent is enough, so that it does not matter how much more it is
room_enough : (map : List ℕ) (room : ℕ) → 7154 ≤ room → write_of map room ≡ write_of map 7154
unfolding write_of
room_enough map room h = simp (le-leb 7154 room h)

abbrev size_of : Result ℕ Numbered → ℕ
size_of (Ok len) = len
size_of (Err r) = 0

abbrev number_in : Result ℕ Numbered → ℕ
number_in (Ok len) = 0
number_in (Err r) = r.number

abbrev place_in : Result ℕ Numbered → ℕ
place_in (Ok len) = 0
place_in (Err r) = r.place

abbrev told : Result ℕ Numbered → ℕ
told (Ok len) = 0
told (Err r) = 1

-- bytes that a call gave are printed as they stand
pub bytes_printed : (o : Outcome) (before after : List ℕ) (len : ℕ) → Ok len ≡ written_of o → after ≡ left o before → length after ≡ length before
    → Wrote before 0 (printed (λ bytes. bytes) o) after len
bytes_printed (gives bytes) before after len p q z =
    let l : len ≡ length bytes = ap size_of p in
    let s : length (bytes ++ drop (length bytes) before) ≡ length bytes + length (drop (length bytes) before) = length-append bytes (drop (length bytes) before) in
    let t : length (bytes ++ drop (length bytes) before) ≡ length before = sym (ap length q) ∙ z in
    record { room = omega arith; holds = q ∙ sym (put_front before bytes); ends = omega arith }
bytes_printed (refuses number place) before after len p q z = let k : ◌≡◌ {A = ℕ} 0 1 = ap told p in absurd (omega arith)

-- a refusal that a call answered is printed as its line
pub refusal_printed : (o : Outcome) (before after : List ℕ) (number place : ℕ) (last : List ℕ) (n : ℕ) → refused number place ≡ written_of o → after ≡ left o before
    → Wrote after 0 (refusal_line number place) last n → Wrote before 0 (printed (λ bytes. bytes) o) last n
refusal_printed (gives bytes) before after number place last n p q w = let k : ◌≡◌ {A = ℕ} 1 0 = ap told p in absurd (omega arith)
refusal_printed (refuses a b) before after number place last n p q w =
    subst (λ (l : List ℕ). Wrote before 0 l last n) (λ i. refusal_line (number_in (p i)) (place_in (p i)))
    (subst (λ (l : List ℕ). Wrote l 0 (refusal_line number place) last n) q w)

module _ (map before after : List ℕ) (w : Result ℕ Refusal) (room : 7154 ≤ length before) (d : Writes map before w after) where
  same : write_of map (length before) ≡ write_of map 7154
  same = room_enough map (length before) room

  pub file_given : (len : ℕ) → w ≡ Ok len → length after ≡ length before → Wrote before 0 (file_answer map) after len
  unfolding file_answer
  file_given len e z = bytes_printed (write_of map 7154) before after len (sym (ap answered e) ∙ d.answers ∙ ap written_of same) (d.leaves ∙ ap (λ (o : Outcome). left o before) same) z

  pub file_refused : (refusal : Refusal) (last : List ℕ) (n : ℕ) → w ≡ Err refusal → Wrote after 0 (refusal_line (number_of refusal.reason) refusal.place) last n → Wrote before 0 (file_answer map) last n
  unfolding file_answer
  file_refused refusal last n e w =
      refusal_printed (write_of map 7154) before after (number_of refusal.reason) refusal.place last n (sym (ap answered e) ∙ d.answers ∙ ap written_of same) (d.leaves ∙ ap (λ (o : Outcome). left o before) same) w

pub write_long : (text : List ℕ) (n : ℕ) → n ≡ line_length text → n ≤ length text → 5892 < n → refusal_line 31 0 ≡ write_answer text
unfolding write_answer file_answer write_of is_map
write_long text n e h k =
    let l : length (fuses_in (take (line_length text) text)) ≡ n = length_fuses (take (line_length text) text) ∙ ap (λ (j : ℕ). length (take j text)) (sym e) ∙ length-take-le n text h in
    let q : length (fuses_in (take (line_length text) text)) ≡ 5892 → ⊥ = (λ d. omega arith) in
    simp (ne_eqb _ _ q)

-- the digits of a line as fuses, at the front of the room for them
pub write_short : (text before map : List ℕ) (n r : ℕ) → n ≡ line_length text → n ≤ length text → Wrote before 0 (fuses_in (take n text)) map r → file_answer (take n map) ≡ write_answer text
unfolding write_answer
write_short text before map n r e h w =
    let l : length (fuses_in (take n text)) ≡ n = length_fuses (take n text) ∙ length-take-le n text h in
    let d = w.ends in
    let q : n ≡ r = omega arith in
    ap file_answer (ap (λ (j : ℕ). take j map) q ∙ wrote_front w ∙ ap (λ (j : ℕ). fuses_in (take j text)) e)
