-- Reading a whole fuse file (document 01, 'The fuse file', Reading, and 'Refusal numbers'). Assumes nothing.
use Rattle.std.specs.Prelude.{◌≡◌, List, [], ◌∷◌, Bool, true, ℕ, ◌+◌, ◌%◌, length, take, drop, get_or, replicate, leb, ltb, eqb, Option, Some, None, Result, Ok, Err}
use Rattle.basics.specs.Choice.{pick}
use Rattle.std.specs.Option.{unwrap_or}
use Rattle.basics.specs.Refusal.{number_of, Numbered, answered, refused}
use Rattle.basics.specs.declared.refusal.Refusal.{Refusal}
use Rattle.fusetext.specs.File.{bits, fuse_sum, sum}
use Rattle.fusetext.specs.Outcome.{Outcome, gives, refuses, left}
use Rattle.fusefields.specs.Bytes.{blank, hexit, not_star, not_end, front, hex4_of}
use Rattle.fusefields.specs.Fields.{only, unseen}
use Rattle.fusefields.specs.declared.Seen.{Seen}
use Rattle.fuseread.specs.Walk.{Walked, ended, fault, open_at, walk, pieces}

-- no fuse is listed yet: each is 2 until then
unfoldable pub unlisted : List ℕ
unlisted = replicate 5892 2

-- Reading, F: the default f for each fuse that is not listed (2 where there is none)
unfoldable pub filled : ℕ → List ℕ → List ℕ
filled f [] = []
filled f (x ∷ xs) = pick (eqb x 2) f x ∷ filled f xs

-- 'Refusal numbers', 23: C is absent, or the low 16 bits of the fuse sum
unfoldable pub fuse_sum_fits : Option ℕ → List ℕ → Bool
fuse_sum_fits None m = true
fuse_sum_fits (Some c) m = eqb (fuse_sum m % 65536) c

-- 'Refusal numbers', 24: the last four digits are the low 16 bits of the sum of the bytes up to byte 3, which stands at z
unfoldable pub last_sum_fits : List ℕ → ℕ → Bool
last_sum_fits s z = eqb (sum (take (z + 1) s) % 65536) (hex4_of (drop (z + 1) s))

-- 23, then 24, then the map
unfoldable pub summed : List ℕ → ℕ → Option ℕ → List ℕ → Outcome
summed s z c m = pick (fuse_sum_fits c m) (pick (last_sum_fits s z) (gives m) (refuses 24 0)) (refuses 23 0)

-- decision 38: what is missing, QF or a fuse that is neither listed nor has a default: 20 at the file's length
unfoldable pub whole : List ℕ → ℕ → Seen → List ℕ → Outcome
whole s z seen cells =
    pick seen.qf
    (pick (bits (filled (unwrap_or seen.f 2) cells)) (summed s z seen.c (filled (unwrap_or seen.f 2) cells)) (refuses 20 (length s)))
    (refuses 20 (length s))

-- decision 33: right behind byte 3, at z, are four hex digits, and behind them nothing but blanks; a file that ends among the digits
-- lacks something
unfoldable pub ending : List ℕ → ℕ → Seen → List ℕ → Outcome
ending s z seen cells =
    let tail : List ℕ = drop (z + 1) s in
    pick (leb 4 (length (front hexit tail)))
    (pick (only blank (drop (z + 5) s)) (whole s z seen cells) (refuses 20 (z + 5 + length (front blank (drop (z + 5) s)))))
    (pick (only hexit tail) (refuses 20 (length s)) (refuses 20 (z + 1)))

-- decision 32: after the fields. Where there is no byte 3, z is the length and something is missing, unless a field was at fault
unfoldable pub closing : List ℕ → ℕ → Walked → Outcome
closing s z (ended seen cells) = pick (ltb z (length s)) (ending s z seen cells) (refuses 20 (length s))
closing s z (fault n place) = refuses n place
closing s z (open_at place) = pick (ltb z (length s)) (refuses 20 place) (refuses 20 (length s))

-- Reading: the heading, h bytes from byte 1 on, ends at its `*`, and the fields follow it
unfoldable pub opened : List ℕ → ℕ → ℕ → Outcome
opened s z h =
    pick (ltb (h + 1) z) (closing s z (walk unseen unlisted (h + 2) (pieces (drop (h + 2) (take z s)))))
    (pick (ltb z (length s)) (refuses 20 1) (refuses 20 (length s)))

-- Reading: no more than 65,536 bytes (decision 39), of which the first is byte 2; z is where the first byte 3 stands
unfoldable pub read_of : List ℕ → Outcome
read_of s =
    let z : ℕ = length (front not_end s) in
    pick (leb (length s) 65536)
    (pick (eqb (get_or s 0 0) 2) (opened s z (length (front not_star (drop 1 (take z s))))) (refuses 20 0))
    (refuses 20 (length s))

-- 'Refusal numbers', 31 before all else: the lent map has not 5,892 bytes
unfoldable pub read_into : List ℕ → ℕ → Outcome
read_into file room = pick (eqb room 5892) (read_of file) (refuses 31 0)

-- the reader's answer for each outcome
abbrev pub reading_of : Outcome → Result (Unit {0}) Numbered
reading_of (gives m) = Ok tt
reading_of (refuses number place) = refused number place

-- and back: the answer, with the fuses that stand beside it
abbrev pub outcome_of : Result (Unit {0}) Refusal → List ℕ → Outcome
outcome_of (Ok a) m = gives m
outcome_of (Err r) m = refuses (number_of r.reason) r.place

-- What a call of the reader does, on a file and a lent map that held `before`: its answer, what the map holds then, and that a map that is
-- given fills it.
pub record Reads (file before : List ℕ) (answer : Result (Unit {0}) Refusal) (after : List ℕ) : Type 0 where
  pub answers : answered answer ≡ reading_of (read_into file (length before))
  pub leaves : after ≡ left (read_into file (length before)) before
  pub fills : outcome_of answer after ≡ read_into file (length before)
