-- How the names of a list are kept from being looked for among all those before. A sieve is a row of cells, each 0 or one more than the place of a
-- name of the list. Names of n bytes begin at cell n; from a name that is not theirs they go by their next bit to one of its two cells, the name at p
-- having 2 * (p + 1) + 16 and the next. A name that ends at an empty cell is surely new and is noted there; any other is looked for in the list.
-- No answer hangs on it: proofs/Sifted has that the names of a list are judged as `fresh_of` says whatever the cells hold at first.
use Rattle.std.specs.Prelude.{ℕ, zero, suc, ◌+◌, ◌-◌, ◌*◌, ◌/◌, ◌%◌, ◌^◌, Bool, false, List, length, get_or, set, eqb, leb, ltb}
use Rattle.basics.specs.Choice.{pick}
use Rattle.words.specs.Taken.{Taken}
use Rattle.words.specs.Taken.{Word, Refused}
use Rattle.words.specs.Words.{next_word}
use Rattle.names.specs.Names.{Spelling, spelling, same, looked_up}
use Rattle.grammar.specs.Outcome.{ok, no, Turn, more, last}
use Rattle.grammar.specs.Modules.{word_turn}
use Rattle.lists.specs.Lists.{is_known, back_of, is_back}

-- bit d of a spelling, its first byte first, the lowest bit of a byte first; 0 behind it
unfoldable pub branch : Spelling → ℕ → ℕ
branch w d = get_or w.bytes (d / 8) 0 / 2 ^ (d % 8) % 2

-- the empty cell that a spelling ends at, k bits at most from cell i on, of which bit d is the next; past all cells if it ends at none
unfoldable pub spot : List ℕ → List ℕ → Spelling → ℕ → ℕ → ℕ → ℕ
spot s l w zero d i = length l
spot s l w (suc k) d i =
    let r : ℕ = spot s l w k (d + 1) (2 * get_or l i 0 + 16 + branch w d) in
    pick (ltb i (length l)) (pick (eqb (get_or l i 0) 0) i (pick (same (spelling s (get_or l i 0 - 1) w.size) w) (length l) r)) (length l)

-- names have 16 bytes at most
unfoldable pub spot_of : List ℕ → List ℕ → Spelling → ℕ
spot_of s l w = spot s l w 128 0 w.size

-- the name of n bytes at st ends at an empty cell, which can hold its place
unfoldable pub is_new : List ℕ → List ℕ → ℕ → ℕ → Bool
is_new s l st n = pick (leb (length s) 65535) (pick (ltb st 65535) (ltb (spot_of s l (spelling s st n)) (length l)) false) false

-- the cells with such a name noted
unfoldable pub noted : List ℕ → List ℕ → ℕ → ℕ → List ℕ
noted s l st n = pick (is_new s l st n) (set l (spot_of s l (spelling s st n)) (st + 1)) l

-- whether the name from st to e stands in the list from first on before
unfoldable pub stands_by : List ℕ → List ℕ → ℕ → ℕ → ℕ → Bool
stands_by s l first st e = pick (is_new s l st (e - st)) false (is_back (back_of s first st e))

-- a name, and a word, as `fresh_name` and `fresh_turn` judge them
unfoldable pub name_by : List ℕ → List ℕ → List ℕ → ℕ → ℕ → ℕ → Turn (Unit {0}) ℕ
name_by s t l first st nx = pick (is_known (looked_up s t st (nx - st))) (last (no 4 st tt)) (pick (stands_by s l first st nx) (last (no 4 st tt)) (more 0 nx tt))

unfoldable pub turn_by : List ℕ → List ℕ → List ℕ → ℕ → ℕ → Turn (Unit {0}) ℕ
turn_by s t l first at =
    word_turn tt (next_word s at) (λ k st v nx.
    pick (eqb k 1) (name_by s t l first st nx)
    (pick (eqb k 44) (more 0 nx tt)
    (pick (eqb k 58) (last (ok 0 nx tt))
    (last (no 2 st tt)))))

-- the cells behind a word
abbrev pub sieve_after : List ℕ → List ℕ → Taken → List ℕ
sieve_after s l (Word k st v c) = pick (eqb k 1) (noted s l st (c.at - st)) l
sieve_after s l (Refused n p) = l

unfoldable pub sieve_by : List ℕ → List ℕ → ℕ → List ℕ
sieve_by s l at = sieve_after s l (next_word s at)
