-- What one field of a fuse file says (document 01, 'The fuse file', Reading). Assumes nothing.
use Rattle.std.specs.Prelude.{◌≡◌, List, [], ◌∷◌, Bool, true, false, not, ℕ, ◌+◌, ◌-◌, length, get_or, leb, ltb, eqb, Some, None, is_none, Result, Ok, Err}
use Rattle.basics.specs.Choice.{pick}
use Rattle.basics.specs.Refusal.{number_of}
use Rattle.basics.specs.declared.refusal.Reason.{Reason}
use Rattle.fusetext.specs.Put.{put}
use Rattle.fusefields.specs.Bytes.{blank, digit, fuse, fuse_or_blank, hexit, front, past, value, hex4_of, fuses}
use Rattle.fusefields.specs.declared.Seen.{Seen}

-- whether a list has an element; whether all of it passes
abbrev pub some : List ℕ → Bool
some xs = leb 1 (length xs)

abbrev pub only : (ℕ → Bool) → List ℕ → Bool
only p xs = leb (length xs) (length (front p xs))

-- ---- L

-- What stands behind an L says: a refusal's number, or the first fuse and the fuses from it on.
pub data Listed : Type 0 where
  bad : ℕ → Listed
  good : ℕ → List ℕ → Listed

-- the refusal 20 where a test fails
abbrev pub need : Bool → Listed → Listed
need b x = pick b x (bad 20)

-- Reading, L: digits, one blank or more, and fuses, of which the first stands at once and the others with or without blanks around
-- them; 22 where the number of any of them is above 5,891 (decision 36).
-- From the end: the fuses, from number n on; blanks and then those; all of it
unfoldable pub listed_fuses : ℕ → List ℕ → Listed
listed_fuses n xs =
    need (some xs) (need (only fuse_or_blank xs) (pick (leb (n + length (fuses xs)) 5892) (good n (fuses xs)) (bad 22)))

unfoldable pub listed_rest : ℕ → List ℕ → Listed
listed_rest n xs = need (some (front blank xs)) (listed_fuses n (past blank xs))

unfoldable pub listed : List ℕ → Listed
listed xs = need (some (front digit xs)) (listed_rest (value 0 (front digit xs)) (past digit xs))

-- its refusal's number, 0 where there is none
abbrev pub fault_of : Listed → ℕ
fault_of (bad n) = n
fault_of (good from fs) = 0

-- Reading: what an L lists stands in place of what earlier ones listed
abbrev pub kept : Listed → List ℕ → List ℕ
kept (bad n) cells = cells
kept (good from fs) cells = put cells from fs

-- a number for the fault, and the fuses before and after, say that
pub record Says (l : Listed) (r : ℕ) (before after : List ℕ) : Type 0 where
  pub fault : r ≡ fault_of l
  pub cells : after ≡ kept l before

-- ---- the other fields, behind their letters

-- nothing seen
abbrev pub unseen : Seen
unseen = record { qf = false; qp = false; g = false; l = false; f = None; c = None }

-- what a field does: what has been seen then, or a refusal's number
abbrev pub Judged : Type 0
Judged = Result Seen ℕ

-- the same of what a function that judges a field answers
abbrev pub judged : Result Seen Reason → Judged
judged (Ok s) = Ok s
judged (Err r) = Err (number_of r)

-- the refusal 20 where a test fails
abbrev pub must : Bool → Judged → Judged
must b x = pick b x (Err 20)

-- one 0 or 1 alone
unfoldable pub one : List ℕ → Bool
one xs = pick (eqb (length xs) 1) (fuse (get_or xs 0 0)) false

-- 'Refusal numbers', 20 and 21: what is wrong with a number that must be n; 0 where nothing is
unfoldable pub number_fault : List ℕ → ℕ → ℕ
number_fault xs n = pick (some xs) (pick (only digit xs) (pick (eqb (value 0 xs) n) 0 21) 20) 20

-- Reading, F: one of them is taken, between QF and the first L, with one 0 or 1
unfoldable pub judge_f : Seen → List ℕ → Judged
judge_f s xs =
    must s.qf (must (is_none s.f) (must (not s.l) (must (one xs)
    (Ok (record { qf = s.qf; qp = s.qp; g = s.g; l = s.l; f = Some (get_or xs 0 0 - 48); c = s.c })))))

-- Reading, G: one of them is taken, with one 0 or 1 that nothing remembers
unfoldable pub judge_g : Seen → List ℕ → Judged
judge_g s xs = must (not s.g) (must (one xs) (Ok (record { qf = s.qf; qp = s.qp; g = true; l = s.l; f = s.f; c = s.c })))

-- Reading, C: one of them is taken, with four hex digits
unfoldable pub judge_c : Seen → List ℕ → Judged
judge_c s xs =
    must (is_none s.c) (must (eqb (length xs) 4) (must (only hexit xs)
    (Ok (record { qf = s.qf; qp = s.qp; g = s.g; l = s.l; f = s.f; c = Some (hex4_of xs) }))))

-- Reading, QF and QP: one of each is taken (decision 35: a second is 20, whatever its number), and its number is 5892 or 24
unfoldable pub judge_qf : Seen → List ℕ → Judged
judge_qf s xs =
    must (not s.qf) (pick (eqb (number_fault xs 5892) 0)
    (Ok (record { qf = true; qp = s.qp; g = s.g; l = s.l; f = s.f; c = s.c })) (Err (number_fault xs 5892)))

unfoldable pub judge_qp : Seen → List ℕ → Judged
judge_qp s xs =
    must (not s.qp) (pick (eqb (number_fault xs 24) 0)
    (Ok (record { qf = s.qf; qp = true; g = s.g; l = s.l; f = s.f; c = s.c })) (Err (number_fault xs 24)))

-- decision 34: Q and then F (70) or P (80); any other Q is skipped
unfoldable pub judge_q : Seen → List ℕ → Judged
judge_q s [] = Ok s
judge_q s (x ∷ xs) = pick (eqb x 70) (judge_qf s xs) (pick (eqb x 80) (judge_qp s xs) (Ok s))

-- a field that is no L, by its letter: C 67, F 70, G 71, Q 81; any other capital letter says nothing to us, and no other byte begins a field
unfoldable pub judge_plain : Seen → ℕ → List ℕ → Judged
judge_plain s x xs =
    pick (eqb x 67) (judge_c s xs)
    (pick (eqb x 70) (judge_f s xs)
    (pick (eqb x 71) (judge_g s xs)
    (pick (eqb x 81) (judge_q s xs)
    (pick (ltb x 65) (Err 20) (pick (leb x 90) (Ok s) (Err 20))))))

-- What a field does: a refusal's number, or what has been seen then and the fuses.
pub data Step : Type 0 where
  stop : ℕ → Step
  go : Seen → List ℕ → Step

abbrev pub step_of : Judged → List ℕ → Step
step_of (Ok s) cells = go s cells
step_of (Err n) cells = stop n

-- an L has been seen
abbrev pub saw_l : Seen → Seen
saw_l s = record { qf = s.qf; qp = s.qp; g = s.g; l = true; f = s.f; c = s.c }

-- Reading, L: behind QF (decision 35: 20 before 22)
unfoldable pub judge_l : Seen → List ℕ → List ℕ → Step
judge_l s xs cells =
    pick s.qf (pick (eqb (fault_of (listed xs)) 0) (go (saw_l s) (kept (listed xs) cells)) (stop (fault_of (listed xs)))) (stop 20)

-- a field from its first byte up to its `*`: an L (76) or another; decision 34: 20 where there is no byte
unfoldable pub judge : Seen → List ℕ → List ℕ → Step
judge s [] cells = stop 20
judge s (x ∷ xs) cells = pick (eqb x 76) (judge_l s xs cells) (step_of (judge_plain s x xs) cells)
