-- What a part of an expression is judged to be, for a sort: 0 only to be checked, 1 a number, 2 a signal, 3 a signal that is not counted. Document 01,
-- 'The language we take' and refusals 3, 4, 5; decisions 14 to 16, 19, 20.
use Rattle.std.specs.Prelude.{ℕ, ◌+◌, ◌-◌, List, eqb, ltb, Option, Some, None, Result, Ok, Err, ℤ, pos, negsuc}
use Rattle.basics.specs.Choice.{pick}
use Rattle.integers.specs.Integers.{num, Answer, held, broken, combined}
use Rattle.names.specs.Names.{Seen, known, unknown, number_of, looked_up}
use Rattle.basics.specs.Refusal.{number_of as reason_of}
use Rattle.basics.specs.declared.refusal.Refusal.{Refusal}
use Rattle.judging.specs.declared.Sort.{Sort}
use Rattle.judging.specs.declared.Sort.TheVariants.{Checked, Number, Signal, Uncounted}
use Rattle.judging.specs.declared.Judged.{Judged}
use Rattle.judging.specs.declared.Judged.TheVariants as given
use Rattle.judging.specs.declared.Base.{Base}
use Rattle.judging.specs.declared.Meaning.{Meaning as Meant}
use Rattle.judging.specs.declared.Meaning.TheVariants as told

-- the number of each sort: from 3 on all are signals that are not counted
abbrev pub sort_of : Sort → ℕ
sort_of Checked = 0
sort_of Number = 1
sort_of Signal = 2
sort_of (Uncounted n) = n + 3

-- a number, a node of a signal, or a refusal's number and place
pub data Verdict : Type 0 where
  number : ℤ → Verdict
  node : ℕ → Verdict
  fault : ℕ → ℕ → Verdict

-- an array's first element and length, or a refusal
pub data Array : Type 0 where
  base : ℕ → ℕ → Array
  unfit : ℕ → ℕ → Array

-- what a name stands for: a number (constant or loop variable); a signal, by its first element and its length, 0 for a BIT; or nothing
pub data Meaning : Type 0 where
  valued : ℤ → Meaning
  signal : ℕ → ℕ → Meaning
  nothing : Meaning

-- what the code answers
abbrev pub judged : Result Judged Refusal → Verdict
judged (Ok (given.Number v)) = number (num v)
judged (Ok (given.Node c)) = node c
judged (Err r) = fault (reason_of r.reason) r.place

abbrev pub opening : Result Base Refusal → Array
opening (Ok b) = base b.first b.size
opening (Err r) = unfit (reason_of r.reason) r.place

abbrev pub meant : Option Meant → Meaning
meant (Some (told.Value v)) = valued (num v)
meant (Some (told.Signal b)) = signal b.first b.size
meant None = nothing

-- what the names that stand there say of a name: kind 2 is a signal, any other a number
abbrev pub meaning_on : Seen → Meaning
meaning_on unknown = nothing
meaning_on (known k v n) = pick (eqb k 2) (signal v n) (valued (number_of v n))

unfoldable pub meaning_of : List ℕ → List ℕ → ℕ → ℕ → Meaning
meaning_of s t st e = meaning_on (looked_up s t st (e - st))

-- a signal's part at p, whose node is c: refused 4 where a number is wanted
unfoldable pub mark_of : ℕ → ℕ → ℕ → Verdict
mark_of o c p = pick (eqb o 2) (node c) (pick (eqb o 1) (fault 4 p) (number (pos 0)))

-- a literal at p: refused 4 where a signal is wanted
unfoldable pub literal_of : ℕ → ℕ → ℕ → Verdict
literal_of o p v = pick (eqb o 1) (number (pos v)) (pick (eqb o 0) (number (pos 0)) (fault 4 p))

-- a logic value at p: nodes 0 and 1
unfoldable pub logic_of : ℕ → ℕ → ℕ → Verdict
logic_of o p v = pick (eqb v 0) (mark_of o 0 p) (mark_of o 1 p)

-- a name at p without an index: 4 if it is unknown or of the other kind, 5 if it is an array; node 9 + k is element k
abbrev pub plain_on : ℕ → ℕ → Meaning → Verdict
plain_on o p nothing = fault 4 p
plain_on o p (valued v) = pick (eqb o 1) (number v) (fault 4 p)
plain_on o p (signal f n) = pick (eqb o 1) (fault 4 p) (pick (eqb n 0) (mark_of o (9 + f) p) (fault 5 p))

unfoldable pub plain_of : List ℕ → List ℕ → ℕ → ℕ → ℕ → Verdict
plain_of s t o st e = pick (eqb o 0) (number (pos 0)) (plain_on o st (meaning_of s t st e))

-- a name at st that an index at p follows: 4 if it is unknown or of the other kind, 5 at the index if it is no array, before the index is valued
abbrev pub opened_on : ℕ → ℕ → ℕ → Meaning → Array
opened_on o st p nothing = unfit 4 st
opened_on o st p (valued v) = pick (eqb o 1) (unfit 5 p) (unfit 4 st)
opened_on o st p (signal f n) = pick (eqb o 1) (unfit 4 st) (pick (eqb n 0) (unfit 5 p) (base f n))

unfoldable pub opened_of : List ℕ → List ℕ → ℕ → ℕ → ℕ → ℕ → Array
opened_of s t o st e p = pick (eqb o 0) (base 0 0) (opened_on o st p (meaning_of s t st e))

-- element i of the n from f on, of the array at st with its index at p: from 0 to n - 1, else 5 at the index
abbrev pub element_on : ℕ → ℕ → ℕ → ℕ → ℕ → ℤ → Verdict
element_on o st p f n (pos i) = pick (ltb i n) (mark_of o (9 + (f + i)) st) (fault 5 p)
element_on o st p f n (negsuc i) = fault 5 p

unfoldable pub element_of : ℕ → ℕ → ℕ → ℕ → ℕ → ℤ → Verdict
element_of o st p f n i = pick (eqb o 0) (number (pos 0)) (element_on o st p f n i)

-- a number that an operator at p gave, or that it broke a rule: 3 at the operator
abbrev pub answered : ℕ → Answer → Verdict
answered p (held z) = number z
answered p broken = fault 3 p

-- an operator at p, by the kind of its word: on signals + is node 4, - 5, * 3, any other is refused 4 at it
unfoldable pub operator_of : ℕ → ℕ → ℕ → ℤ → ℤ → Verdict
operator_of o k p a b =
    pick (eqb o 0) (number (pos 0))
    (pick (eqb o 1) (answered p (combined k a b))
    (pick (eqb k 43) (mark_of o 4 p)
    (pick (eqb k 45) (mark_of o 5 p)
    (pick (eqb k 42) (mark_of o 3 p)
    (fault 4 p)))))
