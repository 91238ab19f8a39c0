-- Stage 4 on the tree of a module: each statement is carried out, a FOR's body once for each round. Document 01, 'The language we take' and 'Refusal
-- numbers', order (4): the target before the expression, a name before its index; decisions 12, 16, 19 to 23, 26. The text is at hand for the spelling
-- of names alone. Assumes nothing.
use Rattle.std.specs.Prelude.{ℕ, zero, suc, ◌+◌, ◌-◌, List, [], ◌∷◌, ◌++◌, length, get_or, eqb, ℤ}
use Rattle.basics.specs.Choice.{pick}
use Rattle.integers.specs.Integers.{nextℤ, rounds_of}
use Rattle.grammar.specs.Outcome.{Built, built, bad, and_built}
use Rattle.grammar.specs.Trees.{Tree, literal, logic, plain, element, invert, apply, choose, hold, keep, eval}
use Rattle.grammar.specs.Forms.{Numbers, no_numbers, and_number, Statements, nothing, and_statement, assign, place, places, loop}
use Rattle.judging.specs.Judging.{Meaning, valued, signal, meaning_of}
use Rattle.judging.specs.Judging.Meaning.{nothing as meaningless}
use Rattle.judging.specs.Reading.{State, reads}
use Rattle.parts.specs.Parts.{used_at, allows, one_more, assigned_in, positioned_in, miscounted_from}
use Rattle.unroll.specs.Loops.{with_loop}

-- what a designator names: its first element and its length, 0 for a BIT or an element; or a refusal
pub data Aim : Type 0 where
  from : ℕ → ℕ → Aim
  off : ℕ → ℕ → Aim

-- node 9 + k, in a room of its own, is element k: targets count no nodes
abbrev pub aim_on : Built State ℤ → Aim
aim_on (built v y) = from (get_or y.0 0 0 - 9) 0
aim_on (bad n p y) = off n p

-- a name alone may be a whole array
abbrev pub whole_on : ℕ → Meaning → Aim
whole_on p meaningless = off 4 p
whole_on p (valued z) = off 4 p
whole_on p (signal f n) = from f n

-- a name without an index, or any other designator
abbrev pub on_plain : {A : Type 0} → Tree → (ℕ → ℕ → A) → A → A
on_plain (plain st e) f a = f st e
on_plain (literal p v) f a = a
on_plain (logic p v) f a = a
on_plain (element st e p i) f a = a
on_plain (invert p v) f a = a
on_plain (apply k p v w) f a = a
on_plain (choose p u v w) f a = a
on_plain (hold p v) f a = a
on_plain (keep p v w) f a = a

abbrev pub on_aim : Aim → State → (ℕ → ℕ → Built State (Unit {0})) → Built State (Unit {0})
on_aim (from k n) x f = f k n
on_aim (off n p) x f = bad n p x

-- a round or a simple statement at p is counted before it is carried out: 4,096 at most
unfoldable pub counted : ℕ → (State → Built State (Unit {0})) → State → Built State (Unit {0})
counted p f x = pick (allows x.0 used_at 4096) (f (one_more x.0 used_at 4096, x.1)) (bad 6 p x)

-- numbers for the elements from k on
unfoldable pub given_from : List ℕ → ℕ → List ℤ → List ℕ
given_from l k [] = l
given_from l k (z ∷ zs) = given_from (positioned_in l k z) (k + 1) zs

-- n rounds from z on, over the name from st to e; the variable stands before all other names
unfoldable pub rounds_in : (List ℕ → State → Built State (Unit {0})) → List ℕ → ℕ → ℕ → ℕ → ℕ → ℤ → State → Built State (Unit {0})
rounds_in body t p st e zero z x = built tt x
rounds_in body t p st e (suc n) z x = and_built (counted p (body (with_loop t st e z)) x) (λ u y. rounds_in body t p st e n (nextℤ z) y)

-- in a text, among the names t
module _ (s t : List ℕ) where
  -- the element that an assignment is for
  unfoldable pub target_in : Tree → Aim
  target_in v = aim_on (eval (reads s t) 2 v (0 ∷ [], 0))

  -- what a position is for
  unfoldable pub site_in : Tree → Aim
  site_in v = on_plain v (λ st e. whole_on st (meaning_of s t st e)) (target_in v)

  -- an assignment: the nodes that the expression adds are the element's equation
  unfoldable pub assigned : Tree → Tree → State → Built State (Unit {0})
  assigned v w x =
      on_aim (target_in v) x (λ k n. and_built (eval (reads s t) 2 w x) (λ u y. built tt (assigned_in y.0 k x.1 y.1, y.1)))

  -- a position with one number: for a BIT or an element, not for an array
  unfoldable pub placed : Tree → Tree → State → Built State (Unit {0})
  placed v w x =
      on_aim (site_in v) x (λ k n. and_built (eval (reads s t) 1 w x) (λ z y.
      built tt (pick (eqb n 0) (positioned_in y.0 k z) (miscounted_from y.0 k n), y.1)))

  -- the numbers of a list
  unfoldable pub values_in : Numbers → State → Built State (List ℤ)
  values_in no_numbers x = built [] x
  values_in (and_number l w) x = and_built (values_in l x) (λ zs y. and_built (eval (reads s t) 1 w y) (λ z y. built (zs ++ (z ∷ [])) y))

  -- a position with a list: for an array that has as many elements
  unfoldable pub placed_all : Tree → Numbers → State → Built State (Unit {0})
  placed_all v l x =
      on_aim (site_in v) x (λ k n. and_built (values_in l x) (λ zs y.
      built tt (pick (eqb (length zs) n) (given_from y.0 k zs) (miscounted_from y.0 k (pick (eqb n 0) 1 n)), y.1)))

-- statements among the names t; the bounds of a FOR are valued before its variable exists
unfoldable pub carried : List ℕ → List ℕ → Statements → State → Built State (Unit {0})
carried s t nothing x = built tt x
carried s t (and_statement u v) x = and_built (carried s t u x) (λ w y. carried s t v y)
carried s t (assign p v w) x = counted p (assigned s t v w) x
carried s t (place p v w) x = counted p (placed s t v w) x
carried s t (places p v l) x = counted p (placed_all s t v l) x
carried s t (loop p st e a b at u) x =
    and_built (eval (reads s t) 1 a x) (λ lo y. and_built (eval (reads s t) 1 b y) (λ hi z.
    rounds_in (λ r y. carried s r u y) t p st e (rounds_of lo hi) lo z))
