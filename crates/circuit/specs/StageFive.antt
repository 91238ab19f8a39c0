-- Stage 5: all elements in declaration order, four times, for refusals 7, 8, 9 and 10 (document 01, "Refusal numbers" and their order; decisions
-- 24 to 26). Assumes nothing.
use Rattle.std.specs.Prelude.{Bool, false, not, ◌&&◌, ◌||◌, ℕ, zero, suc, eqb, ltb}
use Rattle.basics.specs.Choice.{pick}
use Rattle.basics.specs.Below.{any_below}
use Rattle.trees.specs.Layout.{Elements}
use Rattle.reach.specs.Meeting.{meets}
use Rattle.circuit.specs.Placed.{plain_n, placed_n}
use Rattle.circuit.specs.Pins.{role_of}

-- 7: an IN is never assigned, an OUT and a VAR exactly once
unfoldable pub misassigned : Elements → ℕ → Bool
misassigned e i =
    pick (eqb (e.class i) 1) (not (eqb (e.assigned i) 0))
    (pick (eqb (e.class i) 2) (not (eqb (e.assigned i) 1))
    (pick (eqb (e.class i) 3) (not (eqb (e.assigned i) 1)) false))

-- 8: a REG of an OUT stands elsewhere, or a VAR has one
unfoldable pub misplaced : Elements → ℕ → Bool
misplaced e i = pick (eqb (e.class i) 2) (not (placed_n (e.nodes i))) (pick (eqb (e.class i) 3) (not (plain_n (e.nodes i))) false)

-- 9: the element meets itself as names are replaced
abbrev pub looped : Elements → ℕ → Bool
looped e i = meets e i i

-- another IN or OUT stands at the pin of element i
abbrev pub stands_beside : Elements → ℕ → ℕ → Bool
stands_beside e i j = not (eqb j i) && (eqb (e.pin j) (e.pin i) && (eqb (e.class j) 1 || eqb (e.class j) 2))

-- 10: a VAR has no position; an IN and an OUT have one, of right count, at a pin of their class that is given once, and so to no other
unfoldable pub positioned_right : Elements → ℕ → Bool
positioned_right e i =
    pick (not (eqb (e.positioned i) 1)) false
    (pick (e.miscounted i) false
    (pick (not (eqb (role_of (e.pin i)) (e.class i))) false
    (pick (any_below (stands_beside e i) 64) false
    (eqb (e.given (e.pin i)) 1))))

unfoldable pub mispositioned : Elements → ℕ → Bool
mispositioned e i =
    pick (eqb (e.class i) 1) (not (positioned_right e i))
    (pick (eqb (e.class i) 2) (not (positioned_right e i))
    (pick (eqb (e.class i) 3) (not (eqb (e.positioned i) 0)) false))

-- the first number below n that passes, n where none does
unfoldable pub first_below : (ℕ → Bool) → ℕ → ℕ
first_below f zero = 0
first_below f (suc n) = let r : ℕ = first_below f n in pick (ltb r n) r (pick (f n) n (suc n))

-- a refusal with its number and place, or none
pub data Verdict : Type 0 where
  fine : Verdict
  refused : ℕ → ℕ → Verdict

-- one pass: the first element at fault is refused at its name's declaration; without one, what the passes behind it say
abbrev pub pass : ℕ → Elements → (ℕ → Bool) → Verdict → Verdict
pass number e fault behind = let r : ℕ = first_below fault 64 in pick (ltb r 64) (refused number (e.place r)) behind

unfoldable pub stage_five : Elements → Verdict
stage_five e = pass 7 e (misassigned e) (pass 8 e (misplaced e) (pass 9 e (looped e) (pass 10 e (mispositioned e) fine)))
