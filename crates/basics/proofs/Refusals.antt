-- A refusal is told by its number and its place. Assumes nothing.
use mathlib.Core.Path.{◌≡◌, refl, sym, ap, ◌∙◌}
use Prim.Native.Nat.{ℕ}
use lib.Dec.{eqb}
use Rattle.std.specs.Prelude.{Result, Ok, Err}
use Rattle.basics.specs.Choice.{pick}
use Rattle.basics.specs.Refusal.{number_of, Numbered, answered}
use Rattle.basics.specs.declared.refusal.Reason.{Reason}
use Rattle.basics.specs.declared.refusal.Reason.TheVariants.{Length, Grammar, Arithmetic, Name, Index, Limit, Assignment, Register, Loop, Position, Pins, Products, Memory, Question, Form, Device, Fuse, FuseSum, ByteSum, Model, Map, Value}
use Rattle.basics.specs.declared.refusal.Refusal.{Refusal}

-- the reason that has a number
reason_of : ℕ → Reason
reason_of n =
    pick (eqb n 1) Length (pick (eqb n 2) Grammar (pick (eqb n 3) Arithmetic (pick (eqb n 4) Name (pick (eqb n 5) Index (pick (eqb n 6) Limit
    (pick (eqb n 7) Assignment (pick (eqb n 8) Register (pick (eqb n 9) Loop (pick (eqb n 10) Position (pick (eqb n 11) Pins
    (pick (eqb n 12) Products (pick (eqb n 13) Memory (pick (eqb n 14) Question (pick (eqb n 20) Form (pick (eqb n 21) Device
    (pick (eqb n 22) Fuse (pick (eqb n 23) FuseSum (pick (eqb n 24) ByteSum (pick (eqb n 30) Model (pick (eqb n 31) Map Value))))))))))))))))))))

reason_back : (r : Reason) → reason_of (number_of r) ≡ r
unfolding reason_of
reason_back Length = refl
reason_back Grammar = refl
reason_back Arithmetic = refl
reason_back Name = refl
reason_back Index = refl
reason_back Limit = refl
reason_back Assignment = refl
reason_back Register = refl
reason_back Loop = refl
reason_back Position = refl
reason_back Pins = refl
reason_back Products = refl
reason_back Memory = refl
reason_back Question = refl
reason_back Form = refl
reason_back Device = refl
reason_back Fuse = refl
reason_back FuseSum = refl
reason_back ByteSum = refl
reason_back Model = refl
reason_back Map = refl
reason_back Value = refl

refusal_of : Numbered → Refusal
refusal_of n = record { reason = reason_of n.number; place = n.place }

back : {A : Type 0} → Result A Numbered → Result A Refusal
back (Ok a) = Ok a
back (Err n) = Err (refusal_of n)

back_answered : {A : Type 0} (r : Result A Refusal) → back (answered r) ≡ r
unfolding back refusal_of
back_answered (Ok a) = refl
back_answered (Err r) = ap (λ (q : Reason). Err (record { reason = q; place = r.place })) (reason_back r.reason)

-- two answers that are the same by number are the same
pub answered_once : {A : Type 0} (a b : Result A Refusal) → answered a ≡ answered b → a ≡ b
answered_once a b e = sym (back_answered a) ∙ ap back e ∙ back_answered b

-- two reasons with one number are one
pub number_of_once : (a b : Reason) → number_of a ≡ number_of b → a ≡ b
number_of_once a b e = sym (reason_back a) ∙ ap reason_of e ∙ reason_back b
