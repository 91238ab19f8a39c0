-- Refusals by their numbers. Document 01, 'Refusal numbers'. Assumes nothing.
use Rattle.std.specs.Prelude.{ℕ, Result, Ok, Err}
use Rattle.basics.specs.declared.refusal.Reason.{Reason}
use Rattle.basics.specs.declared.refusal.Reason.TheVariants.{Length, Grammar, Arithmetic, Name, Index, Limit, Assignment, Register, Loop, Position, Pins, Products, Memory, Question, Form, Device, Fuse, FuseSum, ByteSum, Model, Map, Value}
use Rattle.basics.specs.declared.refusal.Refusal.{Refusal}

-- the number of each reason
abbrev pub number_of : Reason → ℕ
number_of Length = 1
number_of Grammar = 2
number_of Arithmetic = 3
number_of Name = 4
number_of Index = 5
number_of Limit = 6
number_of Assignment = 7
number_of Register = 8
number_of Loop = 9
number_of Position = 10
number_of Pins = 11
number_of Products = 12
number_of Memory = 13
number_of Question = 14
number_of Form = 20
number_of Device = 21
number_of Fuse = 22
number_of FuseSum = 23
number_of ByteSum = 24
number_of Model = 30
number_of Map = 31
number_of Value = 32

-- a refusal as it is printed: a number and a place
pub record Numbered : Type 0 where
  pub number : ℕ
  pub place : ℕ

abbrev pub numbered : Refusal → Numbered
numbered r = record { number = number_of r.reason; place = r.place }

-- what a call answers, with its refusal by number
abbrev pub answered : {A : Type 0} → Result A Refusal → Result A Numbered
answered (Ok a) = Ok a
answered (Err r) = Err (numbered r)

abbrev pub refused : {A : Type 0} → ℕ → ℕ → Result A Numbered
refused n p = Err (record { number = n; place = p })

-- what is wrong, by number: 0 where nothing is
abbrev pub fault_of : {A : Type 0} → Result A Reason → ℕ
fault_of (Ok a) = 0
fault_of (Err r) = number_of r
