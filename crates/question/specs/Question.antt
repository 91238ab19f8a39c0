-- The product question (document 01, "From equation to rows"; "Refusal numbers", 14). Assumes nothing.
use Rattle.std.specs.Prelude.{false, List, ℕ, ◌^◌, ltb, Result, Ok, Err}
use Rattle.basics.specs.Choice.{pick, bit}
use Rattle.basics.specs.Below.{listed}
use Rattle.trees.specs.Layout.{Elements}
use Rattle.meaning.specs.Circuit.{out_at}
use Rattle.pins.specs.Variables.{count_of}
use Rattle.tables.specs.Tables.{entry_of}
use Rattle.sums.specs.Product.{digits, verdict}
use Rattle.basics.specs.Refusal.{number_of}
use Rattle.basics.specs.declared.refusal.Refusal.{Refusal}
use Rattle.engine.specs.Grade.{grade_number}
use Rattle.engine.specs.Table.{function}
use Rattle.engine.specs.declared.Grade.{Grade}

-- what a question comes to: a verdict's number (0 no implicant, 1 implicant, 2 prime), or a refusal's number and place
pub data Asked : Type 0 where
  Verdict : ℕ → Asked
  Refused : ℕ → ℕ → Asked

-- an answer seen so
abbrev pub seen : Result Grade Refusal → Asked
seen (Ok g) = Verdict (grade_number g)
seen (Err r) = Refused (number_of r.reason) r.place

-- the truth table of OUT o over its pins, rising
unfoldable pub question_table : Elements → ℕ → List ℕ
question_table e o = listed (λ k. bit (entry_of e false o k)) (2 ^ count_of e false o)

-- for OUT o: 14 where the number is not below 3^n, else the verdict on the product with that number: 0 no implicant, 1 implicant, 2 prime
unfoldable pub asked_of : Elements → ℕ → ℕ → Asked
asked_of e o number =
    pick (ltb number (3 ^ count_of e false o)) (Verdict (verdict (digits (count_of e false o) number) (function (question_table e o)))) (Refused 14 0)

-- 14 where no OUT is at pin p
unfoldable pub asked : Elements → ℕ → ℕ → Asked
asked e p number = pick (ltb (out_at e p) 64) (asked_of e (out_at e p) number) (Refused 14 0)
