-- The two levels of operators as one: what stands between the operators, a turn, the chain and the whole, by the level. Document 01, 'The language we
-- take'.
use Rattle.std.specs.Prelude.{ℕ, suc, Bool, List, length, ℤ}
use Rattle.grammar.specs.Outcome.{Outcome, Turn}
use Rattle.grammar.specs.Grammar.{is_sum, is_product, turn, chain}
use Rattle.judging.specs.Reading.{State, reads}
use Rattle.readers.specs.Readers.{factor_of, term_of, expression_of}
use Rattle.readers.specs.declared.Level.{Level}
use Rattle.readers.specs.declared.Level.TheVariants.{Sum, Product}

-- the operators of a level
abbrev pub among : Level → ℕ → Bool
among Sum = is_sum
among Product = is_product

module _ (s t : List ℕ) (d : ℕ) where
  -- what stands between them: terms, or factors
  abbrev pub operand_of : Level → ℕ → ℕ → State → Outcome State ℤ
  operand_of Sum = term_of s t d
  operand_of Product = factor_of s t d

  -- behind a first operand, one turn and all of them
  abbrev pub turn_of : Level → ℕ → ℤ → ℕ → State → Turn State ℤ
  turn_of l o = turn (reads s t) s o (among l) (operand_of l o)

  abbrev pub chain_of : Level → ℕ → ℤ → ℕ → State → Outcome State ℤ
  chain_of l o = chain (reads s t) s o (among l) (operand_of l o) (suc (length s))

  -- the whole: an expression, or a term
  abbrev pub level_of : Level → ℕ → ℕ → State → Outcome State ℤ
  level_of Sum = expression_of s t d
  level_of Product = term_of s t d
