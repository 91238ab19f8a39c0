-- Truth tables of an OUT's function over the variables that it names (document 01, "The device": feedback, and "From equation to rows"; decision 27
-- and 28). For the question a variable is a pin's value, and the function what the pin shows next. For rows it is the complement of the signal of
-- the pin's column pair, and the function the equation's value or what Q takes next. Assumes nothing.
use Rattle.std.specs.Prelude.{Bool, true, ◌&&◌, List, [], ◌∷◌, ◌++◌, ℕ, ◌/◌, ◌%◌, ◌^◌, eqb, leb, ltb, drop}
use Rattle.basics.specs.Choice.{pick, bit, on, xor}
use Rattle.basics.specs.Below.{listed}
use Rattle.trees.specs.Layout.{Elements}
use Rattle.meaning.specs.Meaning.{shows_next, takes_next}
use Rattle.meaning.specs.Circuit.{circuit_of}
use Rattle.pins.specs.Variables.{variables_of, count_of, mask_of}

-- Whether the variable of pin p is the complement of the pin's value. The signal of an input pin is its value, so for rows its variable is the
-- complement; the signal of a registered cell is the inverse of Q, so its variable is Q: the pin's value, or its complement where that is inverted.
unfoldable pub flip_at : Elements → Bool → ℕ → Bool
flip_at e rows p = ltb p 24 && (rows && pick ((circuit_of e).registered p) ((circuit_of e).inverted p) true)

-- each of the pins xs in turn gets a bit of k, lowest bit first, complemented where flip says so; all others are as s says
unfoldable pub set_bits : (ℕ → Bool) → (ℕ → Bool) → List ℕ → ℕ → ℕ → Bool
set_bits flip s [] k = s
set_bits flip s (x ∷ xs) k = set_bits flip (λ p. pick (eqb p x) (xor (flip x) (on (k % 2))) (s p)) xs (k / 2)

-- the setting of the pins where the variables are the bits of k; variables that are not named are 0
abbrev pub setting_at : Elements → Bool → List ℕ → ℕ → ℕ → Bool
setting_at e rows vars k = set_bits (flip_at e rows) (flip_at e rows) vars k

-- the function's value on a setting
abbrev pub outcome : Elements → Bool → ℕ → (ℕ → Bool) → Bool
outcome e rows o s = pick rows (takes_next e o s) (shows_next e o s)

-- entry k of the table
abbrev pub entry_of : Elements → Bool → ℕ → ℕ → Bool
entry_of e rows o k = outcome e rows o (setting_at e rows (variables_of e rows o) k)

-- refusal 11 at the name's declaration, or how many variables there are and which
pub data Tabled : Type 0 where
  table : ℕ → ℕ → Tabled
  many : ℕ → Tabled

unfoldable pub tabled : Elements → Bool → ℕ → Tabled
tabled e rows o = pick (leb (count_of e rows o) 10) (table (count_of e rows o) (mask_of e rows o)) (many (e.place o))

-- what the lent bytes hold then: an entry for each setting of the variables, and behind them what was there
unfoldable pub table_in : Elements → Bool → ℕ → List ℕ → List ℕ
table_in e rows o t =
    pick (leb (count_of e rows o) 10) (listed (λ k. bit (entry_of e rows o k)) (2 ^ count_of e rows o) ++ drop (2 ^ count_of e rows o) t) t
