-- The pins that an OUT's equation names: as written, names replaced, with or without effect, what a REG contains too, and with a two-part REG its
-- own pin (document 01, refusal 11 and "From equation to rows"; decisions 27, 28). Assumes nothing.
use Rattle.std.specs.Prelude.{Bool, ◌&&◌, ◌||◌, ℕ, eqb}
use Rattle.basics.specs.Below.{any_below}
use Rattle.trees.specs.Layout.{Elements}
use Rattle.reach.specs.Uses.{keeps, remains, writes}
use Rattle.reach.specs.Meeting.{meets}

-- element j is written in the equation of o, or is met from one that is
unfoldable pub mentions : Elements → ℕ → ℕ → Bool
mentions e o j = writes e o j || any_below (λ k. writes e o k && meets e k j) 64

-- an element that remains is at pin p, and is mentioned
abbrev pub mentions_at : Elements → ℕ → ℕ → ℕ → Bool
mentions_at e o p j = remains e j && (eqb (e.pin j) p && mentions e o j)

unfoldable pub names_pin : Elements → ℕ → ℕ → Bool
names_pin e o p = any_below (mentions_at e o p) 64 || (keeps (e.nodes o) && eqb (e.pin o) p)
