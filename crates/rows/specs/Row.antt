-- Rows of 44 fuses (document 01, "The device" and "From equation to rows"). A row is given by the fuse at each of its columns;
-- pair p has the plain column 2p and the inverse column 2p + 1. Signals of the pairs stand in a list, pair 0 first.
-- Assumes nothing.
use Rattle.std.specs.Prelude.{Bool, not, ◌&&◌, ◌||◌, List, [], ◌∷◌, ℕ, zero, suc, ◌+◌, ◌*◌, ◌/◌, ◌%◌, eqb, get_or}
use Rattle.basics.specs.Choice.{bit, on, pick, xor}
use Rattle.basics.specs.Below.{any_below, all_below, listed}

-- a fuse 0 joins, 1 is open
abbrev pub joins : ℕ → Bool
joins a = eqb a 0

-- the two fuses of a pair at the pair's signal: a joined plain column wants 1, a joined inverse column wants 0
abbrev pub pair_true : ℕ → ℕ → ℕ → Bool
pair_true a b x = (not (joins a) || on x) && (not (joins b) || not (on x))

-- the row is true: each of its pairs is
unfoldable pub true_row : (ℕ → ℕ) → List ℕ → Bool
true_row f sig = all_below (λ p. pair_true (f (p * 2)) (f (p * 2 + 1)) (get_or sig p 0)) 22

-- the row joins both columns of some pair: it is dead
unfoldable pub dead_row : (ℕ → ℕ) → Bool
dead_row f = any_below (λ p. joins (f (p * 2)) && joins (f (p * 2 + 1))) 22

-- ---- the row of a product

-- A product is a number: bit i tells whether variable i is picked, bit 32 + i whether it is picked plain (the variable is wanted 1).
-- Variable i is the complement of the signal of pair 21 - i, so a plain variable joins the inverse column, an inverse one the plain column.
abbrev pub plain_fuse : Bool → Bool → ℕ
plain_fuse picked plain = bit (not (picked && not plain))

abbrev pub inverse_fuse : Bool → Bool → ℕ
inverse_fuse picked plain = bit (not (picked && plain))

-- the pairs of k variables before the fuses that stand already: a has the bits picked, b the bits plain, lowest variable first, which is the last pair
unfoldable pub pairs_from : ℕ → ℕ → ℕ → List ℕ → List ℕ
pairs_from zero a b fs = fs
pairs_from (suc k) a b fs = pairs_from k (a / 2) (b / 2) (plain_fuse (on (a % 2)) (on (b % 2)) ∷ inverse_fuse (on (a % 2)) (on (b % 2)) ∷ fs)

unfoldable pub product_row : ℕ → List ℕ
product_row m = pairs_from 22 (m % 4294967296) (m / 4294967296) []

-- ---- the row of one factor that asks a cell's feedback

-- the signal of cell k's pair where its pin shows v. A combinational cell feeds back its pin. A registered cell feeds back the inverse of Q, and its
-- pin shows Q where S0 is 1, the inverse of Q where S0 is 0
abbrev pub feedback : Bool → Bool → Bool → Bool
feedback registered s0 v = pick registered (not (xor (not s0) v)) v

-- the pair of cell k's pin is pair 2k + 1: its plain column is joined where the signal is wanted 1, else its inverse column
unfoldable pub feedback_fuse : ℕ → Bool → ℕ → ℕ
feedback_fuse k x c = pick (eqb c (4 * k + 2)) (bit (not x)) (pick (eqb c (4 * k + 3)) (bit x) 1)

unfoldable pub feedback_row : ℕ → Bool → Bool → Bool → List ℕ
feedback_row k registered s0 v = listed (feedback_fuse k (feedback registered s0 v)) 44
