-- What a name means at a place: the names that stand there, the newest first, each known by its spelling. Document 01, 'The language we take':
-- a loop variable is local and hides an outer name (decision 21).
use Rattle.std.specs.Prelude.{ℕ, Bool, true, false, ◌&&◌, List, [], ◌∷◌, length, take, drop, eqb, leb, Option, Some, None, ℤ, pos, negsuc}
use Rattle.basics.specs.Choice.{pick}
use Rattle.names.specs.declared.table.Table.{Table}
use Rattle.names.specs.declared.Entry.{Entry as Told}

-- a spelling: how many bytes, and the bytes
pub record Spelling : Type 0 where
  pub size : ℕ
  pub bytes : List ℕ

-- the n bytes of the text at st
unfoldable pub spelling : List ℕ → ℕ → ℕ → Spelling
spelling s st n = record { size = n; bytes = take n (drop st s) }

unfoldable pub same_bytes : List ℕ → List ℕ → Bool
same_bytes [] [] = true
same_bytes [] (b ∷ ys) = false
same_bytes (a ∷ xs) [] = false
same_bytes (a ∷ xs) (b ∷ ys) =
    let r : Bool = same_bytes xs ys in
    eqb a b && r

-- the n bytes at x are those at y
unfoldable pub alike : List ℕ → ℕ → ℕ → ℕ → Bool
alike s n x y = same_bytes (take n (drop x s)) (take n (drop y s))

unfoldable pub same : Spelling → Spelling → Bool
same a b = eqb a.size b.size && same_bytes a.bytes b.bytes

-- What a name stands for. Kind 1 a constant, 3 a loop variable: its number is held by value and size (`number_of`). Kind 2 a signal: value is its
-- first element, size 0 for a BIT, else the array's length.
pub record Entry : Type 0 where
  pub spelt : Spelling
  pub kind : ℕ
  pub value : ℕ
  pub size : ℕ

-- the number of a constant or a loop variable: size 0 is value, any other -(value + 1)
unfoldable pub number_of : ℕ → ℕ → ℤ
number_of v n = pick (eqb n 0) (pos v) (negsuc v)

pub data Sought : Type 0 where
  found : Entry → Sought
  missing : Sought

-- the newest of a spelling
unfoldable pub find : Spelling → List Entry → Sought
find w [] = missing
find w (e ∷ es) =
    let r : Sought = find w es in
    pick (same e.spelt w) (found e) r

-- the names are held as numbers, five for a name: the place and the length of its spelling, its kind, value and size
unfoldable pub entry : List ℕ → ℕ → ℕ → ℕ → ℕ → ℕ → Entry
entry s st n k v m = record { spelt = spelling s st n; kind = k; value = v; size = m }

unfoldable pub entries : List ℕ → List ℕ → List Entry
entries s [] = []
entries s (a ∷ []) = []
entries s (a ∷ n ∷ []) = []
entries s (a ∷ n ∷ k ∷ []) = []
entries s (a ∷ n ∷ k ∷ v ∷ []) = []
entries s (a ∷ n ∷ k ∷ v ∷ m ∷ t) = entry s a n k v m ∷ entries s t

-- what is known of a name: kind, value and size, or nothing
pub data Seen : Type 0 where
  known : ℕ → ℕ → ℕ → Seen
  unknown : Seen

abbrev pub shown : Sought → Seen
shown (found e) = known e.kind e.value e.size
shown missing = unknown

abbrev pub seen_found : Option Told → Seen
seen_found (Some e) = known e.kind e.value e.size
seen_found None = unknown

-- what the name of n bytes at st is, among the names t
unfoldable pub looked_up : List ℕ → List ℕ → ℕ → ℕ → Seen
looked_up s t st n = shown (find (spelling s st n) (entries s t))

-- the names with one more in front. There is room for 128, which the limits on constants, signals and nesting do not pass (32, 64 and 32), and for
-- places up to 65,535, which a text does not reach
unfoldable pub extended : List ℕ → ℕ → ℕ → ℕ → ℕ → ℕ → List ℕ
extended t st n k v m = pick (leb (length t) 635) (pick (leb st 65535) (pick (leb n 65535) (st ∷ n ∷ k ∷ v ∷ m ∷ t) []) []) []

-- the names that a table by value holds
abbrev pub held : Table → List ℕ
held t = drop t.top t.words
