-- Which element meets which as names are replaced (document 01, refusal 9). Assumes nothing.
use Rattle.std.specs.Prelude.{Bool, ◌&&◌, ◌||◌, ℕ, zero, suc, T}

-- i meets j: i names j, or names an element that meets j
pub data Meets (e : ℕ → ℕ → Bool) : ℕ → ℕ → Type 0 where
  here : {i j : ℕ} → T (e i j) → Meets e i j
  on_the_way : {i k j : ℕ} → T (e i k) → Meets e k j → Meets e i j

-- the same, computed: by way of elements below k only. With k above all elements it is Meets (laws `via_meets`, `meets_via`)
unfoldable pub via : (ℕ → ℕ → Bool) → ℕ → ℕ → ℕ → Bool
via e zero i j = e i j
via e (suc k) i j = via e k i j || (via e k i k && via e k k j)
