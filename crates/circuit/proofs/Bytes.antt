-- A test's answers in bytes. Assumes nothing.
use mathlib.Core.Path.{◌≡◌, sym, ap, ◌∙◌}
use mathlib.Core.Bool.{Bool}
use mathlib.Core.List.{List}
use Prim.Native.Nat.{ℕ, ◌+◌, ◌≤◌, ◌<◌}
use native.Mathlib.Omega.{arith}
use lib.ListN.{length, get_or, set, length-set}
use lib.Seq.{ext_get_or}
use Rattle.basics.specs.Choice.{bit}
use Rattle.basics.specs.Below.{listed}
use Rattle.basics.proofs.Folds.{listed_at, listed_length}
use Rattle.basics.proofs.Store.{stored}
use Rattle.circuit.specs.Judged.{AsBytes}

-- the first i of n are there
pub record Filled (says : ℕ → Bool → Type 0) (n : ℕ) (bytes : List ℕ) (i : ℕ) : Type 0 where
  pub size : length bytes ≡ n
  pub holds : (k : ℕ) → k < i → (b : Bool) × (says k b × (get_or bytes k 0 ≡ bit b))

pub filled_start : {says : ℕ → Bool → Type 0} (n : ℕ) (bytes : List ℕ) → length bytes ≡ n → Filled says n bytes 0
filled_start n bytes h = record { size = h; holds = λ k l. absurd (omega arith) }

pub filled_more : {says : ℕ → Bool → Type 0} (n : ℕ) (bytes : List ℕ) (i v : ℕ) (b : Bool) → i < n → Filled says n bytes i → says i b → v ≡ bit b → Filled says n (set bytes i v) (i + 1)
filled_more {says} n bytes i v b h c s e =
    let z = c.size in
    record {
      size = length-set bytes i v ∙ c.size;
      holds = stored (λ k x. (b : Bool) × (says k b × (x ≡ bit b))) bytes i v (omega arith) c.holds (b, (s, e));
    }

pub filled_end : {says : ℕ → Bool → Type 0} (n : ℕ) (bytes : List ℕ) (i : ℕ) → n ≤ i → Filled says n bytes i → AsBytes says n bytes
filled_end n bytes i h c = record { size = c.size; holds = λ k l. c.holds k (omega arith) }

-- where the test says f
pub listed_bits : {says : ℕ → Bool → Type 0} (f : ℕ → Bool) (n : ℕ) (bytes : List ℕ) → ((k : ℕ) (b : Bool) → k < n → says k b → b ≡ f k) → AsBytes says n bytes → bytes ≡ listed (λ k. bit (f k)) n
listed_bits f n bytes s c = ext_get_or 0 bytes (listed (λ k. bit (f k)) n) (c.size ∙ sym (listed_length (λ k. bit (f k)) n)) at
  where
    at : (k : ℕ) → k < length bytes → get_or bytes k 0 ≡ get_or (listed (λ k. bit (f k)) n) k 0
    at k h =
        let z = c.size in
        let l : k < n = omega arith in
        let w = c.holds k l in
        w.1.1 ∙ ap bit (s k w.0 l w.1.0) ∙ sym (listed_at (λ k. bit (f k)) n k l)
