-- A module that stage 5 lets pass has exactly one meaning on each setting of its pins, and the code's order finds it. Assumes nothing.
use mathlib.Core.Path.{◌≡◌, sym, ap, ◌∙◌}
use mathlib.Core.Logic.{⊎_elim}
use mathlib.Core.Bool.{Bool}
use mathlib.Core.List.{List}
use Prim.Native.Nat.{ℕ, ◌≤◌, ◌<◌}
use native.Mathlib.Omega.{arith}
use lib.ListN.{length, get_or, take, get_or-eq_default}
use Rattle.basics.specs.Below.{listed}
use Rattle.basics.proofs.Folds.{listed_at, listed_length, tally_le}
use Rattle.basics.proofs.Store.{below_or_not}
use Rattle.trees.specs.Layout.{elements_of}
use Rattle.trees.specs.Machine.{env_of}
use Rattle.reach.specs.Uses.{uses}
use Rattle.reach.specs.Reach.{via}
use Rattle.reach.specs.Table.{Matrix}
use Rattle.reach.proofs.Meeting.{meets_is}
use Rattle.circuit.specs.StageFive.{stage_five}
use Rattle.circuit.specs.StageFive.Verdict.{fine}
use Rattle.meaning.specs.Meaning.{Solves, meaning}
use Rattle.meaning.specs.Settle.{rank_in, settle_all, Ordered}
use Rattle.meaning.proofs.Unique.{Ranked, unique, exists}
use Rattle.meaning.proofs.Fine.{fine_is, replaced_small}
use Rattle.meaning.proofs.Ranking.{rank_of, ranked, rank_is}
use Rattle.meaning.proofs.Settling.{Ranks, Starts, settled}

module _ (parts : List ℕ) (ok : stage_five (elements_of parts) ≡ fine) where
  falling : Ranked (elements_of parts) (rank_of (elements_of parts))
  falling = ranked (elements_of parts) (replaced_small parts) (λ i h. sym (meets_is (elements_of parts) i i) ∙ (fine_is (elements_of parts) ok).free i h)

  -- the meaning solves the equations
  pub solution : (s : ℕ → Bool) → Solves (elements_of parts) s (meaning (elements_of parts) s)
  solution s = exists (elements_of parts) s (rank_of (elements_of parts)) falling 65 (λ i. let a = tally_le (via (uses (elements_of parts)) 64 i) 64 in omega arith)

  -- and nothing else does
  pub no_other : (s v : ℕ → Bool) → Solves (elements_of parts) s v → (i : ℕ) → v i ≡ meaning (elements_of parts) s i
  no_other s v z = unique (elements_of parts) s (rank_of (elements_of parts)) falling v (meaning (elements_of parts) s) z (solution s)

  module _ (m ranks : List ℕ) (mx : Matrix m (via (uses (elements_of parts)) 64)) (er : ranks ≡ listed (rank_in m) 64) where
    at : (i : ℕ) → i < 64 → get_or ranks i 0 ≡ rank_of (elements_of parts) i
    at i h = ap (λ (l : List ℕ). get_or l i 0) er ∙ listed_at (rank_in m) 64 i h ∙ rank_is (elements_of parts) m mx i h

    size : length ranks ≡ 64
    size = ap length er ∙ listed_length (rank_in m) 64

    small : (i : ℕ) → get_or ranks i 0 < 65
    small i =
        ⊎_elim (λ (h : i < 64). let a = at i h in let b = tally_le (via (uses (elements_of parts)) 64 i) 64 in omega arith)
        (λ (h : 64 ≤ i). let z = size in let b : get_or ranks i 0 ≡ 0 = get_or-eq_default ranks 0 (omega arith) in omega arith)
        (below_or_not i 64)

    pub ranks_are : Ranks (elements_of parts) ranks
    ranks_are =
        record {
          few = replaced_small parts;
          small = small;
          ranked =
              record {
                falls =
                    λ i j ri rj n.
                    let a = at i (replaced_small parts i ri) in
                    let b = at j (replaced_small parts j rj) in
                    let f = falling.falls i j ri rj n in
                    omega arith;
              };
        }

    -- the values that the code finds in order
    pub found : (out : List ℕ) (n : ℕ) → Ordered (elements_of parts) ranks out n → (s : ℕ → Bool) (v₀ v : List ℕ) → Starts (elements_of parts) s v₀
        → v ≡ settle_all (elements_of parts) v₀ (take n out) → env_of v ≡ meaning (elements_of parts) s
    found out n o s v₀ v st e = ap env_of (e ∙ ap (settle_all (elements_of parts) v₀) o.says) ∙ settled (elements_of parts) ranks v₀ s ranks_are st
