-- The loop that fills a table. Assumes nothing.
use mathlib.Core.Path.{◌≡◌, refl, sym, ap, ◌∙◌}
use mathlib.Core.Logic.{⊎_elim}
use mathlib.Core.List.{List, ◌++◌}
use Prim.Native.Nat.{ℕ, ◌+◌, ◌-◌, ◌^◌, ◌≤◌, ◌<◌}
use native.Mathlib.Omega.{arith}
use lib.Dec.{leb}
use borrow.Author.Tests.{leb-true}
use lib.ListN.{length, get_or, set, drop, length-set, length-append, length-drop, get_or-append}
use lib.Seq.{ext_get_or, get_or-drop, get_or-append-add}
use Rattle.basics.specs.Below.{listed, all_below}
use Rattle.basics.proofs.Folds.{listed_at, listed_length, all_at}
use Rattle.basics.proofs.Store.{stored, kept, below_or_not}

pub record Filling (f : ℕ → ℕ) (t₀ t : List ℕ) (size k : ℕ) : Type 0 where
  pub same : length t ≡ length t₀
  pub under : k ≤ size
  pub done : (j : ℕ) → j < k → get_or t j 0 ≡ f j
  pub rest : (j : ℕ) → k ≤ j → get_or t j 0 ≡ get_or t₀ j 0

pub filling_start : (f : ℕ → ℕ) (t : List ℕ) (size : ℕ) → Filling f t t size 0
filling_start f t size = record { same = refl; under = omega arith; done = λ j h. absurd (omega arith); rest = λ j h. refl }

pub filling_more : (f : ℕ → ℕ) (t₀ t : List ℕ) (size k v : ℕ) → k < size → size ≤ length t₀ → Filling f t₀ t size k → v ≡ f k → Filling f t₀ (set t k v) size (k + 1)
filling_more f t₀ t size k v h l c e =
    let z = c.same in
    record {
      same = length-set t k v ∙ c.same;
      under = omega arith;
      done = stored (λ j x. x ≡ f j) t k v (omega arith) c.done e;
      rest = λ j m. kept t k v j m ∙ c.rest j (omega arith);
    }

pub filling_end : (f : ℕ → ℕ) (t₀ t : List ℕ) (size k : ℕ) → size ≤ k → size ≤ length t₀ → Filling f t₀ t size k → t ≡ listed f size ++ drop size t₀
filling_end f t₀ t size k h l c = ext_get_or 0 t (listed f size ++ drop size t₀) long at
  where
    first : length (listed f size) ≡ size
    first = listed_length f size

    long : length t ≡ length (listed f size ++ drop size t₀)
    long = let a = length-append (listed f size) (drop size t₀) in let b = length-drop size t₀ in let d = c.same in let g = first in omega arith

    at : (j : ℕ) → j < length t → get_or t j 0 ≡ get_or (listed f size ++ drop size t₀) j 0
    at j m =
        ⊎_elim
        (λ (z : j < size).
        let g = first in
        let u = c.under in
        c.done j (omega arith) ∙ sym (listed_at f size j z) ∙ sym (get_or-append (listed f size) (drop size t₀) 0 j (omega arith)))
        (λ (z : size ≤ j).
        let u = c.under in
        let w : size + (j - size) ≡ j = omega arith in
        c.rest j (omega arith) ∙ sym (beyond j z w))
        (below_or_not j size)
      where
        beyond : (j : ℕ) → size ≤ j → size + (j - size) ≡ j → get_or (listed f size ++ drop size t₀) j 0 ≡ get_or t₀ j 0
        beyond j z w =
            let g = first in
            ap (λ (i : ℕ). get_or (listed f size ++ drop size t₀) i 0) (sym w ∙ ap (λ (i : ℕ). i + (j - size)) (sym first))
            ∙ get_or-append-add (listed f size) (drop size t₀) (j - size) 0
            ∙ get_or-drop size t₀ (j - size) 0
            ∙ ap (λ (i : ℕ). get_or t₀ i 0) w

-- powers of two
pub power_fits : (n x : ℕ) → n < 11 → x ≡ 2 ^ n → x ≤ 1024
unfolding all_below
power_fits n x h e = let a : 2 ^ n ≤ 1024 = leb-true (2 ^ n) 1024 (all_at (λ k. leb (2 ^ k) 1024) 11 refl n h) in omega arith
