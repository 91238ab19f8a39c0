-- A list written from its front: byte after byte, the rest as it was.
-- Assumes nothing.
use mathlib.Core.Path.{◌≡◌, refl, sym, ap, ◌∙◌}
use mathlib.Core.Logic.{⊎_elim}
use mathlib.Core.List.{List, ◌++◌, append-nil}
use Prim.Native.Nat.{ℕ, ◌+◌, ◌-◌, ◌≤◌, ◌<◌}
use native.Mathlib.Omega.{arith}
use lib.ListN.{length, get_or, set, drop, length-set, length-append, length-drop, drop_of_length-le, get_or-append}
use lib.Seq.{ext_get_or, get_or-drop, get_or-append-add}
use lib.Dec.{eqb, eqb→eq}
use mathlib.Core.Bool.{true}
use Rattle.basics.proofs.Truth.{and_l, of_true}
use Rattle.gallines.specs.Lines.{formed}
use Rattle.basics.specs.Below.{listed}
use Rattle.basics.proofs.Store.{stored, kept, below_or_not}
use Rattle.basics.proofs.Folds.{listed_length, listed_at}

pub record Writing (f : ℕ → ℕ) (n : ℕ) (t₀ t : List ℕ) (i : ℕ) : Type 0 where
  pub under : i ≤ n
  pub size : length t ≡ length t₀
  pub done : (j : ℕ) → j < i → get_or t j 0 ≡ f j
  pub left : (j : ℕ) → i ≤ j → get_or t j 0 ≡ get_or t₀ j 0

pub start : (f : ℕ → ℕ) (n : ℕ) (t : List ℕ) → Writing f n t t 0
start f n t = record { under = omega arith; size = refl; done = λ j h. absurd (omega arith); left = λ j h. refl }

pub step : (f : ℕ → ℕ) (n : ℕ) (t₀ t : List ℕ) (i v : ℕ) → i < n → n ≤ length t₀ → Writing f n t₀ t i → v ≡ f i → Writing f n t₀ (set t i v) (i + 1)
step f n t₀ t i v h l c e =
    let z = c.size in
    record {
      under = omega arith;
      size = length-set t i v ∙ z;
      done = stored (λ j x. x ≡ f j) t i v (omega arith) c.done e;
      left = λ j k. kept t i v j k ∙ c.left j (omega arith);
    }

pub end : (f : ℕ → ℕ) (n : ℕ) (t₀ t : List ℕ) (i : ℕ) → n ≤ i → n ≤ length t₀ → Writing f n t₀ t i → t ≡ listed f n ++ drop n t₀
end f n t₀ t i h l c =
    let u = c.under in
    let z = c.size in
    let d = listed_length f n in
    let a = length-append (listed f n) (drop n t₀) in
    let b = length-drop n t₀ in
    ext_get_or 0 t (listed f n ++ drop n t₀) (omega arith) (λ j k. ⊎_elim (λ (p : j < n). c.done j (omega arith) ∙ sym (front j p)) (λ (p : n ≤ j). c.left j (omega arith) ∙ sym (rest j p)) (below_or_not j n))
  where
    front : (j : ℕ) → j < n → get_or (listed f n ++ drop n t₀) j 0 ≡ f j
    front j p = let d = listed_length f n in get_or-append (listed f n) (drop n t₀) 0 j (omega arith) ∙ listed_at f n j p

    rest : (j : ℕ) → n ≤ j → get_or (listed f n ++ drop n t₀) j 0 ≡ get_or t₀ j 0
    rest j p =
        let d = listed_length f n in
        let e : j ≡ length (listed f n) + (j - n) = omega arith in
        let g : n + (j - n) ≡ j = omega arith in
        ap (λ (k : ℕ). get_or (listed f n ++ drop n t₀) k 0) e ∙ get_or-append-add (listed f n) (drop n t₀) (j - n) 0 ∙ get_or-drop n t₀ (j - n) 0 ∙ ap (λ (k : ℕ). get_or t₀ k 0) g

-- the whole of a list written anew
pub whole : (f : ℕ → ℕ) (t₀ t : List ℕ) (i : ℕ) → length t₀ ≤ i → Writing f (length t₀) t₀ t i → t ≡ listed f (length t₀)
whole f t₀ t i h c =
    end f (length t₀) t₀ t i h (omega arith) c ∙ ap (λ (r : List ℕ). listed f (length t₀) ++ r) (drop_of_length-le t₀ {i = length t₀} (omega arith)) ∙ append-nil (listed f (length t₀))

-- a line that is formed has its length
pub formed_size : (line : List ℕ) → formed line ≡ true → length line ≡ 35
unfolding formed
formed_size line e = eqb→eq (length line) 35 (and_l (eqb (length line) 35) (eqb (get_or line 10 0) 32) (of_true _ e))
