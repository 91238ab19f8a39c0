-- Small laws of tests, of the first number that passes, and of bits. Assumes nothing.
use mathlib.Core.Path.{◌≡◌, refl, sym}
use mathlib.Core.Logic.{⊎_elim}
use mathlib.Core.Bool.{Bool, true, false, not, ◌&&◌}
use Prim.Native.Nat.{ℕ, zero, suc, ◌<◌}
use native.Mathlib.Omega.{arith}
use lib.Dec.{T, ltb}
use lib.ListN.{get_or}
use borrow.Author.Tests.{ltb-true}
use Rattle.basics.specs.Choice.{pick, xor}
use Rattle.basics.specs.Below.{any_below}
use Rattle.basics.proofs.Truth.{clash, or_cases, true_of}
use Rattle.circuit.specs.StageFive.{first_below}
use Rattle.outputs.specs.Outputs.{ten}

-- some number below n passes: one of them
pub record Some (f : ℕ → Bool) (n : ℕ) : Type 0 where
  pub one : ℕ
  pub small : one < n
  pub passes : f one ≡ true

pub any_some : (f : ℕ → Bool) (n : ℕ) → T (any_below f n) → Some f n
unfolding any_below
any_some f zero t = absurd t
any_some f (suc n) t =
    ⊎_elim
    (λ (u : T (any_below f n)). let s = any_some f n u in let h = s.small in record { one = s.one; small = omega arith; passes = s.passes })
    (λ (u : T (f n)). record { one = n; small = omega arith; passes = true_of (f n) u })
    (or_cases (any_below f n) (f n) t)

-- the first that passes does pass
pub first_passes : (f : ℕ → Bool) (n : ℕ) → ltb (first_below f n) n ≡ true → f (first_below f n) ≡ true
unfolding first_below
first_passes f zero e = let h = ltb-true (first_below f 0) 0 e in absurd (omega arith)
first_passes f (suc n) e = go (λ q. first_passes f n q) (ltb (first_below f n) n) refl (f n) refl e
  where
    go : (ltb (first_below f n) n ≡ true → f (first_below f n) ≡ true) → (b : Bool) → ltb (first_below f n) n ≡ b → (c : Bool) → f n ≡ c → ltb (pick b (first_below f n) (pick c n (suc n))) (suc n) ≡ true → f (pick b (first_below f n) (pick c n (suc n))) ≡ true
    go ih true q c r z = ih q
    go ih false q true r z = r
    go ih false q false r z = let h = ltb-true (suc n) (suc n) z in absurd (omega arith)

-- an entry of ten
pub ten_at : {A : Type 0} (f : ℕ → A) (d : A) (k : ℕ) → k < 10 → get_or (ten f) k d ≡ f k
ten_at f d zero h = refl
ten_at f d (suc zero) h = refl
ten_at f d (suc (suc zero)) h = refl
ten_at f d (suc (suc (suc zero))) h = refl
ten_at f d (suc (suc (suc (suc zero)))) h = refl
ten_at f d (suc (suc (suc (suc (suc zero))))) h = refl
ten_at f d (suc (suc (suc (suc (suc (suc zero)))))) h = refl
ten_at f d (suc (suc (suc (suc (suc (suc (suc zero))))))) h = refl
ten_at f d (suc (suc (suc (suc (suc (suc (suc (suc zero)))))))) h = refl
ten_at f d (suc (suc (suc (suc (suc (suc (suc (suc (suc zero))))))))) h = refl
ten_at f d (suc (suc (suc (suc (suc (suc (suc (suc (suc (suc k)))))))))) h = absurd (omega arith)

-- under a test, what stands behind it need only agree where it passes
pub under : (a b c : Bool) → (a ≡ true → b ≡ c) → (a && b) ≡ (a && c)
under true b c h = h refl
under false b c h = refl

pub and_first : (a b : Bool) → (a && b) ≡ true → a ≡ true
and_first true b e = refl
and_first false b e = absurd (clash (sym e))

pub and_second : (a b : Bool) → (a && b) ≡ true → b ≡ true
and_second true b e = e
and_second false b e = absurd (clash (sym e))

pub not_false : (a : Bool) → not a ≡ false → a ≡ true
not_false true e = refl
not_false false e = absurd (clash e)

pub twice : (a : Bool) → not (not a) ≡ a
twice true = refl
twice false = refl

pub xor_twice : (a b : Bool) → xor a (xor a b) ≡ b
xor_twice true b = twice b
xor_twice false b = refl
