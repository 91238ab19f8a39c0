-- What an operator gives of numbers within -65,535 to 65,535 is within them.
-- Assumes nothing.
use mathlib.Core.Path.{◌≡◌, refl}
use mathlib.Core.Bool.{Bool, true, false}
use Prim.Native.Nat.{ℕ, zero, suc, ◌/◌, ◌%◌, ◌^◌, ◌<◌, ◌≤◌}
use native.Mathlib.Nat.{mod-lt, div-le_self, le_trans, lt_of_le_of_lt, pow-le-pow_right}
use native.Mathlib.Omega.{arith}
use lib.Dec.{leb, eqb}
use lib.IntN.{ℤ, pos, negsuc, ◌+ℤ◌, ◌-ℤ◌, ◌*ℤ◌}
use borrow.Author.Tests.{ltb-true, leb-true, eqb-false, le-leb, lt-ltb}
use Rattle.basics.specs.Choice.{pick}
use Rattle.integers.specs.Integers.{Answer, held, broken, within, fitted, divℤ, modℤ, divided, left_over, powered, combined}

abbrev pub Bounded : ℤ → Type 0
Bounded z = within z ≡ true

abbrev pub BoundedA : Answer → Type 0
BoundedA (held z) = Bounded z
BoundedA broken = Unit {0}

bounded_pick : (b : Bool) (x y : Answer) → (b ≡ true → BoundedA x) → (b ≡ false → BoundedA y) → BoundedA (pick b x y)
bounded_pick true x y p q = p refl
bounded_pick false x y p q = q refl

bounded_fitted : (z : ℤ) → BoundedA (fitted z)
unfolding fitted
bounded_fitted z = bounded_pick (within z) (held z) broken (λ e. e) (λ e. tt)

bounded_div : (a : ℤ) (d : ℕ) → Bounded a → Bounded (divℤ a d)
bounded_div (pos m) d h = le-leb (m / d) 65535 (le_trans (div-le_self m d) (leb-true m 65535 h))
bounded_div (negsuc m) d h = lt-ltb (m / d) 65535 (lt_of_le_of_lt (div-le_self m d) (ltb-true m 65535 h))

mod_under : (a : ℤ) (d : ℕ) → 0 < d → modℤ a d ≤ d
mod_under (pos m) d h = let l : m % d < d = mod-lt m h in omega arith
mod_under (negsuc m) d h = omega arith

above_none : (d : ℕ) → (d ≡ 0 → ⊥) → 0 < d
above_none zero n = absurd (n refl)
above_none (suc d) n = omega arith

bounded_divided : (a b : ℤ) → Bounded a → BoundedA (divided a b)
unfolding divided
bounded_divided a (pos d) h = bounded_pick (eqb d 0) broken (held (divℤ a d)) (λ e. tt) (λ e. bounded_div a d h)
bounded_divided a (negsuc d) h = tt

bounded_left : (a b : ℤ) → Bounded b → BoundedA (left_over a b)
unfolding left_over
bounded_left a (pos d) h =
    bounded_pick (eqb d 0) broken (held (pos (modℤ a d))) (λ e. tt)
    (λ e. le-leb (modℤ a d) 65535 (le_trans (mod_under a d (above_none d (eqb-false d 0 e))) (leb-true d 65535 h)))
bounded_left a (negsuc d) h = tt

bounded_power : (e : ℕ) → e ≤ 15 → 2 ^ e ≤ 65535
bounded_power e h = let l : 2 ^ e ≤ 2 ^ 15 = pow-le-pow_right (omega arith) h in let k : 2 ^ 15 ≤ 65535 = omega arith in le_trans l k

bounded_powered : (a b : ℤ) → BoundedA (powered a b)
unfolding powered
bounded_powered (pos a) (pos e) =
    bounded_pick (eqb a 2) _ broken
    (λ q. bounded_pick (leb e 15) (held (pos (2 ^ e))) broken (λ l. le-leb (2 ^ e) 65535 (bounded_power e (leb-true e 15 l))) (λ l. tt)) (λ q. tt)
bounded_powered (pos a) (negsuc e) = tt
bounded_powered (negsuc a) b = tt

-- Document 01, 'The language we take', the point on numbers: every value lies within -65,535 to 65,535
pub bounded_combined : (k : ℕ) (a b : ℤ) → Bounded a → Bounded b → BoundedA (combined k a b)
unfolding combined
bounded_combined k a b h g =
    bounded_pick (eqb k 43) (fitted (a +ℤ b)) _ (λ e. bounded_fitted (a +ℤ b)) (λ e.
    bounded_pick (eqb k 45) (fitted (a -ℤ b)) _ (λ e. bounded_fitted (a -ℤ b)) (λ e.
    bounded_pick (eqb k 42) (fitted (a *ℤ b)) _ (λ e. bounded_fitted (a *ℤ b)) (λ e.
    bounded_pick (eqb k 203) (divided a b) _ (λ e. bounded_divided a b h) (λ e.
    bounded_pick (eqb k 204) (left_over a b) _ (λ e. bounded_left a b g) (λ e.
    bounded_pick (eqb k 94) (powered a b) broken (λ e. bounded_powered a b) (λ e. tt))))))
