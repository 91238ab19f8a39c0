-- What one stage did, as the next definition says it. Assumes nothing.
use mathlib.Core.Path.{◌≡◌, sym, ap}
use mathlib.Core.List.{List}
use Prim.Native.Nat.{ℕ}
use lib.ListN.{replicate}
use Rattle.declare.specs.Declarations.{declarations_of}
use Rattle.texts.specs.Stages.{declared, third}

-- memory of zeros
pub third_from : (s : List ℕ) (a b : ℕ) (parts : List ℕ) → parts ≡ replicate 2588 0 → third s a b ≡ declared s b (declarations_of s a (parts, 0))
unfolding third
third_from s a b parts z = sym (ap (λ (l : List ℕ). declared s b (declarations_of s a (l, 0))) z)
