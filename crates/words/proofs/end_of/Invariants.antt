use Rattle.std.proofs.Common.{◌≡◌, ℕ, ◌<◌, Bool, drop}
use Rattle.words.specs.Words.{end_of}
use Rattle.words.proofs.end_of.Given as goal

abbrev pub invariant-loop-i : goal.invariant-loop-i
invariant-loop-i g l =
    (p : ℕ → Bool) → ((b : ℕ) (r : Bool) → b < 256 → goal.F-post g l.passes b r → r ≡ p b) → end_of p (drop l.i l.text) l.i ≡ end_of p (drop l.from l.text) l.from
