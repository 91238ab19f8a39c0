use Rattle.std.proofs.Common.{ℕ, ◌^◌, ◌≤◌}
use Rattle.std.proofs.Math.Pow.{pow_mono}

pub few : (n : ℕ) → n ≤ 10 → 2 ^ n ≤ 1024
few n h = pow_mono h
