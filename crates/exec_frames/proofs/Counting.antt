-- A number that counts.
use Rattle.std.proofs.Common.{◌≡◌, ℤ, pos, negsuc, sym, false}
use Rattle.std.proofs.Math.IntN.{nat_abs}
use Rattle.std.specs.Int.Signed.{lt_z}

pub counts_len : (i j : ℤ) → j ≡ i → lt_z j (pos 0) ≡ false → i ≡ pos (nat_abs j)
counts_len i (pos k) e h = sym e
counts_len i (negsuc k) e h = absurd (cc)
