-- A member leaves at the end of its body, or its body doesn't complete.
use Rattle.std.proofs.Common.{◌≡◌, Bool, true, false, ◌&&◌, refl}

pub leaves_nothing : (v a : Bool) → v && a ≡ true → v ≡ true
leaves_nothing true a q = refl
leaves_nothing false a q = absurd (cc)

pub never_ends : (v a : Bool) → v && a ≡ false → (v ≡ false → a ≡ false) → a ≡ false
never_ends true a q h = q
never_ends false a q h = h refl
