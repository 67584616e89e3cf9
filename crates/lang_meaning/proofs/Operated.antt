-- What an operation gives depends on the numbers of its operands and on whether they are the same.
use Rattle.std.proofs.Common.{◌≡◌, ℤ, pos, Bool, true, false, cond, not, Option, Some, None, refl, ap, ap₂, subst}
use Rattle.std.specs.Prelude.{int_lt, int_rem}
use Rattle.std.specs.Int.{w32, int_wrapping_add, int_wrapping_sub, int_wrapping_mul, int_wrapping_div}
use Rattle.std.specs.Ordering.{int_eq}
use Rattle.lang_base.specs.declared.op.BinaryOp.{BinaryOp}
use Rattle.lang_base.specs.declared.op.BinaryOp.TheVariants as op
use Rattle.lang_meaning.specs.Values.{Value, Int, Boolean}
use Rattle.lang_meaning.specs.Counts.{number, same_value, operated, divided}

-- the same int, the same boolean, or nothing, though objects are named by other names
pub data Alike {N M : Type 0} : Option (Value N) → Option (Value M) → Type 0 where
  neither : Alike None None
  ints : {j k : ℤ} → j ≡ k → Alike (Some (Int j)) (Some (Int k))
  booleans : {a b : Bool} → a ≡ b → Alike (Some (Boolean a)) (Some (Boolean b))

divided_alike : {N M : Type 0} (f : ℤ → ℤ → ℤ) {j k l m : ℤ} → j ≡ l → k ≡ m → Alike {N = N} {M = M} (divided f j k) (divided f l m)
divided_alike {N} {M} f {j} {k} {l} {m} a b = subst (λ (z : ℤ). Alike {N = N} {M = M} (divided f j k) (divided f z m)) a
    (subst (λ (z : ℤ). Alike {N = N} {M = M} (divided f j k) (divided f j z)) b (go (int_eq k (pos 0))))
  where
    go : (t : Bool) → Alike {N = N} {M = M} (cond t None (Some (Int (f j k)))) (cond t None (Some (Int (f j k))))
    go true = neither
    go false = ints refl

pub operated_alike : {N M : Type 0} (s : N → N → Bool) (t : M → M → Bool) (o : BinaryOp) (v w : Value N) (u z : Value M) → number v ≡ number u
    → number w ≡ number z → same_value s v w ≡ same_value t u z → Alike (operated s o v w) (operated t o u z)
operated_alike s t op.Add v w u z h k e = ints (ap₂ (int_wrapping_add w32) h k)
operated_alike s t op.Subtract v w u z h k e = ints (ap₂ (int_wrapping_sub w32) h k)
operated_alike s t op.Multiply v w u z h k e = ints (ap₂ (int_wrapping_mul w32) h k)
operated_alike s t op.Divide v w u z h k e = divided_alike (int_wrapping_div w32) h k
operated_alike s t op.Remainder v w u z h k e = divided_alike int_rem h k
operated_alike s t op.Equal v w u z h k e = booleans e
operated_alike s t op.NotEqual v w u z h k e = booleans (ap not e)
operated_alike s t op.Less v w u z h k e = booleans (ap₂ int_lt h k)
operated_alike s t op.AtMost v w u z h k e = booleans (ap not (ap₂ int_lt k h))
operated_alike s t op.Greater v w u z h k e = booleans (ap₂ int_lt k h)
operated_alike s t op.AtLeast v w u z h k e = booleans (ap not (ap₂ int_lt h k))
