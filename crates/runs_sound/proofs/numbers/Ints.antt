-- Numbers of 32 bits: what operations give, and what stands in values and answers.
use Rattle.std.proofs.Common.{◌≡◌, ◌<◌, ◌≤◌, ◌+◌, ◌-◌, ◌*◌, ◌/◌, ◌^◌, ◌%◌, ℕ, zero, suc, ℤ, pos, negsuc, Bool, true, false, cond, FitsSigned, sym, subst, arith, Some, None}
use Rattle.std.specs.Prelude.{neg_ℤ, int_rem}
use Rattle.std.specs.Int.{w32, cast_unsigned, cast_signed, int_wrapping_add, int_wrapping_sub, int_wrapping_mul, int_wrapping_div, int_wrapping_neg}
use Rattle.std.specs.Int.Signed.{mag_rem}
use Rattle.std.specs.Ordering.{int_eq}
use Rattle.std.proofs.Math.Facts.{Fits-of_lt, sfits_to_z, sfits_lit}
use Rattle.std.proofs.Math.Nat.{div-le_self}
use Rattle.lang_base.specs.declared.op.BinaryOp.{BinaryOp}
use Rattle.lang_base.specs.declared.op.BinaryOp.TheVariants as op
use Rattle.lang_base.specs.Matching.{Env}
use Rattle.lang_base.specs.Operators.{result_of}
use Rattle.lang_base.specs.Types.{PlainType, int, boolean, void, null, class, array}
use Rattle.lang_typed.specs.Plain.{PlainProgram}
use Rattle.lang_meaning.specs.Counts.{number, operated, length_seen, how_many}
use Rattle.runs_theory.specs.Actions.{Answer, Length}
use Rattle.runs_theory.specs.Objects.{Name, Value, Int, Boolean, Null, Object}
use Rattle.runs_sound.specs.Shapes.{Shapes, IsInt, IsBoolean, FitsIn}

wrapped : (n : ℕ) → n < 2 ^ 32 → FitsSigned w32 (cast_signed w32 n)
wrapped n l = sfits_to_z (Fits-of_lt l)

pub zero_fits : FitsSigned w32 (pos 0)
zero_fits = sfits_lit tt

pub add_fits : (j k : ℤ) → FitsSigned w32 (int_wrapping_add w32 j k)
add_fits j k = wrapped ((cast_unsigned w32 j + cast_unsigned w32 k) % 2 ^ 32) (omega arith)

pub sub_fits : (j k : ℤ) → FitsSigned w32 (int_wrapping_sub w32 j k)
sub_fits j k = wrapped ((cast_unsigned w32 j + (2 ^ 32 - cast_unsigned w32 k)) % 2 ^ 32) (omega arith)

pub mul_fits : (j k : ℤ) → FitsSigned w32 (int_wrapping_mul w32 j k)
mul_fits j k = wrapped ((cast_unsigned w32 j * cast_unsigned w32 k) % 2 ^ 32) (omega arith)

pub neg_fits : (k : ℤ) → FitsSigned w32 (int_wrapping_neg w32 k)
neg_fits k = wrapped ((2 ^ 32 - cast_unsigned w32 k) % 2 ^ 32) (omega arith)

neg_small : (n : ℕ) → cast_unsigned w32 (neg_ℤ (pos n)) < 2 ^ 32
neg_small zero = omega arith
neg_small (suc n) = omega arith

pub div_fits : (j k : ℤ) → FitsSigned w32 j → FitsSigned w32 (int_wrapping_div w32 j k)
div_fits (pos a) (pos b) f = wrapped (a / b) (let l = div-le_self a b in let m = f.sfits in omega (arith, l, m))
div_fits (pos a) (negsuc b) f = wrapped (cast_unsigned w32 (neg_ℤ (pos (a / suc b)))) (neg_small (a / suc b))
div_fits (negsuc a) (pos b) f = wrapped (cast_unsigned w32 (neg_ℤ (pos (suc a / b)))) (neg_small (suc a / b))
div_fits (negsuc a) (negsuc b) f = wrapped (suc a / suc b) (let l = div-le_self (suc a) (suc b) in let m = f.sfits in omega (arith, l, m))

pub rem_fits : (j k : ℤ) → FitsSigned w32 j → FitsSigned w32 (int_rem j k)
rem_fits j k f = record { sfits = (let l = mag_rem j k in let m = f.sfits in omega (arith, l, m)) }

-- the number of a value that fits some type
pub number_fits : (P : PlainProgram) (S : Shapes) (env : Env) (t : PlainType) (v : Value) → FitsIn P S env t v → FitsSigned w32 (number v)
number_fits P S env int (Int k) f = f
number_fits P S env boolean (Int k) f = absurd f
number_fits P S env void (Int k) f = absurd f
number_fits P S env null (Int k) f = absurd f
number_fits P S env (class c args) (Int k) f = absurd f
number_fits P S env (array t a named) (Int k) f = absurd f
number_fits P S env t (Boolean b) f = zero_fits
number_fits P S env t Null f = zero_fits
number_fits P S env t (Object n) f = zero_fits

int_given : (z : ℤ) (w : Value) → FitsSigned w32 z → Some (Int z) ≡ Some w → IsInt w
int_given z w f e = let same : Int z ≡ w = cc in subst IsInt same f

quotient_given : (z k : ℤ) (w : Value) → FitsSigned w32 z → cond (int_eq k (pos 0)) None (Some (Int z)) ≡ Some w → IsInt w
quotient_given z k w f e = go (int_eq k (pos 0)) e
  where
    go : (c : Bool) → cond c None (Some (Int z)) ≡ Some w → IsInt w
    go true e = let absent : None ≡ Some w = e in absurd (cc)
    go false e = int_given z w f e

boolean_given : (b : Bool) (w : Value) → Some (Boolean b) ≡ Some w → IsBoolean w
boolean_given b w e = let same : Boolean b ≡ w = cc in subst IsBoolean same tt

-- what an operation gives is of its result's type
pub operated_fits : (P : PlainProgram) (S : Shapes) (env : Env) (same : Name → Name → Bool) (o : BinaryOp) (v u w : Value) → FitsSigned w32 (number v) →
    operated same o v u ≡ Some w → FitsIn P S env (result_of o) w
operated_fits P S env same op.Add v u w f e = int_given _ w (add_fits (number v) (number u)) e
operated_fits P S env same op.Subtract v u w f e = int_given _ w (sub_fits (number v) (number u)) e
operated_fits P S env same op.Multiply v u w f e = int_given _ w (mul_fits (number v) (number u)) e
operated_fits P S env same op.Divide v u w f e = quotient_given _ (number u) w (div_fits (number v) (number u) f) e
operated_fits P S env same op.Remainder v u w f e = quotient_given _ (number u) w (rem_fits (number v) (number u) f) e
operated_fits P S env same o v u w f e = boolean_given _ w e

-- a length that is seen
pub length_fits : (x : Answer) → (len : ℕ) × (len < 2 ^ 31) × (x ≡ Length len) → FitsSigned w32 (pos (length_seen x))
length_fits x l = subst (λ z. FitsSigned w32 (pos (length_seen z))) (sym l.2) (record { sfits = l.1 })

-- so many iterations have numbers of their own
pub few_iterations : (k : ℤ) → FitsSigned w32 k → how_many k ≤ 2 ^ 32
few_iterations (pos n) f = let l = f.sfits in omega (arith, l)
few_iterations (negsuc n) f = omega arith
