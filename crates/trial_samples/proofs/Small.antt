-- What the derivations of the sample share.
use Rattle.std.proofs.Common.{◌≡◌, ℕ, zero, suc, arith, AllPairs, ◌==◌, Bool, true, false, not, ◌<◌, List, [], ◌∷◌, All, Some, None, IsTrue, refl, subst, inl, inr, T, ltb, ◌^◌, slice_get, ◌++◌}
use Rattle.std.proofs.Math.Facts.{sfits_lit}
use Rattle.std.proofs.lemmas.Bool.{false≢true}
use Rattle.std.proofs.lemmas.List.Elements.{All-nil, All-cons}
use Rattle.lang_base.specs.declared.elems.Elem.TheVariants.{Name}
use Rattle.lang_base.specs.declared.effect.Effect.{Effect}
use Rattle.lang_base.specs.declared.region.Rpl.{Rpl}
use Rattle.lang_base.specs.Branches.{atomic_path}
use Rattle.lang_base.specs.Types.{PlainType, int, boolean}
use Rattle.lang_typed.specs.Effects.{Own}
use Rattle.lang_typed.specs.Plain.{TypedStmt, more_stmts, no_stmts}
use Rattle.lang_typed.specs.Scope.{Scope, atomic_in, constant, frozen, variable}
use Rattle.lang_typed.specs.Statements.{AllPass, Passes, SameEffects, then', no_more}
use Rattle.lang_typed.specs.Types.{GoodArgs, GoodElem, GoodPath, Known, Readable}
use Rattle.lang_typed.specs.Typing.{Has, Takes, literal_int, operation, read_local}
use Rattle.lang_typed.specs.Samples.{below_root, number}
use Rattle.lang_base.specs.declared.op.BinaryOp.{BinaryOp}
use Rattle.lang_base.specs.declared.op.Operands.{Operands}
use Rattle.lang_base.specs.declared.op.Operands.TheVariants.{Ints, Same}
use Rattle.lang_base.specs.Operators.{operands_of, result_of}
use Rattle.lang_typed.specs.Plain.{ExprForm as expr}
use Rattle.trial_samples.specs.Sample.{sample, an_int, calculated, compared, local_of}

pub some_is : {A : Type 0} (x y : A) → Some x ≡ Some y → x ≡ y
some_is x y e = cc

pub nothing_there : {A : Type 0} {B : Type 0} (x : A) → None ≡ Some x → B
nothing_there x e = absurd (cc)

-- what holds of each element of a list, by its position
abbrev pub Each : {A : Type 0} → (ℕ → A → Type 0) → List A → Type 0
Each Q [] = Unit {0}
Each Q (x ∷ xs) = Q 0 x × Each (λ n. Q (suc n)) xs

pub each_of : {A : Type 0} (Q : ℕ → A → Type 0) (xs : List A) → Each Q xs → (n : ℕ) (x : A) → slice_get xs n ≡ Some x → Q n x
each_of Q [] h n x e = nothing_there x e
each_of Q (y ∷ ys) h zero x e = subst (Q 0) (some_is y x e) h.0
each_of Q (y ∷ ys) h (suc n) x e = each_of (λ m. Q (suc m)) ys h.1 n x e

pub all_one : {A : Type 0} (P : A → Type 0) (x : A) → P x → All P (x ∷ [])
all_one P x h = All-cons P x [] h (All-nil P)

pub all_two : {A : Type 0} (P : A → Type 0) (x y : A) → P x → P y → All P (x ∷ y ∷ [])
all_two P x y h k = All-cons P x (y ∷ []) h (all_one P y k)

-- an int is known and can be read, whatever the arguments
pub int_known : (args : List Rpl) → Known args int
int_known args p h = absurd (false≢true h)

pub int_readable : (args : List Rpl) → Readable args int
int_readable args p h = absurd (false≢true h)

-- all members but `main` reach no nd construct
abbrev pub nd_free : ℕ → Bool
nd_free n = not (n == 5)

-- one statement alone
pub alone : {L : Scope} {s : TypedStmt} {E : List Own} → Passes sample L s E → AllPass sample L (more_stmts s no_stmts) (E ++ [])
alone p = then' p (inr refl) no_more

-- a small number
pub small : {L : Scope} (k : ℕ) → T (ltb k (2 ^ 31)) → Has sample L (number k) []
small k h = literal_int (sfits_lit h)

-- locals that are variables, read alone, or final
pub var : {L : Scope} {x : ℕ} {t : PlainType} → L.local x ≡ Some (variable t) → Has sample L (local_of t x) []
var h = read_local (inl h)

pub outer : {L : Scope} {x : ℕ} {t : PlainType} → L.local x ≡ Some (frozen t) → Has sample L (local_of t x) []
outer h = read_local (inr (inl h))

pub fixed : {L : Scope} {x : ℕ} {t : PlainType} → L.local x ≡ Some (constant t) → Has sample L (local_of t x) []
fixed h = read_local (inr (inr h))

-- an operation on two ints
ints_fit : (o : Operands) → Takes o int int
ints_fit Ints = (refl, refl)
ints_fit Same = inl (refl, refl)

pub calculates : {L : Scope} {o : BinaryOp} {f g : expr} {E F : List Own} → Has sample L (an_int f) E → Has sample L (an_int g) F
    → int ≡ result_of o → Has sample L (calculated o (an_int f) (an_int g)) (E ++ F)
calculates {o = o} h k e = operation h k (ints_fit (operands_of o)) e

pub compares : {L : Scope} {o : BinaryOp} {f g : expr} {E F : List Own} → Has sample L (an_int f) E → Has sample L (an_int g) F
    → boolean ≡ result_of o → Has sample L (compared o (an_int f) (an_int g)) (E ++ F)
compares {o = o} h k e = operation h k (ints_fit (operands_of o)) e

-- a name that is declared, as a region
pub named_good : (L : Scope) (depth n : ℕ) → n < 3 → GoodPath sample L depth (below_root (Name n ∷ []))
named_good L depth n h = record { begins = tt; elems = all_one (GoodElem sample L depth) (Name n) h }

-- one region argument for a parameter that isn't atomic
pub one_arg : (L : Scope) (others : List Rpl) (a : Rpl) → GoodPath sample L 0 a → GoodArgs sample L 0 (false ∷ []) [] others (a ∷ [])
one_arg L others a h = record { arity = refl; paths = all_one (GoodPath sample L 0) a h; atomic = none; hold = All-nil _ }
  where
    none : (p : ℕ) (b : Rpl) → slice_get (false ∷ []) p ≡ Some true → slice_get (a ∷ []) p ≡ Some b → IsTrue (atomic_path (atomic_in sample L) b)
    none zero b e k = absurd (false≢true (some_is false true e))
    none (suc p) b e k = nothing_there true e

-- what holds of each pair of a list of two
pub of_pair : {A : Type 0} (Q : A → A → Type 0) (x y : A) → Q x y → AllPairs Q (x ∷ y ∷ [])
of_pair Q x y h zero (suc zero) d lt in_list = h
of_pair Q x y h zero zero d lt in_list = absurd (omega arith)
of_pair Q x y h zero (suc (suc j)) d lt in_list = absurd (omega arith)
of_pair Q x y h (suc i) zero d lt in_list = absurd (omega arith)
of_pair Q x y h (suc i) (suc j) d lt in_list = absurd (omega arith)

-- and for one that is
pub one_atomic_arg : (L : Scope) (a : Rpl) → GoodPath sample L 0 a → IsTrue (atomic_path (atomic_in sample L) a) → GoodArgs sample L 0 (true ∷ []) [] [] (a ∷ [])
one_atomic_arg L a h is = record { arity = refl; paths = all_one (GoodPath sample L 0) a h; atomic = one; hold = All-nil _ }
  where
    one : (p : ℕ) (b : Rpl) → slice_get (true ∷ []) p ≡ Some true → slice_get (a ∷ []) p ≡ Some b → IsTrue (atomic_path (atomic_in sample L) b)
    one zero b e k = subst (λ c. IsTrue (atomic_path (atomic_in sample L) c)) (some_is a b k) is
    one (suc p) b e k = nothing_there true e

-- for no parameters
pub no_args : (L : Scope) (others : List Rpl) → GoodArgs sample L 0 [] [] others []
no_args L others = record { arity = refl; paths = All-nil (GoodPath sample L 0); atomic = λ p a e. nothing_there true e; hold = All-nil _ }

pub same_effects : (F : List Effect) → SameEffects F F
same_effects F e = (λ h. h, λ h. h)
