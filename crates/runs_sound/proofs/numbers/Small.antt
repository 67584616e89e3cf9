-- Numbers of 32 bits in all slots, answers and results, of whatever types; and programs none of whose constructs has more branches
-- than such a number counts.
use Rattle.std.proofs.Common.{◌≡◌, ◌<◌, ◌+◌, ◌-◌, ◌^◌, ℕ, zero, suc, ◌==◌, ℤ, pos, negsuc, Bool, true, false, cond, FitsSigned, List, [], ◌∷◌, ◌++◌, length, reverse, refl, sym, ap, subst, arith, Option, Some, None}
use Rattle.std.specs.Prelude.{slice_set, Contains}
use Rattle.std.specs.Int.{w32, int_wrapping_add}
use Rattle.std.specs.List.{list_any}
use Rattle.std.proofs.lemmas.List.{reverse-append}
use Rattle.lang_base.specs.declared.op.BinaryOp.{BinaryOp}
use Rattle.lang_base.specs.declared.op.UnaryOp.{UnaryOp}
use Rattle.lang_base.specs.declared.op.UnaryOp.TheVariants.{Negate, Not}
use Rattle.lang_base.specs.Operators.{result_of}
use Rattle.lang_typed.specs.declared.stmt.Forking.{Forking}
use Rattle.lang_typed.specs.Plain.{PlainProgram, PlainMember, TypedBranches, no_branches, more_branches}
use Rattle.lang_typed.proofs.Narrow.{width, AllNarrow}
use Rattle.lang_typed.specs.Scope.{member_at}
use Rattle.lang_meaning.specs.Core.{Goes_on, Returns}
use Rattle.lang_meaning.specs.Counts.{number, value_read, length_seen, name_made, operated, unary, slot_value, padded, part_first, part_length, part_begin, is_part, how_many, copied, copied_one}
use Rattle.lang_meaning.specs.Counts.{Back as Brings_back, Trap_of_branch}
use Rattle.lang_meaning.specs.Statements.{begun, tasks_of}
use Rattle.runs_theory.specs.Actions.{Task, Own, Rest, Read, Write, Look, New, Print, Enter, Exit, Answer, Went, Got, Out, Class, Length, Named, Joined, Fell}
use Rattle.runs_theory.specs.Objects.{Name, Value, Int, Null}
use Rattle.runs_sound.specs.Accesses.{Bounds}
use Rattle.runs_sound.specs.Branches.{Forks, Brings}
use Rattle.runs_sound.specs.Frames.{Frame, State}
use Rattle.runs_sound.specs.Settings.{class_env}
use Rattle.runs_sound.specs.Shapes.{Shapes, Shape, object, elements}
use Rattle.runs_sound.specs.Work.{Result, Brought, Moves, Touches, ReadFits, WriteFits, LookFits, Answers}
use Rattle.runs_sound.proofs.numbers.Ints.{zero_fits, add_fits, neg_fits, operated_fits, number_fits}
use Rattle.runs_sound.proofs.paths.Places.{part_fits}

abbrev pub IsSmall : Value → Type 0
IsSmall v = FitsSigned w32 (number v)

-- in each slot
abbrev pub AreSmall : List Value → Type 0
AreSmall vs = (x : ℕ) → IsSmall (slot_value vs x)

abbrev pub SmallResult : Result → Type 0
SmallResult (Goes_on v f) = IsSmall v × AreSmall f.values
SmallResult (Returns v) = IsSmall v

-- the value that is read, or the length that is seen
pub record SmallAnswer (x : Answer) : Type 0 where
  pub read : (v : Value) → value_read x ≡ Some v → IsSmall v
  pub seen : FitsSigned w32 (pos (length_seen x))

abbrev pub SmallLocals : List (ℕ × Value) → Type 0
SmallLocals ls = (x : ℕ) (v : Value) → Contains ls (x, v) → IsSmall v

abbrev pub SmallBrought : Brought → Type 0
SmallBrought (Brings_back ls) = SmallLocals ls
SmallBrought (Trap_of_branch trap place) = Unit {0}

pub small_name : (x : Answer) → IsSmall (name_made x)
small_name (Named n) = zero_fits
small_name (Got v) = zero_fits
small_name Out = zero_fits
small_name Went = zero_fits
small_name (Class c rs) = zero_fits
small_name (Length k) = zero_fits
small_name (Joined ls) = zero_fits
small_name (Fell trap place) = zero_fits

pub small_unary : (o : UnaryOp) (v : Value) → IsSmall (unary o v)
small_unary Negate v = neg_fits (number v)
small_unary Not v = zero_fits

pub small_operated : (P : PlainProgram) (same : Name → Name → Bool) (o : BinaryOp) (v u w : Value) → IsSmall v → operated same o v u ≡ Some w → IsSmall w
small_operated P same o v u w h e = number_fits P (λ n. None) (class_env []) (result_of o) w (operated_fits P (λ n. None) (class_env []) same o v u w h e)

-- slots
pub small_nil : AreSmall []
small_nil zero = zero_fits
small_nil (suc x) = zero_fits

pub small_cons : (v : Value) (vs : List Value) → IsSmall v → AreSmall vs → AreSmall (v ∷ vs)
small_cons v vs h s zero = h
small_cons v vs h s (suc x) = s x

pub small_set : (vs : List Value) (y : ℕ) (v : Value) → AreSmall vs → IsSmall v → AreSmall (slice_set vs y v)
small_set [] y v s h = s
small_set (u ∷ vs) zero v s h = small_cons v vs h (λ x. s (suc x))
small_set (u ∷ vs) (suc y) v s h = small_cons u (slice_set vs y v) (s zero) (small_set vs y v (λ x. s (suc x)) h)

small_append : (vs us : List Value) → AreSmall vs → AreSmall us → AreSmall (vs ++ us)
small_append [] us s h = h
small_append (v ∷ vs) us s h = small_cons v (vs ++ us) (s zero) (small_append vs us (λ x. s (suc x)) h)

pub small_reverse : (vs : List Value) → AreSmall vs → AreSmall (reverse vs)
small_reverse [] s = s
small_reverse (v ∷ vs) s = subst AreSmall (sym (reverse-append (v ∷ []) vs)) (small_append (reverse vs) (v ∷ []) (small_reverse vs (λ x. s (suc x))) (small_cons v [] (s zero) small_nil))

pub small_padded : (n : ℕ) (vs : List Value) → AreSmall vs → AreSmall (padded n vs)
small_padded zero vs s = small_nil
small_padded (suc n) [] s = small_cons Null (padded n []) zero_fits (small_padded n [] s)
small_padded (suc n) (v ∷ vs) s = small_cons v (padded n vs) (s zero) (small_padded n vs (λ x. s (suc x)))

pub small_copied : (slots : List ℕ) (ls : List (ℕ × Value)) (vs : List Value) → SmallLocals ls → AreSmall vs → AreSmall (copied slots ls vs)
small_copied slots [] vs h s = s
small_copied slots (l ∷ ls) vs h s =
    small_copied slots ls (copied_one slots l.0 l.1 vs) (λ x v c. h x v (suc c.0, (let k = c.1 in omega (arith, k)), c.2)) (one (list_any (λ y. l.0 == y) slots))
  where
    one : (c : Bool) → AreSmall (cond c (slice_set vs l.0 l.1) vs)
    one false = s
    one true = small_set vs l.0 l.1 s (h l.0 l.1 (0, omega arith, refl))

first_small : (k : ℕ) (vs : List Value) → FitsSigned w32 (part_first k vs)
first_small k vs = go (is_part (number (slot_value vs (k + 2))) (number (slot_value vs (k + 3))) (number (slot_value vs (k + 4))))
    (pos (part_begin (number (slot_value vs (k + 2))) (number (slot_value vs (k + 3))) (number (slot_value vs (k + 4)))))
  where
    go : (c : Bool) (j : ℤ) → FitsSigned w32 (cond c (int_wrapping_add w32 (number (slot_value vs (k + 1))) j) (pos 0))
    go true j = add_fits (number (slot_value vs (k + 1))) j
    go false j = zero_fits

pub small_begun : (takes : Option ℕ) (f : Frame) → AreSmall f.values → AreSmall (begun takes f).values
small_begun None f s = s
small_begun (Some k) f s =
    small_set (slice_set f.values (k + 1) (Int (part_first k f.values))) (k + 2) (Int (part_length k f.values))
    (small_set f.values (k + 1) (Int (part_first k f.values)) s (first_small k f.values))
    (part_fits Null (pos 0) (number (slot_value f.values (k + 2))) (number (slot_value f.values (k + 3))) (number (slot_value f.values (k + 4))) (s (k + 2)))

-- answers to actions that are in order, and what is brought back
same_read : {x y : Answer} → x ≡ y → SmallAnswer y → SmallAnswer x
same_read e h = subst SmallAnswer (sym e) h

null_read : (v : Value) → ◌≡◌ {A = Option Value} (Some Null) (Some v) → IsSmall v
null_read v e = let same : Null ≡ v = cc in subst IsSmall same zero_fits

went_small : SmallAnswer Went
went_small = record { read = λ v e. null_read v e; seen = zero_fits }

out_small : SmallAnswer Out
out_small = record { read = λ v e. absurd (let absent : None ≡ Some v = e in cc); seen = zero_fits }

named_small : (n : Name) → SmallAnswer (Named n)
named_small n = record { read = λ v e. null_read v e; seen = zero_fits }

read_small : {P : PlainProgram} {S : Shapes} {n : Name} {i : ℤ} (c : Touches P S n i) (T : Shapes) (x : Answer) → ReadFits c T x → SmallAnswer x
read_small {P} c T (Got v) h =
    record { read = λ u e. (let same : v ≡ u = cc in subst IsSmall same (number_fits P T c.env c.ty v h)); seen = zero_fits }
read_small c T Out h = out_small
read_small c T Went h = absurd h
read_small c T (Class d rs) h = absurd h
read_small c T (Length len) h = absurd h
read_small c T (Named n) h = absurd h
read_small c T (Joined ls) h = absurd h
read_small c T (Fell trap place) h = absurd h

write_small : {P : PlainProgram} {S : Shapes} {n : Name} {i : ℤ} (c : Touches P S n i) (x : Answer) → WriteFits c x → SmallAnswer x
write_small c Went h = went_small
write_small c Out h = out_small
write_small c (Got v) h = absurd h
write_small c (Class d rs) h = absurd h
write_small c (Length len) h = absurd h
write_small c (Named n) h = absurd h
write_small c (Joined ls) h = absurd h
write_small c (Fell trap place) h = absurd h

look_small : (s : Shape) (x : Answer) → LookFits s x → SmallAnswer x
look_small (object c rs) x h = same_read h (record { read = λ v e. null_read v e; seen = zero_fits })
look_small (elements g t a) x h = same_read h.2 (record { read = λ v e. null_read v e; seen = record { sfits = h.1 } })

pub small_answers : (P : PlainProgram) (b : Bounds) (st : State) (o : Own) (m : Moves P b st o) (x : Answer) (h : State) → Answers P b st o m x h → SmallAnswer x
small_answers P b st (Read n i) m x h a = read_small m.cell h.shapes x a
small_answers P b st (Write n i v) m x h a = write_small m.0.cell x a
small_answers P b st (Look n) m x h a = look_small m.0 x a
small_answers P b st (New thing constructor) m x h a = same_read a.1 (named_small a.0)
small_answers P b st Rest m x h a = same_read a went_small
small_answers P b st (Print bytes) m x h a = same_read a went_small
small_answers P b st (Enter effects) m x h a = same_read a went_small
small_answers P b st Exit m x h a = same_read a went_small

pub small_brings : (P : PlainProgram) (b : Bounds) (st : State) (forking : Forking) (ts : List Task) (forks : Forks P b st forking ts) (h : State) (x : Brought) →
    Brings P b st forking ts forks h x → SmallBrought x
small_brings P b st forking ts forks h (Brings_back ls) z = λ x v c. (let r = z x v c in number_fits P h.shapes _ r.ty v r.fits)
small_brings P b st forking ts forks h (Trap_of_branch trap place) z = tt

-- no `cobegin` of the text has more branches than a number of 32 bits counts
abbrev pub most : ℕ
most = 2 ^ 32 - 1

abbrev pub HasFew : PlainProgram → Type 0
HasFew P = (n : ℕ) (m : PlainMember) → member_at P n ≡ Some m → AllNarrow most m.body

pub many_tasks : (bs : TypedBranches) (f : Frame) → length (tasks_of bs f) ≡ width bs
many_tasks no_branches f = refl
many_tasks (more_branches copies s bs) f = ap (λ n. suc n) (many_tasks bs f)

pub few_counted : (k : ℤ) → FitsSigned w32 k → how_many k < 2 ^ 32
few_counted (pos n) h = let l = h.sfits in omega (arith, l)
few_counted (negsuc n) h = omega arith
