-- A use of a value or an answer of the right kind is in order as the meaning has it.
use Rattle.std.proofs.Common.{◌≡◌, inl, inr, ℕ, ℤ, pos, negsuc, Bool, true, false, cond, List, refl, sym, ap, subst, Option, Some, None}
use Rattle.std.proofs.lemmas.Bool.{and_from, or_left, or_right}
use Rattle.lang_base.specs.declared.op.Operands.{Operands}
use Rattle.lang_base.specs.declared.op.Operands.TheVariants.{Ints, Same}
use Rattle.lang_base.specs.declared.place.Place.{Place}
use Rattle.lang_base.specs.declared.value.Trap.TheVariants as trap
use Rattle.lang_base.specs.Matching.{Env}
use Rattle.lang_base.specs.declared.region.Rpl.{Rpl}
use Rattle.lang_base.specs.Types.{PlainType, int, boolean, void, null, class, array}
use Rattle.lang_typed.specs.Plain.{PlainProgram}
use Rattle.lang_typed.specs.Scope.{constructor_of}
use Rattle.lang_typed.specs.Typing.{IsReference, Takes}
use Rattle.lang_meaning.specs.Core.{Ret, Traps, Act, Makes, Again, Split}
use Rattle.lang_meaning.specs.Counts.{name_made, part_place, slot_value}
use Rattle.lang_meaning.specs.Expressions.{gives, unless_null, part_element, called, created, new_object, made_array}
use Rattle.lang_meaning.specs.Regions.{around, concrete, is_long, some_long}
use Rattle.lang_meaning.specs.Values.{Naming}
use Rattle.runs_theory.specs.Actions.{Own, Read, Write, Look, New, Answer, Went, Got, Out}
use Rattle.runs_theory.specs.Objects.{Name, LocalRegion, Region, Thing, Value, Int, Boolean, Null, Object}
use Rattle.runs_theory.proofs.events.Things.{same_some}
use Rattle.runs_sound.specs.Settings.{Setting, env_of}
use Rattle.runs_sound.specs.Shapes.{Shape, object, elements, Shapes, IsNullOr, FitsIn}
use Rattle.runs_sound.specs.Accesses.{Bounds}
use Rattle.runs_sound.specs.Frames.{Frame, State, PartFits}
use Rattle.runs_sound.specs.Laws.{Deeper}
use Rattle.runs_sound.specs.Work.{Result, Prog, Moves, ReadFits, WriteFits, LookFits, Answers, InOrder}
use Rattle.runs_sound.specs.Kinds.{Wrong, is_reference, is_of, is_part, are_operands, is_read, is_written, is_length, is_class, is_name, needs, answered, strict_use}

-- a value of a type is of its kind
pub kind_fits : (P : PlainProgram) (S : Shapes) (env : Env) (t : PlainType) (v : Value) → FitsIn P S env t v → is_of t v ≡ true
kind_fits P S env t v h = go t v h
  where
    go : (t : PlainType) (v : Value) → FitsIn P S env t v → is_of t v ≡ true
    go int (Int k) h = refl
    go int _ h = absurd h
    go boolean (Boolean c) h = refl
    go boolean _ h = absurd h
    go void Null h = refl
    go void _ h = absurd h
    go null Null h = refl
    go null _ h = absurd h
    go (class c args) Null h = refl
    go (class c args) (Object n) h = refl
    go (class c args) _ h = absurd h
    go (array t a named) Null h = refl
    go (array t a named) (Object n) h = refl
    go (array t a named) _ h = absurd h

pub kind_as : (P : PlainProgram) (S : Shapes) (env : Env) {t : PlainType} (u : PlainType) (v : Value) → t ≡ u → FitsIn P S env t v → is_of u v ≡ true
kind_as P S env u v e h = kind_fits P S env u v (subst (λ z. FitsIn P S env z v) e h)

-- what the slots of a part hold
pub part_kinds : (P : PlainProgram) (S : Shapes) (g : Setting) (vs : List Value) (k : ℕ) (t : PlainType) (a : Rpl) → PartFits P S g vs k t a → is_part k vs ≡ true
part_kinds P S g vs k t a pf =
    and_from _ _ (kind_fits P S (env_of g) (array t a false) _ pf.array)
    (and_from _ _ (kind_fits P S (env_of g) int _ pf.first) (kind_fits P S (env_of g) int _ pf.len))

-- two operands of the right types
pub operands_fit : (P : PlainProgram) (S : Shapes) (env : Env) (o : Operands) (t u : PlainType) (v w : Value) → Takes o t u → FitsIn P S env t v → FitsIn P S env u w →
    are_operands o v w ≡ true
operands_fit P S env Ints t u v w takes fv fw = and_from _ _ (kind_as P S env int v takes.0 fv) (kind_as P S env int w takes.1 fw)
operands_fit P S env Same t u v w (inl ints) fv fw = or_left _ _ (or_left _ _ (and_from _ _ (kind_as P S env int v ints.0 fv) (kind_as P S env int w ints.1 fw)))
operands_fit P S env Same t u v w (inr (inl booleans)) fv fw = or_left _ _ (or_right _ _ (and_from _ _ (kind_as P S env boolean v booleans.0 fv) (kind_as P S env boolean w booleans.1 fw)))
operands_fit P S env Same t u v w (inr (inr references)) fv fw = or_right _ _ (and_from _ _ (a_reference t v references.0 fv) (a_reference u w references.1 fw))
  where
    a_reference : (t : PlainType) (v : Value) → IsReference t → FitsIn P S env t v → is_reference v ≡ true
    a_reference (class c args) v r h = kind_fits P S env (class c args) v h
    a_reference (array t a named) v r h = kind_fits P S env (array t a named) v h
    a_reference null Null r h = refl
    a_reference null _ r h = absurd h
    a_reference int v r h = absurd r
    a_reference boolean v r h = absurd r
    a_reference void v r h = absurd r

-- which actions an answer of a kind is to
abbrev pub IsRead : Own → Type 0
IsRead (Read n i) = Unit {0}
IsRead _ = ⊥

abbrev pub IsWrite : Own → Type 0
IsWrite (Write n i v) = Unit {0}
IsWrite _ = ⊥

abbrev pub IsNew : Own → Type 0
IsNew (New thing constructor) = Unit {0}
IsNew _ = ⊥

abbrev pub SeesArray : State → Own → Type 0
SeesArray st (Look n) = (g : Setting) × (t : PlainType) × (a : Rpl) × (st.shapes n ≡ Some (elements g t a))
SeesArray st _ = ⊥

abbrev pub SeesObject : State → Own → Type 0
SeesObject st (Look n) = (c : ℕ) × (rs : List Region) × (st.shapes n ≡ Some (object c rs))
SeesObject st _ = ⊥

-- the first action, if any comes first
abbrev pub FirstIs : (Own → Type 0) → Prog → Type 0
FirstIs A (Act o k) = A o
FirstIs A _ = Unit {0}

module _ (P : PlainProgram) (b : Bounds) where
  -- such actions are answered by that kind
  abbrev pub AnsweredSo : State → (Own → Type 0) → (Answer → Bool) → Type 0
  AnsweredSo st A right = (o : Own) → A o → (m : Moves P b st o) (x : Answer) (h : State) → Answers P b st o m x h → right x ≡ true

  pub read_answered : (st : State) → AnsweredSo st IsRead is_read
  read_answered st (Read n i) a m x h ans = go x ans
    where
      go : (x : Answer) → ReadFits m.cell h.shapes x → is_read x ≡ true
      go (Got v) z = refl
      go Out z = refl
      go _ z = absurd z
  read_answered st _ a m x h ans = absurd a

  pub write_answered : (st : State) → AnsweredSo st IsWrite is_written
  write_answered st (Write n i v) a m x h ans = go x ans
    where
      go : (x : Answer) → WriteFits m.0.cell x → is_written x ≡ true
      go Went z = refl
      go Out z = refl
      go _ z = absurd z
  write_answered st _ a m x h ans = absurd a

  pub new_answered : (st : State) → AnsweredSo st IsNew is_name
  new_answered st (New thing constructor) a m x h ans = ap (λ z. is_name z) ans.1
  new_answered st _ a m x h ans = absurd a

  pub length_answered : (st : State) → AnsweredSo st (SeesArray st) is_length
  length_answered st (Look n) a m x h ans = go m.0 (same_some m.1 a.3) ans
    where
      go : (s : Shape) → s ≡ elements a.0 a.1 a.2 → LookFits s x → is_length x ≡ true
      go (elements g t r) e z = ap (λ y. is_length y) z.2
      go (object c rs) e z = absurd (let q : object c rs ≡ elements a.0 a.1 a.2 = e in cc)
  length_answered st _ a m x h ans = absurd a

  pub class_answered : (st : State) → AnsweredSo st (SeesObject st) is_class
  class_answered st (Look n) a m x h ans = go m.0 (same_some m.1 a.2) ans
    where
      go : (s : Shape) → s ≡ object a.0 a.1 → LookFits s x → is_class x ≡ true
      go (object c rs) e z = ap (λ y. is_class y) z
      go (elements g t r) e z = absurd (let q : elements g t r ≡ object a.0 a.1 = e in cc)
  class_answered st _ a m x h ans = absurd a

  module _ (wrong : Wrong Name LocalRegion) (R : State → Result → Type 0) where
    pub order_needs : (st : State) (c : Bool) (p : Prog) → c ≡ true → InOrder P b R st p → InOrder P b R st (needs wrong c p)
    order_needs st c p e o = subst (λ z. InOrder P b R st (cond z p (wrong p))) (sym e) o

    pub order_answered : (st : State) (A : Own → Type 0) (right : Answer → Bool) → AnsweredSo st A right → (p : Prog) → FirstIs A p → InOrder P b R st p →
        InOrder P b R st (answered wrong right p)
    unfolding InOrder
    order_answered st A right w (Act o k) fi i = (i.0, λ x h after fits. order_needs h (right x) (k x) (w o fi i.0 x h fits) (i.1 x h after fits))
    order_answered st A right w (Ret r) fi i = i
    order_answered st A right w (Traps trap place) fi i = i
    order_answered st A right w (Makes k) fi i = i
    order_answered st A right w (Again t s f k) fi i = i
    order_answered st A right w (Split forking ts bs k) fi i = i

    -- what is in a value is used
    pub order_use : (st : State) (A : Own → Type 0) (right : Answer → Bool) → AnsweredSo st A right → (at : Place) (B : Name → Type 0) (k : Name → Prog) → ((n : Name) → B n → FirstIs A (k n)) →
        (v : Value) → IsNullOr B v → InOrder P b R st (unless_null at v k) → InOrder P b R st (strict_use wrong right at v k)
    order_use st A right w at B k first Null fv o = o
    order_use st A right w at B k first (Object n) fv o = order_answered st A right w (k n) (first n fv) o
    order_use st A right w at B k first (Int j) fv o = absurd fv
    order_use st A right w at B k first (Boolean c) fv o = absurd fv

  -- an element of a part is used first
  pub first_of_part : (A : Own → Type 0) (at : Place) (k : ℕ) (i : ℤ) (f : Frame) (j : Name → ℤ → Prog) → ((n : Name) (p : ℤ) → FirstIs A (j n p)) → FirstIs A (part_element at k i f j)
  first_of_part A at k i f j first = go (part_place k i f.values) (slot_value f.values k)
    where
      go : (o : Option ℤ) (v : Value) → FirstIs A (elim o as (λ z. Prog) [ None ↦ Traps trap.Index at | Some p ↦ unless_null at v (λ n. j n p) ])
      go None v = tt
      go (Some p) Null = tt
      go (Some p) (Object n) = first n p
      go (Some p) (Int j) = tt
      go (Some p) (Boolean c) = tt

  pub first_call : (names : Naming Name LocalRegion) (A : Own → Type 0) (dp : Option Deeper) (at : Place) (c r : ℕ) (own : List Region) (n : Name) (vs : List Value) (f : Frame) → A (Look n) →
      FirstIs A (called names P dp at c r own n vs f)
  first_call names A None at c r own n vs f h = tt
  first_call names A (Some dp) at c r own n vs f h = go (some_long own) _
    where
      go : (z : Bool) (k : Answer → Prog) → FirstIs A (cond z (Traps trap.Stack at) (Act (Look n) k))
      go true k = tt
      go false k = h

  pub first_new : (names : Naming Name LocalRegion) (dp : Option Deeper) (at : Place) (c : ℕ) (own : List Region) (vs : List Value) (f : Frame) → FirstIs IsNew (created names P dp at c own vs f)
  first_new names dp at c own vs f = go (some_long own) (constructor_of P c) dp (λ a. gives (name_made a) f) _
    where
      go : (z : Bool) (o : Option ℕ) (dp : Option Deeper) (j : Answer → Prog) (k : ℕ → Deeper → Answer → Prog) → FirstIs IsNew (cond z (Traps trap.Stack at) (elim o as (λ y. Prog) [
        | None ↦ Act (New (new_object P c own) false) j
        | Some n ↦ elim dp as (λ y. Prog) [ None ↦ Traps trap.Stack at | Some deeper ↦ Act (New (new_object P c own) true) (k n deeper) ]
      ]))
      go true o dp j k = tt
      go false None dp j k = tt
      go false (Some n) None j k = tt
      go false (Some n) (Some deeper) j k = tt

  pub first_new_array : (names : Naming Name LocalRegion) (at : Place) (t : PlainType) (a : Rpl) (named : Bool) (k : ℤ) (f : Frame) → FirstIs IsNew (made_array names at (array t a named) k f)
  first_new_array names at t a named (negsuc k) f = tt
  first_new_array names at t a named (pos k) f = go (is_long (concrete names (around f) a)) _ _
    where
      go : (z : Bool) (made : Thing) (p : Answer → Prog) → FirstIs IsNew (cond z (Traps trap.Stack at) (Act (New made false) p))
      go true made p = tt
      go false made p = tt
