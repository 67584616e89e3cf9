-- What holds of the work of a task whatever it is answered, with all calls: where no nd construct may stand, inside a block and in a
-- program without any, each fork is of a deterministic construct; no block is left that isn't open; and no fork has more branches than
-- a number of 32 bits counts, where the text has no such.
use Rattle.std.specs.Int.{w32}
use Rattle.std.proofs.Common.{◌≡◌, ◌<◌, ◌≤◌, ◌^◌, arith, FitsSigned, ⊎_elim, ◌⊎◌, ℕ, zero, suc, ◌+◌, ◌-◌, ◌==◌, ℤ, pos, negsuc, Bool, true, false, cond, List, [], ◌∷◌, map, length, reverse, Option, Some, None, IsTrue, refl, sym, ap, ◌∙◌, subst, slice_get}
use Rattle.std.specs.Prelude.{slice_set, option_and_then}
use Rattle.std.proofs.lemmas.Bool.{cases_Bool, eqb-true, cond-true, cond-false, false≢true}
use Rattle.lang_base.specs.declared.place.Place.{Place}
use Rattle.lang_base.specs.declared.value.Trap.TheVariants as trap
use Rattle.lang_base.specs.Types.{PlainType}
use Rattle.lang_base.specs.declared.op.UnaryOp.TheVariants.{Negate, Not}
use Rattle.lang_base.specs.Types.{PlainType as ty}
use Rattle.lang_typed.specs.declared.stmt.Forking.{Forking}
use Rattle.lang_typed.specs.declared.stmt.Forking.TheVariants.{Deterministic}
use Rattle.lang_typed.specs.Effects.{Own as EffectOwn}
use Rattle.lang_typed.specs.Plain.{PlainProgram, PlainClass, PlainMember, PlainParent, TypedExpr, TypedExprs, TypedStmt, statement, TypedStmts}
use Rattle.lang_typed.specs.Plain.{no_stmts, more_stmts, TypedBranches}
use Rattle.lang_typed.specs.Plain.{StmtForm as stmt}
use Rattle.lang_typed.proofs.Narrow.{width, Narrow, AllNarrow, BranchesNarrow}
use Rattle.lang_typed.specs.Scope.{Scope, row_at, member_at, constructor_of, parent_of, IsBelow, same, below}
use Rattle.lang_typed.specs.Statements.{Passes, AllPass, store, store_field, store_element, store_part, perform, nested, choice, choice_else, while_loop, return_nothing, return_value, print_int, print_boolean, print_text, atomic, cobegin, foreach, foreach_parts, cuts_array, cuts_part, no_more, then', declare, declare_regions, BranchesPass, no_branch, one_branch}
use Rattle.lang_typed.specs.Typing.{Has, literal_int, literal_boolean, literal_null, read_local, read_field, read_element, length_of_array, call_method, create_object, construct_object, make_array, negative, negation, operation, conjunction, disjunction, length_of_part, read_part, Fit}
use Rattle.lang_typed.specs.Typing.{Fit as fit}
use Rattle.lang_typed.specs.WellTyped.{WellTyped}
use Rattle.lang_meaning.specs.Counts.{number, truth, reference, value_read, is_out, name_made, class_seen, class_entered, is_below, operated, slot_value, part_place, how_many, length_seen}
use Rattle.lang_meaning.specs.Counts.{Back as Brings_back, Trap_of_branch}
use Rattle.lang_meaning.specs.Core.{Goes_on, Returns, Ret, Traps, Act, Makes, Again, Split, on, next_of, and_then}
use Rattle.lang_meaning.specs.Regions.{around, concrete, some_long, is_long}
use Rattle.lang_meaning.specs.Expressions.{gives, none, unless_null, read_cell, entered, back, enter, called, created, new_object, made_array}
use Rattle.lang_meaning.specs.Expressions.{part_element, of_expr, of_exprs}
use Rattle.lang_meaning.specs.Statements.{branch_of, tasks_of, with_value, write_cell, makes, joined, forks, begun, part_begun, part_taken_over, of_stmt, of_stmts}
use Rattle.lang_meaning.specs.Asking.{meaning}
use Rattle.lang_meaning.specs.Values.{Naming}
use Rattle.runs_theory.specs.Actions.{Answer, Own, Rest, Read, Write, Look, New, Print, Enter, Exit, Task}
use Rattle.runs_theory.specs.Objects.{Name, LocalRegion, Value, Int, Object, Region}
use Rattle.runs_sound.specs.Accesses.{Bounds, Entry, is_guarded}
use Rattle.runs_sound.specs.Frames.{Frame}
use Rattle.runs_sound.specs.Laws.{Deeper}
use Rattle.runs_sound.specs.Work.{Result, Prog, Brought, entries_after}
use Rattle.runs_sound.proofs.work.Forks.{iteration_at, iterations_length}
use Rattle.runs_sound.proofs.numbers.Ints.{zero_fits, add_fits}
use Rattle.runs_sound.proofs.numbers.Small.{IsSmall, AreSmall, SmallResult, SmallAnswer, SmallBrought, small_name, small_unary, small_operated, small_nil, small_cons, small_set, small_reverse, small_padded, small_copied, small_begun, most, HasFew, many_tasks, few_counted}

abbrev pub Entries : Type 0
Entries = List Entry

-- no nd construct may stand here: the program has none; or the task stands inside a block with these entries of its own
abbrev pub MustBeNdFree : PlainProgram → Bounds → Entries → Type 0
MustBeNdFree P b E = (P.uses_nd ≡ false) ⊎ (is_guarded b E ≡ true)

-- a task whose statements pass in a scope that is nd-free where it has to be
pub record PassingTask (P : PlainProgram) (b : Bounds) (E : Entries) (t : Task) : Type 0 where
  pub scope : Scope
  pub effects : List EffectOwn
  pub passes : AllPass P scope t.work.stmts effects
  pub nd_free : MustBeNdFree P b E → IsTrue scope.nd_free
  pub members : scope.member_nd_free ≡ b.member_nd_free
  pub small : AreSmall (begun t.work.takes t.frame).values
  pub few : HasFew P → AllNarrow most t.work.stmts

abbrev pub PassingTasks : PlainProgram → Bounds → Entries → List Task → Type 0
PassingTasks P b E ts = (i : ℕ) (t : Task) → slice_get ts i ≡ Some t → PassingTask P b E t

-- a fork of such tasks, deterministic where it has to be
abbrev pub NdFreeFork : PlainProgram → Bounds → Entries → Forking → List Task → Type 0
NdFreeFork P b E forking ts = (MustBeNdFree P b E → forking ≡ Deterministic) × PassingTasks P b E ts × (HasFew P → length ts < 2 ^ 32)

-- a return, where one may stand
abbrev pub MayReturn : Bool → Result → Type 0
MayReturn c (Goes_on v f) = Unit {0}
MayReturn c (Returns v) = IsTrue c

-- inside the same blocks, with small numbers
abbrev pub Back : Entries → Bool → Entries → Result → Type 0
Back E c F r = (F ≡ E) × MayReturn c r × SmallResult r

-- an exit, where a block is open
abbrev pub MayLeave : Own → Entries → Type 0
MayLeave Exit [] = ⊥
MayLeave Exit (E ∷ Es) = Unit {0}
MayLeave Rest Es = Unit {0}
MayLeave (Read n i) Es = Unit {0}
MayLeave (Write n i v) Es = Unit {0}
MayLeave (Look n) Es = Unit {0}
MayLeave (New thing constructor) Es = Unit {0}
MayLeave (Print bytes) Es = Unit {0}
MayLeave (Enter effects) Es = Unit {0}

-- each fork is such a one, and each exit, after small answers; and where the work is done, this holds of the entries
abbrev pub IsNdFree : PlainProgram → Bounds → Entries → (Entries → Result → Type 0) → Prog → Type 0
IsNdFree P b E Q (Ret r) = Q E r
IsNdFree P b E Q (Traps trap p) = Unit {0}
IsNdFree P b E Q (Act o k) = MayLeave o E × ((made : ℕ) (x : Answer) → SmallAnswer x → IsNdFree P b (entries_after made o E) Q (k x))
IsNdFree P b E Q (Makes k) = (m : LocalRegion) → IsNdFree P b E Q (k m)
IsNdFree P b E Q (Again t s f k) =
    (c : Bool) × ((g : Frame) → AreSmall g.values → IsNdFree P b E (Back E c) (t g)) × ((g : Frame) → AreSmall g.values → IsNdFree P b E (Back E c) (s g))
    × ((r : Result) → MayReturn c r → SmallResult r → IsNdFree P b E Q (k r)) × AreSmall f.values
IsNdFree P b E Q (Split forking ts bs k) = NdFreeFork P b E forking ts × ((x : Brought) → SmallBrought x → IsNdFree P b E Q (k x))

pub below_from : (P : PlainProgram) (k d c : ℕ) → is_below (parent_of P) k d c ≡ true → IsBelow P d c
below_from P zero d c h = subst (IsBelow P d) (eqb-true d c h) same
below_from P (suc k) d c h = ⊎_elim (λ t. subst (IsBelow P d) (eqb-true d c t) same)
    (λ f. by (parent_of P d) refl (λ p z. below_from P k p.class c z) (sym (cond-false (d == c) true _ f) ∙ h)) (cases_Bool (d == c))
  where
    by : (o : Option PlainParent) → parent_of P d ≡ o → ((p : PlainParent) → is_below (parent_of P) k p.class c ≡ true → IsBelow P p.class c) →
        elim o as (λ z. Bool) [ None ↦ false | Some p ↦ is_below (parent_of P) k p.class c ] ≡ true → IsBelow P d c
    by None e rec z = absurd (false≢true z)
    by (Some p) e rec z = below e (rec p z)

-- the class that is entered is the static one or below it
entered_below : (P : PlainProgram) (c : ℕ) (o : Option (ℕ × List Region)) → IsBelow P (class_entered (parent_of P) (length P.classes) c o).0 c
entered_below P c None = same
entered_below P c (Some seen) = ⊎_elim
    (λ t. subst (λ (z : ℕ × List Region). IsBelow P z.0 c) (sym (cond-true (is_below (parent_of P) (length P.classes) seen.0 c) seen (c, seen.1) t)) (below_from P (length P.classes) seen.0 c t))
    (λ f. subst (λ (z : ℕ × List Region). IsBelow P z.0 c) (sym (cond-false (is_below (parent_of P) (length P.classes) seen.0 c) seen (c, seen.1) f)) same)
    (cases_Bool (is_below (parent_of P) (length P.classes) seen.0 c))

module _ (P : PlainProgram) (b : Bounds) where
  abbrev NdFree : Entries → (Entries → Result → Type 0) → Prog → Type 0
  NdFree E Q p = IsNdFree P b E Q p

  nd_free_on : (E : Entries) (Q R : Entries → Result → Type 0) (p : Prog) (j : Result → Prog) → NdFree E Q p → ((F : Entries) (r : Result) → Q F r → NdFree F R (j r)) → NdFree E R (on p j)
  nd_free_on E Q R (Ret r) j s h = h E r s
  nd_free_on E Q R (Traps trap p) j s h = tt
  nd_free_on E Q R (Act o k) j s h = (s.0, λ m x a. nd_free_on (entries_after m o E) Q R (k x) j (s.1 m x a) h)
  nd_free_on E Q R (Makes k) j s h = λ m. nd_free_on E Q R (k m) j (s m) h
  nd_free_on E Q R (Again t u f k) j s h = (s.0, s.1, s.2, λ r z a. nd_free_on E Q R (k r) j (s.3 r z a) h, s.4)
  nd_free_on E Q R (Split forking ts bs k) j s h = (s.0, λ x a. nd_free_on E Q R (k x) j (s.1 x a) h)

  -- after an expression, which never returns
  nd_free_then : (E : Entries) (R : Entries → Result → Type 0) (p : Prog) (j : Value → Frame → Prog) → NdFree E (Back E false) p →
      ((v : Value) (f : Frame) → IsSmall v → AreSmall f.values → NdFree E R (j v f)) → NdFree E R (and_then p j)
  nd_free_then E R p j s h = nd_free_on E (Back E false) R p (next_of j) s next
    where
      next : (F : Entries) (r : Result) → Back E false F r → NdFree F R (next_of j r)
      next F (Goes_on v f) z = subst (λ G. NdFree G R (j v f)) (sym z.0) (h v f z.2.0 z.2.1)
      next F (Returns v) z = absurd (false≢true z.1)

  -- after a statement
  nd_free_next : (E : Entries) (c : Bool) (p : Prog) (j : Value → Frame → Prog) → NdFree E (Back E c) p → ((v : Value) (f : Frame) → AreSmall f.values → NdFree E (Back E c) (j v f)) → NdFree E (Back E c) (and_then p j)
  nd_free_next E c p j s h = nd_free_on E (Back E c) (Back E c) p (next_of j) s next
    where
      next : (F : Entries) (r : Result) → Back E c F r → NdFree F (Back E c) (next_of j r)
      next F (Goes_on v f) z = subst (λ G. NdFree G (Back E c) (j v f)) (sym z.0) (h v f z.2.1)
      next F (Returns v) z = z

  nd_free_post : (E : Entries) (Q R : Entries → Result → Type 0) (p : Prog) → ((F : Entries) (r : Result) → Q F r → R F r) → NdFree E Q p → NdFree E R p
  nd_free_post E Q R (Ret r) h s = h E r s
  nd_free_post E Q R (Traps trap p) h s = tt
  nd_free_post E Q R (Act o k) h s = (s.0, λ m x a. nd_free_post (entries_after m o E) Q R (k x) h (s.1 m x a))
  nd_free_post E Q R (Makes k) h s = λ m. nd_free_post E Q R (k m) h (s m)
  nd_free_post E Q R (Again t u f k) h s = (s.0, s.1, s.2, λ r z a. nd_free_post E Q R (k r) h (s.3 r z a), s.4)
  nd_free_post E Q R (Split forking ts bs k) h s = (s.0, λ x a. nd_free_post E Q R (k x) h (s.1 x a))

  any_return : (E : Entries) (c : Bool) (p : Prog) → NdFree E (Back E false) p → NdFree E (Back E c) p
  any_return E c p s = nd_free_post E (Back E false) (Back E c) p weaken s
    where
      weaken : (F : Entries) (r : Result) → Back E false F r → Back E c F r
      weaken F (Goes_on v f) z = z
      weaken F (Returns v) z = absurd (false≢true z.1)

  nd_free_or : (E : Entries) (R : Entries → Result → Type 0) {A : Type 0} (o : Option A) (p : Prog) (k : A → Prog) → NdFree E R p → ((x : A) → o ≡ Some x → NdFree E R (k x)) →
      NdFree E R (elim o as (λ o. Prog) [ None ↦ p | Some x ↦ k x ])
  nd_free_or E R None p k s h = s
  nd_free_or E R (Some x) p k s h = h x refl

  nd_free_if : (E : Entries) (R : Entries → Result → Type 0) (c : Bool) (p q : Prog) → NdFree E R p → NdFree E R q → NdFree E R (cond c p q)
  nd_free_if E R true p q s t = s
  nd_free_if E R false p q s t = t

  nd_free_by : (E : Entries) (R : Entries → Result → Type 0) (c : Bool) (p q : Prog) → NdFree E R p → NdFree E R q → NdFree E R (elim c as (λ z. Prog) [ false ↦ p | true ↦ q ])
  nd_free_by E R false p q s t = s
  nd_free_by E R true p q s t = t

  -- the bodies of members, one call deeper
  abbrev DeeperNdFree : Option Deeper → Type 0
  DeeperNdFree None = Unit {0}
  DeeperNdFree (Some dp) = (n : ℕ) (m : PlainMember) → member_at P n ≡ Some m → (E : Entries) → (MustBeNdFree P b E → IsTrue (b.member_nd_free n)) → (f : Frame) → AreSmall f.values →
      NdFree E (Back E true) (dp m.body f)

  module _ (E : Entries) (c : Bool) where
    nd_free_unless : (at : Place) (v : Value) (k : Name → Prog) → ((n : Name) → NdFree E (Back E c) (k n)) → NdFree E (Back E c) (unless_null at v k)
    nd_free_unless at v k h = nd_free_or E (Back E c) (reference v) _ _ tt (λ n e. h n)

    nd_free_read : (at : Place) (n : Name) (j : ℤ) (f : Frame) → AreSmall f.values → NdFree E (Back E c) (read_cell at n j f)
    nd_free_read at n j f fs = (tt, λ made a as'. nd_free_or E (Back E c) (value_read a) _ _ tt (λ v e. (refl, tt, (as'.read v e, fs))))

    nd_free_write : (at : Place) (n : Name) (j : ℤ) (v : Value) (f : Frame) → AreSmall f.values → NdFree E (Back E c) (write_cell at n j v f)
    nd_free_write at n j v f fs = (tt, λ made a as'. nd_free_if E (Back E c) (is_out a) _ _ tt (refl, tt, (zero_fits, fs)))

    nd_free_part : (at : Place) (k : ℕ) (j : ℤ) (f : Frame) (g : Name → ℤ → Prog) → ((n : Name) (p : ℤ) → NdFree E (Back E c) (g n p)) → NdFree E (Back E c) (part_element at k j f g)
    nd_free_part at k j f g h = nd_free_or E (Back E c) (part_place k j f.values) _ _ tt (λ p e. nd_free_unless at (slot_value f.values k) _ (λ n. h n p))

  -- a body that is entered
  nd_free_body : (E : Entries) (f : Frame) (p : Prog) (j : Result → Prog) → ((v : Value) (g : Frame) → NdFree E (Back E false) (j (Goes_on v g))) →
      ((v : Value) → IsSmall v → NdFree E (Back E false) (j (Returns v))) →
      NdFree E (Back E true) p → NdFree E (Back E false) (on p j)
  nd_free_body E f p j on_goes on_returns s = nd_free_on E (Back E true) (Back E false) p j s next
    where
      next : (F : Entries) (r : Result) → Back E true F r → NdFree F (Back E false) (j r)
      next F (Goes_on v g) z = subst (λ G. NdFree G (Back E false) (j (Goes_on v g))) (sym z.0) (on_goes v g)
      next F (Returns v) z = subst (λ G. NdFree G (Back E false) (j (Returns v))) (sym z.0) (on_returns v z.2)

  module _ (names : Naming Name LocalRegion) (dp : Option Deeper) (dh : DeeperNdFree dp) where
    nd_free_enter : (E : Entries) (deeper : Deeper) → DeeperNdFree (Some deeper) → (seen : ℕ × List Region) (r : ℕ) → (MustBeNdFree P b E → (n : ℕ) → row_at P seen.0 r ≡ Some n → IsTrue (b.member_nd_free n)) →
        (vs : List Value) → AreSmall vs → (own : List Region) (f : Frame) → AreSmall f.values → NdFree E (Back E false) (enter names P deeper seen r vs own f)
    nd_free_enter E deeper h seen r stays vs small own f fs =
        nd_free_or E (Back E false) (row_at P seen.0 r) _ _ (refl, tt, (zero_fits, fs)) (λ n e. nd_free_or E (Back E false) (member_at P n) _ _ (refl, tt, (zero_fits, fs))
        (λ m there. nd_free_body E f _ (back f) (λ v g. (refl, tt, (zero_fits, fs))) (λ v vs'. (refl, tt, (vs', fs))) (h n m there E (λ must. stays must n e) _ (small_padded m.slots vs small))))

    nd_free_called : (E : Entries) (dp : Option Deeper) → DeeperNdFree dp → (at : Place) (c r : ℕ) → (MustBeNdFree P b E → (d n : ℕ) → IsBelow P d c → row_at P d r ≡ Some n → IsTrue (b.member_nd_free n)) →
        (own : List Region) (n : Name) (vs : List Value) → AreSmall vs → (f : Frame) → AreSmall f.values → NdFree E (Back E false) (called names P dp at c r own n vs f)
    nd_free_called E None h at c r stays own n vs small f fs = tt
    nd_free_called E (Some deeper) h at c r stays own n vs small f fs =
        nd_free_if E (Back E false) (some_long own) _ _ tt (
          tt,
          λ made a as'. nd_free_enter E deeper h (class_entered (parent_of P) (length P.classes) c (class_seen a)) r
              (λ must m e. stays must (class_entered (parent_of P) (length P.classes) c (class_seen a)).0 m (entered_below P c (class_seen a)) e) (Object n ∷ vs) (small_cons (Object n) vs zero_fits small) own f fs,
        )

    nd_free_made : (E : Entries) (dp : Option Deeper) → DeeperNdFree dp → (at : Place) (c n : ℕ) → (MustBeNdFree P b E → IsTrue (b.member_nd_free n)) → (regions : List Region) (vs : List Value) → AreSmall vs → (f : Frame) → AreSmall f.values
        → NdFree E (Back E false) (elim dp as (λ o. Prog) [
          | None ↦ Traps trap.Stack at
          | Some deeper ↦ Act (New (new_object P c regions) true) (λ a. elim (member_at P n) [
            | None ↦ gives (name_made a) f
            | Some m ↦ on (deeper m.body (entered names m (name_made a ∷ vs) regions (f.left - 1))) (λ r. gives (name_made a) f)
          ])
        ])
    nd_free_made E None h at c n never regions vs small f fs = tt
    nd_free_made E (Some deeper) h at c n never regions vs small f fs = (
      tt,
      λ made a as'. nd_free_or E (Back E false) (member_at P n) _ _ (refl, tt, (small_name a, fs))
          (λ m there. nd_free_body E f _ (λ r. gives (name_made a) f) (λ v g. (refl, tt, (small_name a, fs))) (λ v vs'. (refl, tt, (small_name a, fs)))
          (h n m there E never _ (small_padded m.slots (name_made a ∷ vs) (small_cons (name_made a) vs (small_name a) small)))),
    )

    nd_free_created : (E : Entries) (at : Place) (c : ℕ) → (MustBeNdFree P b E → (n : ℕ) → constructor_of P c ≡ Some n → IsTrue (b.member_nd_free n)) → (regions : List Region) (vs : List Value) → AreSmall vs → (f : Frame) → AreSmall f.values
        → NdFree E (Back E false) (created names P dp at c regions vs f)
    nd_free_created E at c never regions vs small f fs =
        nd_free_if E (Back E false) (some_long regions) _ _ tt (nd_free_or E (Back E false) (constructor_of P c) _ _ (tt, λ made a as'. (refl, tt, (small_name a, fs)))
        (λ n e. nd_free_made E dp dh at c n (λ must. never must n e) regions vs small f fs))

    nd_free_array : (E : Entries) (at : Place) (t : PlainType) (k : ℤ) (f : Frame) → AreSmall f.values → NdFree E (Back E false) (made_array names at t k f)
    nd_free_array E at (ty.array t a named) (negsuc k) f fs = tt
    nd_free_array E at (ty.array t a named) (pos k) f fs = nd_free_if E (Back E false) (is_long (concrete names (around f) a)) _ _ tt (tt, λ made x as'. (refl, tt, (small_name x, fs)))
    nd_free_array E at ty.int k f fs = (refl, tt, (zero_fits, fs))
    nd_free_array E at ty.boolean k f fs = (refl, tt, (zero_fits, fs))
    nd_free_array E at ty.void k f fs = (refl, tt, (zero_fits, fs))
    nd_free_array E at ty.null k f fs = (refl, tt, (zero_fits, fs))
    nd_free_array E at (ty.class c args) k f fs = (refl, tt, (zero_fits, fs))

    module _ (L : Scope) (members : L.member_nd_free ≡ b.member_nd_free) (E : Entries) (nd_free : MustBeNdFree P b E → IsTrue L.nd_free) where
      never : (n : ℕ) → IsTrue (L.member_nd_free n) → IsTrue (b.member_nd_free n)
      never n h = subst (λ (z : ℕ → Bool). IsTrue (z n)) members h

      mutual
        nd_free_expr : {e : TypedExpr} {F : List EffectOwn} → Has P L e F → (f : Frame) → AreSmall f.values → NdFree E (Back E false) (of_expr names P dp e f)
        nd_free_expr (literal_int fits) f fs = (refl, tt, (fits, fs))
        nd_free_expr literal_boolean f fs = (refl, tt, (zero_fits, fs))
        nd_free_expr literal_null f fs = (refl, tt, (zero_fits, fs))
        nd_free_expr (read_local {x = x} h) f fs = (refl, tt, (fs x, fs))
        nd_free_expr (read_field {at = at} {k = k} h te fe rd eq) f fs = nd_free_then E (Back E false) _ _ (nd_free_expr h f fs) (λ v g vs gs. nd_free_unless E false at v _ (λ n. nd_free_read E false at n (pos k) g gs))
        nd_free_expr (read_element {at = at} ha te hi ti rg eq) f fs =
            nd_free_then E (Back E false) _ _ (nd_free_expr ha f fs) (λ v g vs gs. nd_free_then E (Back E false) _ _ (nd_free_expr hi g gs) (λ u h us hs. nd_free_unless E false at v _ (λ n. nd_free_read E false at n (number u) h hs)))
        nd_free_expr (length_of_array {at = at} h te) f fs = nd_free_then E (Back E false) _ _ (nd_free_expr h f fs) (λ v g vs gs. nd_free_unless E false at v _ (λ n. (tt, λ made x as'. (refl, tt, (as'.seen, gs)))))
        nd_free_expr (call_method {at = at} {c = c} {r = r} {regions = regions} h te rwa mb ab ga fu kn rd ft stays eq) f fs =
            nd_free_then E (Back E false) _ _ (nd_free_expr h f fs) (λ v g v_small gs. nd_free_exprs ft g gs [] small_nil _ (λ vs h vs_small hs.
            nd_free_unless E false at v _ (λ n. nd_free_called E dp dh at c r (λ must d m below e. never m (stays (nd_free must) d m below e)) (map (concrete names (around h)) regions) n (reverse vs)
            (small_reverse vs vs_small) h hs)))
        nd_free_expr (create_object {at = at} {c = c} {args = args} e ga fu kn) f fs =
            nd_free_created E at c (λ must n z. absurd (let q : None ≡ Some n = sym kn ∙ sym (ap (λ o. option_and_then (λ (class : PlainClass). class.constructor) o) e) ∙ z in cc)) (map (concrete names (around f)) args) (reverse []) small_nil f fs
        nd_free_expr (construct_object {at = at} {c = c} {n = n} {args = args} e ga fu kn mb ft stays) f fs =
            nd_free_exprs ft f fs [] small_nil _ (λ vs g vs_small gs. nd_free_created E at c (λ must m z.
            (let q : Some n ≡ Some m = sym kn ∙ sym (ap (λ o. option_and_then (λ (class : PlainClass). class.constructor) o) e) ∙ z in
            let w : n ≡ m = cc in subst (λ y. IsTrue (b.member_nd_free y)) w (never n (stays (nd_free must))))) (map (concrete names (around g)) args) (reverse vs) (small_reverse vs vs_small) g gs)
        nd_free_expr (make_array {at = at} {t = t} {a = a} {named = named} gt fu h te) f fs =
            nd_free_then E (Back E false) _ _ (nd_free_expr h f fs) (λ v g vs gs. nd_free_array E at (ty.array t a named) (number v) g gs)
        nd_free_expr (negative h te) f fs = nd_free_then E (Back E false) _ _ (nd_free_expr h f fs) (λ v g vs gs. (refl, tt, (small_unary Negate v, gs)))
        nd_free_expr (negation h te) f fs = nd_free_then E (Back E false) _ _ (nd_free_expr h f fs) (λ v g vs gs. (refl, tt, (small_unary Not v, gs)))
        nd_free_expr (operation {at = at} {o = o} ha hc ops eq) f fs =
            nd_free_then E (Back E false) _ _ (nd_free_expr ha f fs) (λ v g vs gs. nd_free_then E (Back E false) _ _ (nd_free_expr hc g gs)
            (λ u h us hs. nd_free_or E (Back E false) (operated names.same o v u) _ _ tt (λ w e. (refl, tt, (small_operated P names.same o v u w vs e, hs)))))
        nd_free_expr (conjunction ha ta hc tc) f fs =
            nd_free_then E (Back E false) _ _ (nd_free_expr ha f fs) (λ v g vs gs. nd_free_by E (Back E false) (truth v) _ _ (refl, tt, (zero_fits, gs)) (nd_free_expr hc g gs))
        nd_free_expr (disjunction ha ta hc tc) f fs =
            nd_free_then E (Back E false) _ _ (nd_free_expr ha f fs) (λ v g vs gs. nd_free_by E (Back E false) (truth v) _ _ (nd_free_expr hc g gs) (refl, tt, (zero_fits, gs)))
        nd_free_expr (length_of_part {k = k} e) f fs = (refl, tt, (fs (k + 2), fs))
        nd_free_expr (read_part {at = at} {k = k} e h te) f fs =
            nd_free_then E (Back E false) _ _ (nd_free_expr h f fs) (λ v g vs gs. nd_free_part E false at k (number v) g _ (λ n j. nd_free_read E false at n j g gs))

        nd_free_exprs : {es : TypedExprs} {ts : List PlainType} {F : List EffectOwn} → Fit P L es ts F → (f : Frame) → AreSmall f.values → (vs : List Value) → AreSmall vs → (j : List Value → Frame → Prog)
            → ((ws : List Value) (g : Frame) → AreSmall ws → AreSmall g.values → NdFree E (Back E false) (j ws g)) → NdFree E (Back E false) (of_exprs names P dp es f vs j)
        nd_free_exprs fit.none f fs vs small j h = h vs f small fs
        nd_free_exprs (fit.one_more e sub rest) f fs vs small j h =
            nd_free_then E (Back E false) _ _ (nd_free_expr e f fs) (λ v g v_small gs. nd_free_exprs rest g gs (v ∷ vs) (small_cons v vs v_small small) j h)

    nd_free_makes : (E : Entries) (c : Bool) (rs : List ℕ) (f : Frame) → AreSmall f.values → NdFree E (Back E c) (makes rs f)
    nd_free_makes E c [] f fs = (refl, tt, (zero_fits, fs))
    nd_free_makes E c (r ∷ rs) f fs = λ m. nd_free_makes E c rs (record f { locals = slice_set f.locals r m }) fs

    nd_free_joined : (E : Entries) (c : Bool) (slots : List ℕ) (f : Frame) → AreSmall f.values → (x : Brought) → SmallBrought x → NdFree E (Back E c) (joined slots f x)
    nd_free_joined E c slots f fs (Brings_back ls) h = (refl, tt, (zero_fits, small_copied slots ls f.values h fs))
    nd_free_joined E c slots f fs (Trap_of_branch trap place) h = tt

    -- the branches of a fork
    nd_free_forks : (E : Entries) (c : Bool) (dp : Option Deeper) (at : Place) (forking : Forking) (takes : Option ℕ) (x : ℕ) (s : TypedStmt) (start count : ℤ) (f : Frame) → AreSmall f.values →
        FitsSigned w32 count → (MustBeNdFree P b E → forking ≡ Deterministic) → {L : Scope} {F : List EffectOwn} → AllPass P L (more_stmts s no_stmts) F → (MustBeNdFree P b E → IsTrue L.nd_free) →
        L.member_nd_free ≡ b.member_nd_free → (HasFew P → Narrow most s) → NdFree E (Back E c) (forks dp at forking takes x s start count f)
    nd_free_forks E c None at forking takes x s start count f fs counted det p nd_free members few = tt
    nd_free_forks E c (Some dp) at forking takes x s start count f fs counted det {L} {F} p nd_free members few = (
      (
        det,
        λ n t there. subst (PassingTask P b E) (sym (iteration_at takes x s f start 0 (how_many count) n t there)) (record {
          scope = L;
          effects = F;
          passes = p;
          nd_free = nd_free;
          members = members;
          small = small_begun takes _ (small_set f.values x _ fs (add_fits start (pos (0 + n))));
          few = λ h. (few h, tt);
        }),
        λ h. (let many = iterations_length takes x s f start 0 (how_many count) in let l = few_counted count counted in omega (arith, many, l)),
      ),
      nd_free_joined E c [] f fs,
    )

    nd_free_tasks : (E : Entries) {L : Scope} {others : List ℕ} {bs : TypedBranches} {Es : List (List EffectOwn)} → BranchesPass P L others bs Es → (MustBeNdFree P b E → IsTrue L.nd_free) →
        L.member_nd_free ≡ b.member_nd_free → (HasFew P → BranchesNarrow most bs) → (f : Frame) → AreSmall f.values → PassingTasks P b E (tasks_of bs f)
    nd_free_tasks E no_branch nd_free members few f fs n t e = absurd (cc)
    nd_free_tasks E (one_branch {copies = copies} {s = s} v a p rest) nd_free members few f fs zero t e = let z : branch_of None copies s f ≡ t = cc in
        subst (PassingTask P b E) z (record { scope = _; effects = _; passes = p; nd_free = nd_free; members = members; small = fs; few = λ h. ((few h).0, tt) })
    nd_free_tasks E (one_branch v a p rest) nd_free members few f fs (suc n) t e = nd_free_tasks E rest nd_free members (λ h. (few h).1) f fs n t e

    nd_free_cobegin : (E : Entries) (c : Bool) (dp : Option Deeper) (at : Place) (forking : Forking) (bs : TypedBranches) (f : Frame) → AreSmall f.values → (MustBeNdFree P b E → forking ≡ Deterministic) →
        PassingTasks P b E (tasks_of bs f) → (HasFew P → width bs ≤ most) → NdFree E (Back E c) (of_stmt names P dp (statement at (stmt.cobegin forking bs)) f)
    nd_free_cobegin E c None at forking bs f fs det ts few = tt
    nd_free_cobegin E c (Some dp) at forking bs f fs det ts few =
        ((det, ts, λ h. (let many = many_tasks bs f in let l = few h in omega (arith, many, l))), nd_free_joined E c _ f fs)

    abbrev may_return : Option PlainType → Bool
    may_return None = false
    may_return (Some t) = true

    -- the block is left as it was entered
    left : (E : Entries) (F : Entry) (c : Bool) (G : Entries) (r : Result) → Back (F ∷ E) false G r → NdFree G (Back E c) (next_of (λ v g. Act Exit (λ a. gives none g)) r)
    left E F c G (Goes_on v g) z = subst (λ H. NdFree H (Back E c) (Act Exit (λ a. gives none g))) (sym z.0) (tt, λ made a as'. (refl, tt, (zero_fits, z.2.1)))
    left E F c G (Returns v) z = absurd (false≢true z.1)

    mutual
      nd_free_stmt : {L : Scope} {s : TypedStmt} {F : List EffectOwn} → Passes P L s F → L.member_nd_free ≡ b.member_nd_free → (E : Entries) → (MustBeNdFree P b E → IsTrue L.nd_free) → (HasFew P → Narrow most s) →
          (f : Frame) → AreSmall f.values → NdFree E (Back E (may_return L.result)) (of_stmt names P dp s f)
      nd_free_stmt {L} (store {x = x} lx h sub) m E c w f fs = nd_free_then E _ _ _ (nd_free_expr L m E c h f fs) (λ v g vs gs. (refl, tt, (zero_fits, small_set g.values x v gs vs)))
      nd_free_stmt {L} (store_field {at = at} {k = k} ho ty fe kn he sub) m E c w f fs =
          nd_free_then E _ _ _ (nd_free_expr L m E c ho f fs) (λ v g vs gs. nd_free_then E _ _ _ (nd_free_expr L m E c he g gs)
          (λ u h us hs. nd_free_unless E (may_return L.result) at v _ (λ n. nd_free_write E (may_return L.result) at n (pos k) u h hs)))
      nd_free_stmt {L} (store_element {at = at} ha ty hi ti rg he sub) m E c w f fs =
          nd_free_then E _ _ _ (nd_free_expr L m E c ha f fs) (λ v g vs gs. nd_free_then E _ _ _ (nd_free_expr L m E c hi g gs) (λ j h js hs. nd_free_then E _ _ _ (nd_free_expr L m E c he h hs) (λ u l us ls.
          nd_free_unless E (may_return L.result) at v _ (λ n. nd_free_write E (may_return L.result) at n (number j) u l ls))))
      nd_free_stmt {L} (store_part {at = at} {k = k} lk hi ti he sub) m E c w f fs =
          nd_free_then E _ _ _ (nd_free_expr L m E c hi f fs) (λ j g js gs. nd_free_then E _ _ _ (nd_free_expr L m E c he g gs)
          (λ u h us hs. nd_free_part E (may_return L.result) at k (number j) h _ (λ n l. nd_free_write E (may_return L.result) at n l u h hs)))
      nd_free_stmt {L} (perform ip h) m E c w f fs = nd_free_then E _ _ _ (nd_free_expr L m E c h f fs) (λ v g vs gs. (refl, tt, (zero_fits, gs)))
      nd_free_stmt (nested p) m E c w f fs = nd_free_stmts p m E c w f fs
      nd_free_stmt {L} (choice h ty p) m E c w f fs =
          nd_free_then E _ _ _ (nd_free_expr L m E c h f fs) (λ v g vs gs. nd_free_by E _ (truth v) _ _ (refl, tt, (zero_fits, gs)) (nd_free_single p m E c w g gs))
      nd_free_stmt {L} (choice_else h ty p r) m E c w f fs =
          nd_free_then E _ _ _ (nd_free_expr L m E c h f fs) (λ v g vs gs. nd_free_by E _ (truth v) _ _ (nd_free_single r m E c (λ x. (w x).1) g gs) (nd_free_single p m E c (λ x. (w x).0) g gs))
      nd_free_stmt {L} (while_loop h ty p) m E c w f fs =
          (may_return L.result, λ g gs. any_return E (may_return L.result) _ (nd_free_expr L m E c h g gs), λ g gs. nd_free_single p m E c w g gs, λ r z a. (refl, z, a), fs)
      nd_free_stmt {L} (return_nothing e) m E c w f fs = (refl, ap may_return e, zero_fits)
      nd_free_stmt {L} (return_value k h sub) m E c w f fs = nd_free_then E _ _ _ (nd_free_expr L m E c h f fs) (λ v g vs gs. (refl, ap may_return k, vs))
      nd_free_stmt {L} (print_int h ty) m E c w f fs = nd_free_then E _ _ _ (nd_free_expr L m E c h f fs) (λ v g vs gs. (tt, λ made a as'. (refl, tt, (zero_fits, gs))))
      nd_free_stmt {L} (print_boolean h ty) m E c w f fs = nd_free_then E _ _ _ (nd_free_expr L m E c h f fs) (λ v g vs gs. (tt, λ made a as'. (refl, tt, (zero_fits, gs))))
      nd_free_stmt print_text m E c w f fs = (tt, λ made a as'. (refl, tt, (zero_fits, fs)))
      nd_free_stmt {L} (atomic {ss = ss} p se) m E c w f fs =
          (tt, λ made a as'. (tt, λ more x xs. nd_free_on (_ ∷ E) (Back (_ ∷ E) false) (Back E (may_return L.result)) _ _ (nd_free_stmts p m (_ ∷ E) (λ z. refl) w f fs) (left E _ (may_return L.result))))
      nd_free_stmt {L} (cobegin {at = at} {forking = forking} {bs = bs} nd_free p nc) m E c w f fs =
          nd_free_cobegin E (may_return L.result) dp at forking bs f fs (λ must. nd_free (c must)) (nd_free_tasks E p c m (λ x. (w x).1) f fs) (λ x. (w x).0)
      nd_free_stmt {L} (foreach {at = at} {forking = forking} {x = x} {s = s} nd_free hs ts hc tc free p ic) m E c w f fs =
          nd_free_then E _ _ _ (nd_free_expr L m E c hs f fs) (λ v g vs gs. nd_free_then E _ _ _ (nd_free_expr L m E c hc g gs)
          (λ u h us hs. nd_free_forks E (may_return L.result) dp at forking None x s (number v) (number u) h hs us (λ must. nd_free (c must)) p c m w))
      nd_free_stmt {L} (foreach_parts {at = at} {k = k} {s = s} (cuts_array ha ty full) hc tc fr p ic lc) m E c w f fs =
          nd_free_then E _ _ _ (nd_free_expr L m E c ha f fs) (λ v g vs gs. nd_free_then E _ _ _ (nd_free_expr L m E c hc (part_begun k v g) (small_set _ (k + 1) _ (small_set g.values k v gs vs) zero_fits))
          (λ u h us hs. let filled : AreSmall (with_value h (k + 3) u).values = small_set h.values (k + 3) u hs us in
          nd_free_unless E (may_return L.result) at (slot_value (with_value h (k + 3) u).values k) _ (λ n. (
            tt,
            λ made a as'.
                let all : AreSmall (with_value (with_value h (k + 3) u) (k + 2) (Int (pos (length_seen a)))).values = small_set (with_value h (k + 3) u).values (k + 2) _ filled as'.seen in
                nd_free_forks E (may_return L.result) dp at _ _ _ s _ _ _ all (all (k + 3)) (λ must. refl) p c m w,
          ))))
      nd_free_stmt {L} (foreach_parts {at = at} {k = k} {s = s} (cuts_part {k = j} e) hc tc fr p ic lc) m E c w f fs =
          let first : AreSmall (with_value f k (slot_value f.values j)).values = small_set f.values k _ fs (fs j) in
          nd_free_then E _ _ _ (nd_free_expr L m E c hc (part_taken_over k j f) (small_set _ (k + 1) _ first (first (j + 1))))
          (λ u g us gs. let filled : AreSmall (with_value g (k + 3) u).values = small_set g.values (k + 3) u gs us in
          let all : AreSmall (with_value (with_value g (k + 3) u) (k + 2) (slot_value (with_value g (k + 3) u).values (j + 2))).values = small_set (with_value g (k + 3) u).values (k + 2) _ filled (filled (j + 2)) in
          nd_free_forks E (may_return L.result) dp at _ _ _ s _ _ _ all (all (k + 3)) (λ must. refl) p c m w)

      nd_free_single : {L : Scope} {s : TypedStmt} {F : List EffectOwn} → AllPass P L (more_stmts s no_stmts) F → L.member_nd_free ≡ b.member_nd_free → (E : Entries) → (MustBeNdFree P b E → IsTrue L.nd_free) →
          (HasFew P → Narrow most s) → (f : Frame) → AreSmall f.values → NdFree E (Back E (may_return L.result)) (of_stmt names P dp s f)
      nd_free_single (then' p d rest) m E c w f fs = nd_free_stmt p m E c w f fs
      nd_free_single {L} (declare {x = x} free gt h sub rest) m E c w f fs = nd_free_then E _ _ _ (nd_free_expr L m E c h f fs) (λ v g vs gs. (refl, tt, (zero_fits, small_set g.values x v gs vs)))
      nd_free_single {L} (declare_regions {rs = rs} free rest) m E c w f fs = nd_free_makes E (may_return L.result) rs f fs

      nd_free_stmts : {L : Scope} {ss : TypedStmts} {F : List EffectOwn} → AllPass P L ss F → L.member_nd_free ≡ b.member_nd_free → (E : Entries) → (MustBeNdFree P b E → IsTrue L.nd_free) →
          (HasFew P → AllNarrow most ss) → (f : Frame) → AreSmall f.values → NdFree E (Back E (may_return L.result)) (of_stmts names P dp ss f)
      nd_free_stmts no_more m E c w f fs = (refl, tt, (zero_fits, fs))
      nd_free_stmts {L} (then' p d rest) m E c w f fs = nd_free_next E (may_return L.result) _ _ (nd_free_stmt p m E c (λ x. (w x).0) f fs) (λ v g gs. nd_free_stmts rest m E c (λ x. (w x).1) g gs)
      nd_free_stmts {L} (declare {x = x} free gt h sub rest) m E c w f fs =
          nd_free_next E (may_return L.result) _ _ (nd_free_then E _ _ _ (nd_free_expr L m E c h f fs) (λ v g vs gs. (refl, tt, (zero_fits, small_set g.values x v gs vs))))
          (λ v g gs. nd_free_stmts rest m E c (λ x. (w x).1) g gs)
      nd_free_stmts {L} (declare_regions {rs = rs} free rest) m E c w f fs =
          nd_free_next E (may_return L.result) _ _ (nd_free_makes E (may_return L.result) rs f fs) (λ v g gs. nd_free_stmts rest m E c (λ x. (w x).1) g gs)

  -- the bodies of members, and a task, at each depth of calls
  module _ (wt : WellTyped P) (members : wt.member_nd_free ≡ b.member_nd_free) (names : Naming Name LocalRegion) where
    bodies_nd_free : (d : ℕ) → DeeperNdFree (Some (meaning names P d))
    unfolding meaning
    bodies_nd_free zero n m there E never f fs =
        nd_free_stmts names None tt (wt.members n m there).passes members E (λ must. subst (λ (z : ℕ → Bool). IsTrue (z n)) (sym members) (never must)) (λ h. h n m there) f fs
    bodies_nd_free (suc d) n m there E never f fs =
        nd_free_stmts names (Some (meaning names P d)) (bodies_nd_free d) (wt.members n m there).passes members E (λ must. subst (λ (z : ℕ → Bool). IsTrue (z n)) (sym members) (never must))
        (λ h. h n m there) f fs

    pub task_nd_free : (d : ℕ) {L : Scope} {ss : TypedStmts} {F : List EffectOwn} → AllPass P L ss F → L.member_nd_free ≡ b.member_nd_free → (E : Entries) → (MustBeNdFree P b E → IsTrue L.nd_free) →
        (HasFew P → AllNarrow most ss) → (f : Frame) → AreSmall f.values → (c : Bool) × IsNdFree P b E (Back E c) (meaning names P d ss f)
    unfolding meaning
    task_nd_free zero p m E c w f fs = (_, nd_free_stmts names None tt p m E c w f fs)
    task_nd_free (suc d) p m E c w f fs = (_, nd_free_stmts names (Some (meaning names P d)) (bodies_nd_free d) p m E c w f fs)
