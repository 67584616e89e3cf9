-- What a well-typed program keeps to, as statements.
use Rattle.std.specs.Prelude.{Bool, ◌≡◌, IsTrue, List, [], ◌∷◌, Option, Some, None, All, false, ℤ, FitsSigned, ◌≢◌, ℕ, cond, length, slice_get}
use Rattle.std.specs.Int.{w32}
use Rattle.lang_base.specs.declared.elems.Elem.TheVariants.{At}
use Rattle.lang_base.specs.declared.elems.Index.TheVariants.{Literal}
use Rattle.lang_base.specs.declared.effect.Constraint.{Constraint}
use Rattle.lang_base.specs.Branches.{lists_clash, iterations_clash}
use Rattle.lang_base.specs.declared.region.Rpl.{Rpl}
use Rattle.lang_base.specs.Matching.{Env, Fits, IsEnv}
use Rattle.lang_base.specs.Types.{class}
use Rattle.region_paths.specs.Laws.{HasNoCopies}
use Rattle.lang_typed.specs.declared.stmt.Forking.{Forking}
use Rattle.lang_typed.specs.declared.stmt.Forking.TheVariants.{Deterministic, Nondeterministic}
use Rattle.lang_typed.specs.Plain.{PlainProgram, TypedExpr, type_of, TypedStmts, PlainMember}
use Rattle.lang_typed.specs.Effects.{Own, effect_of, as_effects}
use Rattle.lang_typed.specs.Scope.{IsBelow, Scope, member_at, parent_of}
use Rattle.lang_typed.specs.Statements.{AllPass, all_complete}
use Rattle.lang_typed.specs.Typing.{Has, index_elem}
use Rattle.lang_typed.specs.WellTyped.{WellTyped}
use Rattle.lang_meaning.specs.Core.{Goes_on, Returns}
use Rattle.lang_meaning.specs.Counts.{class_entered, class_seen, number}
use Rattle.lang_meaning.specs.Expressions.{Deeper as DeeperOf, of_expr}
use Rattle.lang_meaning.specs.Statements.{of_stmts}
use Rattle.runs_theory.specs.Actions.{Answer, Class, Task}
use Rattle.runs_theory.specs.Objects.{Name, Object, LocalRegion, Region, same_name}
use Rattle.runs_program.specs.Steps.{named_by, first_name}
use Rattle.lang_typed.specs.Table.{body_scope}
use Rattle.lang_meaning.specs.Asking.{meaning, does}
use Rattle.lang_meaning.specs.Elision.{root_task}
use Rattle.runs_sound.specs.Settings.{EndAtomic, Setting, env_of, with_number, class_setting}
use Rattle.runs_sound.specs.Shapes.{Shape, Shapes, Grows, FitsIn, object}
use Rattle.runs_sound.specs.Accesses.{Bounds, is_guarded, Within}
use Rattle.runs_sound.specs.Frames.{Frame, State, Since, FrameFits}
use Rattle.runs_sound.specs.Scopes.{PathInScope, GoodScope}
use Rattle.runs_sound.specs.Branches.{Quiet, Separate, Forks}
use Rattle.runs_sound.specs.Work.{Result, GoesFitting, InOrder, LookFits}

abbrev pub Deeper : Type 0
Deeper = DeeperOf Name LocalRegion

-- after an expression that began in this state and frame: the same locals, a value of its type, and where it stands as an
-- index in paths, the number that they have for it
abbrev pub Yields : PlainProgram → Scope → Setting → TypedExpr → State → Frame → State → Result → Type 0
Yields P L g e st f h (Goes_on v c) = Since st h × (c ≡ f) × FitsIn P h.shapes (env_of g) (type_of e) v × Fits (env_of g) (index_elem L e) (At (Literal (number v)) ∷ [])
Yields P L g e st f h (Returns v) = ⊥

-- after statements: locals that fit, unless none can complete; or a value of the type that a `return` gives
abbrev pub Leaves : PlainProgram → Bounds → Scope → Setting → TypedStmts → State → State → Result → Type 0
Leaves P b L g ss st h (Goes_on v f) = IsTrue (all_complete ss) × Since st h × GoesFitting P b.path g L h (Goes_on v f)
Leaves P b L g ss st h (Returns v) = Since st h × GoesFitting P b.path g L h (Returns v)

-- the scope in which the body of a member begins
abbrev pub scope_of : (P : PlainProgram) (wt : WellTyped P) (n : ℕ) (m : PlainMember) → member_at P n ≡ Some m → Scope
scope_of P wt n m there = body_scope (wt.members n m there).class wt.member_nd_free n m

-- bodies are in order one call deeper, from each state in which their locals fit and their effects are allowed
abbrev pub DeeperInOrder : (P : PlainProgram) → WellTyped P → Bounds → Option Deeper → Type 0
DeeperInOrder P wt b None = Unit {0}
DeeperInOrder P wt b (Some deeper) = (n : ℕ) (m : PlainMember) (there : member_at P n ≡ Some m) (g : Setting) (st : State) (f : Frame) →
    FrameFits P b.path st g (scope_of P wt n m there) f → Within b st.entries g (wt.members n m there).effects →
    InOrder P b (Leaves P b (scope_of P wt n m there) g m.body st) st (deeper m.body f)

-- an expression of a well-typed program is in order: from locals that fit it makes only accesses that its effects speak of, and
-- gives a value of its type; where the bodies that it enters are in order
abbrev pub ExpressionsInOrder : Type 0
ExpressionsInOrder = (P : PlainProgram) (wt : WellTyped P) (b : Bounds) (dp : Option Deeper) → DeeperInOrder P wt b dp →
    (L : Scope) (e : TypedExpr) (E : List Own) → Has P L e E → GoodScope L → (g : Setting) (st : State) (f : Frame) → FrameFits P b.path st g L f →
    Within b st.entries g E →
    InOrder P b (Yields P L g e st f) st (of_expr (named_by b.path) P dp e f)

-- a look at an object that has a class as its type sees that class or one below it, and a call enters what it sees, never another
abbrev pub CallsEnterWhatTheySee : Type 0
CallsEnterWhatTheySee = (P : PlainProgram) → WellTyped P → (S : Shapes) (env : Env) (c : ℕ) (args : List Rpl) (n : Name) → FitsIn P S env (class c args) (Object n) →
    (s : Shape) (x : Answer) → S n ≡ Some s → LookFits s x →
    (d : ℕ) × (rs : List Region) × (x ≡ Class d rs) × IsBelow P d c × (class_entered (parent_of P) (length P.classes) c (class_seen x) ≡ (d, rs))

-- statements are in order: from locals that fit they make only accesses that their effects speak of, or in local regions that
-- they make; branches are in order at their fork; and they leave locals that fit, or give a value of the type that a `return` gives
abbrev pub ForkingInOrder : Type 0
ForkingInOrder = (P : PlainProgram) (wt : WellTyped P) (b : Bounds) (dp : Option Deeper) → DeeperInOrder P wt b dp →
    (L : Scope) (ss : TypedStmts) (E : List Own) → AllPass P L ss E → GoodScope L → (g : Setting) (st : State) (f : Frame) →
    FrameFits P b.path st g L f → Within b st.entries g E → InOrder P b (Leaves P b L g ss st) st (of_stmts (named_by b.path) P dp ss f)

-- a task is in order to its end, with all calls that it makes
abbrev pub TasksInOrder : Type 0
TasksInOrder = (P : PlainProgram) (wt : WellTyped P) → (b : Bounds) →
    (L : Scope) (ss : TypedStmts) (E : List Own) → AllPass P L ss E → GoodScope L → (left : ℕ) (g : Setting) (st : State) (f : Frame) →
    FrameFits P b.path st g L f → Within b st.entries g E → InOrder P b (Leaves P b L g ss st) st (meaning (named_by b.path) P left ss f)

-- what a branch keeps to that begins as the branch of this number of the event of that one
abbrev pub branch_bounds : {P : PlainProgram} {forking : Forking} {ts : List Task} (b : Bounds) (st : State) → Forks P b st forking ts → ℕ × ℕ → Bounds
branch_bounds b st forks u =
    record { path = u ∷ b.path; setting = forks.setting u.1; effects = forks.effects u.1; inside = is_guarded b st.entries; member_nd_free = b.member_nd_free }

-- a branch that was in order at its fork is in order to its end, whenever it begins; and what it does is allowed where it was forked
abbrev pub BranchesInOrder : Type 0
BranchesInOrder = (P : PlainProgram) (wt : WellTyped P) → (b : Bounds) (st : State) (forking : Forking) (ts : List Task) (forks : Forks P b st forking ts) →
    (u : ℕ × ℕ) (t : Task) → slice_get ts u.1 ≡ Some t → (h : State) → Grows st.shapes h.shapes → h.entries ≡ [] →
    InOrder P (branch_bounds b st forks u) (Leaves P (branch_bounds b st forks u) (forks.scope u.1) (forks.setting u.1) t.work.stmts h) h
    (does (named_by (u ∷ b.path)) P t)

-- at the start the first object stands alone
abbrev pub start : PlainProgram → State
start P = record { shapes = λ n. cond (same_name n first_name) (Some (object P.main_class [])) None; made = 0; entries = [] }

-- and `main` may do what its body does
abbrev pub main_scope : (P : PlainProgram) → WellTyped P → Scope
main_scope P wt = scope_of P wt P.main_member wt.main.member wt.main.member_is

abbrev pub main_bounds : (P : PlainProgram) → WellTyped P → Bounds
main_bounds P wt = record { path = []; setting = class_setting []; effects = (wt.members P.main_member wt.main.member wt.main.member_is).effects; inside = false; member_nd_free = wt.member_nd_free }

-- the root is in order from the start, on each argument of 32 bits
abbrev pub RootInOrder : Type 0
RootInOrder = (P : PlainProgram) (wt : WellTyped P) (arg : ℤ) → FitsSigned w32 arg →
    InOrder P (main_bounds P wt) (Leaves P (main_bounds P wt) (main_scope P wt) (class_setting []) wt.main.member.body (start P)) (start P)
    (does (named_by []) P (root_task (named_by []) P first_name arg))

-- effects that don't clash speak of no two accesses that meet
abbrev pub BranchesQuiet : Type 0
BranchesQuiet = (P : PlainProgram) (given : List Constraint) (g : Setting) → IsEnv given (env_of g) → (E F : List Own) →
    lists_clash given None (as_effects E) (as_effects F) ≡ false → Quiet P Deterministic g E g F

-- nor do effects of two iterations of a loop, where none clashes with its copy
abbrev pub IterationsQuiet : Type 0
IterationsQuiet = (P : PlainProgram) (given : List Constraint) (L : Scope) (g : Setting) (x : ℕ) (j k : ℤ) → IsEnv given (env_of (with_number x j g)) → All HasNoCopies given →
    (E : List Own) → All (λ o. PathInScope L 0 (effect_of o).rpl) E → iterations_clash given None x (as_effects E) ≡ false → j ≢ k →
    Quiet P Deterministic (with_number x j g) E (with_number x k g) E

-- and those of branches and iterations of an nd construct speak of none, but of accesses in atomic blocks, in a region that ends by
-- an atomic name; where what is declared atomic is
abbrev pub NdBranchesQuiet : Type 0
NdBranchesQuiet = (P : PlainProgram) (given : List Constraint) (params : List Bool) (g : Setting) → IsEnv given (env_of g) → EndAtomic P.region_names params g.regions → (E F : List Own) →
    lists_clash given (Some (record { names = P.region_names; params = params })) (as_effects E) (as_effects F) ≡ false → Quiet P Nondeterministic g E g F

abbrev pub NdIterationsQuiet : Type 0
NdIterationsQuiet = (P : PlainProgram) (given : List Constraint) (params : List Bool) (L : Scope) (g : Setting) (x : ℕ) (j k : ℤ) → IsEnv given (env_of (with_number x j g)) →
    EndAtomic P.region_names params g.regions → All HasNoCopies given → (E : List Own) → All (λ o. PathInScope L 0 (effect_of o).rpl) E →
    iterations_clash given (Some (record { names = P.region_names; params = params })) x (as_effects E) ≡ false → j ≢ k →
    Quiet P Nondeterministic (with_number x j g) E (with_number x k g) E

-- regions that they speak of, not both of accesses in atomic blocks, are apart, also those of effects of entries
abbrev pub NdBranchesSeparate : Type 0
NdBranchesSeparate = (P : PlainProgram) (given : List Constraint) (params : List Bool) (g : Setting) → IsEnv given (env_of g) → EndAtomic P.region_names params g.regions → (E F : List Own) →
    lists_clash given (Some (record { names = P.region_names; params = params })) (as_effects E) (as_effects F) ≡ false → Separate g E g F

abbrev pub NdIterationsSeparate : Type 0
NdIterationsSeparate = (P : PlainProgram) (given : List Constraint) (params : List Bool) (L : Scope) (g : Setting) (x : ℕ) (j k : ℤ) → IsEnv given (env_of (with_number x j g)) →
    EndAtomic P.region_names params g.regions → All HasNoCopies given → (E : List Own) → All (λ o. PathInScope L 0 (effect_of o).rpl) E →
    iterations_clash given (Some (record { names = P.region_names; params = params })) x (as_effects E) ≡ false → j ≢ k →
    Separate (with_number x j g) E (with_number x k g) E
