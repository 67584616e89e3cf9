-- The laws of accepted programs, as statements.
use Rattle.std.specs.Prelude.{◌≡◌, ◌≤◌, ℕ, Bool, true, false, IsTrue, List, length, Option, Some, None}
use Rattle.lang_base.specs.declared.ty.Super.{Super}
use Rattle.lang_base.specs.Types.{PlainType}
use Rattle.lang_base.specs.Types.{Subtype as FitsBelow}
use Rattle.syntax_tree.specs.Nd.{program_uses_nd}
use Rattle.syntax_tree.specs.declared.region.TypeTree.{TypeTree}
use Rattle.syntax_tree.specs.Plain.{PlainExpr, PlainStmts}
use Rattle.syntax_tree.specs.Targets.{IsPerformed}
use Rattle.syntax_tree.specs.declared.region.Named.{Named}
use Rattle.syntax_tree.specs.declared.class.Program.{Program}
use Rattle.body_locals.specs.Touches.{expr_reads, stmts_read, stmts_assign}
use Rattle.decl_table.specs.declared.table.Table.{Table}
use Rattle.lang_typed.specs.Plain.{PlainProgram, TypedExpr, TypedStmt, TypedStmts, stmts_of}
use Rattle.lang_typed.specs.Statements.{Passes, AllPass}
use Rattle.lang_typed.specs.Effects.{Own}
use Rattle.lang_typed.specs.Scope.{Scope}
use Rattle.lang_typed.specs.Types.{GoodType, Subtype}
use Rattle.lang_typed.specs.Typing.{Has}
use Rattle.lang_typed.specs.WellTyped.{WellTyped}
use Rattle.body_assembly.specs.Assembled.{PlainBody, program_of}
use Rattle.body_exprs.specs.declared.env.Env.{Env}
use Rattle.body_exprs.specs.declared.found.Found.{Found}
use Rattle.body_exprs.specs.Answer.{gives}
use Rattle.body_exprs.specs.Env.{table_of}
use Rattle.body_exprs.specs.Typing.{Typing}
use Rattle.body_check.specs.declared.node.Around.{Around}
use Rattle.body_check.specs.declared.node.Node.{Node}
use Rattle.body_check.specs.Checking.{check_block}
use Rattle.body_check.specs.Simple.{declared_type, declared_reported, assign_local, perform, leave_with, print}
use Rattle.body_check.specs.Walks.{Walk, passes}
use Rattle.sound_lemmas.specs.Accepted.{IsAccepted}
use Rattle.sound_bodies.specs.Gathered.{Gathers}
use Rattle.sound_bodies.specs.Naming.{LocalsName, AllDoneIn, Signed}
use Rattle.sound_bodies.specs.Ready.{Ready, Room, NdFree}
use Rattle.sound_bodies.specs.Seen.{can_stand, SupersAgree, Tells, Sees, Returns}
use Rattle.syntax_grammar.specs.Written.{Fitting, StmtsFitting, IsWritten}

-- what the checker accepts is well typed: the aim of this crate, of which the laws below are steps
abbrev pub AcceptedIsWellTyped : Type 0
AcceptedIsWellTyped =
    (program : Program) (table : Table) (bodies : List PlainBody) → IsWritten program → IsAccepted program table bodies →
    WellTyped (program_of table program.names (program_uses_nd program) bodies)

-- where a value fits, its type is a subtype
abbrev pub SubtypesAgree : Type 0
SubtypesAgree = (P : PlainProgram) (supers : List Super) → SupersAgree P supers → (t u : PlainType) → can_stand u ≡ true → FitsBelow supers t u → Subtype P t u

-- what is made of an expression has its type, with what is found there, and reaches an nd construct only where that is found
pub record Stands (P : PlainProgram) (L : Scope) (before : Found) (e : TypedExpr) (after : Found) : Type 0 where
  pub effects : List Own
  pub has : (IsTrue L.nd_free → after.reaches_nd ≡ false) → Has P L e effects
  pub gathers : Gathers before effects after
  pub nd_free : after.reaches_nd ≡ false → before.reaches_nd ≡ false

-- an expression that passes
abbrev pub ExpressionsAgree : Type 0
ExpressionsAgree =
    (P : PlainProgram) (L : Scope) (env : Env) (reads assigns : ℕ → Bool) → Tells P (table_of env) L.member_nd_free → Sees P L env reads assigns → (e : PlainExpr) (f g : Found) (made : Option TypedExpr) → Fitting e → ((x : ℕ) → IsTrue (expr_reads x e) → IsTrue (reads x)) → Typing env e f (gives made g) →
    (t : TypedExpr) × (made ≡ Some t) × Stands P L f t g

-- what is made of a statement passes, with what is found there
pub record Passing (P : PlainProgram) (L : Scope) (before : Found) (s : TypedStmt) (after : Found) : Type 0 where
  pub effects : List Own
  pub does_so : (IsTrue L.nd_free → after.reaches_nd ≡ false) → Passes P L s effects
  pub gathers : Gathers before effects after
  pub nd_free : after.reaches_nd ≡ false → before.reaches_nd ≡ false

-- a statement that holds no other, and neither declares something nor assigns to a field or an element
pub record SingleAgrees (P : PlainProgram) (L : Scope) (params : List Bool) (around : Around) (w : Walk) (may_read may_assign : ℕ → Bool) : Type 0 where
  pub assigned : (node : Node) (target : Named) (value : PlainExpr) (u : Walk) (s : TypedStmt) → Fitting value → ((x : ℕ) → IsTrue (expr_reads x value) → IsTrue (may_read x)) →
      IsTrue (may_assign target.name) → assign_local node target value w ≡ passes s u → Passing P L w.found s u.found
  pub performed : (node : Node) (value : PlainExpr) (u : Walk) (s : TypedStmt) → Fitting value → ((x : ℕ) → IsTrue (expr_reads x value) → IsTrue (may_read x)) → IsPerformed value →
      perform node value w ≡ passes s u → Passing P L w.found s u.found
  pub returned : (node : Node) (value : PlainExpr) (u : Walk) (s : TypedStmt) → Fitting value → ((x : ℕ) → IsTrue (expr_reads x value) → IsTrue (may_read x)) → Returns L w.env around →
      leave_with around node value w ≡ passes s u → Passing P L w.found s u.found
  pub printed : (node : Node) (value : PlainExpr) (u : Walk) (s : TypedStmt) → Fitting value → ((x : ℕ) → IsTrue (expr_reads x value) → IsTrue (may_read x)) →
      print node value w ≡ passes s u → Passing P L w.found s u.found

abbrev pub SinglesAgree : Type 0
SinglesAgree =
    (P : PlainProgram) (L : Scope) (params : List Bool) (around : Around) (w : Walk) (may_read may_assign : ℕ → Bool) → Tells P (table_of w.env) L.member_nd_free → Sees P L w.env may_read may_assign →
    SingleAgrees P L params around w may_read may_assign

-- a type that a declaration names, of which no fault is reported, is good
abbrev pub TypesAgree : Type 0
TypesAgree =
    (P : PlainProgram) (L : Scope) (env : Env) (reads assigns : ℕ → Bool) → Tells P (table_of env) L.member_nd_free → Sees P L env reads assigns → (tree : TypeTree) → length tree.suffixes ≤ 4294967295 →
    declared_reported env tree ≡ None → GoodType P L 0 (declared_type env tree)

-- statements that pass in the judgement do nothing but to what is in scope
abbrev pub EffectsAreInScope : Type 0
EffectsAreInScope = (P : PlainProgram) → Signed P → (L : Scope) → LocalsName L → (ss : TypedStmts) (effects : List Own) → AllPass P L ss effects → AllDoneIn L effects

-- what is made of the statements of a block passes, with what is found there
pub record BlockPasses (P : PlainProgram) (L : Scope) (before : Found) (made : List TypedStmt) (after : Found) : Type 0 where
  pub effects : List Own
  pub passes_so : AllPass P L (stmts_of made) effects
  pub gathers : Gathers before effects after
  pub in_scope : AllDoneIn L effects

-- the statements of a block that pass, where what is asked of its place holds
abbrev pub BlocksAgree : Type 0
BlocksAgree =
    (P : PlainProgram) → Signed P → (L : Scope) (params : List Bool) (around : Around) (reads assigns : ℕ → Bool) (w : Walk) → Ready P L w.env params around reads assigns →
    (all : PlainStmts) → StmtsFitting all → ((x : ℕ) → IsTrue (stmts_read x all) → IsTrue (reads x)) → ((x : ℕ) → IsTrue (stmts_assign x all) → IsTrue (assigns x)) →
    (made : List TypedStmt) (u : Walk) → check_block params around all w ≡ passes made u → Room L u.env → NdFree L u → BlockPasses P L w.found made u.found
