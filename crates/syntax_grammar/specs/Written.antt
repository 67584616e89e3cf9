-- What the grammar says of every tree, and the rules of bodies don't ask again.
use Rattle.std.specs.Prelude.{◌≡◌, ◌≤◌, FitsSigned, [], All, map, length}
use Rattle.std.specs.Int.{w32}
use Rattle.syntax_tree.specs.declared.class.Class.{Class}
use Rattle.syntax_tree.specs.declared.class.Member.{Member}
use Rattle.syntax_tree.specs.declared.class.Member.TheVariants as member
use Rattle.syntax_tree.specs.declared.class.Method.{Method}
use Rattle.syntax_tree.specs.declared.class.MethodResult.{MethodResult}
use Rattle.syntax_tree.specs.declared.class.MethodResult.TheVariants as outcome
use Rattle.syntax_tree.specs.declared.class.Program.{Program}
use Rattle.syntax_tree.specs.declared.region.Params.{Params}
use Rattle.syntax_tree.specs.Plain.{PlainExpr, expression, ExprForm, int, boolean, null, this, local, field, element, call, create, create_array, unary, binary, PlainExprs, no_exprs, more_exprs, PlainStmt, statement, StmtForm, block, declare, assign_local, assign_field, assign_element, perform, choice, choice_else, while_loop, return_nothing, return_value, print, print_text, cobegin, foreach, foreach_parts, atomic, local_regions, PlainStmts, no_stmts, more_stmts, plain_stmt, plain_stmts}
use Rattle.syntax_tree.specs.Shaped.{IsShaped}
use Rattle.syntax_tree.specs.Targets.{IsPerformed}
use Rattle.syntax_tree.specs.Size.{program_size}

-- each number has 32 bits, and no type has more suffixes than such numbers count
abbrev mutual
  pub Fitting : PlainExpr → Type 0
  Fitting (expression place form) = FormFitting form

  pub FormFitting : ExprForm → Type 0
  FormFitting (int k) = FitsSigned w32 k
  FormFitting (boolean b) = Unit {0}
  FormFitting null = Unit {0}
  FormFitting this = Unit {0}
  FormFitting (local name) = Unit {0}
  FormFitting (field of name) = Fitting of
  FormFitting (element array index) = Fitting array × Fitting index
  FormFitting (call of regions name actuals) = Fitting of × AllFitting actuals
  FormFitting (create class regions actuals) = AllFitting actuals
  FormFitting (create_array base suffixes len rpl index) = (length suffixes ≤ 4294967295) × Fitting len
  FormFitting (unary op arg) = Fitting arg
  FormFitting (binary op left right) = Fitting left × Fitting right

  pub AllFitting : PlainExprs → Type 0
  AllFitting no_exprs = Unit {0}
  AllFitting (more_exprs e es) = Fitting e × AllFitting es

-- and a statement that is an expression is a call or a creation
abbrev mutual
  pub StmtFitting : PlainStmt → Type 0
  StmtFitting (statement place form) = StmtFormFitting form

  pub StmtFormFitting : StmtForm → Type 0
  StmtFormFitting (block all) = StmtsFitting all
  StmtFormFitting (declare is_final ty name value) = (length ty.suffixes ≤ 4294967295) × Fitting value
  StmtFormFitting (assign_local target value) = Fitting value
  StmtFormFitting (assign_field target value) = Fitting target × Fitting value
  StmtFormFitting (assign_element target value) = Fitting target × Fitting value
  StmtFormFitting (perform performed) = Fitting performed × IsPerformed performed
  StmtFormFitting (choice test then_part) = Fitting test × StmtFitting then_part
  StmtFormFitting (choice_else test then_part else_part) = Fitting test × StmtFitting then_part × StmtFitting else_part
  StmtFormFitting (while_loop test body) = Fitting test × StmtFitting body
  StmtFormFitting return_nothing = Unit {0}
  StmtFormFitting (return_value value) = Fitting value
  StmtFormFitting (print value) = Fitting value
  StmtFormFitting (print_text text) = Unit {0}
  StmtFormFitting (cobegin nd branches) = StmtsFitting branches
  StmtFormFitting (foreach nd var start count body) = Fitting start × Fitting count × StmtFitting body
  StmtFormFitting (foreach_parts view var array count body) = Fitting array × Fitting count × StmtFitting body
  StmtFormFitting (atomic all) = StmtsFitting all
  StmtFormFitting (local_regions names) = Unit {0}

  pub StmtsFitting : PlainStmts → Type 0
  StmtsFitting no_stmts = Unit {0}
  StmtsFitting (more_stmts s ss) = StmtFitting s × StmtsFitting ss

-- constraints stand after region parameters alone
abbrev pub HasParams : Params → Type 0
HasParams params = params.list ≡ [] → params.given ≡ []

-- a constructor has no region parameters of its own
abbrev pub HasFront : MethodResult → Params → Type 0
HasFront outcome.Constructor params = params.list ≡ []
HasFront outcome.Void params = Unit {0}
HasFront (outcome.Value ty) params = Unit {0}

pub record MethodIsWritten (method : Method) : Type 0 where
  pub params : HasParams method.params
  pub front : HasFront method.result method.params
  pub numbers : StmtsFitting (plain_stmts (map plain_stmt method.body))

abbrev pub MemberIsWritten : Member → Type 0
MemberIsWritten (member.Regions is_atomic names) = Unit {0}
MemberIsWritten (member.Field declared) = Unit {0}
MemberIsWritten (member.Method method) = MethodIsWritten method

pub record ClassIsWritten (class : Class) : Type 0 where
  pub params : HasParams class.params
  pub members : All MemberIsWritten class.members

-- a program as texts have it
pub record IsWritten (program : Program) : Type 0 where
  pub shaped : IsShaped program
  pub classes : All ClassIsWritten program.classes
  pub small : program_size program ≤ 4294967295
