-- How many nodes a tree has: its classes, members, parameters, types, region paths, statements and expressions, and
-- the region names that it declares.
use Rattle.std.specs.Prelude.{ℕ, suc, ◌+◌, List, length, Option, Some, None, sum_by, map}
use Rattle.syntax_tree.specs.declared.class.Class.{Class}
use Rattle.syntax_tree.specs.declared.class.Item.{Item}
use Rattle.syntax_tree.specs.declared.class.Member.{Member}
use Rattle.syntax_tree.specs.declared.class.Member.TheVariants as member
use Rattle.syntax_tree.specs.declared.class.Method.{Method}
use Rattle.syntax_tree.specs.declared.class.MethodResult.{MethodResult}
use Rattle.syntax_tree.specs.declared.class.MethodResult.TheVariants as outcome
use Rattle.syntax_tree.specs.declared.class.Parent.{Parent}
use Rattle.syntax_tree.specs.declared.class.Program.{Program}
use Rattle.syntax_tree.specs.declared.class.SummaryTree.{SummaryTree}
use Rattle.syntax_tree.specs.declared.region.BaseTree.{BaseTree}
use Rattle.syntax_tree.specs.declared.region.BaseTree.TheVariants as base
use Rattle.syntax_tree.specs.declared.region.Params.{Params}
use Rattle.syntax_tree.specs.declared.region.RplTree.{RplTree}
use Rattle.syntax_tree.specs.declared.region.Suffix.{Suffix}
use Rattle.syntax_tree.specs.declared.region.TypeTree.{TypeTree}
use Rattle.syntax_tree.specs.Plain.{PlainExpr, expression, ExprForm, int, boolean, null, this, local, field, element, call, create, create_array, unary, binary, PlainExprs, no_exprs, more_exprs, PlainStmt, statement, StmtForm, block, declare, assign_local, assign_field, assign_element, perform, choice, choice_else, while_loop, return_nothing, return_value, print, print_text, cobegin, foreach, foreach_parts, atomic, local_regions, PlainStmts, no_stmts, more_stmts, plain_stmt, plain_stmts}

abbrev pub rpl_size : RplTree → ℕ
rpl_size path = suc (length path.elems)

abbrev pub optional_rpl_size : Option RplTree → ℕ
optional_rpl_size None = 0
optional_rpl_size (Some path) = rpl_size path

abbrev pub base_size : BaseTree → ℕ
base_size base.Int = 0
base_size base.Bool = 0
base_size (base.Class named args) = sum_by rpl_size args

abbrev pub suffix_size : Suffix → ℕ
suffix_size suffix = suc (optional_rpl_size suffix.rpl)

abbrev pub type_size : TypeTree → ℕ
type_size ty = suc (base_size ty.base + sum_by suffix_size ty.suffixes)

abbrev mutual
  pub expr_size : PlainExpr → ℕ
  expr_size (expression place form) = suc (form_size form)

  pub form_size : ExprForm → ℕ
  form_size (int n) = 0
  form_size (boolean b) = 0
  form_size null = 0
  form_size this = 0
  form_size (local name) = 0
  form_size (field of name) = expr_size of
  form_size (element array index) = expr_size array + expr_size index
  form_size (call of regions name actuals) = expr_size of + sum_by rpl_size regions + exprs_size actuals
  form_size (create class regions actuals) = sum_by rpl_size regions + exprs_size actuals
  form_size (create_array base suffixes len rpl index) = base_size base + sum_by suffix_size suffixes + expr_size len + optional_rpl_size rpl
  form_size (unary op arg) = expr_size arg
  form_size (binary op left right) = expr_size left + expr_size right

  pub exprs_size : PlainExprs → ℕ
  exprs_size no_exprs = 0
  exprs_size (more_exprs e es) = expr_size e + exprs_size es

abbrev mutual
  pub stmt_size : PlainStmt → ℕ
  stmt_size (statement place form) = suc (stmt_form_size form)

  pub stmt_form_size : StmtForm → ℕ
  stmt_form_size (block all) = stmts_size all
  stmt_form_size (declare is_final ty name value) = type_size ty + expr_size value
  stmt_form_size (assign_local target value) = expr_size value
  stmt_form_size (assign_field target value) = expr_size target + expr_size value
  stmt_form_size (assign_element target value) = expr_size target + expr_size value
  stmt_form_size (perform performed) = expr_size performed
  stmt_form_size (choice test then_part) = expr_size test + stmt_size then_part
  stmt_form_size (choice_else test then_part else_part) = expr_size test + stmt_size then_part + stmt_size else_part
  stmt_form_size (while_loop test body) = expr_size test + stmt_size body
  stmt_form_size return_nothing = 0
  stmt_form_size (return_value value) = expr_size value
  stmt_form_size (print value) = expr_size value
  stmt_form_size (print_text text) = 0
  stmt_form_size (cobegin nd branches) = stmts_size branches
  stmt_form_size (foreach nd var start count body) = expr_size start + expr_size count + stmt_size body
  stmt_form_size (foreach_parts view var array count body) = expr_size array + expr_size count + stmt_size body
  stmt_form_size (atomic all) = stmts_size all
  stmt_form_size (local_regions names) = length names

  pub stmts_size : PlainStmts → ℕ
  stmts_size no_stmts = 0
  stmts_size (more_stmts s ss) = stmt_size s + stmts_size ss

abbrev pub params_size : Params → ℕ
params_size params = length params.list + sum_by (λ given. rpl_size given.left + rpl_size given.right) params.given

abbrev pub parent_size : Option Parent → ℕ
parent_size None = 0
parent_size (Some parent) = suc (sum_by rpl_size parent.args)

abbrev pub result_size : MethodResult → ℕ
result_size outcome.Constructor = 0
result_size outcome.Void = 0
result_size (outcome.Value ty) = type_size ty

abbrev pub items_size : List Item → ℕ
items_size items = sum_by (λ item. rpl_size item.rpl) items

abbrev pub summary_size : Option SummaryTree → ℕ
summary_size None = 0
summary_size (Some summary) = items_size summary.reads + items_size summary.writes

abbrev pub method_size : Method → ℕ
method_size method =
    suc (params_size method.params + result_size method.result + sum_by (λ formal. suc (type_size formal.ty)) method.formals
    + summary_size method.summary + stmts_size (plain_stmts (map plain_stmt method.body)))

abbrev pub member_size : Member → ℕ
member_size (member.Regions is_atomic names) = suc (length names)
member_size (member.Field declared) = suc (type_size declared.ty + optional_rpl_size declared.region)
member_size (member.Method method) = method_size method

abbrev pub class_size : Class → ℕ
class_size class = suc (params_size class.params + parent_size class.parent + sum_by member_size class.members)

abbrev pub program_size : Program → ℕ
program_size program = sum_by class_size program.classes
