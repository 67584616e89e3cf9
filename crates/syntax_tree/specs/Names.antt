-- The names that a tree holds, part by part, in the order of the text. A name is its position in the program's list.
use Rattle.std.specs.Prelude.{ℕ, List, [], ◌∷◌, ◌++◌, map, Option, Some, None}
use Rattle.std.specs.List.{flat_map}
use Rattle.syntax_tree.specs.declared.class.Class.{Class}
use Rattle.syntax_tree.specs.declared.class.Item.{Item}
use Rattle.syntax_tree.specs.declared.class.Member.{Member}
use Rattle.syntax_tree.specs.declared.class.Member.TheVariants as member
use Rattle.syntax_tree.specs.declared.class.Method.{Method}
use Rattle.syntax_tree.specs.declared.class.MethodResult.{MethodResult}
use Rattle.syntax_tree.specs.declared.class.MethodResult.TheVariants as outcome
use Rattle.syntax_tree.specs.declared.class.Parent.{Parent}
use Rattle.syntax_tree.specs.declared.class.Program.{Program}
use Rattle.syntax_tree.specs.declared.class.SummaryTree.{SummaryTree}
use Rattle.syntax_tree.specs.declared.region.BaseTree.{BaseTree}
use Rattle.syntax_tree.specs.declared.region.BaseTree.TheVariants as base
use Rattle.syntax_tree.specs.declared.region.ElemTree.{ElemTree}
use Rattle.syntax_tree.specs.declared.region.ElemTree.TheVariants as elem
use Rattle.syntax_tree.specs.declared.region.Named.{Named}
use Rattle.syntax_tree.specs.declared.region.Params.{Params}
use Rattle.syntax_tree.specs.declared.region.RName.{RName}
use Rattle.syntax_tree.specs.declared.region.RplHead.{RplHead}
use Rattle.syntax_tree.specs.declared.region.RplHead.TheVariants as head
use Rattle.syntax_tree.specs.declared.region.RplTree.{RplTree}
use Rattle.syntax_tree.specs.declared.region.Suffix.{Suffix}
use Rattle.syntax_tree.specs.declared.region.TypeTree.{TypeTree}
use Rattle.syntax_tree.specs.Plain.{PlainExpr, expression, ExprForm, int, boolean, null, this, local, field, element, call, create, create_array, unary, binary, PlainExprs, no_exprs, more_exprs, PlainStmt, statement, StmtForm, block, declare, assign_local, assign_field, assign_element, perform, choice, choice_else, while_loop, return_nothing, return_value, print, print_text, cobegin, foreach, foreach_parts, atomic, local_regions, PlainStmts, no_stmts, more_stmts, plain_stmt}

abbrev pub optional_names : Option Named → List ℕ
optional_names None = []
optional_names (Some named) = named.name ∷ []

abbrev pub region_names : RName → List ℕ
region_names region = region.first.name ∷ optional_names region.second

abbrev pub head_names : RplHead → List ℕ
head_names head.Root = []
head_names (head.Name region) = region_names region

abbrev pub elem_names : ElemTree → List ℕ
elem_names (elem.Name region) = region_names region
elem_names elem.Star = []
elem_names elem.Any = []
elem_names (elem.Lit k) = []
elem_names (elem.Index named) = named.name ∷ []

abbrev pub rpl_names : RplTree → List ℕ
rpl_names path = head_names path.head ++ flat_map elem_names path.elems

abbrev pub optional_rpl_names : Option RplTree → List ℕ
optional_rpl_names None = []
optional_rpl_names (Some path) = rpl_names path

abbrev pub base_names : BaseTree → List ℕ
base_names base.Int = []
base_names base.Bool = []
base_names (base.Class named args) = named.name ∷ flat_map rpl_names args

abbrev pub suffixes_names : List Suffix → List ℕ
suffixes_names suffixes = flat_map (λ suffix. optional_rpl_names suffix.rpl ++ optional_names suffix.index) suffixes

abbrev pub type_names : TypeTree → List ℕ
type_names ty = base_names ty.base ++ suffixes_names ty.suffixes

abbrev mutual
  pub expr_names : PlainExpr → List ℕ
  expr_names (expression place form) = form_names form

  pub form_names : ExprForm → List ℕ
  form_names (int n) = []
  form_names (boolean b) = []
  form_names null = []
  form_names this = []
  form_names (local name) = name ∷ []
  form_names (field of name) = expr_names of ++ name ∷ []
  form_names (element array index) = expr_names array ++ expr_names index
  form_names (call of regions name actuals) = expr_names of ++ flat_map rpl_names regions ++ name ∷ exprs_names actuals
  form_names (create class regions actuals) = class.name ∷ flat_map rpl_names regions ++ exprs_names actuals
  form_names (create_array base suffixes len rpl index) =
      base_names base ++ suffixes_names suffixes ++ expr_names len ++ optional_rpl_names rpl ++ optional_names index
  form_names (unary op arg) = expr_names arg
  form_names (binary op left right) = expr_names left ++ expr_names right

  pub exprs_names : PlainExprs → List ℕ
  exprs_names no_exprs = []
  exprs_names (more_exprs e es) = expr_names e ++ exprs_names es

abbrev mutual
  pub stmt_names : PlainStmt → List ℕ
  stmt_names (statement place form) = stmt_form_names form

  pub stmt_form_names : StmtForm → List ℕ
  stmt_form_names (block all) = stmts_names all
  stmt_form_names (declare is_final ty name value) = type_names ty ++ name ∷ expr_names value
  stmt_form_names (assign_local target value) = target.name ∷ expr_names value
  stmt_form_names (assign_field target value) = expr_names target ++ expr_names value
  stmt_form_names (assign_element target value) = expr_names target ++ expr_names value
  stmt_form_names (perform performed) = expr_names performed
  stmt_form_names (choice test then_part) = expr_names test ++ stmt_names then_part
  stmt_form_names (choice_else test then_part else_part) = expr_names test ++ stmt_names then_part ++ stmt_names else_part
  stmt_form_names (while_loop test body) = expr_names test ++ stmt_names body
  stmt_form_names return_nothing = []
  stmt_form_names (return_value value) = expr_names value
  stmt_form_names (print value) = expr_names value
  stmt_form_names (print_text text) = []
  stmt_form_names (cobegin nd branches) = stmts_names branches
  stmt_form_names (foreach nd var start count body) = var.name ∷ expr_names start ++ expr_names count ++ stmt_names body
  stmt_form_names (foreach_parts view var array count body) =
      view.name ∷ var.name ∷ expr_names array ++ expr_names count ++ stmt_names body
  stmt_form_names (atomic all) = stmts_names all
  stmt_form_names (local_regions names) = map (λ named. named.name) names

  pub stmts_names : PlainStmts → List ℕ
  stmts_names no_stmts = []
  stmts_names (more_stmts s ss) = stmt_names s ++ stmts_names ss

abbrev pub params_names : Params → List ℕ
params_names params =
    map (λ param. param.name) params.list ++ flat_map (λ given. rpl_names given.left ++ rpl_names given.right) params.given

abbrev pub parent_names : Option Parent → List ℕ
parent_names None = []
parent_names (Some parent) = parent.name.name ∷ flat_map rpl_names parent.args

abbrev pub result_names : MethodResult → List ℕ
result_names outcome.Constructor = []
result_names outcome.Void = []
result_names (outcome.Value ty) = type_names ty

abbrev pub items_names : List Item → List ℕ
items_names items = flat_map (λ item. rpl_names item.rpl) items

abbrev pub summary_names : Option SummaryTree → List ℕ
summary_names None = []
summary_names (Some summary) = items_names summary.reads ++ items_names summary.writes

abbrev pub method_names : Method → List ℕ
method_names method =
    params_names method.params ++ result_names method.result ++ method.name ∷ flat_map (λ formal. type_names formal.ty ++ formal.name ∷ []) method.formals
    ++ summary_names method.summary ++ flat_map (λ s. stmt_names (plain_stmt s)) method.body

abbrev pub member_names : Member → List ℕ
member_names (member.Regions is_atomic names) = map (λ named. named.name) names
member_names (member.Field declared) = type_names declared.ty ++ declared.name ∷ optional_rpl_names declared.region
member_names (member.Method method) = method_names method

abbrev pub class_names : Class → List ℕ
class_names class = class.name ∷ params_names class.params ++ parent_names class.parent ++ flat_map member_names class.members

-- every name of a program, as often as it stands there
abbrev pub program_names : Program → List ℕ
program_names program = flat_map class_names program.classes
