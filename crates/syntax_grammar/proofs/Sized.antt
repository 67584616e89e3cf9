-- Each node of a tree takes a terminal of its own.
use Rattle.std.proofs.Common.{ℕ, suc, ◌+◌, ◌≤◌, List, [], length, sum_by, Bool, Option, ap, arith}
use Rattle.std.proofs.lemmas.List.Sums.{sum_by-cons}
use Rattle.lang_base.specs.declared.place.Place.{Place}
use Rattle.syntax_tokens.specs.declared.token.Keyword.{Keyword}
use Rattle.syntax_tokens.specs.declared.terminal.Placed.{Placed}
use Rattle.syntax_tokens.specs.declared.terminal.Terminal.{Terminal}
use Rattle.syntax_tree.specs.declared.class.Class.{Class}
use Rattle.syntax_tree.specs.declared.class.Formal.{Formal}
use Rattle.syntax_tree.specs.declared.class.Item.{Item}
use Rattle.syntax_tree.specs.declared.class.Member.{Member}
use Rattle.syntax_tree.specs.declared.class.MethodResult.{MethodResult}
use Rattle.syntax_tree.specs.declared.class.Parent.{Parent}
use Rattle.syntax_tree.specs.declared.class.SummaryTree.{SummaryTree}
use Rattle.syntax_tree.specs.declared.region.BaseTree.{BaseTree}
use Rattle.syntax_tree.specs.declared.region.ConstrTree.{ConstrTree}
use Rattle.syntax_tree.specs.declared.region.ElemTree.{ElemTree}
use Rattle.syntax_tree.specs.declared.region.Named.{Named}
use Rattle.syntax_tree.specs.declared.region.Params.{Params}
use Rattle.syntax_tree.specs.declared.region.ParamTree.{ParamTree}
use Rattle.syntax_tree.specs.declared.region.RName.{RName}
use Rattle.syntax_tree.specs.declared.region.RplHead.{RplHead}
use Rattle.syntax_tree.specs.declared.region.RplTree.{RplTree}
use Rattle.syntax_tree.specs.declared.region.Suffix.{Suffix}
use Rattle.syntax_tree.specs.declared.region.TypeTree.{TypeTree}
use Rattle.syntax_tree.specs.Plain.{PlainExpr, PlainExprs, PlainStmt, StmtForm, PlainStmts}
use Rattle.syntax_tree.specs.Size.{rpl_size, optional_rpl_size, base_size, suffix_size, type_size, expr_size, exprs_size, stmt_size, stmt_form_size, stmts_size, params_size, parent_size, result_size, items_size, summary_size, member_size, class_size}
use Rattle.syntax_grammar.specs.Taking.{Takes, TakesName, Listed, last, more, Many, none, some}
use Rattle.syntax_grammar.specs.Paths.{DerivesRName, one_name, two_names, DerivesHead, root, DerivesWithin, DerivesElem, star, within, DerivesNext, next, DerivesRpl, path, DerivesArgs, no_args, args}
use Rattle.syntax_grammar.specs.Types.{DerivesBase, DerivesRegion, no_region, region, DerivesIndex, no_index, index, following, DerivesSuffix, suffix, DerivesType, type_of}
use Rattle.syntax_grammar.specs.Expressions.{Ending, DerivesLevel, operand, operation, DerivesUnary, operator, postfix, new_array, DerivesPostfix, primary, after_dot, called, indexed, DerivesPrimary, number, yes, no, nothing, receiver, parenthesised, creation, DerivesNewArray, array, DerivesActuals, no_actuals, actuals, DerivesFurther, end, further}
use Rattle.syntax_grammar.specs.Statements.{DerivesCondition, condition, DerivesValue, value, DerivesRange, range, DerivesBlock, braces, DerivesStmts, DerivesFinal, not_final, final, DerivesStmt, at_first, declaration, local_assignment, field_assignment, element_assignment, performed, DerivesForm, blocked, if_alone, if_else, turning, bare_return, return_with, printed, printed_text, branching, spreading, parting, in_one, new_regions}
use Rattle.syntax_grammar.specs.Classes.{DerivesAtomic, plain, atomic, DerivesKind, kind, DerivesParam, param, DerivesKindOr, same, other, DerivesParamsAfter, no_more, DerivesDeclared, declared, DerivesConstr, constraint, DerivesGiven, nothing_given, given, DerivesParams, no_params, params, DerivesFormal, formal, DerivesFormalList, no_formals, formals, DerivesFormals, DerivesItem, item, DerivesItems, DerivesSummary, no_summary, pure, reads, reads_and_writes, writes, DerivesIn, nowhere, in_region, DerivesResult, void, DerivesFront, constructs, answers, DerivesField, DerivesMethod, DerivesNamed, named, DerivesMember, DerivesParent, no_parent, extends, DerivesMembers, members, DerivesClass, class, DerivesProgram, program}

-- a part of the text takes so many terminals at least
pub record Pays (n : ℕ) (before after : List Placed) : Type 0 where
  pub enough : n + length after ≤ length before

takes : {wanted : Terminal} {before after : List Placed} {place : Place} → Takes wanted before after place → Pays 1 before after
takes t = record { enough = omega (arith, ap length t.first) }

here : {list : List Placed} → Pays 0 list list
here = record { enough = omega arith }

join : {first second : ℕ} {before one after : List Placed} → Pays first before one → Pays second one after → Pays (first + second) before after
join p q = record { enough = omega (arith, p.enough, q.enough) }

-- fewer nodes take no more
less : (n : ℕ) {more : ℕ} {before after : List Placed} → n ≤ more → Pays more before after → Pays n before after
less n h p = record { enough = omega (arith, p.enough) }

many : {A : Type 0} (Derives : List Placed → List Placed → A → Type 0) (size : A → ℕ) →
    ((before after : List Placed) (one : A) → Derives before after one → Pays (size one) before after) →
    {before after : List Placed} {all : List A} → Many Derives before after all → Pays (sum_by size all) before after
many Derives size each none = here
many Derives size each (some {item = x} {items = xs} d m) = less _ (omega (arith, sum_by-cons size x xs)) (join (each _ _ _ d) (many Derives size each m))

many_length : {A : Type 0} (Derives : List Placed → List Placed → A → Type 0) →
    ((before after : List Placed) (one : A) → Derives before after one → Pays 1 before after) →
    {before after : List Placed} {all : List A} → Many Derives before after all → Pays (length all) before after
many_length Derives each none = here
many_length Derives each (some {items = xs} d m) = less _ (omega arith) (join (each _ _ _ d) (many_length Derives each m))

listed : {A : Type 0} (Derives : List Placed → List Placed → A → Type 0) (size : A → ℕ) →
    ((before after : List Placed) (one : A) → Derives before after one → Pays (size one) before after) →
    {before after : List Placed} {all : List A} → Listed Derives before after all → Pays (sum_by size all) before after
listed Derives size each (last {item = x} d) = less _ (omega (arith, sum_by-cons size x [])) (each _ _ _ d)
listed Derives size each (more {item = x} {items = xs} d comma l) =
    less _ (omega (arith, sum_by-cons size x xs)) (join (each _ _ _ d) (join (takes comma) (listed Derives size each l)))

listed_names : {before after : List Placed} {all : List Named} → Listed TakesName before after all → Pays (length all) before after
listed_names (last t) = takes t
listed_names (more t comma l) = less _ (omega arith) (join (takes t) (join (takes comma) (listed_names l)))

region_paid : {before after : List Placed} {tree : RName} → DerivesRName before after tree → Pays 1 before after
region_paid (one_name t) = takes t
region_paid (two_names t dot u) = less _ (omega arith) (join (takes t) (join (takes dot) (takes u)))

head_paid : {before after : List Placed} {tree : RplHead} → DerivesHead before after tree → Pays 1 before after
head_paid (root t) = takes t
head_paid (DerivesHead.name d) = region_paid d

within_paid : {before after : List Placed} {tree : ElemTree} → DerivesWithin before after tree → Pays 1 before after
within_paid (DerivesWithin.number t) = takes t
within_paid (DerivesWithin.index t) = takes t
within_paid (DerivesWithin.any t) = takes t

elem_paid : {before after : List Placed} {tree : ElemTree} → DerivesElem before after tree → Pays 1 before after
elem_paid (DerivesElem.name d) = region_paid d
elem_paid (star t) = takes t
elem_paid (within open_at d close_at) = less _ (omega arith) (join (takes open_at) (join (within_paid d) (takes close_at)))

next_paid : (before after : List Placed) (tree : ElemTree) → DerivesNext before after tree → Pays 1 before after
next_paid before after tree (next colon d) = less _ (omega arith) (join (takes colon) (elem_paid d))

rpl_paid : (before after : List Placed) (tree : RplTree) → DerivesRpl before after tree → Pays (rpl_size tree) before after
rpl_paid before after tree (path stands d m) = less _ (omega arith) (join (head_paid d) (many_length DerivesNext next_paid m))

args_paid : {before after : List Placed} {trees : List RplTree} → DerivesArgs before after trees → Pays (sum_by rpl_size trees) before after
args_paid no_args = here
args_paid (args open_at l close_at) = less _ (omega arith) (join (takes open_at) (join (listed DerivesRpl rpl_size rpl_paid l) (takes close_at)))

base_paid : {before after : List Placed} {tree : BaseTree} → DerivesBase before after tree → Pays (suc (base_size tree)) before after
base_paid (DerivesBase.int t) = takes t
base_paid (DerivesBase.boolean t) = takes t
base_paid (DerivesBase.class t d) = less _ (omega arith) (join (takes t) (args_paid d))

optional_rpl_paid : {before after : List Placed} {tree : Option RplTree} → DerivesRegion before after tree → Pays (optional_rpl_size tree) before after
optional_rpl_paid (no_region absent) = here
optional_rpl_paid (region open_at d close_at) = less _ (omega arith) (join (takes open_at) (join (rpl_paid _ _ _ d) (takes close_at)))

index_paid : {before after : List Placed} {tree : Option Named} → DerivesIndex before after tree → Pays 0 before after
index_paid (no_index absent) = here
index_paid (index hash t) = less _ (omega arith) (join (takes hash) (takes t))

suffix_paid : (before after : List Placed) (tree : Suffix) → DerivesSuffix before after tree → Pays (suffix_size tree) before after
suffix_paid before after tree (suffix open_at close_at (following d i)) =
    less _ (omega arith) (join (takes open_at) (join (takes close_at) (join (optional_rpl_paid d) (index_paid i))))

type_paid : {before after : List Placed} {tree : TypeTree} → DerivesType before after tree → Pays (type_size tree) before after
type_paid (type_of stands d m) = less _ (omega arith) (join (base_paid d) (many DerivesSuffix suffix_size suffix_paid m))

mutual
  level_paid : {level : ℕ} {before after : List Placed} {e : PlainExpr} → DerivesLevel level before after e → Pays (expr_size e) before after
  level_paid (operand d) = unary_paid d
  level_paid (operation h d t e) = less _ (omega arith) (join (level_paid d) (join (takes t) (level_paid e)))

  unary_paid : {before after : List Placed} {e : PlainExpr} → DerivesUnary before after e → Pays (expr_size e) before after
  unary_paid (operator t d) = less _ (omega arith) (join (takes t) (unary_paid d))
  unary_paid (postfix d) = postfix_paid d
  unary_paid (new_array d) = array_paid d

  postfix_paid : {ending : Ending} {before after : List Placed} {e : PlainExpr} → DerivesPostfix ending before after e → Pays (expr_size e) before after
  postfix_paid (primary d) = primary_paid d
  postfix_paid (after_dot d dot t) = less _ (omega arith) (join (postfix_paid d) (join (takes dot) (takes t)))
  postfix_paid (called d dot regions t all) = less _ (omega arith) (join (postfix_paid d) (join (takes dot) (join (args_paid regions) (join (takes t) (actuals_paid all)))))
  postfix_paid (indexed d open_at at close_at) = less _ (omega arith) (join (postfix_paid d) (join (takes open_at) (join (level_paid at) (takes close_at))))

  primary_paid : {ending : Ending} {before after : List Placed} {e : PlainExpr} → DerivesPrimary ending before after e → Pays (expr_size e) before after
  primary_paid (number t) = takes t
  primary_paid (yes t) = takes t
  primary_paid (no t) = takes t
  primary_paid (nothing t) = takes t
  primary_paid (receiver t) = takes t
  primary_paid (DerivesPrimary.name t) = takes t
  primary_paid (parenthesised open_at d close_at) = less _ (omega arith) (join (takes open_at) (join (level_paid d) (takes close_at)))
  primary_paid (creation at t regions all) = less _ (omega arith) (join (takes at) (join (takes t) (join (args_paid regions) (actuals_paid all))))

  array_paid : {before after : List Placed} {e : PlainExpr} → DerivesNewArray before after e → Pays (expr_size e) before after
  array_paid (array at start suffixes open_at len close_at (following d i)) =
      less _ (omega arith) (join (takes at) (join (base_paid start) (join (many DerivesSuffix suffix_size suffix_paid suffixes)
      (join (takes open_at) (join (level_paid len) (join (takes close_at) (join (optional_rpl_paid d) (index_paid i))))))))

  actuals_paid : {before after : List Placed} {es : PlainExprs} → DerivesActuals before after es → Pays (exprs_size es) before after
  actuals_paid (no_actuals open_at close_at) = less _ (omega arith) (join (takes open_at) (takes close_at))
  actuals_paid (actuals open_at d es close_at) = less _ (omega arith) (join (takes open_at) (join (level_paid d) (join (further_paid es) (takes close_at))))

  further_paid : {before after : List Placed} {es : PlainExprs} → DerivesFurther before after es → Pays (exprs_size es) before after
  further_paid end = here
  further_paid (further comma d es) = less _ (omega arith) (join (takes comma) (join (level_paid d) (further_paid es)))

condition_paid : {before after : List Placed} {e : PlainExpr} → DerivesCondition before after e → Pays (expr_size e) before after
condition_paid (condition open_at d close_at) = less _ (omega arith) (join (takes open_at) (join (level_paid d) (takes close_at)))

value_paid : {before after : List Placed} {e : PlainExpr} → DerivesValue before after e → Pays (expr_size e) before after
value_paid (value d ends_at) = less _ (omega arith) (join (level_paid d) (takes ends_at))

range_paid : {before after : List Placed} {var : Named} {first second : PlainExpr} → DerivesRange before after var first second → Pays (expr_size first + expr_size second) before after
range_paid (range int_at t in_at first comma second close_at) =
    less _ (omega arith) (join (takes int_at) (join (takes t) (join (takes in_at) (join (level_paid first) (join (takes comma) (join (level_paid second) (takes close_at)))))))

final_paid : {before after : List Placed} {is_final : Bool} → DerivesFinal before after is_final → Pays 0 before after
final_paid not_final = here
final_paid (final t) = less _ (omega arith) (takes t)

mutual
  block_paid : {before after : List Placed} {all : PlainStmts} → DerivesBlock before after all → Pays (suc (stmts_size all)) before after
  block_paid (braces open_at d close_at) = less _ (omega arith) (join (takes open_at) (join (stmts_paid d) (takes close_at)))

  stmts_paid : {before after : List Placed} {all : PlainStmts} → DerivesStmts before after all → Pays (stmts_size all) before after
  stmts_paid DerivesStmts.none = here
  stmts_paid (DerivesStmts.some d ss) = join (stmt_paid d) (stmts_paid ss)

  stmt_paid : {before after : List Placed} {s : PlainStmt} → DerivesStmt before after s → Pays (stmt_size s) before after
  stmt_paid (at_first stands d) = form_paid d
  stmt_paid (declaration first ty t equals d) = less _ (omega arith) (join (final_paid first) (join (type_paid ty) (join (takes t) (join (takes equals) (value_paid d)))))
  stmt_paid (local_assignment t equals d) = less _ (omega arith) (join (takes t) (join (takes equals) (value_paid d)))
  stmt_paid (field_assignment left equals d) = less _ (omega arith) (join (postfix_paid left) (join (takes equals) (value_paid d)))
  stmt_paid (element_assignment left equals d) = less _ (omega arith) (join (postfix_paid left) (join (takes equals) (value_paid d)))
  stmt_paid (performed ends d ends_at) = less _ (omega arith) (join (postfix_paid d) (takes ends_at))

  form_paid : {before after : List Placed} {form : StmtForm} → DerivesForm before after form → Pays (suc (stmt_form_size form)) before after
  form_paid (blocked d) = block_paid d
  form_paid (if_alone t test d absent) = less _ (omega arith) (join (takes t) (join (condition_paid test) (stmt_paid d)))
  form_paid (if_else t test d else_at e) = less _ (omega arith) (join (takes t) (join (condition_paid test) (join (stmt_paid d) (join (takes else_at) (stmt_paid e)))))
  form_paid (turning t test d) = less _ (omega arith) (join (takes t) (join (condition_paid test) (stmt_paid d)))
  form_paid (bare_return t ends_at) = less _ (omega arith) (join (takes t) (takes ends_at))
  form_paid (return_with t d) = less _ (omega arith) (join (takes t) (value_paid d))
  form_paid (printed t d ends_at) = less _ (omega arith) (join (takes t) (join (condition_paid d) (takes ends_at)))
  form_paid (printed_text t open_at text close_at ends_at) = less _ (omega arith) (join (takes t) (join (takes open_at) (join (takes text) (join (takes close_at) (takes ends_at)))))
  form_paid (branching t d) = less _ (omega arith) (join (takes t) (block_paid d))
  form_paid (spreading t open_at over d) = less _ (omega arith) (join (takes t) (join (takes open_at) (join (range_paid over) (stmt_paid d))))
  form_paid (parting t open_at view comma over d) =
      less _ (omega arith) (join (takes t) (join (takes open_at) (join (takes view) (join (takes comma) (join (range_paid over) (stmt_paid d))))))
  form_paid (in_one t d) = less _ (omega arith) (join (takes t) (block_paid d))
  form_paid (new_regions t names ends_at) = less _ (omega arith) (join (takes t) (join (listed_names names) (takes ends_at)))

atomic_paid : {before after : List Placed} {is_atomic : Bool} → DerivesAtomic before after is_atomic → Pays 0 before after
atomic_paid plain = here
atomic_paid (atomic t) = less _ (omega arith) (takes t)

kind_paid : {before after : List Placed} {is_atomic : Bool} → DerivesKind before after is_atomic → Pays 1 before after
kind_paid (kind d t) = less _ (omega arith) (join (atomic_paid d) (takes t))

kind_or_paid : {earlier is_atomic : Bool} {before after : List Placed} → DerivesKindOr earlier before after is_atomic → Pays 0 before after
kind_or_paid same = here
kind_or_paid (other d) = less _ (omega arith) (kind_paid d)

param_paid : {is_atomic : Bool} {before after : List Placed} {tree : ParamTree} → DerivesParam is_atomic before after tree → Pays 1 before after
param_paid (param t) = takes t

params_after_paid : {earlier : Bool} {before after : List Placed} {trees : List ParamTree} → DerivesParamsAfter earlier before after trees → Pays (length trees) before after
params_after_paid no_more = here
params_after_paid (DerivesParamsAfter.following comma d one others) = less _ (omega arith) (join (takes comma) (join (kind_or_paid d) (join (param_paid one) (params_after_paid others))))

declared_paid : {before after : List Placed} {trees : List ParamTree} → DerivesDeclared before after trees → Pays (length trees) before after
declared_paid (declared d one others) = less _ (omega arith) (join (kind_paid d) (join (param_paid one) (params_after_paid others)))

abbrev constr_size : ConstrTree → ℕ
constr_size tree = rpl_size tree.left + rpl_size tree.right

constraint_paid : (before after : List Placed) (tree : ConstrTree) → DerivesConstr before after tree → Pays (constr_size tree) before after
constraint_paid before after tree (constraint first hash second) = less _ (omega arith) (join (rpl_paid _ _ _ first) (join (takes hash) (rpl_paid _ _ _ second)))

given_paid : {before after : List Placed} {trees : List ConstrTree} → DerivesGiven before after trees → Pays (sum_by constr_size trees) before after
given_paid nothing_given = here
given_paid (given bar l) = less _ (omega arith) (join (takes bar) (listed DerivesConstr constr_size constraint_paid l))

params_paid : {before after : List Placed} {tree : Params} → DerivesParams before after tree → Pays (params_size tree) before after
params_paid no_params = here
params_paid (params open_at d g close_at) = less _ (omega arith) (join (takes open_at) (join (declared_paid d) (join (given_paid g) (takes close_at))))

abbrev formal_size : Formal → ℕ
formal_size tree = suc (type_size tree.ty)

formal_paid : (before after : List Placed) (tree : Formal) → DerivesFormal before after tree → Pays (formal_size tree) before after
formal_paid before after tree (formal d t) = less _ (omega arith) (join (type_paid d) (takes t))

formal_list_paid : {before after : List Placed} {trees : List Formal} → DerivesFormalList before after trees → Pays (sum_by formal_size trees) before after
formal_list_paid no_formals = here
formal_list_paid (formals l) = listed DerivesFormal formal_size formal_paid l

formals_paid : {before after : List Placed} {trees : List Formal} → DerivesFormals before after trees → Pays (suc (sum_by formal_size trees)) before after
formals_paid (DerivesFormals.parenthesised open_at d close_at) = less _ (omega arith) (join (takes open_at) (join (formal_list_paid d) (takes close_at)))

abbrev item_size : Item → ℕ
item_size tree = rpl_size tree.rpl

item_paid : (before after : List Placed) (tree : Item) → DerivesItem before after tree → Pays (item_size tree) before after
item_paid before after tree (item d e) = less _ (omega arith) (join (atomic_paid d) (rpl_paid _ _ _ e))

items_paid : {keyword : Keyword} {before after : List Placed} {trees : List Item} → DerivesItems keyword before after trees → Pays (items_size trees) before after
items_paid (DerivesItems.items t l) = less _ (omega arith) (join (takes t) (listed DerivesItem item_size item_paid l))

summary_paid : {before after : List Placed} {tree : Option SummaryTree} → DerivesSummary before after tree → Pays (summary_size tree) before after
summary_paid no_summary = here
summary_paid (pure t) = less _ (omega arith) (takes t)
summary_paid (reads d) = less _ (omega arith) (items_paid d)
summary_paid (reads_and_writes d e) = join (items_paid d) (items_paid e)
summary_paid (writes d) = less _ (omega arith) (items_paid d)

in_paid : {before after : List Placed} {tree : Option RplTree} → DerivesIn before after tree → Pays (optional_rpl_size tree) before after
in_paid nowhere = here
in_paid (in_region t d) = less _ (omega arith) (join (takes t) (rpl_paid _ _ _ d))

result_paid : {before after : List Placed} {tree : MethodResult} → DerivesResult before after tree → Pays (result_size tree) before after
result_paid (void t) = less _ (omega arith) (takes t)
result_paid (DerivesResult.value d) = type_paid d

front_paid : {before after : List Placed} {own : Params} {answer : MethodResult} → DerivesFront before after own answer → Pays (params_size own + result_size answer) before after
front_paid constructs = here
front_paid (answers d e) = join (params_paid d) (result_paid e)

field_paid : {ty : TypeTree} {name : Named} {start at before after : List Placed} {tree : Member} →
    Pays (type_size ty) start at → Pays 1 at before → DerivesField ty name before after tree → Pays (member_size tree) start after
field_paid front said (DerivesField.field d ends_at) = less _ (omega arith) (join front (join said (join (in_paid d) (takes ends_at))))

method_paid : {own : Params} {answer : MethodResult} {name : Named} {start at before after : List Placed} {tree : Member} →
    Pays (params_size own + result_size answer) start at → Pays 1 at before → DerivesMethod own answer name before after tree → Pays (member_size tree) start after
method_paid front said (DerivesMethod.method d s b) = less _ (omega arith) (join front (join said (join (formals_paid d) (join (summary_paid s) (block_paid b)))))

named_paid : {own : Params} {answer : MethodResult} {start before after : List Placed} {tree : Member} →
    Pays (params_size own + result_size answer) start before → DerivesNamed own answer before after tree → Pays (member_size tree) start after
named_paid front (named t d) = method_paid front (takes t) d

member_paid : (before after : List Placed) (tree : Member) → DerivesMember before after tree → Pays (member_size tree) before after
member_paid before after tree (DerivesMember.regions d names ends_at) = less _ (omega arith) (join (kind_paid d) (join (listed_names names) (takes ends_at)))
member_paid before after tree (DerivesMember.field d t f) = field_paid (type_paid d) (takes t) f
member_paid before after tree (DerivesMember.method d n) = named_paid (front_paid d) n

parent_paid : {before after : List Placed} {tree : Option Parent} → DerivesParent before after tree → Pays (parent_size tree) before after
parent_paid no_parent = here
parent_paid (extends t u d) = less _ (omega arith) (join (takes t) (join (takes u) (args_paid d)))

members_paid : {before after : List Placed} {trees : List Member} → DerivesMembers before after trees → Pays (sum_by member_size trees) before after
members_paid (members open_at m close_at) = less _ (omega arith) (join (takes open_at) (join (many DerivesMember member_size member_paid m) (takes close_at)))

class_paid : (before after : List Placed) (tree : Class) → DerivesClass before after tree → Pays (class_size tree) before after
class_paid before after tree (class t u d p m) = less _ (omega arith) (join (takes t) (join (takes u) (join (params_paid d) (join (parent_paid p) (members_paid m)))))

pub program_paid : {list : List Placed} {classes : List Class} → DerivesProgram list classes → sum_by class_size classes ≤ length list
program_paid (program {first = first} {others = others} d m) =
    let paid = join (class_paid _ _ _ d) (many DerivesClass class_size class_paid m) in
    omega (arith, paid.enough, sum_by-cons class_size first others)
