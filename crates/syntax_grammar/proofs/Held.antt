-- The names of a tree are those that its terminals say, in order.
use Rattle.std.proofs.Common.{◌≡◌, ◌∙◌, ℕ, Bool, List, [], ◌∷◌, ◌++◌, map, Option, refl, ap, sym, append_assoc}
use Rattle.std.specs.List.{flat_map}
use Rattle.lang_base.specs.declared.place.Place.{Place}
use Rattle.syntax_tokens.specs.declared.token.Keyword.{Keyword}
use Rattle.syntax_tokens.specs.declared.terminal.Placed.{Placed}
use Rattle.syntax_tokens.specs.declared.terminal.Terminal.{Terminal}
use Rattle.syntax_tokens.specs.declared.terminal.Terminal.TheVariants as terminal
use Rattle.syntax_tree.specs.declared.class.Class.{Class}
use Rattle.syntax_tree.specs.declared.class.Formal.{Formal}
use Rattle.syntax_tree.specs.declared.class.Item.{Item}
use Rattle.syntax_tree.specs.declared.class.Member.{Member}
use Rattle.syntax_tree.specs.declared.class.MethodResult.{MethodResult}
use Rattle.syntax_tree.specs.declared.class.Parent.{Parent}
use Rattle.syntax_tree.specs.declared.class.SummaryTree.{SummaryTree}
use Rattle.syntax_tree.specs.declared.region.BaseTree.{BaseTree}
use Rattle.syntax_tree.specs.declared.region.ConstrTree.{ConstrTree}
use Rattle.syntax_tree.specs.declared.region.ElemTree.{ElemTree}
use Rattle.syntax_tree.specs.declared.region.Named.{Named}
use Rattle.syntax_tree.specs.declared.region.Params.{Params}
use Rattle.syntax_tree.specs.declared.region.ParamTree.{ParamTree}
use Rattle.syntax_tree.specs.declared.region.RName.{RName}
use Rattle.syntax_tree.specs.declared.region.RplHead.{RplHead}
use Rattle.syntax_tree.specs.declared.region.RplTree.{RplTree}
use Rattle.syntax_tree.specs.declared.region.Suffix.{Suffix}
use Rattle.syntax_tree.specs.declared.region.TypeTree.{TypeTree}
use Rattle.syntax_tree.specs.declared.stmt.Stmt.{Stmt}
use Rattle.syntax_tree.specs.Plain.{PlainExpr, PlainExprs, PlainStmt, StmtForm, PlainStmts, plain_stmt, plain_stmts}
use Rattle.syntax_tree.specs.Names.{optional_names, region_names, head_names, elem_names, rpl_names, optional_rpl_names, base_names, suffixes_names, type_names, expr_names, exprs_names, stmt_names, stmt_form_names, stmts_names, params_names, parent_names, result_names, items_names, summary_names, member_names, class_names}
use Rattle.syntax_grammar.specs.Taking.{Takes, TakesName, Listed, last, more, Many, none, some}
use Rattle.syntax_grammar.specs.Paths.{DerivesRName, one_name, two_names, DerivesHead, root, DerivesWithin, DerivesElem, star, within, DerivesNext, next, DerivesRpl, path, DerivesArgs, no_args, args}
use Rattle.syntax_grammar.specs.Types.{DerivesBase, DerivesRegion, no_region, region, DerivesIndex, no_index, index, DerivesAfter, following, DerivesSuffix, suffix, DerivesType, type_of}
use Rattle.syntax_grammar.specs.Expressions.{Ending, DerivesLevel, operand, operation, DerivesUnary, operator, postfix, new_array, DerivesPostfix, primary, after_dot, called, indexed, DerivesPrimary, number, yes, no, nothing, receiver, parenthesised, creation, DerivesNewArray, array, DerivesActuals, no_actuals, actuals, DerivesFurther, end, further}
use Rattle.syntax_grammar.specs.Statements.{DerivesCondition, condition, DerivesValue, value, DerivesRange, range, DerivesBlock, braces, DerivesStmts, DerivesFinal, not_final, final, DerivesStmt, at_first, declaration, local_assignment, field_assignment, element_assignment, performed, DerivesForm, blocked, if_alone, if_else, turning, bare_return, return_with, printed, printed_text, branching, spreading, parting, in_one, new_regions}
use Rattle.syntax_grammar.specs.Classes.{DerivesAtomic, plain, atomic, DerivesKind, kind, DerivesParam, param, DerivesKindOr, same, other, DerivesParamsAfter, no_more, DerivesDeclared, declared, DerivesConstr, constraint, DerivesGiven, nothing_given, given, DerivesParams, no_params, params, DerivesFormal, formal, DerivesFormalList, no_formals, formals, DerivesFormals, DerivesItem, item, DerivesItems, DerivesSummary, no_summary, pure, reads, reads_and_writes, writes, DerivesIn, nowhere, in_region, DerivesResult, void, DerivesFront, constructs, answers, DerivesField, DerivesMethod, DerivesNamed, named, DerivesMember, DerivesParent, no_parent, extends, DerivesMembers, members, DerivesClass, class, DerivesProgram, program}

-- the name that a terminal says
abbrev pub name_said : Terminal → List ℕ
name_said (terminal.Name name) = name ∷ []
name_said (terminal.Int n) = []
name_said (terminal.Text text) = []
name_said (terminal.Symbol symbol) = []
name_said (terminal.Keyword keyword) = []

abbrev pub names_said : List Placed → List ℕ
names_said list = flat_map (λ placed. name_said placed.terminal) list

-- a part of the text says these names
pub record Holds (names : List ℕ) (before after : List Placed) : Type 0 where
  pub is : names_said before ≡ names ++ names_said after

takes : {wanted : Terminal} {before after : List Placed} {place : Place} → Takes wanted before after place → Holds (name_said wanted) before after
takes t = record { is = ap names_said t.first }

here : {list : List Placed} → Holds [] list list
here = record { is = refl }

join : {first second : List ℕ} {before one after : List Placed} → Holds first before one → Holds second one after → Holds (first ++ second) before after
join {first = first} {second = second} {after = after} p q =
    record { is = p.is ∙ ap (λ names. first ++ names) q.is ∙ sym (append_assoc first second (names_said after)) }

-- a part without a name after it
close : {names : List ℕ} {before one after : List Placed} → Holds names before one → Holds [] one after → Holds names before after
close {names = names} p q = record { is = p.is ∙ ap (λ rest. names ++ rest) q.is }

renamed : {names others : List ℕ} {before after : List Placed} → names ≡ others → Holds names before after → Holds others before after
renamed {after = after} e h = record { is = h.is ∙ ap (λ found. found ++ names_said after) e }

many : {A : Type 0} (Derives : List Placed → List Placed → A → Type 0) (names : A → List ℕ) →
    ((before after : List Placed) (one : A) → Derives before after one → Holds (names one) before after) →
    {before after : List Placed} {all : List A} → Many Derives before after all → Holds (flat_map names all) before after
many Derives names each none = here
many Derives names each (some d m) = join (each _ _ _ d) (many Derives names each m)

listed : {A : Type 0} (Derives : List Placed → List Placed → A → Type 0) (names : A → List ℕ) →
    ((before after : List Placed) (one : A) → Derives before after one → Holds (names one) before after) →
    {before after : List Placed} {all : List A} → Listed Derives before after all → Holds (flat_map names all) before after
listed Derives names each (last d) = join (each _ _ _ d) here
listed Derives names each (more d comma l) = join (close (each _ _ _ d) (takes comma)) (listed Derives names each l)

listed_names : {before after : List Placed} {all : List Named} → Listed TakesName before after all → Holds (map (λ one. one.name) all) before after
listed_names (last t) = takes t
listed_names (more t comma l) = join (close (takes t) (takes comma)) (listed_names l)

region_held : {before after : List Placed} {tree : RName} → DerivesRName before after tree → Holds (region_names tree) before after
region_held (one_name t) = takes t
region_held (two_names t dot u) = join (close (takes t) (takes dot)) (takes u)

head_held : {before after : List Placed} {tree : RplHead} → DerivesHead before after tree → Holds (head_names tree) before after
head_held (root t) = takes t
head_held (DerivesHead.name d) = region_held d

within_held : {before after : List Placed} {tree : ElemTree} → DerivesWithin before after tree → Holds (elem_names tree) before after
within_held (DerivesWithin.number t) = takes t
within_held (DerivesWithin.index t) = takes t
within_held (DerivesWithin.any t) = takes t

elem_held : {before after : List Placed} {tree : ElemTree} → DerivesElem before after tree → Holds (elem_names tree) before after
elem_held (DerivesElem.name d) = region_held d
elem_held (star t) = takes t
elem_held (within open_at d close_at) = join (takes open_at) (close (within_held d) (takes close_at))

next_held : {before after : List Placed} {tree : ElemTree} → DerivesNext before after tree → Holds (elem_names tree) before after
next_held (next colon d) = join (takes colon) (elem_held d)

rpl_held : {before after : List Placed} {tree : RplTree} → DerivesRpl before after tree → Holds (rpl_names tree) before after
rpl_held (path stands d m) = join (head_held d) (many DerivesNext elem_names (λ b a one each. next_held each) m)

args_held : {before after : List Placed} {trees : List RplTree} → DerivesArgs before after trees → Holds (flat_map rpl_names trees) before after
args_held no_args = here
args_held (args open_at l close_at) = join (takes open_at) (close (listed DerivesRpl rpl_names (λ b a one each. rpl_held each) l) (takes close_at))

base_held : {before after : List Placed} {tree : BaseTree} → DerivesBase before after tree → Holds (base_names tree) before after
base_held (DerivesBase.int t) = takes t
base_held (DerivesBase.boolean t) = takes t
base_held (DerivesBase.class t d) = join (takes t) (args_held d)

optional_rpl_held : {before after : List Placed} {tree : Option RplTree} → DerivesRegion before after tree → Holds (optional_rpl_names tree) before after
optional_rpl_held (no_region absent) = here
optional_rpl_held (region open_at d close_at) = join (takes open_at) (close (rpl_held d) (takes close_at))

index_held : {before after : List Placed} {tree : Option Named} → DerivesIndex before after tree → Holds (optional_names tree) before after
index_held (no_index absent) = here
index_held (index hash t) = join (takes hash) (takes t)

after_held : {before after : List Placed} {tree : Suffix} → DerivesAfter before after tree → Holds (optional_rpl_names tree.rpl ++ optional_names tree.index) before after
after_held (following d i) = join (optional_rpl_held d) (index_held i)

suffix_held : {before after : List Placed} {tree : Suffix} → DerivesSuffix before after tree → Holds (optional_rpl_names tree.rpl ++ optional_names tree.index) before after
suffix_held (suffix open_at close_at d) = join (takes open_at) (join (takes close_at) (after_held d))

suffixes_held : {before after : List Placed} {trees : List Suffix} → Many DerivesSuffix before after trees → Holds (suffixes_names trees) before after
suffixes_held m = many DerivesSuffix (λ tree. optional_rpl_names tree.rpl ++ optional_names tree.index) (λ b a one each. suffix_held each) m

type_held : {before after : List Placed} {tree : TypeTree} → DerivesType before after tree → Holds (type_names tree) before after
type_held (type_of stands d m) = join (base_held d) (suffixes_held m)

mutual
  level_held : {level : ℕ} {before after : List Placed} {e : PlainExpr} → DerivesLevel level before after e → Holds (expr_names e) before after
  level_held (operand d) = unary_held d
  level_held (operation fits left symbol right) = join (close (level_held left) (takes symbol)) (level_held right)

  unary_held : {before after : List Placed} {e : PlainExpr} → DerivesUnary before after e → Holds (expr_names e) before after
  unary_held (operator symbol d) = join (takes symbol) (unary_held d)
  unary_held (postfix d) = postfix_held d
  unary_held (new_array d) = array_held d

  postfix_held : {ending : Ending} {before after : List Placed} {e : PlainExpr} → DerivesPostfix ending before after e → Holds (expr_names e) before after
  postfix_held (primary d) = primary_held d
  postfix_held (after_dot d dot t) = join (close (postfix_held d) (takes dot)) (takes t)
  postfix_held (called d dot regions t all) = join (join (close (postfix_held d) (takes dot)) (args_held regions)) (join (takes t) (actuals_held all))
  postfix_held (indexed d open_at at close_at) = join (close (postfix_held d) (takes open_at)) (close (level_held at) (takes close_at))

  primary_held : {ending : Ending} {before after : List Placed} {e : PlainExpr} → DerivesPrimary ending before after e → Holds (expr_names e) before after
  primary_held (number t) = takes t
  primary_held (yes t) = takes t
  primary_held (no t) = takes t
  primary_held (nothing t) = takes t
  primary_held (receiver t) = takes t
  primary_held (DerivesPrimary.name t) = takes t
  primary_held (parenthesised open_at d close_at) = join (takes open_at) (close (level_held d) (takes close_at))
  primary_held (creation at t regions all) = join (join (takes at) (join (takes t) (args_held regions))) (actuals_held all)

  array_held : {before after : List Placed} {e : PlainExpr} → DerivesNewArray before after e → Holds (expr_names e) before after
  array_held (array at start suffixes open_at len close_at (following d i)) =
      join (join (join (join (join (takes at) (base_held start)) (suffixes_held suffixes)) (join (takes open_at) (close (level_held len) (takes close_at)))) (optional_rpl_held d)) (index_held i)

  actuals_held : {before after : List Placed} {es : PlainExprs} → DerivesActuals before after es → Holds (exprs_names es) before after
  actuals_held (no_actuals open_at close_at) = join (takes open_at) (takes close_at)
  actuals_held (actuals open_at d es close_at) = join (join (takes open_at) (level_held d)) (close (further_held es) (takes close_at))

  further_held : {before after : List Placed} {es : PlainExprs} → DerivesFurther before after es → Holds (exprs_names es) before after
  further_held end = here
  further_held (further comma d es) = join (join (takes comma) (level_held d)) (further_held es)

condition_held : {before after : List Placed} {e : PlainExpr} → DerivesCondition before after e → Holds (expr_names e) before after
condition_held (condition open_at d close_at) = join (takes open_at) (close (level_held d) (takes close_at))

value_held : {before after : List Placed} {e : PlainExpr} → DerivesValue before after e → Holds (expr_names e) before after
value_held (value d ends_at) = close (level_held d) (takes ends_at)

range_held : {before after : List Placed} {var : Named} {first second : PlainExpr} → DerivesRange before after var first second → Holds ((var.name ∷ expr_names first) ++ expr_names second) before after
range_held (range int_at t in_at first comma second close_at) =
    join (join (join (takes int_at) (close (takes t) (takes in_at))) (level_held first)) (join (takes comma) (close (level_held second) (takes close_at)))

final_held : {before after : List Placed} {is_final : Bool} → DerivesFinal before after is_final → Holds [] before after
final_held not_final = here
final_held (final t) = takes t

mutual
  block_held : {before after : List Placed} {all : PlainStmts} → DerivesBlock before after all → Holds (stmts_names all) before after
  block_held (braces open_at d close_at) = join (takes open_at) (close (stmts_held d) (takes close_at))

  stmts_held : {before after : List Placed} {all : PlainStmts} → DerivesStmts before after all → Holds (stmts_names all) before after
  stmts_held DerivesStmts.none = here
  stmts_held (DerivesStmts.some d ss) = join (stmt_held d) (stmts_held ss)

  stmt_held : {before after : List Placed} {s : PlainStmt} → DerivesStmt before after s → Holds (stmt_names s) before after
  stmt_held (at_first stands d) = form_held d
  stmt_held (declaration first ty t equals d) = join (join (final_held first) (type_held ty)) (join (close (takes t) (takes equals)) (value_held d))
  stmt_held (local_assignment t equals d) = join (close (takes t) (takes equals)) (value_held d)
  stmt_held (field_assignment left equals d) = join (close (postfix_held left) (takes equals)) (value_held d)
  stmt_held (element_assignment left equals d) = join (close (postfix_held left) (takes equals)) (value_held d)
  stmt_held (performed ends d ends_at) = close (postfix_held d) (takes ends_at)

  form_held : {before after : List Placed} {form : StmtForm} → DerivesForm before after form → Holds (stmt_form_names form) before after
  form_held (blocked d) = block_held d
  form_held (if_alone t test d absent) = join (join (takes t) (condition_held test)) (stmt_held d)
  form_held (if_else t test d else_at e) = join (join (join (takes t) (condition_held test)) (close (stmt_held d) (takes else_at))) (stmt_held e)
  form_held (turning t test d) = join (join (takes t) (condition_held test)) (stmt_held d)
  form_held (bare_return t ends_at) = join (takes t) (takes ends_at)
  form_held (return_with t d) = join (takes t) (value_held d)
  form_held (printed t d ends_at) = join (takes t) (close (condition_held d) (takes ends_at))
  form_held (printed_text t open_at text close_at ends_at) = join (takes t) (join (takes open_at) (join (takes text) (join (takes close_at) (takes ends_at))))
  form_held (branching t d) = join (takes t) (block_held d)
  form_held (spreading t open_at over d) = join (join (takes t) (join (takes open_at) (range_held over))) (stmt_held d)
  form_held (parting t open_at view comma (range int_at var in_at first inner second close_at) d) =
      join (join (join (join (takes t) (join (takes open_at) (join (close (takes view) (takes comma)) (join (takes int_at) (close (takes var) (takes in_at))))))
      (level_held first)) (join (takes inner) (close (level_held second) (takes close_at)))) (stmt_held d)
  form_held (in_one t d) = join (takes t) (block_held d)
  form_held (new_regions t names ends_at) = join (takes t) (close (listed_names names) (takes ends_at))

atomic_held : {before after : List Placed} {is_atomic : Bool} → DerivesAtomic before after is_atomic → Holds [] before after
atomic_held plain = here
atomic_held (atomic t) = takes t

kind_held : {before after : List Placed} {is_atomic : Bool} → DerivesKind before after is_atomic → Holds [] before after
kind_held (kind d t) = join (atomic_held d) (takes t)

kind_or_held : {earlier is_atomic : Bool} {before after : List Placed} → DerivesKindOr earlier before after is_atomic → Holds [] before after
kind_or_held same = here
kind_or_held (other d) = kind_held d

param_held : {is_atomic : Bool} {before after : List Placed} {tree : ParamTree} → DerivesParam is_atomic before after tree → Holds (tree.name ∷ []) before after
param_held (param t) = takes t

params_after_held : {earlier : Bool} {before after : List Placed} {trees : List ParamTree} → DerivesParamsAfter earlier before after trees → Holds (map (λ tree. tree.name) trees) before after
params_after_held no_more = here
params_after_held (DerivesParamsAfter.following comma d one others) = join (join (join (takes comma) (kind_or_held d)) (param_held one)) (params_after_held others)

declared_held : {before after : List Placed} {trees : List ParamTree} → DerivesDeclared before after trees → Holds (map (λ tree. tree.name) trees) before after
declared_held (declared d one others) = join (join (kind_held d) (param_held one)) (params_after_held others)

constraint_held : {before after : List Placed} {tree : ConstrTree} → DerivesConstr before after tree → Holds (rpl_names tree.left ++ rpl_names tree.right) before after
constraint_held (constraint left hash right) = join (close (rpl_held left) (takes hash)) (rpl_held right)

given_held : {before after : List Placed} {trees : List ConstrTree} → DerivesGiven before after trees → Holds (flat_map (λ tree. rpl_names tree.left ++ rpl_names tree.right) trees) before after
given_held nothing_given = here
given_held (given bar l) = join (takes bar) (listed DerivesConstr (λ tree. rpl_names tree.left ++ rpl_names tree.right) (λ b a one each. constraint_held each) l)

params_held : {before after : List Placed} {tree : Params} → DerivesParams before after tree → Holds (params_names tree) before after
params_held no_params = here
params_held (params open_at d g close_at) = join (join (takes open_at) (declared_held d)) (close (given_held g) (takes close_at))

formal_held : {before after : List Placed} {tree : Formal} → DerivesFormal before after tree → Holds (type_names tree.ty ++ tree.name ∷ []) before after
formal_held (formal d t) = join (type_held d) (takes t)

formal_list_held : {before after : List Placed} {trees : List Formal} → DerivesFormalList before after trees → Holds (flat_map (λ tree. type_names tree.ty ++ tree.name ∷ []) trees) before after
formal_list_held no_formals = here
formal_list_held (formals l) = listed DerivesFormal (λ tree. type_names tree.ty ++ tree.name ∷ []) (λ b a one each. formal_held each) l

formals_held : {before after : List Placed} {trees : List Formal} → DerivesFormals before after trees → Holds (flat_map (λ tree. type_names tree.ty ++ tree.name ∷ []) trees) before after
formals_held (DerivesFormals.parenthesised open_at d close_at) = join (takes open_at) (close (formal_list_held d) (takes close_at))

item_held : {before after : List Placed} {tree : Item} → DerivesItem before after tree → Holds (rpl_names tree.rpl) before after
item_held (item d e) = join (atomic_held d) (rpl_held e)

items_held : {keyword : Keyword} {before after : List Placed} {trees : List Item} → DerivesItems keyword before after trees → Holds (items_names trees) before after
items_held (DerivesItems.items t l) = join (takes t) (listed DerivesItem (λ tree. rpl_names tree.rpl) (λ b a one each. item_held each) l)

summary_held : {before after : List Placed} {tree : Option SummaryTree} → DerivesSummary before after tree → Holds (summary_names tree) before after
summary_held no_summary = here
summary_held (pure t) = takes t
summary_held (reads d) = join (items_held d) here
summary_held (reads_and_writes d e) = join (items_held d) (items_held e)
summary_held (writes d) = items_held d

in_held : {before after : List Placed} {tree : Option RplTree} → DerivesIn before after tree → Holds (optional_rpl_names tree) before after
in_held nowhere = here
in_held (in_region t d) = join (takes t) (rpl_held d)

result_held : {before after : List Placed} {tree : MethodResult} → DerivesResult before after tree → Holds (result_names tree) before after
result_held (void t) = takes t
result_held (DerivesResult.value d) = type_held d

front_held : {before after : List Placed} {own : Params} {answer : MethodResult} → DerivesFront before after own answer → Holds (params_names own ++ result_names answer) before after
front_held constructs = here
front_held (answers d e) = join (params_held d) (result_held e)

field_held : {ty : TypeTree} {name : Named} {start at before after : List Placed} {tree : Member} →
    Holds (type_names ty) start at → Holds (name.name ∷ []) at before → DerivesField ty name before after tree → Holds (member_names tree) start after
field_held front said (DerivesField.field d ends_at) = join front (join said (close (in_held d) (takes ends_at)))

body_names : (body : List Stmt) → stmts_names (plain_stmts (map plain_stmt body)) ≡ flat_map (λ s. stmt_names (plain_stmt s)) body
body_names [] = refl
body_names (s ∷ body) = ap (λ names. stmt_names (plain_stmt s) ++ names) (body_names body)

method_held : {own : Params} {answer : MethodResult} {name : Named} {start at before after : List Placed} {tree : Member} →
    Holds (params_names own ++ result_names answer) start at → Holds (name.name ∷ []) at before → DerivesMethod own answer name before after tree → Holds (member_names tree) start after
method_held front said (DerivesMethod.method {body = body} d s b) =
    join (join (join front (join said (formals_held d))) (summary_held s)) (renamed (body_names body) (block_held b))

named_held : {own : Params} {answer : MethodResult} {start before after : List Placed} {tree : Member} →
    Holds (params_names own ++ result_names answer) start before → DerivesNamed own answer before after tree → Holds (member_names tree) start after
named_held front (named t d) = method_held front (takes t) d

member_held : {before after : List Placed} {tree : Member} → DerivesMember before after tree → Holds (member_names tree) before after
member_held (DerivesMember.regions d names ends_at) = join (kind_held d) (close (listed_names names) (takes ends_at))
member_held (DerivesMember.field d t f) = field_held (type_held d) (takes t) f
member_held (DerivesMember.method d n) = named_held (front_held d) n

parent_held : {before after : List Placed} {tree : Option Parent} → DerivesParent before after tree → Holds (parent_names tree) before after
parent_held no_parent = here
parent_held (extends t u d) = join (join (takes t) (takes u)) (args_held d)

members_held : {before after : List Placed} {trees : List Member} → DerivesMembers before after trees → Holds (flat_map member_names trees) before after
members_held (members open_at m close_at) = join (takes open_at) (close (many DerivesMember member_names (λ b a one each. member_held each) m) (takes close_at))

class_held : {before after : List Placed} {tree : Class} → DerivesClass before after tree → Holds (class_names tree) before after
class_held (class t u d p m) = join (join (join (join (takes t) (takes u)) (params_held d)) (parent_held p)) (members_held m)

pub program_held : {list : List Placed} {classes : List Class} → DerivesProgram list classes → Holds (flat_map class_names classes) list []
program_held (program d m) = join (class_held d) (many DerivesClass class_names (λ b a one each. class_held each) m)
