-- Statements that hold no other, as the rules of the language say: their parts in order, then the node itself.
use Rattle.std.specs.Prelude.{◌+◌, ℕ, Bool, true, false, not, ◌&&◌, ◌||◌, cond, nat_lt, List, [], ◌∷◌, is_some, Option, Some, None}
use Rattle.std.specs.Option.{option_map_or}
use Rattle.lang_base.specs.declared.place.Place.{Place}
use Rattle.lang_base.specs.declared.refusal.Kind.{Kind}
use Rattle.lang_base.specs.declared.refusal.Kind.TheVariants as kind
use Rattle.lang_base.specs.declared.refusal.Refusal.{Refusal}
use Rattle.lang_base.specs.declared.ty.Ty.{Ty}
use Rattle.lang_base.specs.declared.ty.Ty.TheVariants as variant
use Rattle.lang_base.specs.Types.{PlainType, plain_type}
use Rattle.lang_base.specs.Types.{PlainType as ty}
use Rattle.decl_headers.specs.declared.faults.Order.TheVariants as order
use Rattle.decl_headers.specs.Faults.{none_by}
use Rattle.decl_headers.specs.Headers.{region_of}
use Rattle.decl_resolve.specs.declared.scope.Site.TheVariants as site
use Rattle.decl_resolve.specs.Telling.{parts_reported}
use Rattle.decl_resolve.specs.Written.{type_meant, type_faults}
use Rattle.syntax_tree.specs.declared.region.Named.{Named}
use Rattle.syntax_tree.specs.declared.region.TypeTree.{TypeTree}
use Rattle.syntax_tree.specs.Plain.{PlainExpr, expression}
use Rattle.lang_typed.specs.Plain.{TypedExpr, type_of, TypedStmt}
use Rattle.lang_typed.specs.Plain as typed
use Rattle.decl_table.specs.Table.{headers_of, numbered}
use Rattle.body_exprs.specs.declared.env.Env.{Env}
use Rattle.body_exprs.specs.declared.env.LocalRow.{LocalRow}
use Rattle.body_exprs.specs.Env.{table_of, supers_of, scope_of, local_of, slots_in, is_param_name, has_region, has_room, local_declared, region_declared, declared_in}
use Rattle.body_exprs.specs.Targeting.{PlainSpot, to_field, to_element, to_part, PlainTarget, TargetAnswer, aims, misses, type_target, with_write}
use Rattle.body_exprs.specs.Typed.{may_be, is_int, is_boolean, is_value, node_at, type_in}
use Rattle.body_exprs.specs.Fits.{fits_as}
use Rattle.body_check.specs.declared.node.Around.{Around}
use Rattle.body_check.specs.declared.node.Node.{Node}
use Rattle.body_check.specs.Deciding.{is_misplaced, local_fault, may_return}
use Rattle.body_check.specs.Noting.{with_fault, with_found, with_fault_if, fault_of, refusal_with}
use Rattle.body_check.specs.Walks.{Walk, Verdict, passes, refused, judged, expr_at, found_so, scope_so, ◌>>=◌, ◌>>◌}

-- the type that a declaration names, and the fault that is reported of it
abbrev pub declared_type : Env → TypeTree → PlainType
declared_type env tree = option_map_or (λ t. t) (type_meant (scope_of env) tree) ty.void

abbrev pub declared_reported : Env → TypeTree → Option Refusal
declared_reported env tree = parts_reported site.Body (none_by order.Kind) (type_faults (scope_of env) tree)

-- a text that declares more than there is room for is too long
abbrev pub with_room : Env → Place → Node → Node
with_room env place node = cond (has_room env) node (with_fault node kind.TooLong place)

-- a local that is declared: its name is that of another local or formal in scope, or there is no room for it
abbrev pub declaration_noted : Env → ℕ → Place → Node → Node
declaration_noted env name place node = with_room env place (cond (is_some (local_of env name)) (with_fault node kind.Duplicate place) node)

abbrev pub place_of : PlainExpr → Place
place_of (expression place form) = place

-- the typed expression that was made of an expression
abbrev pub node_of : PlainExpr → Option TypedExpr → TypedExpr
node_of e given = node_at (place_of e) given

-- the type of the code that a plain type is of
abbrev pub code_type : PlainType → Ty
code_type ty.int = variant.Int
code_type ty.boolean = variant.Bool
code_type ty.void = variant.Void
code_type ty.null = variant.Null
code_type (ty.class number args) = variant.Class number args
code_type (ty.array elem rpl named) = variant.Array (code_type elem) rpl named

-- `ty name = value;`: the type, the value, then the declaration
abbrev pub declare : Node → Bool → TypeTree → ℕ → PlainExpr → Walk → Verdict TypedStmt
declare node is_final tree name value w = do
  declared_reported w.env tree
  (t, x) ← expr_at value w
  judged
      (fault_of (with_fault_if (declaration_noted x.env name node.place node) kind.Type (not (fits_as (supers_of x.env) (type_in t) (declared_type x.env tree)))))
      (typed.statement node.place (typed.declare (slots_in x.env) (declared_type x.env tree) is_final (node_of value t)))
      (scope_so x (local_declared x.env name (code_type (declared_type x.env tree)) is_final))

-- a value goes to the local of a name, if there is one
abbrev pub put_in_local : Node → Named → TypedExpr → Option PlainType → Option LocalRow → Walk → Verdict TypedStmt
put_in_local node target value t None w = refused (refusal_with node kind.Unknown target.place)
put_in_local node target value t (Some row) w =
    judged (fault_of (with_found node (local_fault (fits_as (supers_of w.env) t (plain_type row.ty)) row.is_final)))
    (typed.statement target.place (typed.store row.slot value)) w

-- `target = value;` for a local: the value, then the assignment
abbrev pub assign_local : Node → Named → PlainExpr → Walk → Verdict TypedStmt
assign_local node target value w = do
  (t, x) ← expr_at value w
  put_in_local node target (node_of value t) (type_in t) (local_of x.env target.name) x

-- the value goes to a field, an element, or an element of a part
abbrev pub stored : PlainSpot → TypedExpr → typed.StmtForm
stored (to_field of class slot) value = typed.store_field of class slot value
stored (to_element array index) value = typed.store_element array index value
stored (to_part part index) value = typed.store_part part index value

-- what is wrong with an assignment of a value that fits or not to a target that may be written or not
abbrev pub target_fault : Bool → Bool → Option Kind
target_fault fit may_write = cond fit (cond may_write None (Some kind.PartialWrite)) (Some kind.Type)

-- what is assigned to, where the walk has come
abbrev pub aimed_at : Walk → TargetAnswer → Verdict (Option PlainTarget)
aimed_at w (aims aim found) = passes aim (found_so w found)
aimed_at w (misses refusal) = refused refusal

abbrev pub target_at : PlainExpr → Walk → Verdict (Option PlainTarget)
target_at e w = aimed_at w (type_target w.env e w.found)

-- a value goes to a target that was read. What comes from a part of what is no array takes every value
abbrev pub put_in_place : Node → Place → Option PlainTarget → TypedExpr → Option PlainType → Walk → Verdict TypedStmt
put_in_place node place None value t w =
    judged (fault_of (with_fault_if node kind.Type (not (may_be is_value t)))) (typed.statement place (typed.perform value)) w
put_in_place node place (Some aim) value t w =
    judged (fault_of (with_found node (target_fault (fits_as (supers_of w.env) t aim.ty) aim.may_write)))
    (typed.statement place (stored aim.spot value)) (found_so w (with_write w.found aim))

-- `target = value;` for a field or an element: the target, the value, then the assignment
abbrev pub assign_place : Node → PlainExpr → PlainExpr → Walk → Verdict TypedStmt
assign_place node target value w = do
  (aim, x) ← target_at target w
  (t, y) ← expr_at value x
  put_in_place node (place_of target) aim (node_of value t) (type_in t) y

-- a call or a creation as a statement
abbrev pub perform : Node → PlainExpr → Walk → Verdict TypedStmt
perform node value w = do
  (t, x) ← expr_at value w
  judged (fault_of node) (typed.statement node.place (typed.perform (node_of value t))) x

-- `return;`
abbrev pub leave : Around → Node → Walk → Verdict TypedStmt
leave around node w =
    judged (fault_of (with_fault_if node kind.Return (is_misplaced around false))) (typed.statement node.place typed.return_nothing) w

-- `return value;`: the value, then the statement, which may stand there or not
abbrev pub leave_with : Around → Node → PlainExpr → Walk → Verdict TypedStmt
leave_with around node value w = do
  (t, x) ← expr_at value w
  judged
      (fault_of
      (with_fault_if (with_fault_if node kind.Return (is_misplaced around true)) kind.Type
      (not (may_return (supers_of x.env) around.has_result (numbered (table_of x.env) x.env.method) (type_in t)))))
      (typed.statement node.place (typed.return_value (node_of value t))) x

-- an int or a boolean may be printed
abbrev pub may_print : Option PlainType → Bool
may_print t = may_be is_int t || may_be is_boolean t

abbrev pub printed_form : TypedExpr → typed.StmtForm
printed_form e = cond (is_boolean (type_of e)) (typed.print_boolean e) (typed.print_int e)

-- `print(value);`
abbrev pub print : Node → PlainExpr → Walk → Verdict TypedStmt
print node value w = do
  (t, x) ← expr_at value w
  judged (fault_of (with_fault_if node kind.Type (not (may_print (type_in t))))) (typed.statement node.place (printed_form (node_of value t))) x

-- a region parameter or a local region in scope, or a region of the class or a superclass has the name
abbrev pub is_region_name : Env → ℕ → Bool
is_region_name env name = (is_param_name env name || has_region env name) || is_some (region_of (headers_of (table_of env)) env.class name)

-- `region name, ..;`: each name comes into scope after the one before it
abbrev pub region_noted : Env → Named → Node → Node
region_noted env named node = with_room env named.place (cond (is_region_name env named.name) (with_fault node kind.Duplicate named.place) node)

abbrev pub regions_noted : Env → Node → List Named → Node
regions_noted env node [] = node
regions_noted env node (named ∷ names) = regions_noted (region_declared env named.name) (region_noted env named node) names

abbrev pub with_regions : Env → List Named → Env
with_regions env [] = env
with_regions env (named ∷ names) = with_regions (region_declared env named.name) names

-- the numbers of the regions
abbrev pub regions_made : Env → List Named → List ℕ
regions_made env [] = []
regions_made env (named ∷ names) = declared_in env ∷ regions_made (region_declared env named.name) names

abbrev pub declare_regions : Node → List Named → Walk → Verdict TypedStmt
declare_regions node names w =
    judged (fault_of (regions_noted w.env node names)) (typed.statement node.place (typed.local_regions (regions_made w.env names)))
    (scope_so w (with_regions w.env names))
