-- Calls and creations of objects whose parts are read: what they give, and what is wrong in them.
use Rattle.std.specs.Prelude.{ℕ, Bool, true, false, not, cond, List, [], ◌++◌, map, Option, Some, None, Result, Ok, Err}
use Rattle.std.specs.List.{list_all}
use Rattle.std.specs.Option.{option_map_or}
use Rattle.lang_base.specs.declared.place.Place.{Place}
use Rattle.lang_base.specs.declared.refusal.Kind.TheVariants as kind
use Rattle.lang_base.specs.declared.refusal.Refusal.{Refusal}
use Rattle.lang_base.specs.declared.region.Rpl.{Rpl}
use Rattle.lang_base.specs.declared.ty.Ty.{Ty}
use Rattle.lang_base.specs.Types.{PlainType, plain_type, type_with}
use Rattle.lang_base.specs.Types.{PlainType as ty}
use Rattle.decl_headers.specs.declared.faults.Faults.{Faults}
use Rattle.decl_headers.specs.declared.faults.Order.TheVariants as order
use Rattle.decl_headers.specs.declared.header.ParamRow.{ParamRow}
use Rattle.decl_headers.specs.Faults.{reported, none_by, all_noted}
use Rattle.decl_headers.specs.Headers.{class_of}
use Rattle.decl_headers.specs.Passes.{fault, fault_if}
use Rattle.decl_resolve.specs.declared.args.ReadArgs.{ReadArgs}
use Rattle.decl_resolve.specs.declared.scope.Site.TheVariants as site
use Rattle.decl_resolve.specs.Args.{args_given, args_faults}
use Rattle.decl_resolve.specs.Classes.{params_in}
use Rattle.decl_resolve.specs.Constraints.{all_hold}
use Rattle.decl_resolve.specs.Index.{no_index}
use Rattle.decl_resolve.specs.Reading.{args_read, arg_faults}
use Rattle.decl_resolve.specs.Telling.{parts_reported}
use Rattle.syntax_tree.specs.declared.region.Named.{Named}
use Rattle.syntax_tree.specs.declared.region.RplTree.{RplTree}
use Rattle.decl_table.specs.declared.rows.MethodRow.{MethodRow}
use Rattle.decl_table.specs.declared.table.Table.{Table}
use Rattle.decl_table.specs.Table.{headers_of, method_of, row_of, constructor_of, given_of, args_at}
use Rattle.lang_typed.specs.Plain.{TypedExpr, typed, type_of, call, create}
use Rattle.body_exprs.specs.declared.env.Env.{Env}
use Rattle.body_exprs.specs.declared.found.Found.{Found}
use Rattle.body_exprs.specs.Answer.{Answer, gives, refused, with_call}
use Rattle.body_exprs.specs.Env.{table_of, supers_of, given_in, scope_of}
use Rattle.body_exprs.specs.Fits.{all_fit}
use Rattle.body_exprs.specs.Partial.{is_partial_call}
use Rattle.body_exprs.specs.Shapes.{shapes_fit}
use Rattle.body_exprs.specs.Steps.{◌>>◌, given, looked_up}
use Rattle.body_exprs.specs.Typed.{type_in, nodes_at, may_be, is_value}

-- the region arguments that are written in a body, each of which is to be fully specified; and the first fault in them
abbrev pub args_of : Env → List RplTree → ReadArgs
args_of env trees = args_read (scope_of env) no_index trees

abbrev pub args_reported : Env → List ParamRow → List RplTree → Option Refusal
args_reported env params trees = parts_reported site.Body (none_by order.Kind) (arg_faults (scope_of env) no_index params true trees)

-- the receiver's class, the method of that name there, and the region arguments of the class that declares it
abbrev pub owned_method : ℕ → MethodRow → Option (List Rpl) → Place → Result (ℕ × MethodRow × List Rpl) Refusal
owned_method class row None place = Err (fault kind.Type place)
owned_method class row (Some owned) place = Ok (class, row, owned)

abbrev pub named_method : Table → ℕ → List Rpl → Option MethodRow → Place → Result (ℕ × MethodRow × List Rpl) Refusal
named_method table class args None place = Err (fault kind.Unknown place)
named_method table class args (Some row) place = owned_method class row (args_at table class args row.owner) place

abbrev pub method_through : Table → PlainType → ℕ → Place → Result (ℕ × MethodRow × List Rpl) Refusal
method_through table (ty.class class args) name place = named_method table class args (method_of table class name) place
method_through table t name place = Err (fault kind.Type place)

-- the region parameters of the method that a call names
abbrev pub callee_params : Table → Option PlainType → ℕ → List ParamRow
callee_params table (Some (ty.class class args)) name = option_map_or (λ row. row.regions) (method_of table class name) []
callee_params table t name = []

-- the region parameters of the class that a creation names
abbrev pub created_params : Table → Named → List ParamRow
created_params table class = option_map_or (params_in (headers_of table)) (class_of (headers_of table) class.name) []

-- the formals of the constructor of a class, which without one has none
abbrev pub formals_of : Table → ℕ → List Ty
formals_of table class = option_map_or (λ row. row.params) (constructor_of table class) []

-- what is wrong in a use whose region arguments are known: it is partial, actuals don't fit, or constraints don't hold
abbrev pub use_faults : Bool → Bool → Bool → Place → List Refusal
use_faults partial fit hold place =
    fault_if partial kind.PartialWrite place ++ fault_if (not fit) kind.Type place ++ fault_if (not hold) kind.Constraint place

-- what is noted before: the faults of the list of region arguments
abbrev pub args_noted : ReadArgs → List ParamRow → Place → Faults
args_noted args params place = all_noted (none_by order.Kind) (args_faults args.local args.written params place)

-- the fault that is reported of a use whose region arguments are known, or none
abbrev pub use_reported : Env → Faults → List Rpl → List (Option PlainType) → List Ty → Bool → Bool → Place → Option Refusal
use_reported env before args actuals declared partial hold place =
    reported (all_noted before (use_faults partial (all_fit (supers_of env) args actuals declared) hold place))

-- the fault that is reported of one whose region arguments aren't known, where the actuals may fit for some regions or not
abbrev pub unknown_reported : Faults → Bool → Place → Refusal
unknown_reported before fit place =
    option_map_or (λ refusal. refusal) (reported (all_noted before (fault_if (not fit) kind.Type place))) (fault kind.RegionArgs place)

-- a call, with the region arguments of its own
abbrev pub called : Env → TypedExpr → ℕ → MethodRow → List Rpl → List Rpl → List (Option TypedExpr) → Place → TypedExpr
called env e class row owned regions actuals place =
    typed place (type_with (owned ++ regions) (plain_type row.result)) (call e class (row_of (table_of env) row.id) regions (nodes_at place actuals))

-- a call of a method through a receiver: it has the effects of the summary and the type of the result, with region arguments
-- put in
abbrev pub type_call_of : Env → TypedExpr → ℕ → MethodRow → List Rpl → ReadArgs → List (Option TypedExpr) → Place → Found → Answer
type_call_of env e class row owned args actuals place found =
    let before = args_noted args row.regions place in
    given (args_given args.written args.paths row.regions) (λ regions. do
      let whole = owned ++ regions
      use_reported env before whole (map type_in actuals) row.params (is_partial_call owned row) (all_hold (given_in env) whole row.given) place
      gives (Some (called env e class row owned regions actuals place)) (with_call (table_of env) found row whole))
    (refused (unknown_reported before (shapes_fit (headers_of (table_of env)) (map type_in actuals) row.params) place))

-- a call on what has a type
abbrev pub type_call_on : Env → TypedExpr → ℕ → ReadArgs → List (Option TypedExpr) → Place → Found → Answer
type_call_on env e name args actuals place found =
    looked_up (method_through (table_of env) (type_of e) name place) (λ (class, row, owned). type_call_of env e class row owned args actuals place found)

-- a call on what gives a type; what fits everywhere has each method, where the actuals are values
abbrev pub type_call : Env → Option TypedExpr → ℕ → ReadArgs → List (Option TypedExpr) → Place → Found → Answer
type_call env (Some e) name args actuals place found = type_call_on env e name args actuals place found
type_call env None name args actuals place found = cond (list_all (may_be is_value) (map type_in actuals)) (gives None found) (refused (fault kind.Type place))

-- with what the constructor does, where there is one
abbrev pub with_constructor : Table → Found → Option MethodRow → List Rpl → Found
with_constructor table found None args = found
with_constructor table found (Some row) args = with_call table found row args

-- the creation of an object of a class: it has the effects of the constructor, with region arguments put in
abbrev pub type_creation_of : Env → ℕ → ReadArgs → List (Option TypedExpr) → Place → Found → Answer
type_creation_of env at args actuals place found =
    let params = params_in (headers_of (table_of env)) at in
    let formals = formals_of (table_of env) at in
    let before = args_noted args params place in
    given (args_given args.written args.paths params) (λ regions. do
      use_reported env before regions (map type_in actuals) formals false (all_hold (given_in env) regions (given_of (table_of env) at)) place
      gives (Some (typed place (ty.class at regions) (create (nodes_at place actuals)))) (with_constructor (table_of env) found (constructor_of (table_of env) at) regions))
    (refused (unknown_reported before (shapes_fit (headers_of (table_of env)) (map type_in actuals) formals) place))

-- the creation of an object of a class that is named
abbrev pub type_creation : Env → Named → ReadArgs → List (Option TypedExpr) → Place → Found → Answer
type_creation env class args actuals place found =
    given (class_of (headers_of (table_of env)) class.name) (λ at. type_creation_of env at args actuals place found) (refused (fault kind.Unknown class.place))
