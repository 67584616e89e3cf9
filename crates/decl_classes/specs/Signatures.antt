-- What the parts of a signature say, and what is wrong in them.
use Rattle.std.specs.Prelude.{ℕ, Bool, true, false, List, [], ◌∷◌, ◌++◌, map, unwrap_or, Option, None, Some, option_map, option_and_then}
use Rattle.std.specs.List.{filter_map, flat_map}
use Rattle.std.specs.Option.{option_map_or}
use Rattle.lang_base.specs.declared.effect.Access.{Access}
use Rattle.lang_base.specs.declared.effect.Access.TheVariants.{Read, Write}
use Rattle.lang_base.specs.declared.effect.Constraint.{Constraint}
use Rattle.lang_base.specs.declared.effect.Effect.{Effect}
use Rattle.lang_base.specs.declared.refusal.Refusal.{Refusal}
use Rattle.lang_base.specs.declared.region.Rpl.{Rpl}
use Rattle.lang_base.specs.Effects.{gathered}
use Rattle.lang_base.specs.Types.{PlainType}
use Rattle.lang_base.specs.Types.PlainType.{void, class}
use Rattle.syntax_tree.specs.declared.class.Formal.{Formal}
use Rattle.syntax_tree.specs.declared.class.Item.{Item}
use Rattle.syntax_tree.specs.declared.class.MethodResult.{MethodResult}
use Rattle.syntax_tree.specs.declared.class.MethodResult.TheVariants as outcome
use Rattle.syntax_tree.specs.declared.class.Parent.{Parent}
use Rattle.syntax_tree.specs.declared.class.SummaryTree.{SummaryTree}
use Rattle.syntax_tree.specs.declared.region.ConstrTree.{ConstrTree}
use Rattle.syntax_tree.specs.declared.region.RplTree.{RplTree}
use Rattle.syntax_tree.specs.declared.region.TypeTree.{TypeTree}
use Rattle.decl_resolve.specs.declared.args.ReadArgs.{ReadArgs}
use Rattle.decl_resolve.specs.Args.{root_path}
use Rattle.decl_resolve.specs.Classes.{params_in, class_args, class_faults}
use Rattle.decl_resolve.specs.Index.{no_index}
use Rattle.decl_resolve.specs.Reading.{path_meant, path_faults, args_read, arg_faults}
use Rattle.decl_resolve.specs.Scopes.{PlainScope}
use Rattle.decl_resolve.specs.Written.{type_meant, type_faults}
use Rattle.decl_classes.specs.Summary.{anything}

-- a path outside of types: what it means, and what is wrong in it, where it is to be fully specified or not
abbrev pub rpl_meant : PlainScope → RplTree → Option Rpl
rpl_meant scope tree = path_meant scope no_index tree

abbrev pub rpl_faults : PlainScope → Bool → RplTree → List Refusal
rpl_faults scope full tree = path_faults scope no_index (record { full = full; atomic = false }) tree

-- a constraint, where both of its sides are known
abbrev pub constraint_meant : PlainScope → ConstrTree → Option Constraint
constraint_meant scope tree =
    option_and_then (λ left. option_map (λ right. record { left = left; right = right }) (rpl_meant scope tree.right)) (rpl_meant scope tree.left)

abbrev pub constraint_faults : PlainScope → ConstrTree → List Refusal
constraint_faults scope tree = rpl_faults scope false tree.left ++ rpl_faults scope false tree.right

-- the constraints that are known
abbrev pub constraints_meant : PlainScope → List ConstrTree → List Constraint
constraints_meant scope trees = filter_map (constraint_meant scope) trees

abbrev pub constraints_faults : PlainScope → List ConstrTree → List Refusal
constraints_faults scope trees = flat_map (constraint_faults scope) trees

-- all of the faults of parts
abbrev pub joined : List (List Refusal) → List Refusal
joined parts = flat_map (λ part. part) parts

-- a type, and `void` where it isn't known
abbrev pub known_type : PlainScope → TypeTree → PlainType
known_type scope tree = unwrap_or (type_meant scope tree) void

-- the faults of all its parts
abbrev pub known_type_faults : PlainScope → TypeTree → List Refusal
known_type_faults scope tree = joined (type_faults scope tree)

-- the region of a field: `Root` where none is written or it isn't known
abbrev pub region_of_field : PlainScope → Option RplTree → Rpl
region_of_field scope region = unwrap_or (option_and_then (rpl_meant scope) region) root_path

-- it is to be fully specified
abbrev pub field_region_faults : PlainScope → Option RplTree → List Refusal
field_region_faults scope region = option_map_or (rpl_faults scope true) region []

-- the types of formals
abbrev pub formal_types : PlainScope → List Formal → List PlainType
formal_types scope formals = map (λ formal. known_type scope formal.ty) formals

abbrev pub formal_faults : PlainScope → List Formal → List Refusal
formal_faults scope formals = flat_map (λ formal. known_type_faults scope formal.ty) formals

-- what a method gives: nothing where it is a constructor
abbrev pub result_type : PlainScope → MethodResult → PlainType
result_type scope outcome.Constructor = void
result_type scope outcome.Void = void
result_type scope (outcome.Value tree) = known_type scope tree

abbrev pub result_faults : PlainScope → MethodResult → List Refusal
result_faults scope outcome.Constructor = []
result_faults scope outcome.Void = []
result_faults scope (outcome.Value tree) = known_type_faults scope tree

-- an item of a summary as an effect, where its path is known
abbrev pub effect_meant : PlainScope → Access → Item → Option Effect
effect_meant scope access item = option_map (λ rpl. record { access = access; atomic = item.atomic; rpl = rpl }) (rpl_meant scope item.rpl)

abbrev pub effects_meant : PlainScope → Access → List Item → List Effect
effects_meant scope access items = filter_map (effect_meant scope access) items

abbrev pub item_faults : PlainScope → List Item → List Refusal
item_faults scope items = flat_map (λ item. rpl_faults scope false item.rpl) items

-- a summary: `writes Root:*` where none is written, else its reads and its writes, each effect once
abbrev pub summary_meant : PlainScope → Option SummaryTree → List Effect
summary_meant scope None = anything ∷ []
summary_meant scope (Some tree) = gathered (gathered [] (effects_meant scope Read tree.reads)) (effects_meant scope Write tree.writes)

abbrev pub summary_faults : PlainScope → Option SummaryTree → List Refusal
summary_faults scope None = []
summary_faults scope (Some tree) = item_faults scope tree.reads ++ item_faults scope tree.writes

-- the region arguments of a superclass, where they fit
abbrev pub parent_args : PlainScope → Parent → ℕ → Option (List Rpl)
parent_args scope tree parent = class_args scope.headers parent (args_read scope no_index tree.args)

-- the superclass with its region arguments; with none where they don't fit
abbrev pub parent_meant : PlainScope → Parent → ℕ → PlainType
parent_meant scope tree parent = class parent (unwrap_or (parent_args scope tree parent) [])

-- each argument is to be fully specified
abbrev pub parent_arg_faults : PlainScope → List RplTree → ℕ → List Refusal
parent_arg_faults scope trees parent = joined (arg_faults scope no_index (params_in scope.headers parent) true trees)

-- all of them are to fit, and the constraints of the superclass are to hold with them
abbrev pub fit_faults : PlainScope → ReadArgs → Parent → ℕ → List Refusal
fit_faults scope read tree parent = class_faults scope.headers scope.classes_given scope.given tree.name (Some parent) read tree.name.place

abbrev pub parent_faults : PlainScope → Parent → ℕ → List Refusal
parent_faults scope tree parent = parent_arg_faults scope tree.args parent ++ fit_faults scope (args_read scope no_index tree.args) tree parent
