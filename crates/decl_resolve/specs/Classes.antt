-- A class type where it is written: what it is, and what is wrong in it.
use Rattle.std.specs.Prelude.{ℕ, not, List, [], ◌∷◌, ◌++◌, slice_get, Option, None, Some, option_map}
use Rattle.std.specs.Option.{option_map_or}
use Rattle.lang_base.specs.declared.effect.Constraint.{Constraint}
use Rattle.lang_base.specs.declared.place.Place.{Place}
use Rattle.lang_base.specs.declared.refusal.Kind.TheVariants as kind
use Rattle.lang_base.specs.declared.refusal.Refusal.{Refusal}
use Rattle.lang_base.specs.declared.region.Rpl.{Rpl}
use Rattle.lang_base.specs.Types.{PlainType}
use Rattle.lang_base.specs.Types.PlainType.{class}
use Rattle.decl_headers.specs.declared.header.Headers.{Headers}
use Rattle.decl_headers.specs.declared.header.ParamRow.{ParamRow}
use Rattle.decl_headers.specs.Headers.{header_of}
use Rattle.decl_headers.specs.Passes.{fault, fault_if}
use Rattle.syntax_tree.specs.declared.region.Named.{Named}
use Rattle.decl_resolve.specs.declared.args.ReadArgs.{ReadArgs}
use Rattle.decl_resolve.specs.Args.{args_given, args_faults}
use Rattle.decl_resolve.specs.Constraints.{all_hold}

-- the region parameters of a class
abbrev pub params_in : Headers → ℕ → List ParamRow
params_in headers at = option_map_or (λ header. header.params) (header_of headers at) []

-- the constraints of a class
abbrev pub constraints_in : List (List Constraint) → ℕ → List Constraint
constraints_in all at = option_map_or (λ given. given) (slice_get all at) []

-- the arguments of a class, where these are read
abbrev pub class_args : Headers → ℕ → ReadArgs → Option (List Rpl)
class_args headers at args = args_given args.written args.paths (params_in headers at)

-- its constraints don't hold
abbrev pub constraint_fault : List Constraint → List Constraint → Place → List Rpl → List Refusal
constraint_fault given constraints place args = fault_if (not (all_hold given args constraints)) kind.Constraint place

-- the class isn't there; else its arguments, and then its constraints
abbrev pub class_faults : Headers → List (List Constraint) → List Constraint → Named → Option ℕ → ReadArgs → Place → List Refusal
class_faults headers all given name None args place = fault kind.Unknown name.place ∷ []
class_faults headers all given name (Some at) args place =
    args_faults args.local args.written (params_in headers at) place
    ++ option_map_or (constraint_fault given (constraints_in all at) place) (class_args headers at args) []

-- the type, where the class is there and its arguments fit
abbrev pub class_type : Headers → Option ℕ → ReadArgs → Option PlainType
class_type headers None args = None
class_type headers (Some at) args = option_map (class at) (class_args headers at args)
