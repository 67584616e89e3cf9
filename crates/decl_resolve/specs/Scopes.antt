-- What is around a place of the text, as plain data, and which region parameter a name means there.
use Rattle.std.specs.Prelude.{ℕ, ◌+◌, Bool, false, List, length, slice_get, Option, Some, option_map, option_and_then}
use Rattle.std.specs.Option.{option_map_or}
use Rattle.lang_base.specs.declared.effect.Constraint.{Constraint}
use Rattle.decl_headers.specs.declared.header.Headers.{Headers}
use Rattle.decl_headers.specs.declared.header.ParamRow.{ParamRow}
use Rattle.decl_headers.specs.Headers.{param_of}
use Rattle.decl_headers.specs.Numbers.{as_number}
use Rattle.decl_resolve.specs.declared.scope.ParamFound.{ParamFound}
use Rattle.decl_resolve.specs.declared.scope.Scope.{Scope}
use Rattle.decl_resolve.specs.declared.scope.Site.{Site}
use Rattle.decl_resolve.specs.Classes.{params_in}
use Rattle.decl_resolve.specs.Names.{Names}
use Rattle.decl_resolve.specs.Scoped.{values_in, place_in}

-- what is around a place
pub record PlainScope : Type 0 where
  pub headers : Headers
  pub class : ℕ
  -- the region parameters of the method, with whether each is atomic
  pub params : Names Bool
  -- the locals, formals and foreach variables, with the slot of each that may stand in an index
  pub variables : Names (Option ℕ)
  -- the local regions, with the numbers of their declarations
  pub regions : Names ℕ
  -- the constraints in force, and those of each class
  pub given : List Constraint
  pub classes_given : List (List Constraint)
  pub site : Site

abbrev pub plain_scope : Scope → PlainScope
plain_scope scope = record {
  headers = scope.headers.now;
  class = scope.class;
  params = scope.params.now;
  variables = scope.variables.now;
  regions = scope.regions.now;
  given = scope.given.now;
  classes_given = scope.classes_given.now;
  site = scope.site;
}

-- the parameter at a position is declared atomic
abbrev pub is_atomic_at : List ParamRow → ℕ → Bool
is_atomic_at params at = option_map_or (λ param. param.atomic) (slice_get params at) false

-- the region parameter of a class at a position
abbrev pub class_param : List ParamRow → ℕ → ParamFound
class_param params number = record { number = number; atomic = is_atomic_at params number }

-- the region parameter of a method at a position, numbered after those of the class
abbrev pub after_class : List ParamRow → List Bool → ℕ → Option ParamFound
after_class params own place =
    option_map (λ atomic. record { number = as_number (length params + place); atomic = atomic }) (slice_get own place)

abbrev pub method_param : PlainScope → ℕ → Option ParamFound
method_param scope name =
    option_and_then (λ place. after_class (params_in scope.headers scope.class) (values_in scope.params) place) (place_in scope.params name)

-- the region parameter that a name means: that of the class, else that of the method
abbrev pub param_meant : PlainScope → ℕ → Option ParamFound
param_meant scope name =
    option_map_or (λ number. Some (class_param (params_in scope.headers scope.class) number)) (param_of scope.headers scope.class name)
    (method_param scope name)
