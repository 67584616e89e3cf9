-- What is known around a place, as far as written paths and types ask: what the headers say is what the tree declares, and
-- the names in scope for the checker stand around the place.
use Rattle.std.proofs.Common.{◌≡◌, ℕ, map, slice_get, Some, None}
use Rattle.syntax_tree.specs.declared.class.Program.{Program}
use Rattle.decl_headers.specs.declared.header.Headers.{Headers}
use Rattle.decl_headers.specs.Headers.{class_of, region_of}
use Rattle.decl_resolve.specs.declared.scope.ParamFound.{ParamFound}
use Rattle.decl_resolve.specs.Classes.{params_in}
use Rattle.decl_resolve.specs.Scoped.{value_in}
use Rattle.decl_resolve.specs.Scopes.{PlainScope, param_meant}
use Rattle.lang_typed.specs.Plain.{PlainProgram, PlainClass}
use Rattle.lang_typed.specs.Scope.{class_at}
use Rattle.syntax_means.specs.Declares.{ClassNamed, DeclaresRegion, MeansIn}
use Rattle.syntax_means.specs.Paths.{Around, beside}

-- what the headers say of classes and region names is so in the tree and the typed program
pub record HeadersTell (tree : Program) (P : PlainProgram) (headers : Headers) : Type 0 where
  pub classes : (name at : ℕ) → class_of headers name ≡ Some at → ClassNamed tree name at
  pub params : (name at : ℕ) → class_of headers name ≡ Some at → (k : PlainClass) × (class_at P at ≡ Some k) × (k.params ≡ map (λ param. param.atomic) (params_in headers at))
  pub regions : (class name n : ℕ) → region_of headers class name ≡ Some n → MeansIn P (DeclaresRegion tree name) class n

-- what is around a path or a type for the checker is around it here
pub record KnowsPaths (A : Around) (scope : PlainScope) : Type 0 where
  pub told : HeadersTell A.tree A.typed scope.headers
  pub of_class : A.class ≡ scope.class
  pub params : (name : ℕ) (found : ParamFound) → param_meant scope name ≡ Some found → slice_get A.params found.number ≡ Some name
  pub no_param : (name p : ℕ) → param_meant scope name ≡ None → slice_get A.params p ≡ Some name → ⊥
  -- local regions, and the locals that may stand in an index
  pub regions : (name : ℕ) → value_in scope.regions name ≡ beside A.regions name
  pub indices : (name slot : ℕ) → value_in scope.variables name ≡ Some (Some slot) → beside A.locals name ≡ Some slot
