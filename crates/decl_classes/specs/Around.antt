-- What is around a signature: its class, the region parameters and formals of its method, and the constraints in force.
use Rattle.std.specs.Prelude.{ℕ, Bool, List, ◌++◌, fold, Option, None}
use Rattle.lang_base.specs.declared.effect.Constraint.{Constraint}
use Rattle.decl_headers.specs.declared.header.Headers.{Headers}
use Rattle.syntax_tree.specs.declared.class.Formal.{Formal}
use Rattle.syntax_tree.specs.declared.class.Method.{Method}
use Rattle.syntax_tree.specs.declared.region.ParamTree.{ParamTree}
use Rattle.decl_resolve.specs.declared.scope.Site.TheVariants as site
use Rattle.decl_resolve.specs.Classes.{constraints_in}
use Rattle.decl_resolve.specs.Names.{Names}
use Rattle.decl_resolve.specs.Scoped.{no_names, with_name}
use Rattle.decl_resolve.specs.Scopes.{PlainScope}
use Rattle.decl_classes.specs.declared.around.Names.{Names as SignatureNames}

-- region parameters, with whether each is atomic
abbrev pub param_names : List ParamTree → Names Bool
param_names params = fold (λ names param. with_name names param.name param.atomic) no_names params

-- formals, of which none may stand in an index
abbrev pub formal_names : List Formal → Names (Option ℕ)
formal_names formals = fold (λ names formal. with_name names formal.name None) no_names formals

-- no names around
abbrev pub class_names : SignatureNames
class_names = record { params = no_names; formals = no_names; regions = no_names }

-- the names of a method: its region parameters and its formals
abbrev pub method_names : Method → SignatureNames
method_names method = record { params = param_names method.params.list; formals = formal_names method.formals; regions = no_names }

-- what is around a signature of a class without names of its own, where these constraints are in force
abbrev pub scope_under : Headers → List (List Constraint) → ℕ → List Constraint → PlainScope
scope_under headers all number given = record {
  headers = headers;
  class = number;
  params = no_names;
  variables = no_names;
  regions = no_names;
  given = given;
  classes_given = all;
  site = site.Signature;
}

-- what is around the signatures of a class: its own constraints are in force
abbrev pub class_scope : Headers → List (List Constraint) → ℕ → PlainScope
class_scope headers all number = scope_under headers all number (constraints_in all number)

-- the same with names
abbrev pub with_names : SignatureNames → PlainScope → PlainScope
with_names names scope = record scope { params = names.params; variables = names.formals; regions = names.regions }

-- the same with further constraints
abbrev pub with_given : List Constraint → PlainScope → PlainScope
with_given given scope = record scope { given = scope.given ++ given }
