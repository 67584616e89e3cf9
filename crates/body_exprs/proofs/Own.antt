-- What is reported of the own path of a created array.
use Rattle.std.proofs.Common.{◌≡◌, ◌∙◌, Option, ap}
use Rattle.lang_base.specs.declared.refusal.Refusal.{Refusal}
use Rattle.decl_headers.specs.declared.faults.Faults.{Faults}
use Rattle.decl_headers.specs.declared.faults.Order.TheVariants as order
use Rattle.decl_headers.specs.Faults.{none_by, all_noted}
use Rattle.decl_resolve.specs.Reading.{path_faults}
use Rattle.decl_resolve.specs.Index.{PlainIndex}
use Rattle.decl_resolve.specs.Scopes.{PlainScope}
use Rattle.decl_resolve.specs.Telling.{reported_at}
use Rattle.syntax_tree.specs.declared.region.RplTree.{RplTree}
use Rattle.body_exprs.specs.declared.env.Env.{Env}
use Rattle.body_exprs.specs.Arrays.{full_path, around_own}
use Rattle.body_exprs.specs.Env.{scope_of}
use Rattle.body_exprs.specs.Refusing.{reported_first}

abbrev pub reported_there : PlainScope → PlainIndex → Faults → RplTree → Option Refusal
reported_there scope around faults tree = reported_at scope.site (all_noted faults (path_faults scope around full_path tree))

-- in a body, of faults of which none was noted before
pub reported_here : (env : Env) (scope : PlainScope) (around index : PlainIndex) (faults : Faults) (tree : RplTree) →
    scope ≡ scope_of env → index ≡ around_own around → faults ≡ none_by order.Kind →
    reported_there scope index faults tree ≡ reported_first (path_faults (scope_of env) (around_own around) full_path tree)
reported_here env scope around index faults tree same is none =
    ap (λ (z : PlainScope). reported_there z index faults tree) same
    ∙ ap (λ (z : PlainIndex). reported_there (scope_of env) z faults tree) is
    ∙ ap (λ (z : Faults). reported_there (scope_of env) (around_own around) z tree) none
