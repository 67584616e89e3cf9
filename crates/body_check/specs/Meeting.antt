-- Branches and iterations that run side by side without interference.
use Rattle.std.specs.Prelude.{Bool, true, false, not, ◌||◌, nat_lt, List, [], ◌∷◌, length, Option, Some, None}
use Rattle.std.specs.List.{list_any}
use Rattle.lang_base.specs.declared.effect.Effect.{Effect}
use Rattle.lang_base.specs.declared.effect.Constraint.{Constraint}
use Rattle.lang_base.specs.Branches.{Atomic, lists_clash}
use Rattle.decl_headers.specs.Headers.{atomic_regions}
use Rattle.decl_table.specs.Table.{headers_of}
use Rattle.body_exprs.specs.declared.env.Env.{Env}
use Rattle.body_exprs.specs.Env.{given_in, table_of}

-- of an nd construct, what is declared atomic: the list says it of the region parameters in scope
abbrev pub declared_atomic : List Bool → Bool → Env → Option Atomic
declared_atomic params false env = None
declared_atomic params true env = Some (record { names = atomic_regions (headers_of (table_of env)); params = params })

-- the effects of a branch interfere with those of one of the others
abbrev pub interferes_with_some : List Constraint → Option Atomic → List Effect → List (List Effect) → Bool
interferes_with_some given nd es others = list_any (lists_clash given nd es) others

-- the effects of two branches interfere
abbrev pub some_interfere : List Constraint → Option Atomic → List (List Effect) → Bool
some_interfere given nd [] = false
some_interfere given nd (es ∷ others) = interferes_with_some given nd es others || some_interfere given nd others

-- two branches interfere, or there are more of them than numbers of 32 bits count
abbrev pub branches_interfere : List Bool → Bool → Env → List (List Effect) → Bool
branches_interfere params nd env branches =
    not (nat_lt (length branches) 4294967296) || some_interfere (given_in env) (declared_atomic params nd env) branches
