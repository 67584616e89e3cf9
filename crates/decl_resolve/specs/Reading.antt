-- A region path where it is written: the path that it means, and what is wrong in it. The same of region arguments.
use Rattle.std.specs.Prelude.{ℕ, ◌+◌, Bool, true, false, ◌&&◌, ◌==◌, cond, List, [], ◌∷◌, ◌++◌, length, fold, is_none, Option, None, Some, option_map}
use Rattle.std.specs.List.{list_any, flat_map, filter_map}
use Rattle.std.specs.Option.{option_map_or, option_or, option_flatten}
use Rattle.lang_base.specs.declared.elems.Elem.{Elem}
use Rattle.lang_base.specs.declared.elems.Elem.TheVariants.{Name, At, Any, Star, Local}
use Rattle.lang_base.specs.declared.elems.Index.{Index}
use Rattle.lang_base.specs.declared.elems.Index.TheVariants.{Literal, Variable}
use Rattle.lang_base.specs.declared.place.Place.{Place}
use Rattle.lang_base.specs.declared.refusal.Kind.TheVariants as kind
use Rattle.lang_base.specs.declared.refusal.Refusal.{Refusal}
use Rattle.lang_base.specs.declared.region.Head.TheVariants.{Root, Param}
use Rattle.lang_base.specs.declared.region.Rpl.{Rpl}
use Rattle.decl_headers.specs.declared.header.ParamRow.{ParamRow}
use Rattle.decl_headers.specs.Passes.{fault_if}
use Rattle.syntax_tree.specs.declared.region.ElemTree.{ElemTree}
use Rattle.syntax_tree.specs.declared.region.ElemTree.TheVariants as elem
use Rattle.syntax_tree.specs.declared.region.RName.{RName}
use Rattle.syntax_tree.specs.declared.region.RplHead.{RplHead}
use Rattle.syntax_tree.specs.declared.region.RplHead.TheVariants as head
use Rattle.syntax_tree.specs.declared.region.RplTree.{RplTree}
use Rattle.decl_resolve.specs.declared.args.ReadArgs.{ReadArgs}
use Rattle.decl_resolve.specs.declared.paths.Need.{Need}
use Rattle.decl_resolve.specs.declared.scope.ParamFound.{ParamFound}
use Rattle.decl_resolve.specs.Args.{root_path, first_local}
use Rattle.decl_resolve.specs.Index.{PlainIndex, index_name}
use Rattle.decl_resolve.specs.Paths.{misfits, region_meant, region_faults, is_atomic_region}
use Rattle.decl_resolve.specs.Scoped.{value_in}
use Rattle.decl_resolve.specs.Scopes.{PlainScope, is_atomic_at, param_meant}

-- a local, a formal or a foreach variable that isn't an index variable
abbrev pub is_barred : Option (Option ℕ) → Bool
is_barred None = false
is_barred (Some None) = true
is_barred (Some (Some slot)) = false

-- what a name means in an index `[v]`: the index name, else the index variable
abbrev pub index_meant : PlainScope → PlainIndex → ℕ → Option Index
index_meant scope around name = option_or (index_name around name) (option_map (λ slot. Variable slot) (option_flatten (value_in scope.variables name)))

-- what an element means; none where a name isn't known, or an index isn't a variable that may stand there
abbrev pub elem_meant : PlainScope → PlainIndex → ElemTree → Option Elem
elem_meant scope around (elem.Name name) = option_map (λ number. Name number) (region_meant scope.headers scope.class name)
elem_meant scope around elem.Star = Some Star
elem_meant scope around elem.Any = Some Any
elem_meant scope around (elem.Lit k) = Some (At (Literal k))
elem_meant scope around (elem.Index named) = option_map (λ index. At index) (index_meant scope around named.name)

-- a name of the element isn't there
abbrev pub elem_faults : PlainScope → PlainIndex → ElemTree → List Refusal
elem_faults scope around (elem.Name name) = region_faults scope.headers scope.class name
elem_faults scope around elem.Star = []
elem_faults scope around elem.Any = []
elem_faults scope around (elem.Lit k) = []
elem_faults scope around (elem.Index named) =
    fault_if (is_none (index_name around named.name) && is_none (value_in scope.variables named.name)) kind.Unknown named.place

-- an index is there, and may not stand there
abbrev pub is_misplaced : PlainScope → PlainIndex → ElemTree → Bool
is_misplaced scope around (elem.Name name) = false
is_misplaced scope around elem.Star = false
is_misplaced scope around elem.Any = false
is_misplaced scope around (elem.Lit k) = false
is_misplaced scope around (elem.Index named) = is_none (index_name around named.name) && is_barred (value_in scope.variables named.name)

-- the region parameter and the local region that a path may begin with, by their name alone; `C.r` is neither
abbrev pub head_param : PlainScope → RName → Option ParamFound
head_param scope name = option_map_or (λ second. None) name.second (param_meant scope name.first.name)

abbrev pub head_local : PlainScope → RName → Option ℕ
head_local scope name = option_map_or (λ second. None) name.second (value_in scope.regions name.first.name)

abbrev pub below_root : Elem → Rpl
below_root x = record { head = Root; elems = x ∷ [] }

abbrev pub param_path : ParamFound → Rpl
param_path param = record { head = Param param.number; elems = [] }

-- where a path begins: at the region parameter, else at the local region, else at the region name
abbrev pub begun : Option ParamFound → Option ℕ → Option ℕ → Option Rpl
begun (Some param) decl number = Some (param_path param)
begun None (Some decl) number = Some (below_root (Local decl 0))
begun None None number = option_map (λ n. below_root (Name n)) number

abbrev pub head_meant : PlainScope → RplHead → Option Rpl
head_meant scope head.Root = Some root_path
head_meant scope (head.Name name) = begun (head_param scope name) (head_local scope name) (region_meant scope.headers scope.class name)

-- it is none of the three
abbrev pub head_faults : PlainScope → RplHead → List Refusal
head_faults scope head.Root = []
head_faults scope (head.Name name) =
    cond (is_none (head_param scope name) && is_none (head_local scope name)) (region_faults scope.headers scope.class name) []

-- a region name is declared atomic, where it is known
abbrev pub region_atomic : PlainScope → RName → Option Bool
region_atomic scope name = option_map (is_atomic_region scope.headers) (region_meant scope.headers scope.class name)

abbrev pub begun_atomic : Option ParamFound → Option ℕ → Option Bool → Option Bool
begun_atomic (Some param) decl atomic = Some param.atomic
begun_atomic None (Some decl) atomic = Some false
begun_atomic None None atomic = atomic

-- a path that has its head alone is atomic, where that is known
abbrev pub head_atomic : PlainScope → RplHead → Option Bool
head_atomic scope head.Root = Some false
head_atomic scope (head.Name name) = begun_atomic (head_param scope name) (head_local scope name) (region_atomic scope name)

-- so is a path with one element more: a region name and `*` decide, an index leaves it as it is
abbrev pub atomic_with : PlainScope → Option Bool → ElemTree → Option Bool
atomic_with scope before (elem.Name name) = region_atomic scope name
atomic_with scope before elem.Star = Some false
atomic_with scope before elem.Any = before
atomic_with scope before (elem.Lit k) = before
atomic_with scope before (elem.Index named) = before

abbrev pub path_atomic : PlainScope → RplTree → Option Bool
path_atomic scope tree = fold (atomic_with scope) (head_atomic scope tree.head) tree.elems

-- a path with one element more, where both are known
abbrev pub longer : Rpl → Elem → Rpl
longer rpl x = record { head = rpl.head; elems = rpl.elems ++ x ∷ [] }

abbrev pub longer_if : Option Rpl → Option Elem → Option Rpl
longer_if None x = None
longer_if (Some rpl) x = option_map (longer rpl) x

abbrev pub goes_on : PlainScope → PlainIndex → Option Rpl → List ElemTree → Option Rpl
goes_on scope around before elems = fold (λ rpl x. longer_if rpl (elem_meant scope around x)) before elems

-- the path that is written: what its head and its elements mean, one after the other, where all of them are known
abbrev pub path_meant : PlainScope → PlainIndex → RplTree → Option Rpl
path_meant scope around tree = goes_on scope around (head_meant scope tree.head) tree.elems

-- the faults of its head and its elements; and the path isn't what is asked
abbrev pub path_faults : PlainScope → PlainIndex → Need → RplTree → List Refusal
path_faults scope around need tree =
    head_faults scope tree.head ++ flat_map (elem_faults scope around) tree.elems
    ++ fault_if (misfits need tree.elems (path_atomic scope tree) (list_any (is_misplaced scope around) tree.elems)) kind.RegionArgs tree.place

-- what is asked of the argument at a position, where so many are written: that it is fully specified, where each is to
-- be; and that it is atomic, where its parameter is and there are as many
abbrev pub arg_need : List ParamRow → Bool → ℕ → ℕ → Need
arg_need params full written at = record { full = full; atomic = (written == length params) && is_atomic_at params at }

-- the faults of each path, counted on from a position
abbrev pub each_faults : PlainScope → PlainIndex → (ℕ → Need) → ℕ → List RplTree → List (List Refusal)
each_faults scope around need at [] = []
each_faults scope around need at (tree ∷ trees) = path_faults scope around (need at) tree ∷ each_faults scope around need (at + 1) trees

-- the faults of each of the region arguments for parameters
abbrev pub arg_faults : PlainScope → PlainIndex → List ParamRow → Bool → List RplTree → List (List Refusal)
arg_faults scope around params full trees = each_faults scope around (arg_need params full (length trees)) 0 trees

-- the first place at which a local region begins a path, where a further one is written
abbrev pub local_with : PlainScope → PlainIndex → Option Place → RplTree → Option Place
local_with scope around before tree = option_map_or (λ rpl. first_local before rpl tree.place) (path_meant scope around tree) before

-- the region arguments that are written: the paths that are known, how many stand there, and the first local region
abbrev pub args_read : PlainScope → PlainIndex → List RplTree → ReadArgs
args_read scope around trees = record {
  paths = filter_map (path_meant scope around) trees;
  written = length trees;
  local = fold (local_with scope around) None trees;
}
