-- A type where it is written, and the type of a created array: what it is, and what is wrong in it.
use Rattle.std.specs.Prelude.{ℕ, ◌+◌, Bool, true, false, ◌&&◌, ◌==◌, nat_le, cond, List, [], ◌∷◌, ◌++◌, length, slice_get, is_some, Option, None, Some, option_map}
use Rattle.std.specs.List.{cons_option}
use Rattle.std.specs.Option.{option_map_or}
use Rattle.lang_base.specs.declared.place.Place.{Place}
use Rattle.lang_base.specs.declared.refusal.Refusal.{Refusal}
use Rattle.lang_base.specs.declared.region.Rpl.{Rpl}
use Rattle.lang_base.specs.Types.{PlainType}
use Rattle.lang_base.specs.Types.PlainType.{int, boolean, array}
use Rattle.decl_headers.specs.Headers.{class_of}
use Rattle.syntax_tree.specs.declared.region.BaseTree.{BaseTree}
use Rattle.syntax_tree.specs.declared.region.BaseTree.TheVariants as base
use Rattle.syntax_tree.specs.declared.region.Suffix.{Suffix}
use Rattle.syntax_tree.specs.declared.region.TypeTree.{TypeTree}
use Rattle.decl_resolve.specs.declared.base.ReadBase.{ReadBase}
use Rattle.decl_resolve.specs.declared.base.ReadBase.TheVariants as read
use Rattle.decl_resolve.specs.declared.base.ReadType.{ReadType}
use Rattle.decl_resolve.specs.declared.paths.Need.{Need}
use Rattle.decl_resolve.specs.Args.{root_path, begins_local, local_fault}
use Rattle.decl_resolve.specs.Classes.{params_in, class_faults, class_type}
use Rattle.decl_resolve.specs.Index.{PlainIndex}
use Rattle.decl_resolve.specs.Reading.{path_meant, path_faults, arg_faults, local_with, args_read}
use Rattle.decl_resolve.specs.Scopes.{PlainScope}

-- nothing is asked of the paths in a type
abbrev pub no_need : Need
no_need = record { full = false; atomic = false }

-- what a type begins with, as it is read
abbrev pub base_read : PlainScope → PlainIndex → BaseTree → ReadBase
base_read scope around base.Int = read.Int
base_read scope around base.Bool = read.Bool
base_read scope around (base.Class name args) = read.Class name (class_of scope.headers name.name) (args_read scope around args)

-- the faults of each of its region arguments
abbrev pub base_parts : PlainScope → PlainIndex → BaseTree → List (List Refusal)
base_parts scope around base.Int = []
base_parts scope around base.Bool = []
base_parts scope around (base.Class name args) =
    arg_faults scope around (option_map_or (params_in scope.headers) (class_of scope.headers name.name) []) false args

-- the index names at a suffix: of the suffixes inside it none is in scope
abbrev pub at_suffix : PlainIndex → ℕ → PlainIndex
at_suffix around at = record around { inside = at }

-- the path of a suffix: `Root` where none is written
abbrev pub suffix_meant : PlainScope → PlainIndex → Suffix → Option Rpl
suffix_meant scope around suffix = option_map_or (path_meant scope around) suffix.rpl (Some root_path)

abbrev pub suffix_parts : PlainScope → PlainIndex → Suffix → List (List Refusal)
suffix_parts scope around suffix = option_map_or (λ tree. path_faults scope around no_need tree ∷ []) suffix.rpl []

abbrev pub suffix_local : PlainScope → PlainIndex → Option Place → Suffix → Option Place
suffix_local scope around before suffix = option_map_or (local_with scope around before) suffix.rpl before

-- of suffixes, counted on from a position: the paths that are known, the faults of each, the first local region
abbrev pub paths_from : PlainScope → PlainIndex → ℕ → List Suffix → List Rpl
paths_from scope around at [] = []
paths_from scope around at (suffix ∷ suffixes) =
    cons_option (suffix_meant scope (at_suffix around at) suffix) (paths_from scope around (at + 1) suffixes)

abbrev pub parts_from : PlainScope → PlainIndex → ℕ → List Suffix → List (List Refusal)
parts_from scope around at [] = []
parts_from scope around at (suffix ∷ suffixes) =
    suffix_parts scope (at_suffix around at) suffix ++ parts_from scope around (at + 1) suffixes

abbrev pub local_from : PlainScope → PlainIndex → ℕ → Option Place → List Suffix → Option Place
local_from scope around at before [] = before
local_from scope around at before (suffix ∷ suffixes) =
    local_from scope around (at + 1) (suffix_local scope (at_suffix around at) before suffix) suffixes

-- a type as it is read: its base, and the paths of its suffixes
abbrev pub type_read : PlainScope → PlainIndex → BaseTree → ReadType
type_read scope around base = record {
  base = base_read scope around base;
  paths = paths_from scope around 0 around.suffixes;
  local = local_from scope around 0 None around.suffixes;
}

-- the faults of each of its region arguments and paths
abbrev pub type_parts : PlainScope → PlainIndex → BaseTree → List (List Refusal)
type_parts scope around base = base_parts scope around base ++ parts_from scope around 0 around.suffixes

-- an int or a boolean
abbrev pub is_flat : ReadBase → Bool
is_flat read.Int = true
is_flat read.Bool = true
is_flat (read.Class name class args) = false

-- the type that a type begins with, and what is wrong in it
abbrev pub base_type : PlainScope → ReadBase → Option PlainType
base_type scope read.Int = Some int
base_type scope read.Bool = Some boolean
base_type scope (read.Class name class args) = class_type scope.headers class args

abbrev pub base_faults : PlainScope → ReadBase → Place → List Refusal
base_faults scope read.Int place = []
base_faults scope read.Bool place = []
base_faults scope (read.Class name class args) place =
    class_faults scope.headers scope.classes_given scope.given name class args place

-- an index name is written at a suffix
abbrev pub is_indexed : PlainIndex → ℕ → Bool
is_indexed around at = option_map_or (λ suffix. is_some suffix.index) (slice_get around.suffixes at) false

-- an array of arrays, one for each path, the first innermost; their suffixes are counted on from a position
abbrev pub arrays_from : PlainIndex → ℕ → PlainType → List Rpl → PlainType
arrays_from around at elem [] = elem
arrays_from around at elem (rpl ∷ rpls) = arrays_from around (at + 1) (array elem rpl (is_indexed around at)) rpls

-- the type of a base and of paths, of which each suffix has one; none where the base or one of these isn't known
abbrev pub with_suffixes : PlainIndex → Option PlainType → List Rpl → Option PlainType
with_suffixes around base paths =
    cond (length paths == length around.suffixes) (option_map (λ elem. arrays_from around 0 elem paths) base) None

-- the type that is read
abbrev pub judged_type : PlainScope → PlainIndex → ReadType → Option PlainType
judged_type scope around ty = with_suffixes around (base_type scope ty.base) ty.paths

-- what is wrong in it as a whole: a local region stands in the type of an array of ints or booleans alone
abbrev pub judged_faults : PlainScope → PlainIndex → ReadType → Place → List Refusal
judged_faults scope around ty place =
    local_fault ty.local (is_flat ty.base && nat_le (length around.suffixes) 1) ++ base_faults scope ty.base place

-- the index names of a type: those of its own suffixes
abbrev pub type_index : TypeTree → PlainIndex
type_index tree = record { suffixes = tree.suffixes; inside = 0; made = None }

-- the type that is written
abbrev pub type_meant : PlainScope → TypeTree → Option PlainType
type_meant scope tree = judged_type scope (type_index tree) (type_read scope (type_index tree) tree.base)

-- the faults of its arguments and paths, part by part, and then those of the whole
abbrev pub type_faults : PlainScope → TypeTree → List (List Refusal)
type_faults scope tree =
    type_parts scope (type_index tree) tree.base
    ++ judged_faults scope (type_index tree) (type_read scope (type_index tree) tree.base) tree.place ∷ []

-- the array that a creation makes: of the type that is read in front of its length, with its own path
abbrev pub array_meant : PlainScope → PlainIndex → ReadType → Rpl → Option PlainType
array_meant scope around ty own = option_map (λ elem. array elem own (is_some around.made)) (judged_type scope around ty)

-- a local region begins the own path
abbrev pub own_fault : ReadBase → PlainIndex → Rpl → Place → List Refusal
own_fault base around own place =
    cond (begins_local own.elems) (local_fault (Some place) (is_flat base && (length around.suffixes == 0))) []

-- what is wrong in it: a local region stands in the own path alone, and only where the elements are ints or booleans
abbrev pub array_faults : PlainScope → PlainIndex → ReadType → Rpl → Place → Place → List Refusal
array_faults scope around ty own own_place place =
    local_fault ty.local false ++ own_fault ty.base around own own_place ++ base_faults scope ty.base place
