-- The creation of an array.
use Rattle.std.specs.Prelude.{Bool, true, false, not, List, ◌++◌, length, Option, Some, None, Result, Ok, Err}
use Rattle.std.specs.Option.{option_map_or}
use Rattle.lang_base.specs.declared.place.Place.{Place}
use Rattle.lang_base.specs.declared.refusal.Kind.TheVariants as kind
use Rattle.lang_base.specs.declared.refusal.Refusal.{Refusal}
use Rattle.lang_base.specs.declared.region.Rpl.{Rpl}
use Rattle.lang_base.specs.Types.{PlainType}
use Rattle.decl_headers.specs.declared.faults.Order.TheVariants as order
use Rattle.decl_headers.specs.Faults.{none_by}
use Rattle.decl_headers.specs.Passes.{fault, fault_if}
use Rattle.decl_resolve.specs.declared.base.ReadType.{ReadType}
use Rattle.decl_resolve.specs.declared.paths.Need.{Need}
use Rattle.decl_resolve.specs.declared.scope.Site.TheVariants as site
use Rattle.decl_resolve.specs.Args.{root_path}
use Rattle.decl_resolve.specs.Index.{PlainIndex}
use Rattle.decl_resolve.specs.Reading.{path_meant, path_faults}
use Rattle.decl_resolve.specs.Telling.{parts_reported}
use Rattle.decl_resolve.specs.Written.{at_suffix, type_read, type_parts, array_meant, array_faults}
use Rattle.syntax_tree.specs.declared.region.BaseTree.{BaseTree}
use Rattle.syntax_tree.specs.declared.region.Named.{Named}
use Rattle.syntax_tree.specs.declared.region.RplTree.{RplTree}
use Rattle.syntax_tree.specs.declared.region.Suffix.{Suffix}
use Rattle.body_exprs.specs.declared.env.Env.{Env}
use Rattle.body_exprs.specs.Env.{scope_of}
use Rattle.body_exprs.specs.Refusing.{reported_first}
use Rattle.body_exprs.specs.Typed.{may_be, is_int}

-- the index names of a creation: those of the suffixes in front of its length, and its own
abbrev pub made_names : List Suffix → Option Named → PlainIndex
made_names suffixes index = record { suffixes = suffixes; inside = 0; made = index }

-- what stands in front of the length, as it is read; and the first fault in its region arguments and paths
abbrev pub front_of : Env → PlainIndex → BaseTree → ReadType
front_of env around base = type_read (scope_of env) around base

abbrev pub front_reported : Env → PlainIndex → BaseTree → Option Refusal
front_reported env around base = parts_reported site.Body (none_by order.Kind) (type_parts (scope_of env) around base)

-- the region path of the elements is to be fully specified
abbrev pub full_path : Need
full_path = record { full = true; atomic = false }

-- only the index name of the creation itself may stand in it
abbrev pub around_own : PlainIndex → PlainIndex
around_own around = at_suffix around (length around.suffixes)

-- a path, unless a fault is reported
abbrev pub path_reported : Option Refusal → Option Rpl → Place → Result Rpl Refusal
path_reported (Some refusal) rpl place = Err refusal
path_reported None None place = Err (fault kind.Unknown place)
path_reported None (Some rpl) place = Ok rpl

-- the region path of the elements: `Root` where none is written
abbrev pub own_path : Env → PlainIndex → Option RplTree → Result Rpl Refusal
own_path env around None = Ok root_path
own_path env around (Some tree) =
    path_reported (reported_first (path_faults (scope_of env) (around_own around) full_path tree)) (path_meant (scope_of env) (around_own around) tree) tree.place

-- where it is written, else the creation
abbrev pub own_place : Option RplTree → Place → Place
own_place rpl place = option_map_or (λ tree. tree.place) rpl place

-- the fault of a creation that is reported: the length is no int, or the type is faulty
abbrev pub array_reported : Env → PlainIndex → ReadType → Bool → Rpl → Place → Place → Option Refusal
array_reported env around front is_length own own_at place =
    reported_first (fault_if (not is_length) kind.Type place ++ array_faults (scope_of env) around front own own_at place)

-- a type, unless a fault is reported
abbrev pub type_reported : Option Refusal → Option PlainType → Place → Result PlainType Refusal
type_reported (Some refusal) t place = Err refusal
type_reported None None place = Err (fault kind.RegionArgs place)
type_reported None (Some t) place = Ok t

abbrev pub array_with : Env → PlainIndex → ReadType → Bool → Result Rpl Refusal → Place → Place → Result PlainType Refusal
array_with env around front is_length (Err refusal) own_at place = Err refusal
array_with env around front is_length (Ok own) own_at place =
    type_reported (array_reported env around front is_length own own_at place) (array_meant (scope_of env) around front own) place

-- the type of the creation, where the length has this type
abbrev pub created_array : Env → PlainIndex → ReadType → Option PlainType → Option RplTree → Place → Result PlainType Refusal
created_array env around front len rpl place =
    array_with env around front (may_be is_int len) (own_path env around rpl) (own_place rpl place) place
