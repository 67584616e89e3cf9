-- Region arguments: those that are written, or `Root` for each parameter.
use Rattle.std.specs.Prelude.{ℕ, Bool, false, not, ◌&&◌, ◌==◌, cond, List, [], ◌∷◌, ◌++◌, map, length, is_none, Option, Some, None}
use Rattle.std.specs.List.{list_any}
use Rattle.std.specs.Option.{option_map_or}
use Rattle.lang_base.specs.declared.elems.Elem.{Elem}
use Rattle.lang_base.specs.declared.place.Place.{Place}
use Rattle.lang_base.specs.declared.refusal.Kind.TheVariants as kind
use Rattle.lang_base.specs.declared.refusal.Refusal.{Refusal}
use Rattle.lang_base.specs.Regions.{is_local}
use Rattle.decl_headers.specs.Passes.{fault_if}
use Rattle.lang_base.specs.declared.region.Head.TheVariants.{Root}
use Rattle.lang_base.specs.declared.region.Rpl.{Rpl}
use Rattle.decl_headers.specs.declared.header.ParamRow.{ParamRow}

-- the path `Root`
abbrev pub root_path : Rpl
root_path = record { head = Root; elems = [] }

-- `Root` for each parameter
abbrev pub roots : List ParamRow → List Rpl
roots params = map (λ param. root_path) params

-- the arguments for the parameters, where so many are written and these of them are known: a list that is left out
-- is `Root` for each; else there is one for each parameter, and none is unknown
abbrev pub args_given : ℕ → List Rpl → List ParamRow → Option (List Rpl)
args_given written known params =
    cond (written == 0) (Some (roots params))
    (cond ((written == length params) && (length known == written)) (Some known) None)

-- the path begins with a local region
abbrev pub begins_local : List Elem → Bool
begins_local [] = false
begins_local (x ∷ elems) = is_local x

-- the first name of a local region, where a further path is read
abbrev pub first_local : Option Place → Rpl → Place → Option Place
first_local before rpl place = cond (is_none before && begins_local rpl.elems) (Some place) before

-- a local region stands where it may not
abbrev pub local_fault : Option Place → Bool → List Refusal
local_fault name allowed = option_map_or (λ place. fault_if (not allowed) kind.LocalRegion place) name []

-- so many written arguments are too many or too few; none may be left out for an atomic parameter
abbrev pub is_unfit : ℕ → List ParamRow → Bool
is_unfit written params = cond (written == 0) (list_any (λ param. param.atomic) params) (not (written == length params))

-- what is wrong in a list of arguments
abbrev pub args_faults : Option Place → ℕ → List ParamRow → Place → List Refusal
args_faults name written params place = local_fault name false ++ fault_if (is_unfit written params) kind.RegionArgs place
