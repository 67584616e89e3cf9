-- When a method fits the one that it overrides, with region arguments put in there.
use Rattle.std.specs.Prelude.{ℕ, zero, suc, ◌+◌, length, unwrap_or, option_and_then, Bool, true, false, not, ◌&&◌, cond, List, [], ◌∷◌, ◌++◌, map, Option}
use Rattle.std.specs.Option.{option_map_or}
use Rattle.lang_base.specs.declared.effect.Constraint.{Constraint}
use Rattle.lang_base.specs.declared.effect.Effect.{Effect}
use Rattle.lang_base.specs.declared.refusal.Kind.TheVariants as kind
use Rattle.lang_base.specs.declared.refusal.Refusal.{Refusal}
use Rattle.lang_base.specs.declared.region.Head.TheVariants.{Param}
use Rattle.lang_base.specs.declared.region.Rpl.{Rpl}
use Rattle.lang_base.specs.declared.ty.Ty.{Ty}
use Rattle.lang_base.specs.Effects.{same_bool, same_rpl, set_covers, gathered}
use Rattle.lang_base.specs.Regions.{substituted}
use Rattle.lang_base.specs.Types.{plain_type, type_with}
use Rattle.region_types.specs.Same.{same_type}
use Rattle.decl_headers.specs.declared.header.Headers.{Headers}
use Rattle.decl_headers.specs.declared.header.ParamRow.{ParamRow}
use Rattle.decl_headers.specs.Headers.{header_of}
use Rattle.decl_headers.specs.Numbers.{as_number}
use Rattle.decl_headers.specs.Passes.{fault, fault_if}
use Rattle.decl_table.specs.declared.rows.MethodRow.{MethodRow}
use Rattle.decl_table.specs.declared.table.Table.{Table}
use Rattle.decl_table.specs.Table.{headers_of, numbered, overridden_by, args_at}

-- as many region parameters, and each as atomic as the other
abbrev pub same_kinds : List ParamRow → List ParamRow → Bool
same_kinds [] [] = true
same_kinds [] (b ∷ bs) = false
same_kinds (a ∷ as_) [] = false
same_kinds (a ∷ as_) (b ∷ bs) = same_bool a.atomic b.atomic && same_kinds as_ bs

-- a path is the other one with the arguments put in
abbrev pub same_path_with : List Rpl → Rpl → Rpl → Bool
same_path_with args a b = same_rpl a (substituted args b)

-- as many constraints, and each is the other with the arguments put in
abbrev pub same_constraints : List Rpl → List Constraint → List Constraint → Bool
same_constraints args [] [] = true
same_constraints args [] (b ∷ bs) = false
same_constraints args (a ∷ as_) [] = false
same_constraints args (a ∷ as_) (b ∷ bs) =
    (same_path_with args a.left b.left && same_path_with args a.right b.right) && same_constraints args as_ bs

-- a type is the other one with the arguments put in
abbrev pub same_with : List Rpl → Ty → Ty → Bool
same_with args a b = same_type (plain_type a) (type_with args (plain_type b))

-- as many types, and each is the other with the arguments put in
abbrev pub same_types : List Rpl → List Ty → List Ty → Bool
same_types args [] [] = true
same_types args [] (b ∷ bs) = false
same_types args (a ∷ as_) [] = false
same_types args (a ∷ as_) (b ∷ bs) = same_with args a b && same_types args as_ bs

-- the same region parameters, constraints, types of formals and result
abbrev pub fits : List Rpl → MethodRow → MethodRow → Bool
fits args row overridden =
    same_kinds row.regions overridden.regions
    && same_constraints args row.given overridden.given
    && same_types args row.params overridden.params
    && same_with args row.result overridden.result

abbrev pub effect_with : List Rpl → Effect → Effect
effect_with args e = record e { rpl = substituted args e.rpl }

-- the summary of the overridden method covers that of the method
abbrev pub is_covered : List Rpl → MethodRow → MethodRow → Bool
is_covered args row overridden = set_covers (gathered [] (map (effect_with args) overridden.summary)) row.summary

-- a method that doesn't fit, and one that fits with effects beyond those of the overridden one
abbrev pub override_fault : List Rpl → MethodRow → MethodRow → List Refusal
override_fault args row overridden =
    cond (fits args row overridden) (fault_if (not (is_covered args row overridden)) kind.OverrideEffect row.place)
    (fault kind.Override row.place ∷ [])

-- a region parameter as a path
abbrev pub param_path : ℕ → Rpl
param_path number = record { head = Param number; elems = [] }

-- so many region parameters, counted on from a number
abbrev pub params_from : ℕ → ℕ → List Rpl
params_from from zero = []
params_from from (suc n) = params_from from n ++ param_path (as_number (from + n)) ∷ []

-- how many region parameters a class has
abbrev pub param_count : Headers → ℕ → ℕ
param_count headers at = option_map_or (λ header. as_number (length header.params)) (header_of headers at) 0

-- what the region parameters of a superclass, and after them those of a method of it, are in a method that
-- overrides it
abbrev pub args_in : Table → MethodRow → ℕ → List Rpl
args_in table row owner =
    let count = param_count (headers_of table) row.owner in
    unwrap_or (args_at table row.owner (params_from 0 count) owner) [] ++ params_from count (as_number (length row.regions))

-- the method that a method overrides
abbrev pub overridden_row : Table → MethodRow → Option MethodRow
overridden_row table row = option_and_then (numbered table) (overridden_by table row.id)

-- what is wrong in a method that overrides one
abbrev pub row_faults : Table → MethodRow → List Refusal
row_faults table row =
    option_map_or (λ overridden. override_fault (args_in table row overridden.owner) row overridden) (overridden_row table row) []

-- the same of each method
abbrev pub override_faults : Table → List MethodRow → List Refusal
override_faults table [] = []
override_faults table (row ∷ rows) = row_faults table row ++ override_faults table rows
