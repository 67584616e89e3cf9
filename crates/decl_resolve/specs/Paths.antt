-- What is asked of a written region path, and which region name a name means.
use Rattle.std.specs.Prelude.{ℕ, Bool, true, false, not, ◌&&◌, ◌||◌, List, slice_index_or, is_none, Option, None, Some, option_and_then}
use Rattle.std.specs.List.{list_all}
use Rattle.std.specs.Option.{option_map_or}
use Rattle.lang_base.specs.declared.refusal.Kind.TheVariants as kind
use Rattle.lang_base.specs.declared.refusal.Refusal.{Refusal}
use Rattle.syntax_tree.specs.declared.region.ElemTree.{ElemTree}
use Rattle.syntax_tree.specs.declared.region.ElemTree.TheVariants as elem
use Rattle.syntax_tree.specs.declared.region.Named.{Named}
use Rattle.syntax_tree.specs.declared.region.RName.{RName}
use Rattle.decl_headers.specs.declared.header.Headers.{Headers}
use Rattle.decl_headers.specs.Headers.{class_of, region_of, atomic_regions}
use Rattle.decl_headers.specs.Passes.{fault_if}
use Rattle.decl_resolve.specs.declared.paths.Need.{Need}

-- neither `*` nor `[?]`
abbrev pub is_specified : ElemTree → Bool
is_specified (elem.Name name) = true
is_specified elem.Star = false
is_specified elem.Any = false
is_specified (elem.Lit k) = true
is_specified (elem.Index named) = true

-- it is known whether the path is atomic, and it isn't
abbrev pub is_plain : Option Bool → Bool
is_plain None = false
is_plain (Some atomic) = not atomic

-- a path isn't what is asked: fully specified, atomic, or without a variable that may not stand there
abbrev pub misfits : Need → List ElemTree → Option Bool → Bool → Bool
misfits need elems atomic misplaced =
    (need.full && not (list_all is_specified elems)) || (need.atomic && is_plain atomic) || misplaced

-- the region name that a name means in a class: `r` of the class or a superclass, `C.r` of the class `C` or one of its
abbrev pub region_meant : Headers → ℕ → RName → Option ℕ
region_meant headers at name =
    option_map_or (λ second. option_and_then (λ class. region_of headers class second.name) (class_of headers name.first.name))
    name.second (region_of headers at name.first.name)

-- the name that isn't there: that of the class, or that of the region
abbrev pub second_faults : Headers → ℕ → Named → List Refusal
second_faults headers class second = fault_if (is_none (region_of headers class second.name)) kind.Unknown second.place

abbrev pub region_faults : Headers → ℕ → RName → List Refusal
region_faults headers at name =
    option_map_or
    (λ second. option_map_or (λ class. second_faults headers class second) (class_of headers name.first.name) (fault_if true kind.Unknown name.first.place))
    name.second (fault_if (is_none (region_of headers at name.first.name)) kind.Unknown name.first.place)

-- a region name is declared atomic
abbrev pub is_atomic_region : Headers → ℕ → Bool
is_atomic_region headers number = slice_index_or (atomic_regions headers) number false
