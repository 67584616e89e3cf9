-- What a value may stand for, as tests.
use Rattle.std.specs.Prelude.{Bool, true, false, ◌&&◌, List, [], ◌∷◌, length, Option, Some, None}
use Rattle.lang_base.specs.declared.region.Rpl.{Rpl}
use Rattle.lang_base.specs.declared.ty.Super.{Super}
use Rattle.lang_base.specs.declared.ty.Ty.{Ty}
use Rattle.lang_base.specs.Regions.{within}
use Rattle.lang_base.specs.Types.{PlainType, plain_type, type_with, below_class}
use Rattle.lang_base.specs.Types.PlainType.{int, boolean, void, null, class, array}
use Rattle.region_types.specs.Same.{same_type}

-- the first type is a subtype of the second
abbrev pub is_subtype : List Super → PlainType → PlainType → Bool
is_subtype supers int int = true
is_subtype supers boolean boolean = true
is_subtype supers void void = true
is_subtype supers null null = true
is_subtype supers null (class c args) = true
is_subtype supers null (array elem rpl named) = true
is_subtype supers (class c rs) (class d ss) = below_class supers (length supers) (class c rs) (class d ss)
is_subtype supers (array elem rpl named) (array elem' rpl' named') = within rpl rpl' && same_type elem elem'
is_subtype supers a b = false

-- a value may stand where the type is declared; what fits everywhere may stand there
abbrev pub fits_as : List Super → Option PlainType → PlainType → Bool
fits_as supers (Some t) declared = is_subtype supers t declared
fits_as supers None declared = true

-- as many values as declared types, each of which fits the one at its place with region arguments put in
abbrev pub all_fit : List Super → List Rpl → List (Option PlainType) → List Ty → Bool
all_fit supers args [] [] = true
all_fit supers args (v ∷ values) (t ∷ declared) = fits_as supers v (type_with args (plain_type t)) && all_fit supers args values declared
all_fit supers args values declared = false
