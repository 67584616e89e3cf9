-- The laws of subtyping, as statements.
use Rattle.std.specs.Prelude.{◌≡◌, ℕ, List, Some}
use Rattle.lang_base.specs.declared.region.Rpl.{Rpl}
use Rattle.lang_base.specs.declared.ty.Super.{Super}
use Rattle.lang_base.specs.Types.{PlainType, parent_of, NoCycle, Subtype}
use Rattle.lang_base.specs.Types.PlainType.{class}

-- a type is a subtype of itself
abbrev pub SubtypingIsReflexive : Type 0
SubtypingIsReflexive = (supers : List Super) (a : PlainType) → Subtype supers a a

-- a subtype of a subtype is one, where no class is its own superclass
abbrev pub SubtypingIsTransitive : Type 0
SubtypingIsTransitive = (supers : List Super) → NoCycle supers → (a b c : PlainType) → Subtype supers a b → Subtype supers b c → Subtype supers a c

-- a class type is a subtype of its superclass with its region arguments put in
abbrev pub ClassIsBelowSuperclass : Type 0
ClassIsBelowSuperclass = (supers : List Super) (c d : ℕ) (args params : List Rpl) → parent_of supers (class c args) ≡ Some (class d params) →
    Subtype supers (class c args) (class d params)
