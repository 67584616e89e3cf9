-- What paths, types and effects name: the index variables and the local regions in them.
use Rattle.std.specs.Prelude.{◌≡◌, ℕ, true, false, IsTrue, List, [], ◌∷◌, Some}
use Rattle.lang_base.specs.declared.effect.Effect.{Effect}
use Rattle.lang_base.specs.declared.elems.Elem.{Elem}
use Rattle.lang_base.specs.declared.elems.Elem.TheVariants.{Name, At, Any, Star, Local}
use Rattle.lang_base.specs.declared.elems.Index.TheVariants.{Literal, Variable, Renamed, Own}
use Rattle.lang_base.specs.declared.region.Rpl.{Rpl}
use Rattle.lang_base.specs.Types.{PlainType, int, boolean, void, null, class, array}
use Rattle.lang_typed.specs.Effects.{does, uses}
use Rattle.lang_typed.specs.Effects.{Own as Done}
use Rattle.lang_typed.specs.Plain.{PlainProgram, PlainField, PlainMember, PlainParent}
use Rattle.lang_typed.specs.Scope.{Scope, variable, frozen, constant, part, reserved, field_at, member_at, parent_of}
use Rattle.lang_typed.specs.Scope.{Local as Slot}
use Rattle.sound_bodies.specs.Seen.{can_stand}

-- an index variable is one of the first, and a local region one of the second
abbrev pub ElemNames : (ℕ → Type 0) → (ℕ → Type 0) → Elem → Type 0
ElemNames V R (Name n) = Unit {0}
ElemNames V R (At (Literal k)) = Unit {0}
ElemNames V R (At (Variable x)) = V x
ElemNames V R (At (Renamed x)) = Unit {0}
ElemNames V R (At (Own d)) = Unit {0}
ElemNames V R Any = Unit {0}
ElemNames V R Star = Unit {0}
ElemNames V R (Local r n) = R r

-- everything is one, and nothing
abbrev pub Anything : ℕ → Type 0
Anything x = Unit {0}

abbrev pub Nothing : ℕ → Type 0
Nothing x = ⊥

-- of a local region that begins a path it is asked which one it is
abbrev pub ElemsName : (ℕ → Type 0) → (ℕ → Type 0) → List Elem → Type 0
ElemsName V R [] = Unit {0}
ElemsName V R (e ∷ es) = ElemNames V R e × ElemsName V Anything es

abbrev pub PathNames : (ℕ → Type 0) → (ℕ → Type 0) → Rpl → Type 0
PathNames V R a = ElemsName V R a.elems

abbrev pub PathsName : (ℕ → Type 0) → (ℕ → Type 0) → List Rpl → Type 0
PathsName V R [] = Unit {0}
PathsName V R (a ∷ rest) = PathNames V R a × PathsName V R rest

-- the elements of an array have the type of a value
abbrev pub TypeNames : (ℕ → Type 0) → (ℕ → Type 0) → PlainType → Type 0
TypeNames V R int = Unit {0}
TypeNames V R boolean = Unit {0}
TypeNames V R void = Unit {0}
TypeNames V R null = Unit {0}
TypeNames V R (class c args) = PathsName V R args
TypeNames V R (array t a named) = PathNames V R a × (can_stand t ≡ true) × TypeNames V R t

abbrev pub EffectsName : (ℕ → Type 0) → (ℕ → Type 0) → List Effect → Type 0
EffectsName V R [] = Unit {0}
EffectsName V R (e ∷ es) = PathNames V R e.rpl × EffectsName V R es

-- what may be named in a scope: locals that keep their ints, and the local regions
abbrev pub IsIndex : Scope → ℕ → Type 0
IsIndex L x = L.local x ≡ Some (constant int)

abbrev pub IsRegion : Scope → ℕ → Type 0
IsRegion L r = IsTrue (L.regions r)

abbrev pub SlotNames : (ℕ → Type 0) → (ℕ → Type 0) → Slot → Type 0
SlotNames V R (variable t) = TypeNames V R t
SlotNames V R (frozen t) = TypeNames V R t
SlotNames V R (constant t) = TypeNames V R t
SlotNames V R (part t a) = TypeNames V R (array t a false)
SlotNames V R reserved = Unit {0}

-- the types of all locals in scope name what is in scope
abbrev pub LocalsName : Scope → Type 0
LocalsName L = (x : ℕ) (l : Slot) → L.local x ≡ Some l → SlotNames (IsIndex L) (IsRegion L) l

-- what is done through a part is done to the path of its elements
abbrev pub ThroughPart : Scope → ℕ → Effect → Type 0
ThroughPart L k e = (t : PlainType) × (L.local k ≡ Some (part t e.rpl))

abbrev pub DoneIn : Scope → Done → Type 0
DoneIn L (does e) = PathNames (IsIndex L) (IsRegion L) e.rpl
DoneIn L (uses k e) = PathNames (IsIndex L) (IsRegion L) e.rpl × ThroughPart L k e

abbrev pub AllDoneIn : Scope → List Done → Type 0
AllDoneIn L [] = Unit {0}
AllDoneIn L (o ∷ os) = DoneIn L o × AllDoneIn L os

-- signatures name neither index variables nor local regions
pub record Signed (P : PlainProgram) : Type 0 where
  pub fields : (c k : ℕ) (f : PlainField) → field_at P c k ≡ Some f → TypeNames Nothing Nothing f.ty × PathNames Nothing Nothing f.region
  pub parents : (c : ℕ) (p : PlainParent) → parent_of P c ≡ Some p → PathsName Nothing Nothing p.args
  pub results : (n : ℕ) (m : PlainMember) → member_at P n ≡ Some m → TypeNames Nothing Nothing m.result
  pub summaries : (n : ℕ) (m : PlainMember) → member_at P n ≡ Some m → EffectsName Nothing Nothing m.summary
