-- Scopes whose types speak of nothing but what is in scope.
use Rattle.std.specs.Prelude.{◌≡◌, ◌<◌, ℕ, suc, ◌+◌, false, IsTrue, All, Some}
use Rattle.lang_base.specs.declared.effect.Constraint.{Constraint}
use Rattle.lang_base.specs.declared.elems.Elem.{Elem}
use Rattle.lang_base.specs.declared.elems.Elem.TheVariants.{Name, At, Any, Star, Local}
use Rattle.lang_base.specs.declared.elems.Index.TheVariants.{Literal, Variable, Renamed, Own}
use Rattle.lang_base.specs.declared.region.Rpl.{Rpl}
use Rattle.lang_base.specs.Types.{PlainType, int, boolean, void, null, class, array}
use Rattle.lang_typed.specs.Scope.{Scope, variable, frozen, constant, part, reserved}
use Rattle.lang_typed.specs.Scope.{Local as ScopeLocal}
use Rattle.lang_typed.specs.Types.{SpeaksOfNone}

-- an index is a number, a local that keeps its value, or that of an array type around; and a local region is in scope
abbrev pub InScope : Scope → ℕ → Elem → Type 0
InScope L depth (Name n) = Unit {0}
InScope L depth (At (Literal k)) = Unit {0}
InScope L depth (At (Variable x)) = L.local x ≡ Some (constant int)
InScope L depth (At (Renamed x)) = ⊥
InScope L depth (At (Own d)) = d < depth
InScope L depth Any = Unit {0}
InScope L depth Star = Unit {0}
InScope L depth (Local r n) = (n ≡ 0) × IsTrue (L.regions r)

abbrev pub PathInScope : Scope → ℕ → Rpl → Type 0
PathInScope L depth a = All (InScope L depth) a.elems

abbrev pub TypeInScope : Scope → ℕ → PlainType → Type 0
TypeInScope L depth (class c args) = All (PathInScope L depth) args
TypeInScope L depth (array t a named) = PathInScope L (suc depth) a × TypeInScope L (suc depth) t × (named ≡ false → SpeaksOfNone a t)
TypeInScope L depth int = Unit {0}
TypeInScope L depth boolean = Unit {0}
TypeInScope L depth void = Unit {0}
TypeInScope L depth null = Unit {0}

abbrev pub LocalInScope : Scope → ScopeLocal → Type 0
LocalInScope L (variable t) = TypeInScope L 0 t
LocalInScope L (frozen t) = TypeInScope L 0 t
LocalInScope L (constant t) = TypeInScope L 0 t
LocalInScope L (part t a) = TypeInScope L 0 (array t a false)
LocalInScope L reserved = Unit {0}

-- slots are those of the member, and those after a part are reserved; so is what a `return` gives, and the constraints
pub record GoodScope (L : Scope) : Type 0 where
  pub each : (x : ℕ) (l : ScopeLocal) → L.local x ≡ Some l → LocalInScope L l
  pub slots : (x : ℕ) (l : ScopeLocal) → L.local x ≡ Some l → x < L.slots
  pub parts : (k : ℕ) (t : PlainType) (a : Rpl) → L.local k ≡ Some (part t a) → (L.local (k + 1) ≡ Some reserved) × (L.local (k + 2) ≡ Some reserved)
  pub result : (t : PlainType) → L.result ≡ Some t → TypeInScope L 0 t
  pub given : All (λ (c : Constraint). PathInScope L 0 c.left × PathInScope L 0 c.right) L.given
