-- A scope in which all stands that stands in another: what is in scope there is in scope here.
use Rattle.std.proofs.Common.{◌≡◌, ℕ, suc, false, IsTrue, Some, slice_index_or}
use Rattle.lang_base.specs.declared.elems.Elem.{Elem}
use Rattle.lang_base.specs.declared.elems.Elem.TheVariants.{Name, At, Any, Star, Local}
use Rattle.lang_base.specs.declared.elems.Index.TheVariants.{Literal, Variable, Renamed, Own}
use Rattle.lang_base.specs.declared.region.Rpl.{Rpl}
use Rattle.lang_base.specs.Types.{PlainType, int, boolean, void, null, class, array}
use Rattle.lang_typed.specs.Scope.{Scope, variable, frozen, constant, part, reserved}
use Rattle.lang_typed.specs.Scope.{Local as ScopeLocal}
use Rattle.runs_sound.specs.Scopes.{InScope, PathInScope, TypeInScope, LocalInScope}

-- the second has the index variables and the local regions of the first
pub record Wider (L M : Scope) : Type 0 where
  pub index : (x : ℕ) → L.local x ≡ Some (constant int) → M.local x ≡ Some (constant int)
  pub regions : (r : ℕ) → IsTrue (L.regions r) → IsTrue (M.regions r)

module _ (L M : Scope) (wider : Wider L M) where
  pub wider_elem : (D : ℕ) (y : Elem) → InScope L D y → InScope M D y
  wider_elem D (Name m) s = tt
  wider_elem D (At (Literal k)) s = tt
  wider_elem D (At (Variable y)) s = wider.index y s
  wider_elem D (At (Renamed y)) s = s
  wider_elem D (At (Own d)) s = s
  wider_elem D Any s = tt
  wider_elem D Star s = tt
  wider_elem D (Local r m) s = (s.0, wider.regions r s.1)

  pub wider_path : (D : ℕ) (a : Rpl) → PathInScope L D a → PathInScope M D a
  wider_path D a s = λ k d h. wider_elem D _ (s k d h)

  pub wider_type : (D : ℕ) (t : PlainType) → TypeInScope L D t → TypeInScope M D t
  wider_type D int s = tt
  wider_type D boolean s = tt
  wider_type D void s = tt
  wider_type D null s = tt
  wider_type D (class c args) s = λ k d h. wider_path D (slice_index_or args k d) (s k d h)
  wider_type D (array t a named) s = (wider_path (suc D) a s.0, wider_type (suc D) t s.1, s.2)

  pub wider_local : (m : ScopeLocal) → LocalInScope L m → LocalInScope M m
  wider_local (variable t) s = wider_type 0 t s
  wider_local (frozen t) s = wider_type 0 t s
  wider_local (constant t) s = wider_type 0 t s
  wider_local (part t a) s = wider_type 0 (array t a false) s
  wider_local reserved s = tt
