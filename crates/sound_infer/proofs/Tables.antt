-- What depends on classes and region names alone holds with other members too.
use Rattle.std.proofs.Common.{◌≡◌, ℕ, suc, Bool, List, ⊎_elim, inl, inr, refl}
use Rattle.std.specs.Prelude.{All, slice_index_or}
use Rattle.lang_base.specs.declared.effect.Constraint.{Constraint}
use Rattle.lang_base.specs.declared.elems.Elem.{Elem}
use Rattle.lang_base.specs.declared.elems.Elem.TheVariants.{Name, At, Any, Star, Local}
use Rattle.lang_base.specs.declared.elems.Index.TheVariants.{Literal, Variable, Renamed, Own}
use Rattle.lang_base.specs.declared.region.Rpl.{Rpl}
use Rattle.lang_base.specs.Types.{PlainType, int, boolean, void, null, class, array}
use Rattle.lang_typed.specs.declared.stmt.Forking.{Forking}
use Rattle.lang_typed.specs.declared.stmt.Forking.TheVariants.{Deterministic, Nondeterministic}
use Rattle.lang_typed.specs.Plain.{PlainProgram, PlainMember}
use Rattle.lang_typed.specs.Scope.{Scope, Above, itself, through_parent, IsBelow, same, below, atomic_for}
use Rattle.lang_typed.specs.Types.{GoodElem, GoodPath, LocalPath, GoodArgs, GoodType, Subtype}
use Rattle.lang_typed.specs.Types.{Subtype as subtype}

abbrev pub with_members : PlainProgram → List PlainMember → PlainProgram
with_members P ms = record P { members = ms }

module _ (P : PlainProgram) (ms : List PlainMember) where
  pub above_there : {c d : ℕ} {args owned : List Rpl} → Above P c args d owned → Above (with_members P ms) c args d owned
  above_there itself = itself
  above_there (through_parent e h) = through_parent e (above_there h)

  pub below_there : {c d : ℕ} → IsBelow P c d → IsBelow (with_members P ms) c d
  below_there same = same
  below_there (below e h) = below e (below_there h)

  pub below_back : {c d : ℕ} → IsBelow (with_members P ms) c d → IsBelow P c d
  below_back same = same
  below_back (below e h) = below e (below_back h)

  pub subtype_there : {t u : PlainType} → Subtype P t u → Subtype (with_members P ms) t u
  subtype_there subtype.ints = subtype.ints
  subtype_there subtype.booleans = subtype.booleans
  subtype_there subtype.null_object = subtype.null_object
  subtype_there subtype.null_array = subtype.null_array
  subtype_there (subtype.objects h) = subtype.objects h
  subtype_there (subtype.arrays h alike) = subtype.arrays h alike
  subtype_there (subtype.inherits e h) = subtype.inherits e (subtype_there h)

  elem_there : (L : Scope) (depth : ℕ) (x : Elem) → GoodElem P L depth x → GoodElem (with_members P ms) L depth x
  elem_there L depth (Name n) h = h
  elem_there L depth (At (Literal k)) h = h
  elem_there L depth (At (Variable x)) h = h
  elem_there L depth (At (Renamed x)) h = h
  elem_there L depth (At (Own d)) h = h
  elem_there L depth Any h = h
  elem_there L depth Star h = h
  elem_there L depth (Local r n) h = h

  elems_there : (L : Scope) (depth : ℕ) (xs : List Elem) → All (GoodElem P L depth) xs → All (GoodElem (with_members P ms) L depth) xs
  elems_there L depth xs h = λ k d l. elem_there L depth (slice_index_or xs k d) (h k d l)

  pub path_there : (L : Scope) (depth : ℕ) (a : Rpl) → GoodPath P L depth a → GoodPath (with_members P ms) L depth a
  path_there L depth a h = record { begins = h.begins; elems = elems_there L depth a.elems h.elems }

  pub paths_there : (L : Scope) (depth : ℕ) (ps : List Rpl) → All (GoodPath P L depth) ps → All (GoodPath (with_members P ms) L depth) ps
  paths_there L depth ps h = λ k d l. path_there L depth (slice_index_or ps k d) (h k d l)

  local_there : (L : Scope) (depth : ℕ) (a : Rpl) → LocalPath P L depth a → LocalPath (with_members P ms) L depth a
  local_there L depth a h = record { region = h.region; rest = h.rest; is = h.is; in_scope = h.in_scope; elems = elems_there L depth h.rest (LocalPath.elems h) }

  pub args_there : {L : Scope} {depth : ℕ} {params : List Bool} {given : List Constraint} {others args : List Rpl} → GoodArgs P L depth params given others args →
      GoodArgs (with_members P ms) L depth params given others args
  args_there {L} {depth} {args = args} h = record { arity = h.arity; paths = paths_there L depth args h.paths; atomic = h.atomic; hold = h.hold }

  pub type_there : (L : Scope) (depth : ℕ) (t : PlainType) → GoodType P L depth t → GoodType (with_members P ms) L depth t
  type_there L depth int h = tt
  type_there L depth boolean h = tt
  type_there L depth void h = absurd h
  type_there L depth null h = absurd h
  type_there L depth (class c args) h = (h.0, h.1, args_there h.2)
  type_there L depth (array t a named) h =
      (⊎_elim (λ p. inl (path_there L (suc depth) a p)) (λ q. inr (local_there L 1 a q.0, q.1, q.2)) h.0, type_there L (suc depth) t h.1, h.2)

  pub atomic_there : (forking : Forking) (L : Scope) → atomic_for forking P L ≡ atomic_for forking (with_members P ms) L
  atomic_there Deterministic L = refl
  atomic_there Nondeterministic L = refl
