-- Values that fit types, by tests.
use Rattle.std.specs.Bool.{Decides}
use Rattle.std.proofs.Common.{◌≡◌, ◌∙◌, ◌↔◌, ℕ, suc, ◌+◌, ◌<◌, Bool, true, false, ◌&&◌, IsTrue, List, [], ◌∷◌, Option, Some, None, Result, Ok, Err, IfOk, map, length, drop, get_or, refl, sym, ap}
use Rattle.std.proofs.lemmas.Bool.{false≢true}
use Rattle.std.proofs.lemmas.Bool.Decides.{Decides-and, same_from_decides}
use Rattle.lang_base.specs.declared.region.Rpl.{Rpl}
use Rattle.lang_base.specs.declared.ty.Super.{Super}
use Rattle.lang_base.specs.declared.ty.Ty.{Ty}
use Rattle.lang_base.specs.Regions.{within}
use Rattle.lang_base.specs.Types.{PlainType, plain_type, type_with, Subtype}
use Rattle.lang_base.specs.Types.PlainType.{int, boolean, void, null, class, array}
use Rattle.region_types.specs.Same.{same_type}
use Rattle.region_types.proofs.Equal.{same_type-is, same_type-from}
use Rattle.body_exprs.specs.declared.typed.Typed.{Typed}
use Rattle.body_exprs.specs.Fits.{is_subtype, fits_as, all_fit}
use Rattle.body_exprs.specs.Typed.{value_type, FitsAs}
use Rattle.body_exprs.proofs.Several.{next_is}

true_is : {P : Type 0} → P → Decides true P
true_is p = (λ _. p, λ _. refl)

false_is : {P : Type 0} → ¬ P → Decides false P
false_is never = (λ t. absurd (false≢true t), λ p. absurd (never p))

-- what the tests tell
subtype_is : (supers : List Super) (a b : PlainType) → Decides (is_subtype supers a b) (Subtype supers a b)
subtype_is supers int int = true_is tt
subtype_is supers boolean boolean = true_is tt
subtype_is supers void void = true_is tt
subtype_is supers null null = true_is tt
subtype_is supers null (class c args) = true_is tt
subtype_is supers null (array elem rpl named) = true_is tt
subtype_is supers (class c rs) (class d ss) = (λ t. t, λ t. t)
subtype_is supers (array elem rpl named) (array elem' rpl' named') =
    Decides-and (within rpl rpl') (same_type elem elem') (λ t. t, λ t. t) (same_type-is elem elem', same_type-from elem elem')
subtype_is supers a b = false_is (λ h. h)

pub fits_is : (supers : List Super) (value : Option PlainType) (declared : PlainType) → Decides (fits_as supers value declared) (FitsAs supers value declared)
fits_is supers (Some t) declared = subtype_is supers t declared
fits_is supers None declared = true_is tt

-- what the code tells of a value with a type
pub fits_so : {E : Type 0} (supers : List Super) (t declared : PlainType) (r : Result Bool E) →
    IfOk r (λ fit. IsTrue fit ↔ Subtype supers t declared) → IfOk r (λ fit. fit ≡ is_subtype supers t declared)
fits_so supers t declared (Ok fit) h = same_from_decides fit (is_subtype supers t declared) h (subtype_is supers t declared)
fits_so supers t declared (Err e) h = tt

and_false : (b : Bool) → (b && false) ≡ false
and_false false = refl
and_false true = refl

-- fewer values than types, or more, don't fit
pub not_as_many : (supers : List Super) (args : List Rpl) (values : List Typed) (declared : List Ty) → (length values ≡ length declared → ⊥) →
    false ≡ all_fit supers args (map value_type values) declared
not_as_many supers args [] [] differ = absurd (differ refl)
not_as_many supers args [] (t ∷ ts) differ = refl
not_as_many supers args (v ∷ vs) [] differ = refl
not_as_many supers args (v ∷ vs) (t ∷ ts) differ =
    let fits : Bool = fits_as supers (value_type v) (type_with args (plain_type t)) in
    sym (and_false fits) ∙ ap (λ z. fits && z) (not_as_many supers args vs ts (λ same. differ (ap suc same)))

-- the value at a place fits, or doesn't
pub fits_here : (supers : List Super) (args : List Rpl) (values : List Typed) (declared : List Ty) (i : ℕ) (v : Typed) (t with_args : Ty) (fit : Bool) →
    i < length values → i < length declared → v ≡ get_or values i v → t ≡ get_or declared i t → plain_type with_args ≡ type_with args (plain_type t) →
    fit ≡ fits_as supers (value_type v) (plain_type with_args) →
    all_fit supers args (map value_type (drop i values)) (drop i declared) ≡ (fit && all_fit supers args (map value_type (drop (i + 1) values)) (drop (i + 1) declared))
fits_here supers args values declared i v t with_args fit p q v_is t_is put tested =
    ap (λ z. all_fit supers args (map value_type z) (drop i declared)) (next_is values i v p v_is)
    ∙ ap (λ z. all_fit supers args (value_type v ∷ map value_type (drop (i + 1) values)) z) (next_is declared i t q t_is)
    ∙ ap (λ z. fits_as supers (value_type v) z && all_fit supers args (map value_type (drop (i + 1) values)) (drop (i + 1) declared)) (sym put)
    ∙ ap (λ z. z && all_fit supers args (map value_type (drop (i + 1) values)) (drop (i + 1) declared)) (sym tested)
