-- Values and declared types that aren't as many.
use Rattle.std.proofs.Common.{◌≡◌, ◌≢◌, ◌∙◌, suc, Bool, true, false, ◌&&◌, List, [], ◌∷◌, map, length, refl, ap}
use Rattle.lang_base.specs.declared.ty.Ty.{Ty}
use Rattle.lang_base.specs.Types.{plain_type}
use Rattle.decl_headers.specs.declared.header.Headers.{Headers}
use Rattle.body_exprs.specs.declared.typed.Typed.{Typed}
use Rattle.body_exprs.specs.Shapes.{may_fit, shapes_fit}
use Rattle.body_exprs.specs.Typed.{value_type}

and_false : (b : Bool) → (b && false) ≡ false
and_false true = refl
and_false false = refl

pub unfit : (headers : Headers) (values : List Typed) (declared : List Ty) → length values ≢ length declared → shapes_fit headers (map value_type values) declared ≡ false
unfit headers [] [] differ = absurd (differ refl)
unfit headers [] (t ∷ declared) differ = refl
unfit headers (v ∷ values) [] differ = refl
unfit headers (v ∷ values) (t ∷ declared) differ =
    ap (λ (rest : Bool). may_fit headers (value_type v) (plain_type t) && rest) (unfit headers values declared (λ same. differ (ap suc same)))
    ∙ and_false (may_fit headers (value_type v) (plain_type t))
