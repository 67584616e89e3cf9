-- The type of the code that a plain type is of is the one that it was taken from.
use Rattle.std.proofs.Common.{◌≡◌, ◌∙◌, sym, ap, subst}
use Rattle.lang_base.specs.declared.ty.Ty.{Ty, fold-roll-Ty, ind-Ty, roll-Ty, map-Ty}
use Rattle.lang_base.specs.declared.ty.Ty.TheOpen.{Ty-F}
use Rattle.lang_base.specs.declared.ty.Ty.TheVariants.{rolls-Int, rolls-Bool, rolls-Void, rolls-Null, rolls-Class, rolls-Array}
use Rattle.lang_base.specs.Types.{PlainType, plain_type, type_step}
use Rattle.body_check.specs.Simple.{code_type}

-- a type of which it is known that it comes back
abbrev Back : Type 0
Back = (t : Ty) × (code_type (plain_type t) ≡ t)

step_back : (y : Ty-F Back) → code_type (type_step (map-Ty Ty PlainType plain_type (map-Ty Back Ty (λ e. e.0) y))) ≡ roll-Ty (map-Ty Back Ty (λ e. e.0) y)
step_back Ty-F.Int = sym rolls-Int
step_back Ty-F.Bool = sym rolls-Bool
step_back Ty-F.Void = sym rolls-Void
step_back Ty-F.Null = sym rolls-Null
step_back (Ty-F.Class number args) = sym (rolls-Class number args)
step_back (Ty-F.Array elem rpl named) = sym (rolls-Array (code_type (plain_type elem.0)) rpl named) ∙ ap (λ z. roll-Ty (Ty-F.Array z rpl named)) elem.1

pub came_back : (t : Ty) → code_type (plain_type t) ≡ t
came_back = ind-Ty (λ t. code_type (plain_type t) ≡ t)
    (λ x y is. ap code_type (fold-roll-Ty PlainType type_step x) ∙
    subst (λ (z : Ty-F Ty). code_type (type_step (map-Ty Ty PlainType plain_type z)) ≡ roll-Ty z) is (step_back y))
