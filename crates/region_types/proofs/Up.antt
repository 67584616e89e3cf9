-- The way up from a class type to its superclasses.
use Rattle.std.proofs.Common.{◌≡◌, ℕ, zero, suc, true, false, ◌||◌, List, Some, None, ap, ◌∙◌}
use Rattle.std.proofs.lemmas.Bool.{or_left, or_from}
use Rattle.std.specs.Option.{option_map_or}
use Rattle.lang_base.specs.declared.ty.Super.{Super}
use Rattle.lang_base.specs.Types.{PlainType, parent_of, class_within, below_class}

-- the class type lies in the other at once
pub below-here : (supers : List Super) (n : ℕ) (a b : PlainType) → class_within a b ≡ true → below_class supers n a b ≡ true
below-here supers zero a b h = h
below-here supers (suc n) a b h = or_left _ _ h

-- it doesn't, and has no superclass
pub below-top : (supers : List Super) (n : ℕ) (a b : PlainType) → class_within a b ≡ false → parent_of supers a ≡ None → below_class supers n a b ≡ false
below-top supers zero a b h e = h
below-top supers (suc n) a b h e = or_from _ _ h (ap (λ o. option_map_or (λ t. below_class supers n t b) o false) e)

-- it doesn't, and its superclass goes on
pub below-up : (supers : List Super) (n : ℕ) (a b t : PlainType) → class_within a b ≡ false → parent_of supers a ≡ Some t →
    below_class supers (suc n) a b ≡ below_class supers n t b
below-up supers n a b t h e =
    ap (λ z. z || option_map_or (λ t. below_class supers n t b) (parent_of supers a) false) h
    ∙ ap (λ o. option_map_or (λ t. below_class supers n t b) o false) e
