-- A field that is looked for from the class at the top down is found where all fields of the class have it.
use Rattle.std.proofs.Common.{◌≡◌, ◌∙◌, ℕ, zero, suc, ◌-◌, List, [], ◌∷◌, ◌++◌, map, length, refl, sym, ap, arith, Option, Some, None, option_map, slice_get}
use Rattle.std.specs.Option.{option_map_or}
use Rattle.std.proofs.lemmas.List.{length-map, length-append}
use Rattle.std.proofs.lemmas.Option.{slice_get-map}
use Rattle.lang_typed.specs.declared.program.Class.{Class}
use Rattle.lang_typed.specs.declared.program.Parent.{Parent}
use Rattle.lang_typed.specs.Inherited.{superclasses}
use Rattle.lang_typed.specs.Plain.{PlainField, field_with, fields_after, fields_up, plain_class, plain_field, plain_parent}
use Rattle.body_infer.specs.Sought.{PlainSought, found_in, sought_in}

-- through the classes of a list, the last first
pub sought_along : List Class → List ℕ → PlainSought → PlainSought
sought_along all [] s = s
sought_along all (at ∷ more) s = option_map_or (λ (c : Class). sought_in c (sought_along all more s)) (slice_get all at) (sought_along all more s)

pub along_last : (all : List Class) (xs : List ℕ) (x : ℕ) (s : PlainSought) → sought_along all (xs ++ x ∷ []) s ≡ sought_along all xs (option_map_or (λ (c : Class). sought_in c s) (slice_get all x) s)
unfolding sought_along
along_last all [] x s = refl
along_last all (y ∷ xs) x s =
    ap (λ z. option_map_or (λ (c : Class). sought_in c z) (slice_get all y) z) (along_last all xs x s)

pub along_none : (all : List Class) (s : PlainSought) → sought_along all [] s ≡ s
unfolding sought_along
along_none all s = refl

-- what is known of a field by its slot among these fields
abbrev pub known_among : List PlainField → ℕ → PlainSought
known_among fs slot = record { found = slice_get fs slot; further = slot - length fs }

own_found : (c : Class) (slot at : ℕ) → at ≡ slot → option_map plain_field (slice_get c.fields at) ≡ slice_get (map plain_field c.fields) slot
own_found c slot at same = ap (λ n. option_map plain_field (slice_get c.fields n)) same ∙ sym (slice_get-map plain_field c.fields slot)

found_further : (f : PlainField → PlainField) (fs : List PlainField) (c : Class) (slot at : ℕ) → at ≡ slot - length fs → ((g : PlainField) → found_in c at (Some g) ≡ Some (f g))
    → found_in c at (slice_get fs slot) ≡ slice_get (map f fs ++ map plain_field c.fields) slot
found_further f [] c slot at is put = own_found c slot at (omega (arith, is))
found_further f (g ∷ fs) c zero at is put = put g
found_further f (g ∷ fs) c (suc slot) at is put = found_further f fs c slot at (omega (arith, is)) put

abbrev above_fields : List Class → ℕ → Option Parent → List PlainField
above_fields all n parent = option_map_or (λ p. fields_up all n p.class) (option_map plain_parent parent) []

known_in : (all : List Class) (n : ℕ) (c : Class) (slot : ℕ) → sought_in c (known_among (above_fields all n c.parent) slot) ≡ known_among (fields_after (fields_up all n) c) slot
known_in all n c slot = by c.parent refl
  where
    by : (o : Option Parent) → c.parent ≡ o → sought_in c (known_among (above_fields all n o) slot) ≡ known_among (option_map_or (λ p. map (field_with p.args) (fields_up all n p.class)) (option_map plain_parent o) [] ++ map plain_field c.fields) slot
    by None e = λ i. record {
      found = own_found c slot (slot - 0) (omega arith) i;
      further = (let same : slot - 0 - length c.fields ≡ slot - length (map plain_field c.fields) = omega (arith, length-map c.fields plain_field) in same) i;
    }
    by (Some p) e = λ i. record {
      found = found_further (field_with p.args) (fields_up all n p.class.number) c slot (slot - length (fields_up all n p.class.number)) refl (λ g. ap (λ o. option_map (λ q. field_with q.args g) (option_map plain_parent o)) e) i;
      further = (let same : slot - length (fields_up all n p.class.number) - length c.fields ≡ slot - length (map (field_with p.args) (fields_up all n p.class.number) ++ map plain_field c.fields) =
          omega (arith, length-map c.fields plain_field, length-map (fields_up all n p.class.number) (field_with p.args), length-append (map (field_with p.args) (fields_up all n p.class.number)) (map plain_field c.fields)) in same) i;
    }

along_up : (all : List Class) (n : ℕ) (parent : Option Parent) (slot : ℕ) → sought_along all (superclasses all n parent) (known_among [] slot) ≡ known_among (above_fields all n parent) slot
unfolding sought_along
along_up all zero None slot = refl
along_up all zero (Some p) slot = refl
along_up all (suc n) None slot = refl
along_up all (suc n) (Some p) slot = by (slice_get all p.class.number) refl (λ parent. along_up all n parent slot)
  where
    by : (o : Option Class) → slice_get all p.class.number ≡ o → ((parent : Option Parent) → sought_along all (superclasses all n parent) (known_among [] slot) ≡ known_among (above_fields all n parent) slot) →
        sought_along all (option_map_or (λ (c : Class). p.class.number ∷ superclasses all n c.parent) o []) (known_among [] slot) ≡ known_among (option_map_or (fields_after (fields_up all n)) o []) slot
    by None e more = refl
    by (Some c) e more =
        ap (λ o. option_map_or (λ (k : Class). sought_in k (sought_along all (superclasses all n c.parent) (known_among [] slot))) o (sought_along all (superclasses all n c.parent) (known_among [] slot))) e
        ∙ ap (sought_in c) (more c.parent) ∙ known_in all n c slot

-- in the class itself all is known of it
pub field_found : (all : List Class) (c : Class) (slot : ℕ) → (sought_in c (sought_along all (superclasses all (length all) c.parent) (known_among [] slot))).found ≡ slice_get (plain_class all c).fields slot
field_found all c slot =
    ap (λ s. (sought_in c s).found) (along_up all (length all) c.parent slot) ∙ ap (λ (s : PlainSought). s.found) (known_in all (length all) c slot)
