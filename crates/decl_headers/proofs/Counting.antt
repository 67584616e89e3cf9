-- How many fields an object of each class has, once the way through the classes is gone.
use Rattle.std.proofs.Common.{◌≡◌, ℕ, ◌+◌, ◌<◌, List, [], length, get_or, replicate, Option, Some, None, refl, sym, ap, ◌∙◌, arith}
use Rattle.std.proofs.lemmas.List.{length-replicate}
use Rattle.std.specs.Option.{option_map_or}
use Rattle.std.specs.Prelude.{slice_get}
use Rattle.syntax_tree.specs.declared.class.Class.{Class}
use Rattle.decl_headers.specs.Gathered.{field_count, fields_together, object_fields}
use Rattle.decl_headers.specs.Headers.{chain}
use Rattle.decl_headers.specs.Numbering.{counted_at, counted_way}
use Rattle.decl_headers.specs.Numbers.{as_number}
use Rattle.decl_headers.specs.Rounds.{entry_of, superclasses}
use Rattle.decl_headers.specs.Way.{IsForest, way_of}
use Rattle.decl_headers.proofs.Settled.{settled}
use Rattle.decl_headers.proofs.Walks.{superclasses_step}

-- the count is right where that of the superclass is
count_right : (classes : List Class) (parents : List (Option ℕ)) (counts : List ℕ) (at : ℕ) → IsForest parents → ((above : ℕ) → entry_of parents at ≡ Some above → get_or counts above 0 ≡ object_fields classes parents above) → counted_at classes parents counts at ≡ object_fields classes parents at
count_right classes parents counts at forest right =
    ap (λ own. as_number (option_map_or (λ parent. get_or counts parent 0) (entry_of parents at) 0 + own)) (own_number (slice_get classes at))
    ∙ by (entry_of parents at) refl
  where
    own_number : (o : Option Class) → option_map_or (λ class. as_number (field_count class)) o 0 ≡ as_number (option_map_or field_count o 0)
    own_number None = refl
    own_number (Some class) = refl

    by : (o : Option ℕ) → entry_of parents at ≡ o → as_number (option_map_or (λ parent. get_or counts parent 0) o 0 + as_number (option_map_or field_count (slice_get classes at) 0)) ≡ as_number (option_map_or field_count (slice_get classes at) 0 + fields_together classes (superclasses parents at))
    by None e =
        let none : superclasses parents at ≡ [] = ap (λ o. option_map_or (λ one. chain (entry_of parents) (length parents) one) o []) e in
        omega (arith, ap (fields_together classes) none)
    by (Some above) e =
        let up = superclasses_step parents at above forest e in
        let known = right above e in
        omega (arith, ap (fields_together classes) up, known)

-- after the way each class has the count of its fields and those of its superclasses
pub fields_counted : (classes : List Class) (parents : List (Option ℕ)) (at : ℕ) → IsForest parents → length parents ≡ length classes → at < length classes →
    get_or (counted_way classes parents (replicate (length classes) 0) (way_of parents)) at 0 ≡ object_fields classes parents at
fields_counted classes parents at forest each l =
    settled (counted_at classes parents) 0 parents (λ one count. count ≡ object_fields classes parents one) (replicate (length classes) 0) at forest
    (λ counts one right. count_right classes parents counts one forest right)
    (length-replicate (length classes) 0 ∙ sym each) (omega (arith, each))
