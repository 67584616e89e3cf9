-- Classes that keep their own fields have among them all fields that the table says.
use Rattle.std.proofs.Common.{◌≡◌, ◌∙◌, ℕ, zero, suc, ◌+◌, ◌<◌, List, [], ◌∷◌, ◌++◌, map, length, refl, sym, ap, ap₂, arith, Option, Some, None, option_map}
use Rattle.std.specs.Option.{option_map_or}
use Rattle.std.proofs.lemmas.List.{length-map}
use Rattle.std.proofs.lemmas.List.FromFn.{length-map-range_with_len}
use Rattle.lang_base.specs.declared.region.Rpl.{Rpl}
use Rattle.decl_headers.specs.Headers.{class_count, parent_of, parents_of}
use Rattle.decl_headers.specs.Inheriting.{made_up, of_each_class}
use Rattle.decl_headers.specs.Numbers.{as_number}
use Rattle.decl_headers.specs.Way.{IsForest}
use Rattle.decl_headers.proofs.Inheriting.{parent_is}
use Rattle.lang_typed.specs.declared.program.Class.{Class}
use Rattle.lang_typed.specs.Plain.{PlainClass, PlainParent, class_with, fields_up, field_with, plain_class, plain_parent}
use Rattle.lang_typed.specs.Plain.{PlainField as TypedField, plain_field as typed_field, fields_after as typed_after}
use Rattle.decl_table.specs.Inherited.{declared_fields, fields_after, fields_in}
use Rattle.decl_table.specs.Inherited.{field_with as checked_with}
use Rattle.decl_table.specs.Plain.{PlainField}
use Rattle.decl_table.specs.Table.{PlainTable, headers_of, parent_args_of}
use Rattle.body_assembly.specs.Assembled.{field_of, parent_at, class_of, own_class, own_class_of}
use Rattle.body_assembly.proofs.Lists.{found_in, each_seen}

-- the fields of a superclass, with the arguments put in, and then others
fields_with : (args : List Rpl) (fs own : List PlainField) → map field_of (map (checked_with args) fs ++ own) ≡ map (field_with args) (map field_of fs) ++ map field_of own
fields_with args [] own = refl
fields_with args (f ∷ fs) own = ap (λ gs. field_with args (field_of f) ∷ gs) (fields_with args fs own)

module _ (table : PlainTable) (forest : IsForest (parents_of (headers_of table))) (made : List Class) (is : map own_class made ≡ of_each_class (headers_of table) (own_class_of table)) where
  abbrev many : ℕ
  many = class_count (headers_of table)

  counted : length (parents_of (headers_of table)) ≡ many
  counted = length-map (headers_of table).rows (λ row. row.parent)

  all_made : length made ≡ many
  all_made = sym (length-map made own_class) ∙ ap length is ∙ length-map-range_with_len (own_class_of table) 0 many

  -- the fields of the class of a number, so many classes up
  abbrev up : ℕ → ℕ → List TypedField
  up n at = map field_of (made_up (parent_of (headers_of table)) [] (fields_after table) n at)

  further : (n at : ℕ) (c : Class) → ((above : ℕ) → above < many → fields_up made n above ≡ up n above) → at < many → own_class c ≡ own_class_of table at → typed_after (fields_up made n) c ≡ up (suc n) at
  further n at c more below own =
      ap₂ (λ p own. option_map_or (λ p. map (field_with p.args) (fields_up made n p.class)) p [] ++ own) parent fields ∙ by (parent_of (headers_of table) at) refl
    where
      number : as_number at ≡ at
      number = let few = forest.counted in omega (arith, few, counted)

      parent : option_map plain_parent c.parent ≡ parent_at table at
      parent = ap (λ (k : PlainClass). k.parent) own ∙ ap (parent_at table) number

      fields : map typed_field c.fields ≡ map field_of (declared_fields table at)
      fields = ap (λ (k : PlainClass). k.fields) own

      seen : Option ℕ → List TypedField
      seen o = option_map_or (λ (p : PlainParent). map (field_with p.args) (fields_up made n p.class)) (option_map (λ above. record { class = above; args = parent_args_of table at }) o) [] ++ map field_of (declared_fields table at)

      by : (o : Option ℕ) → parent_of (headers_of table) at ≡ o → seen o ≡ map field_of (fields_after table at (option_map (made_up (parent_of (headers_of table)) [] (fields_after table) n) o))
      by None e = refl
      by (Some above) e =
          ap (λ fs. map (field_with (parent_args_of table at)) fs ++ map field_of (declared_fields table at))
          (more above (let within = forest.within at above (sym (parent_is (headers_of table) at) ∙ e) in omega (arith, within, counted)))
          ∙ sym (fields_with (parent_args_of table at) (made_up (parent_of (headers_of table)) [] (fields_after table) n above) (declared_fields table at))

  fields_made : (n at : ℕ) → at < many → fields_up made n at ≡ up n at
  fields_made zero at below = refl
  fields_made (suc n) at below =
      let w = found_in own_class (own_class_of table) 0 many at made is below in
      let here : 0 + at ≡ at = omega arith in
      ap (λ o. option_map_or (typed_after (fields_up made n)) o []) w.1 ∙ further n at w.0 (fields_made n) below (w.2 ∙ ap (own_class_of table) here)

  -- the classes together have all fields
  pub inherit_all : map (plain_class made) made ≡ of_each_class (headers_of table) (class_of table)
  inherit_all = each_seen own_class (own_class_of table) (plain_class made) (class_of table) 0 many made is (λ c at below own.
      ap (λ n. class_with (typed_after (fields_up made n) c) c) all_made
      ∙ ap (λ fs. class_with fs c) (further many at c (fields_made many) (omega (arith, below)) own)
      ∙ ap (λ (k : PlainClass). record k { fields = map field_of (fields_in table at) }) own)
