-- A field that a name means in a class of an accepted text stands at its slot there, with the region arguments of its class put in.
use Rattle.std.proofs.Common.{◌≡◌, ◌∙◌, ℕ, zero, suc, ◌+◌, ◌<◌, ◌≤◌, ◌==◌, List, [], map, length, inl, inr, Some, option_map, option_and_then, refl, sym, ap, subst, arith}
use Rattle.std.proofs.lemmas.List.{append-nil}
use Rattle.std.proofs.lemmas.List.Elements.{All-nil}
use Rattle.std.proofs.lemmas.Option.{slice_get_within}
use Rattle.std.specs.List.{filter}
use Rattle.std.specs.Option.{option_map_or}
use Rattle.std.specs.Prelude.{slice_get}
use Rattle.lang_base.specs.declared.region.Rpl.{Rpl}
use Rattle.lang_base.specs.Regions.{substituted}
use Rattle.lang_base.specs.Types.{plain_type, type_with}
use Rattle.decl_headers.specs.declared.header.Header.{Header}
use Rattle.decl_headers.specs.declared.header.Headers.{Headers}
use Rattle.decl_headers.specs.First.{parents_in}
use Rattle.decl_headers.specs.Gathered.{object_fields}
use Rattle.decl_headers.specs.Headers.{parent_of, class_count}
use Rattle.decl_headers.proofs.Gathered.{length_rows}
use Rattle.syntax_tree.specs.declared.class.Program.{Program}
use Rattle.syntax_tree.specs.Size.{program_size}
use Rattle.decl_resolve.specs.Classes.{params_in}
use Rattle.decl_table.specs.declared.rows.FieldRow.{FieldRow}
use Rattle.decl_table.specs.declared.table.Table.{Table}
use Rattle.decl_table.specs.Inherited.{field_with, fields_in}
use Rattle.decl_table.specs.Plain.{PlainField, plain_field}
use Rattle.decl_table.specs.Table.{headers_of, fields_of, parent_args_of, args_above, args_at}
use Rattle.decl_laws.proofs.Granted.{granted}
use Rattle.lang_typed.specs.Plain.{PlainClass}
use Rattle.lang_typed.specs.Types.{Known, Readable}
use Rattle.body_assembly.specs.Assembled.{PlainBody, field_of}
use Rattle.sound_lemmas.specs.Accepted.{IsAccepted}
use Rattle.sound_lemmas.proofs.Lists.{and_then_there, got_first, got_later, got_mapped}
use Rattle.sound_bodies.specs.Seen.{FieldSeen, HasNumbers}
use Rattle.sound_bodies.proofs.table.Declarations.{signatures_free}
use Rattle.sound_bodies.proofs.scope.InParams.{type_stands, type_few, path_twice, type_twice, path_put, type_put, known_put, readable_put}
use Rattle.sound_bodies.proofs.table.Lineage.{P, args_step, class_there}
use Rattle.sound_bodies.proofs.effects.Partial.{known_from, readable_from}
use Rattle.sound_bodies.proofs.table.Sizes.{all_fields, inherited_fields, fields_step, first_is, slots_few}
use Rattle.sound_bodies.proofs.table.Slots.{FieldIn, FieldSaid, field_said}

module _ (program : Program) (table : Table) (bodies : List PlainBody) (accepted : IsAccepted program table bodies)
  where
    abbrev params_of : ℕ → ℕ
    params_of at = length (params_in (headers_of table) at)

    -- a field of a class, as a class below it has it
    record Seen (at : ℕ) (args owned : List Rpl) (slot : ℕ) (from : PlainField) : Type 0 where
      field : PlainField
      there : slice_get (fields_in table at) slot ≡ Some field
      over : FieldIn (params_of at) field
      ty : type_with args field.ty ≡ type_with owned from.ty
      region : substituted args field.rpl ≡ substituted owned from.rpl
      known : Known owned from.ty → Known args field.ty
      readable : Readable owned from.ty → Readable args field.ty

    -- with the arguments of the superclass put in
    seen_below : (at parent : ℕ) (args owned : List Rpl) (slot : ℕ) (from : PlainField) → parent_of (headers_of table) at ≡ Some parent → (s : Seen parent (map (substituted args) (parent_args_of table at)) owned slot from) →
        FieldIn (length (parent_args_of table at)) s.field → FieldIn (params_of at) (field_with (parent_args_of table at) s.field) → Seen at args owned slot from
    seen_below at parent args owned slot from is s within over = record {
      field = field_with above s.field;
      there =
          ap (λ fs. slice_get fs slot) (fields_step program table accepted.rows at)
          ∙ got_first (inherited_fields program table accepted.rows at) (filter (λ (row : PlainField). row.owner == at) (all_fields program table accepted.rows)) slot (field_with above s.field)
          (ap (λ o. slice_get (option_map_or (map (field_with above)) (option_map (fields_in table) o) []) slot) is ∙ got_mapped (field_with above) (fields_in table parent) slot s.field s.there);
      over = over;
      ty = type_twice args above s.field.ty within.0 ∙ s.ty;
      region = path_twice args above s.field.rpl within.1 ∙ s.region;
      known = λ k. known_put args above s.field.ty within.0 (s.known k);
      readable = λ k. readable_put args above s.field.ty within.0 (s.readable k);
    }
      where
        above : List Rpl
        above = parent_args_of table at

    seen_from : (n at : ℕ) (args owned : List Rpl) (owner slot : ℕ) (from : PlainField) → args_above table n at args owner ≡ Some owned → slice_get (fields_in table owner) slot ≡ Some from → FieldIn (params_of owner) from →
        Seen at args owned slot from
    seen_from zero at args owned owner slot from h is over = cc
    seen_from (suc n) at args owned owner slot from h is over =
        elim (args_step program table bodies accepted n at args owned owner h) [
          | inl here ↦ subst (λ c. Seen c args owned slot from) (sym here.0) (subst (λ rs. Seen owner args rs slot from) here.1
              (record { field = from; there = is; over = over; ty = refl; region = refl; known = λ k. k; readable = λ k. k }))
          | inr up ↦
              let said = up.said.1 in
              let s = seen_from n said.parent (map (substituted args) (parent_args_of table at)) owned owner slot from up.rest is over in
              let within = subst (λ k. FieldIn k s.field) (sym said.many) s.over in
              seen_below at said.parent args owned slot from said.above s within
              (type_put (params_of at) (parent_args_of table at) s.field.ty said.over within.0, path_put (params_of at) (parent_args_of table at) s.field.rpl said.over within.1)
        ]

    -- a class below one that is there is there
    pub at_within : (n at : ℕ) (args owned : List Rpl) (owner : ℕ) → args_above table n at args owner ≡ Some owned → owner < class_count (headers_of table) → at < class_count (headers_of table)
    at_within zero at args owned owner h l = cc
    at_within (suc n) at args owned owner h l =
        elim (args_step program table bodies accepted n at args owned owner h) [
          | inl here ↦ let same = here.0 in omega (arith, l, same)
          | inr up ↦
              let w = and_then_there (λ (header : Header). header.parent) (slice_get (headers_of table).rows at) up.said.1.parent up.said.1.above in
              slice_get_within (headers_of table).rows at w.0 w.1
        ]

    field_row_said : (i : ℕ) (row : FieldRow) → slice_get (fields_of table) i ≡ Some row → FieldSaid (headers_of table) table.given program.classes (plain_field row)
    field_row_said i row e =
        let counted = accepted.rows.counted.0 in
        field_said (headers_of table) table.given program.classes i (plain_field row)
        (ap (λ rows. slice_get rows i) (sym (granted accepted.rows).read.fields) ∙ got_mapped plain_field (fields_of table) i row e)
        (omega (arith, counted)) (signatures_free program table (granted accepted.rows).read)

    owner_within : (i : ℕ) (row : FieldRow) → slice_get (fields_of table) i ≡ Some row → row.owner < class_count (headers_of table)
    owner_within i row e =
        let s = field_row_said i row e in
        let l = s.within in
        let many = ap (λ (h : Headers). length h.rows) (granted accepted.rows).headers ∙ length_rows (parents_in program.classes) (object_fields program.classes (parents_in program.classes)) 0 program.classes in
        omega (arith, l, many)

    module _ (small : program_size program ≤ 4294967295)
      where
        -- in its own class it stands at its slot
        record OwnField (row : FieldRow) : Type 0 where
          there : slice_get (fields_in table row.owner) row.slot ≡ Some (plain_field row)
          over : FieldIn (params_of row.owner) (plain_field row)

        own_field : (i : ℕ) (row : FieldRow) → slice_get (fields_of table) i ≡ Some row → OwnField row
        own_field i row e = record {
          there =
              ap (λ fs. slice_get fs row.slot) (fields_step program table accepted.rows row.owner)
              ∙ got_later (inherited_fields program table accepted.rows row.owner) own row.slot said.index (plain_field row) slot said.there;
          over = said.over;
        }
          where
            own : List PlainField
            own = filter (λ (r : PlainField). r.owner == row.owner) (all_fields program table accepted.rows)

            said : FieldSaid (headers_of table) table.given program.classes (plain_field row)
            said = field_row_said i row e

            slot : row.slot ≡ length (inherited_fields program table accepted.rows row.owner) + said.index
            slot =
                said.slot (slots_few program table accepted.rows small row.owner)
                ∙ ap (λ k. k + said.index) (first_is program table accepted.rows small row.owner)

        -- what the table says of a field is so
        pub field_reported : (class : ℕ) (args owned : List Rpl) (i : ℕ) (row : FieldRow) → slice_get (fields_of table) i ≡ Some row → args_at table class args row.owner ≡ Some owned →
            FieldSeen (P program table bodies accepted) class args owned row
        field_reported class args owned i row e h = record {
          field = field_of s.field;
          is =
              ap (option_and_then (λ (k : PlainClass). slice_get k.fields row.slot)) (class_there program table bodies accepted class within)
              ∙ got_mapped field_of (fields_in table class) row.slot s.field s.there;
          ty = s.ty;
          region = s.region;
          readable = λ none. s.readable (subst (λ rs. Readable rs (plain_type row.ty)) (append-nil owned) (readable_from (plain_type row.ty) owned [] none numbers (All-nil _)));
          known = λ none. s.known (subst (λ rs. Known rs (plain_type row.ty)) (append-nil owned) (known_from (plain_type row.ty) owned [] none numbers (All-nil _)));
          stands = type_stands (params_of row.owner) (plain_type row.ty) own.over.0;
        }
          where
            own : OwnField row
            own = own_field i row e

            s : Seen class args owned row.slot (plain_field row)
            s = seen_from (class_count (headers_of table) + 1) class args owned row.owner row.slot (plain_field row) h own.there own.over

            within : class < class_count (headers_of table)
            within = at_within (class_count (headers_of table) + 1) class args owned row.owner h (owner_within i row e)

            numbers : HasNumbers (plain_type row.ty)
            numbers p k = (type_few (params_of row.owner) p (plain_type row.ty) own.over.0 k).1
