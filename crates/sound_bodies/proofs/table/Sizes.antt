-- How many fields a class has with those of its superclasses, and that numbers count them.
use Rattle.std.proofs.Common.{◌≡◌, ◌≢◌, ◌⊎◌, ◌∙◌, ℕ, zero, suc, ◌+◌, ◌<◌, ◌≤◌, ◌==◌, ◌||◌, Bool, true, false, cond, List, [], ◌∷◌, ◌++◌, map, length, inl, inr, Option, None, Some, option_map, refl, sym, ap, arith}
use Rattle.std.proofs.lemmas.Bool.Decides.{eqb_tells}
use Rattle.std.proofs.lemmas.List.{length-append, length-map}
use Rattle.std.specs.List.{filter}
use Rattle.std.specs.Option.{option_map_or}
use Rattle.std.specs.Prelude.{slice_get}
use Rattle.decl_headers.specs.declared.header.Header.{Header}
use Rattle.decl_headers.specs.First.{parents_in}
use Rattle.decl_headers.specs.Gathered.{field_count, fields_together, object_fields, header_rows, headers_in}
use Rattle.decl_headers.specs.Headers.{chain, parent_of, parents_of, header_of}
use Rattle.decl_headers.specs.Rounds.{entry_of, superclasses, up}
use Rattle.decl_headers.proofs.Cycles.{not_round, up-then}
use Rattle.decl_headers.proofs.Gathered.{parents_gathered}
use Rattle.decl_headers.proofs.Inheriting.{made_step}
use Rattle.decl_headers.proofs.Second.{length_parents}
use Rattle.decl_headers.proofs.Walks.{top_none, superclasses_step, class_at}
use Rattle.syntax_tree.specs.declared.class.Class.{Class}
use Rattle.syntax_tree.specs.declared.class.Program.{Program}
use Rattle.syntax_tree.specs.Size.{program_size}
use Rattle.decl_table.specs.declared.rows.FieldRow.{FieldRow}
use Rattle.decl_table.specs.declared.table.Table.{Table}
use Rattle.decl_classes.specs.Around.{class_scope}
use Rattle.decl_table.specs.Inherited.{field_with, declared_fields, fields_after, fields_in}
use Rattle.decl_table.specs.Plain.{PlainField, plain_field}
use Rattle.decl_classes.specs.Rows.{fields_meant, first_slot}
use Rattle.decl_table.specs.Table.{headers_of, fields_of, parent_args_of}
use Rattle.decl_laws.specs.Rows.{HasRows}
use Rattle.decl_laws.proofs.Facts.{Facts, facts_of, parent_is}
use Rattle.decl_laws.proofs.Granted.{granted}
use Rattle.sound_lemmas.proofs.Lists.{some_same, there}
use Rattle.sound_bodies.proofs.table.Slots.{from_many, meant_small, own_fields}

-- how many fields are of classes of some kind
abbrev tally : (ℕ → Bool) → List PlainField → ℕ
tally kind [] = 0
tally kind (row ∷ rows) = cond (kind row.owner) 1 0 + tally kind rows

one_most : (b : Bool) → cond b 1 0 ≤ 1
one_most true = omega arith
one_most false = omega arith

tally_most : (kind : ℕ → Bool) (rows : List PlainField) → tally kind rows ≤ length rows
tally_most kind [] = omega arith
tally_most kind (row ∷ rows) =
    let h = tally_most kind rows in
    let one = one_most (kind row.owner) in
    omega (arith, h, one)

tally_none : (rows : List PlainField) → tally (λ c. false) rows ≡ 0
tally_none [] = refl
tally_none (row ∷ rows) = let h = tally_none rows in omega (arith, h)

-- the fields of a class, and those of classes of another kind
both_tallied : (class : ℕ) (kind : ℕ → Bool) (rows : List PlainField) → kind class ≡ false → length (filter (λ (row : PlainField). row.owner == class) rows) + tally kind rows ≤ tally (λ c. (c == class) || kind c) rows
both_tallied class kind [] other = omega arith
both_tallied class kind (row ∷ rows) other = by (eqb_tells row.owner class) (both_tallied class kind rows other)
  where
    more : List PlainField
    more = filter (λ (row : PlainField). row.owner == class) rows

    by : (((row.owner == class) ≡ true) × (row.owner ≡ class)) ⊎ (((row.owner == class) ≡ false) × (row.owner ≢ class)) → length more + tally kind rows ≤ tally (λ c. (c == class) || kind c) rows →
        length (cond (row.owner == class) (row ∷ more) more) + (cond (kind row.owner) 1 0 + tally kind rows) ≤ cond ((row.owner == class) || kind row.owner) 1 0 + tally (λ c. (c == class) || kind c) rows
    by (inl p) h =
        let none = ap {A = Bool} {B = ℕ} (λ b. cond b 1 0) (ap kind p.1 ∙ other) in
        let size = ap {A = Bool} {B = ℕ} (λ b. length (cond b (row ∷ more) more)) p.0 in
        let all = ap {A = Bool} {B = ℕ} (λ b. cond (b || kind row.owner) 1 0) p.0 in
        omega (arith, h, none, size, all)
    by (inr q) h =
        let size = ap {A = Bool} {B = ℕ} (λ b. length (cond b (row ∷ more) more)) q.0 in
        let all = ap {A = Bool} {B = ℕ} (λ b. cond (b || kind row.owner) 1 0) q.0 in
        omega (arith, h, size, all)

filter_mapped : (class : ℕ) (rows : List FieldRow) → map plain_field (filter (λ (row : FieldRow). row.owner == class) rows) ≡ filter (λ (row : PlainField). row.owner == class) (map plain_field rows)
filter_mapped class [] = refl
filter_mapped class (row ∷ rows) = by (row.owner == class) (filter_mapped class rows)
  where
    more : List FieldRow
    more = filter (λ (row : FieldRow). row.owner == class) rows

    by : (b : Bool) → map plain_field more ≡ filter (λ (row : PlainField). row.owner == class) (map plain_field rows) →
        map plain_field (cond b (row ∷ more) more) ≡ cond b (plain_field row ∷ filter (λ (row : PlainField). row.owner == class) (map plain_field rows)) (filter (λ (row : PlainField). row.owner == class) (map plain_field rows))
    by true same = ap (λ z. plain_field row ∷ z) same
    by false same = same

row_fields : (parents : List (Option ℕ)) (fields : ℕ → ℕ) (at : ℕ) (classes : List Class) (j : ℕ) (header : Header) → slice_get (header_rows parents fields at classes) j ≡ Some header → header.fields ≡ fields (at + j)
row_fields parents fields at [] j header e = cc
row_fields parents fields at (class ∷ classes) zero header e =
    let here : at ≡ at + 0 = omega arith in
    ap (λ (h : Header). h.fields) (sym (some_same e)) ∙ ap fields here
row_fields parents fields at (class ∷ classes) (suc j) header e =
    let next : at + 1 + j ≡ at + suc j = omega arith in
    row_fields parents fields (at + 1) classes j header e ∙ ap fields next

module _ (program : Program) (table : Table) (has : HasRows program table)
  where
    facts : Facts table
    facts = facts_of program table has

    abbrev pub parents : List (Option ℕ)
    parents = parents_of (headers_of table)

    abbrev pub all_fields : List PlainField
    all_fields = fields_meant (headers_of table) table.given 0 program.classes

    -- the fields of a class: those of its superclass, and its own
    pub declared_are : (class : ℕ) → declared_fields table class ≡ filter (λ (row : PlainField). row.owner == class) all_fields
    declared_are class = filter_mapped class (fields_of table) ∙ ap (filter (λ (row : PlainField). row.owner == class)) (granted has).read.fields

    abbrev pub inherited_fields : ℕ → List PlainField
    inherited_fields class = option_map_or (map (field_with (parent_args_of table class))) (option_map (fields_in table) (parent_of (headers_of table) class)) []

    pub fields_step : (class : ℕ) → fields_in table class ≡ inherited_fields class ++ filter (λ (row : PlainField). row.owner == class) all_fields
    fields_step class = made_step (headers_of table) [] (fields_after table) class facts.forest ∙ ap (λ z. inherited_fields class ++ z) (declared_are class)

    abbrev inherited_many : ℕ → ℕ
    inherited_many class = option_map_or (λ above. length (fields_in table above)) (parent_of (headers_of table) class) 0

    inherited_size : (class : ℕ) → length (inherited_fields class) ≡ inherited_many class
    inherited_size class = by (parent_of (headers_of table) class)
      where
        by : (o : Option ℕ) → length (option_map_or (map (field_with (parent_args_of table class))) (option_map (fields_in table) o) []) ≡ option_map_or (λ above. length (fields_in table above)) o 0
        by None = refl
        by (Some above) = length-map (fields_in table above) (field_with (parent_args_of table class))

    sized : (class : ℕ) → length (fields_in table class) ≡ inherited_many class + length (filter (λ (row : PlainField). row.owner == class) all_fields)
    sized class =
        ap length (fields_step class) ∙ length-append (inherited_fields class) (filter (λ (row : PlainField). row.owner == class) all_fields)
        ∙ ap (λ n. n + length (filter (λ (row : PlainField). row.owner == class) all_fields)) (inherited_size class)

    -- they are of the class and of classes above it
    record Tallied (class : ℕ) : Type 0 where
      kind : ℕ → Bool
      size : length (fields_in table class) ≤ tally kind all_fields
      above : (c : ℕ) → kind c ≡ true → (m : ℕ) × (up parents m class ≡ Some c)

    higher_up : (n class parent c : ℕ) → parent_of (headers_of table) class ≡ Some parent → up parents n parent ≡ Some c → up parents (suc n) class ≡ Some c
    higher_up n class parent c is e =
        let on : n + 1 ≡ suc n = omega arith in
        ap (λ k. up parents k class) (sym on) ∙ up-then parents n 1 class parent (sym (parent_is table class) ∙ is) ∙ e

    tallied : (n class : ℕ) → up parents n class ≡ None → Tallied class
    tallied zero class e = cc
    tallied (suc n) class e = by (parent_of (headers_of table) class) refl (tallied n)
      where
        by : (o : Option ℕ) → parent_of (headers_of table) class ≡ o → ((above : ℕ) → up parents n above ≡ None → Tallied above) → Tallied class
        by None is more = record {
          kind = λ c. (c == class) || false;
          size =
              let all = sized class in
              let from = ap (λ o. option_map_or (λ above. length (fields_in table above)) o 0) is in
              let own = both_tallied class (λ c. false) all_fields refl in
              let none = tally_none all_fields in
              omega (arith, all, from, own, none);
          above = λ c k. (0, ap Some (mine c k));
        }
          where
            mine : (c : ℕ) → ((c == class) || false) ≡ true → class ≡ c
            mine c k = elim (eqb_tells c class) [ inl p ↦ sym p.1 | inr q ↦ cc (ap (λ b. b || false) q.0, k) ]
        by (Some parent) is more =
            let on : n + 1 ≡ suc n = omega arith in
            let w = more parent (sym (up-then parents n 1 class parent (sym (parent_is table class) ∙ is)) ∙ ap (λ k. up parents k class) on ∙ e) in
            record {
              kind = λ c. (c == class) || w.kind c;
              size =
                  let all = sized class in
                  let from = ap (λ o. option_map_or (λ above. length (fields_in table above)) o 0) is in
                  let own = both_tallied class w.kind all_fields (free w (w.kind class) refl) in
                  let rest = w.size in
                  omega (arith, all, from, own, rest);
              above = λ c k. by_class w c (eqb_tells c class) k;
            }
          where
            by_class : (w : Tallied parent) (c : ℕ) → (((c == class) ≡ true) × (c ≡ class)) ⊎ (((c == class) ≡ false) × (c ≢ class)) → ((c == class) || w.kind c) ≡ true → (m : ℕ) × (up parents m class ≡ Some c)
            by_class w c (inl p) k = (0, ap Some (sym p.1))
            by_class w c (inr q) k =
                let u = w.above c (sym (ap (λ b. b || w.kind c) q.0) ∙ k) in
                (suc u.0, higher_up u.0 class parent c is u.1)

            free : (w : Tallied parent) (b : Bool) → w.kind class ≡ b → b ≡ false
            free w false k = refl
            free w true k =
                let u = w.above class k in
                absurd (not_round parents class (facts.forest.straight class) (u.0, higher_up u.0 class parent class is u.1))

    pub none_higher : (class : ℕ) → up parents (suc (length parents)) class ≡ None
    none_higher class = top_none parents (suc (length parents)) class facts.forest (omega arith)

    fields_few : (class : ℕ) → length (fields_in table class) ≤ length all_fields
    fields_few class =
        let w = tallied (suc (length parents)) class (none_higher class) in
        let size = w.size in
        let most = tally_most w.kind all_fields in
        omega (arith, size, most)

    same_parents : parents ≡ parents_in program.classes
    same_parents = ap parents_of (granted has).headers ∙ parents_gathered program.classes (headers_in program).rows _ refl

    as_many : length parents ≡ length program.classes
    as_many = ap length same_parents ∙ length_parents program.classes

    own_count : (class : ℕ) (one : Class) → slice_get program.classes class ≡ Some one → length (filter (λ (row : PlainField). row.owner == class) all_fields) ≡ field_count one
    own_count class one e =
        let counted = has.counted.0 in
        let plain : class ≡ 0 + class = omega arith in
        ap (λ k. length (filter (λ (row : PlainField). row.owner == k) all_fields)) plain
        ∙ ap length (own_fields (headers_of table) table.given 0 program.classes class one e (omega (arith, counted)))
        ∙ from_many (class_scope (headers_of table) table.given (0 + class)) (first_slot (headers_of table) (0 + class)) one.members

    -- as many as the headers count
    together : (n class : ℕ) → up parents n class ≡ None → class < length parents → length (fields_in table class) ≡ fields_together program.classes (class ∷ superclasses parents class)
    together zero class e l = cc
    together (suc n) class e l = by (parent_of (headers_of table) class) refl (together n)
      where
        one : (one : Class) × (slice_get program.classes class ≡ Some one)
        one = class_at program.classes class (omega (arith, l, as_many))

        own : length (filter (λ (row : PlainField). row.owner == class) all_fields) ≡ option_map_or field_count (slice_get program.classes class) 0
        own = own_count class one.0 one.1 ∙ ap (λ o. option_map_or field_count o 0) (sym one.1)

        by : (o : Option ℕ) → parent_of (headers_of table) class ≡ o → ((above : ℕ) → up parents n above ≡ None → above < length parents → length (fields_in table above) ≡ fields_together program.classes (above ∷ superclasses parents above)) →
            length (fields_in table class) ≡ option_map_or field_count (slice_get program.classes class) 0 + fields_together program.classes (superclasses parents class)
        by None is more =
            let all = sized class in
            let from = ap (λ o. option_map_or (λ above. length (fields_in table above)) o 0) is in
            let none = ap (λ o. fields_together program.classes (option_map_or (λ one. chain (entry_of parents) (length parents) one) o [])) (sym (parent_is table class) ∙ is) in
            omega (arith, all, from, none, own)
        by (Some parent) is more =
            let on : n + 1 ≡ suc n = omega arith in
            let entry : entry_of parents class ≡ Some parent = sym (parent_is table class) ∙ is in
            let h = more parent (sym (up-then parents n 1 class parent entry) ∙ ap (λ k. up parents k class) on ∙ e) (facts.forest.within class parent entry) in
            let all = sized class in
            let from = ap (λ o. option_map_or (λ above. length (fields_in table above)) o 0) is in
            let higher = ap (fields_together program.classes) (superclasses_step parents class parent facts.forest entry) in
            omega (arith, all, from, h, higher, own)

    module _ (small : program_size program ≤ 4294967295)
      where
        few : (class : ℕ) → length (fields_in table class) ≤ 4294967295
        few class =
            let some = fields_few class in
            let most = meant_small (headers_of table) table.given 0 program.classes in
            omega (arith, some, most, small)

        -- the first slot of a class is after the fields of its superclass
        pub first_is : (class : ℕ) → first_slot (headers_of table) class ≡ length (inherited_fields class)
        first_is class = by (parent_of (headers_of table) class) refl ∙ sym (inherited_size class)
          where
            by : (o : Option ℕ) → parent_of (headers_of table) class ≡ o → option_map_or (λ parent. option_map_or (λ header. header.fields) (header_of (headers_of table) parent) 0) o 0 ≡ option_map_or (λ above. length (fields_in table above)) o 0
            by None is = refl
            by (Some parent) is =
                let entry : entry_of parents class ≡ Some parent = sym (parent_is table class) ∙ is in
                let l = facts.forest.within class parent entry in
                let many = length-map (headers_of table).rows (λ (row : Header). row.parent) in
                let h = there (headers_of table).rows parent (omega (arith, l, many)) in
                let said = row_fields (parents_in program.classes) (object_fields program.classes (parents_in program.classes)) 0 program.classes parent h.0 (ap (λ hs. header_of hs parent) (sym (granted has).headers) ∙ h.1) in
                let counted = together (suc (length parents)) parent (none_higher parent) l in
                let same = ap (λ ps. fields_together program.classes (parent ∷ superclasses ps parent)) same_parents in
                let small_one = few parent in
                let plain : 0 + parent ≡ parent = omega arith in
                let at = ap (object_fields program.classes (parents_in program.classes)) plain in
                ap (λ o. option_map_or (λ (header : Header). header.fields) o 0) h.1 ∙ said ∙ at ∙ omega (arith, counted, same, small_one)

        pub slots_few : (class : ℕ) → first_slot (headers_of table) class + length (filter (λ (row : PlainField). row.owner == class) all_fields) ≤ 4294967295
        slots_few class =
            let first = first_is class in
            let all = sized class in
            let from = inherited_size class in
            let most = few class in
            omega (arith, first, all, from, most)
