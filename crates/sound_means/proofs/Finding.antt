-- What the class table of an accepted program finds by a name is what the tree declares by it.
use Rattle.std.proofs.Common.{◌≡◌, ◌∙◌, ◌⊎◌, ℕ, zero, suc, ◌+◌, ◌<◌, ◌≤◌, ◌==◌, ◌&&◌, not, Bool, true, false, cond, List, [], ◌∷◌, ◌++◌, map, length, flat_map, inl, inr, Option, Some, None, option_map, option_and_then, refl, sym, ap, subst, arith}
use Rattle.std.proofs.lemmas.Bool.{and_parts, eqb-true, eq-eqb}
use Rattle.std.proofs.lemmas.List.{length-append, length-map, map-append}
use Rattle.std.proofs.lemmas.List.Sums.{sum_by-cons}
use Rattle.std.proofs.lemmas.Option.{get_or_from_slice_get, slice_get-map, slice_get_within}
use Rattle.std.proofs.lemmas.Slice.Eq.{bytes_eq-Decides}
use Rattle.std.specs.List.{filter, position_from, sum_by}
use Rattle.std.specs.Option.{option_map_or}
use Rattle.std.specs.Prelude.{slice_get}
use Rattle.std.specs.Str.{bytes_eq}
use Rattle.syntax_tree.specs.declared.class.Class.{Class}
use Rattle.syntax_tree.specs.declared.class.Field.{Field}
use Rattle.syntax_tree.specs.declared.class.Member.{Member}
use Rattle.syntax_tree.specs.declared.class.Member.TheVariants as member
use Rattle.syntax_tree.specs.declared.class.MethodResult.{MethodResult}
use Rattle.syntax_tree.specs.declared.class.MethodResult.TheVariants as outcome
use Rattle.syntax_tree.specs.declared.class.Parent.{Parent}
use Rattle.syntax_tree.specs.declared.class.Program.{Program}
use Rattle.syntax_tree.specs.declared.region.Named.{Named}
use Rattle.syntax_tree.specs.Size.{member_size, class_size}
use Rattle.decl_headers.specs.declared.header.Header.{Header}
use Rattle.decl_headers.specs.declared.header.Headers.{Headers}
use Rattle.decl_headers.specs.declared.header.ParamRow.{ParamRow}
use Rattle.decl_headers.specs.declared.header.RegionRow.{RegionRow}
use Rattle.decl_headers.specs.First.{class_named, parents_in}
use Rattle.decl_headers.specs.Gathered.{name_number, object_fields, header_row, region_rows}
use Rattle.decl_headers.specs.Gathered as rows
use Rattle.decl_headers.specs.Headers.{chain, nearest, upwards, class_of, class_count, header_of, parent_of, own_region}
use Rattle.decl_headers.specs.Numbers.{as_number, last_place}
use Rattle.decl_headers.specs.Passes.{first_named, named_parent, is_constructor_result}
use Rattle.decl_headers.proofs.Gathered.{length_rows}
use Rattle.decl_resolve.specs.Classes.{params_in}
use Rattle.decl_resolve.specs.Scopes.{PlainScope}
use Rattle.decl_table.specs.declared.rows.FieldRow.{FieldRow}
use Rattle.decl_table.specs.declared.rows.MethodRow.{MethodRow}
use Rattle.decl_table.specs.declared.table.Table.{Table}
use Rattle.decl_table.specs.Places.{last_from, by_place, by_id, is_field_of, is_method_of, is_constructor_of, constructor_number}
use Rattle.decl_table.specs.Plain.{PlainField, PlainMethod, plain_field}
use Rattle.decl_table.specs.Inherited.{field_with, fields_in}
use Rattle.decl_table.specs.Table.{headers_of, fields_of, own_field, field_of, methods_of, numbered, own_method, method_of, constructor_of, parent_args_of}
use Rattle.decl_classes.specs.Around.{class_scope}
use Rattle.decl_classes.specs.Rows.{fields_from, fields_meant, first_slot}
use Rattle.decl_laws.proofs.Facts.{Facts, facts_of, nearest_in, own_is}
use Rattle.decl_laws.proofs.Granted.{granted}
use Rattle.body_assembly.specs.Assembled.{PlainBody}
use Rattle.body_assembly.specs.Assembled.{class_of as typed_class, field_of as typed_field}
use Rattle.lang_typed.specs.Plain.{PlainProgram, PlainClass, PlainParent}
use Rattle.lang_typed.specs.Scope.{class_at}
use Rattle.lang_typed.specs.Scope.{parent_of as parent_in}
use Rattle.syntax_grammar.specs.Written.{IsWritten}
use Rattle.syntax_means.specs.Declares.{OwnRegion, OwnMethod, member_regions, member_fields, regions_from, all_regions, all_methods, spelled, method_name, ClassNamed, DeclaresRegion, IsMethodOf, DeclaresField, DeclaresMethod, DeclaresConstructor, inherited_fields, MeansIn}
use Rattle.sound_lemmas.specs.Accepted.{IsAccepted}
use Rattle.sound_lemmas.proofs.Lists.{some_same, and_then_there, map_there, got_mapped, there}
use Rattle.sound_decls.proofs.table.Above.{upper_there}
use Rattle.sound_decls.proofs.table.Supers.{last_there, parent_entry}
use Rattle.sound_decls.proofs.table.Text.{class_header}
use Rattle.sound_bodies.specs.Whole.{made_of}
use Rattle.sound_bodies.proofs.table.Lineage.{class_there, parent_there, parent_is}
use Rattle.sound_bodies.proofs.table.Sizes.{first_is, slots_few}
use Rattle.sound_bodies.proofs.table.Slots.{meant_small, stands_in}
use Rattle.sound_bodies.proofs.table.Slots.{own_fields as fields_of_class}
use Rattle.sound_means.proofs.Around.{HeadersTell}
use Rattle.sound_means.proofs.Methods.{Row, own_row, row_own}

-- what is looked for in a list

position_there : {A : Type 0} (test : A → Bool) (at : ℕ) (xs : List A) (n : ℕ) → position_from test at xs ≡ Some n → (j : ℕ) × (x : A) × (slice_get xs j ≡ Some x) × (test x ≡ true) × (n ≡ at + j)
position_there test at [] n e = cc
position_there {A} test at (x ∷ xs) n e = by (test x) refl (λ h. position_there test (at + 1) xs n h) e
  where
    by : (b : Bool) → test x ≡ b → (position_from test (at + 1) xs ≡ Some n → (j : ℕ) × (y : A) × (slice_get xs j ≡ Some y) × (test y ≡ true) × (n ≡ at + 1 + j)) →
        cond b (Some at) (position_from test (at + 1) xs) ≡ Some n → (j : ℕ) × (y : A) × (slice_get (x ∷ xs) j ≡ Some y) × (test y ≡ true) × (n ≡ at + j)
    by true is later h = let same = some_same h in (0, x, refl, is, omega (arith, same))
    by false is later h = let w = later h in let at_w = w.4 in (suc w.0, w.1, w.2, w.3, omega (arith, at_w))

place_there : {A : Type 0} (test : A → Bool) (at : ℕ) (xs : List A) (found : Option ℕ) (n : ℕ) → last_place test at xs found ≡ Some n →
    (found ≡ Some n) ⊎ ((j : ℕ) × (x : A) × (slice_get xs j ≡ Some x) × (test x ≡ true) × (n ≡ as_number (at + j)))
place_there test at [] found n e = inl e
place_there {A} test at (x ∷ xs) found n e =
    elim (place_there test (at + 1) xs (cond (test x) (Some (as_number at)) found) n e) [
      | inl now ↦ by (test x) refl now
      | inr w ↦ let next : at + 1 + w.0 ≡ at + suc w.0 = omega arith in inr (suc w.0, w.1, w.2, w.3, w.4 ∙ ap as_number next)
    ]
  where
    by : (b : Bool) → test x ≡ b → cond b (Some (as_number at)) found ≡ Some n → (found ≡ Some n) ⊎ ((j : ℕ) × (y : A) × (slice_get (x ∷ xs) j ≡ Some y) × (test y ≡ true) × (n ≡ as_number (at + j)))
    by true is h = let here : at ≡ at + 0 = omega arith in inr (0, x, refl, is, sym (some_same h) ∙ ap as_number here)
    by false is h = inl h

place_kept : {A : Type 0} (test : A → Bool) (at : ℕ) (xs : List A) (k : ℕ) → last_place test at xs (Some k) ≡ None → ⊥
place_kept test at [] k e = cc
place_kept test at (x ∷ xs) k e = by (test x) (λ j h. place_kept test (at + 1) xs j h) e
  where
    by : (b : Bool) → ((j : ℕ) → last_place test (at + 1) xs (Some j) ≡ None → ⊥) → last_place test (at + 1) xs (cond b (Some (as_number at)) (Some k)) ≡ None → ⊥
    by true more h = more (as_number at) h
    by false more h = more k h

place_missed : {A : Type 0} (test : A → Bool) (at : ℕ) (xs : List A) → last_place test at xs None ≡ None → (j : ℕ) (x : A) → slice_get xs j ≡ Some x → test x ≡ true → ⊥
place_missed test at [] e j x is h = cc
place_missed test at (y ∷ xs) e zero x is h =
    place_kept test (at + 1) xs (as_number at) (sym (ap (λ b. last_place test (at + 1) xs (cond b (Some (as_number at)) None)) (ap test (some_same is) ∙ h)) ∙ e)
place_missed test at (y ∷ xs) e (suc j) x is h = by (test y) (λ k. place_missed test (at + 1) xs k j x is h) e
  where
    by : (b : Bool) → (last_place test (at + 1) xs None ≡ None → ⊥) → last_place test (at + 1) xs (cond b (Some (as_number at)) None) ≡ None → ⊥
    by true more k = place_kept test (at + 1) xs (as_number at) k
    by false more k = more k

last_kept : {A : Type 0} (test : A → Bool) (number : ℕ → A → ℕ) (at : ℕ) (xs : List A) (k : ℕ) → last_from test number at (Some k) xs ≡ None → ⊥
last_kept test number at [] k e = cc
last_kept test number at (x ∷ xs) k e = by (test x) (λ j h. last_kept test number (at + 1) xs j h) e
  where
    by : (b : Bool) → ((j : ℕ) → last_from test number (at + 1) (Some j) xs ≡ None → ⊥) → last_from test number (at + 1) (cond b (Some (number at x)) (Some k)) xs ≡ None → ⊥
    by true more h = more (number at x) h
    by false more h = more k h

last_missed : {A : Type 0} (test : A → Bool) (number : ℕ → A → ℕ) (at : ℕ) (xs : List A) → last_from test number at None xs ≡ None → (j : ℕ) (x : A) → slice_get xs j ≡ Some x → test x ≡ true → ⊥
last_missed test number at [] e j x is h = cc
last_missed test number at (y ∷ xs) e zero x is h =
    last_kept test number (at + 1) xs (number at y) (sym (ap (λ b. last_from test number (at + 1) (cond b (Some (number at y)) None) xs) (ap test (some_same is) ∙ h)) ∙ e)
last_missed test number at (y ∷ xs) e (suc j) x is h = by (test y) (λ k. last_missed test number (at + 1) xs k j x is h) e
  where
    by : (b : Bool) → (last_from test number (at + 1) None xs ≡ None → ⊥) → last_from test number (at + 1) (cond b (Some (number at y)) None) xs ≡ None → ⊥
    by true more k = last_kept test number (at + 1) xs (number at y) k
    by false more k = more k

filter_in : {A : Type 0} (test : A → Bool) (xs : List A) (i : ℕ) (x : A) → slice_get (filter test xs) i ≡ Some x → (j : ℕ) × (slice_get xs j ≡ Some x) × (test x ≡ true)
filter_in test [] i x e = cc
filter_in {A} test (y ∷ xs) i x e = by (test y) refl (λ k h. filter_in test xs k x h) i e
  where
    by : (b : Bool) → test y ≡ b → ((k : ℕ) → slice_get (filter test xs) k ≡ Some x → (j : ℕ) × (slice_get xs j ≡ Some x) × (test x ≡ true)) →
        (i : ℕ) → slice_get (cond b (y ∷ filter test xs) (filter test xs)) i ≡ Some x → (j : ℕ) × (slice_get (y ∷ xs) j ≡ Some x) × (test x ≡ true)
    by true is more zero h = (0, h, ap test (sym (some_same h)) ∙ is)
    by true is more (suc i) h = let w = more i h in (suc w.0, w.1, w.2)
    by false is more i h = let w = more i h in (suc w.0, w.1, w.2)

-- the number of a text among the names
pub name_spelled : (program : Program) (text : List ℕ) (name : ℕ) → length program.names ≤ 4294967295 → name_number program.names text ≡ Some name → spelled program name ≡ text
name_spelled program text name few is =
    let m = map_there as_number (position_from (λ name. bytes_eq name text) 0 program.names) name is in
    let w = position_there (λ name. bytes_eq name text) 0 program.names m.0 m.1 in
    let l = slice_get_within program.names w.0 w.1 w.2 in
    let at = w.4 in
    let number = m.2 in
    let same : w.0 ≡ name = omega (arith, at, number, l, few) in
    get_or_from_slice_get program.names name w.1 [] (subst (λ k. slice_get program.names k ≡ Some w.1) same w.2) ∙ (bytes_eq-Decides w.1 text).0 w.3

-- what a name means in a class is found in the nearest of its superclasses
nearest_means : (headers : Headers) (P : PlainProgram) (f : ℕ → Option ℕ) (D : ℕ → ℕ → Type 0) (m n : ℕ) → ((c : ℕ) → f c ≡ Some m → D c n) → ((c k : ℕ) → f c ≡ None → D c k → ⊥) →
    ((c above : ℕ) → parent_of headers c ≡ Some above → (args : _) × (parent_in P c ≡ Some (record { class = above; args = args }))) →
    (steps class : ℕ) → nearest f (chain (parent_of headers) steps class) ≡ Some m → MeansIn P D class n
nearest_means headers P f D m n found none parent zero class e = cc
nearest_means headers P f D m n found none parent (suc steps) class e =
    by (f class) refl (parent_of headers class) refl (λ above h. nearest_means headers P f D m n found none parent steps above h) e
  where
    by : (o : Option ℕ) → f class ≡ o → (p : Option ℕ) → parent_of headers class ≡ p → ((above : ℕ) → nearest f (chain (parent_of headers) steps above) ≡ Some m → MeansIn P D above n) →
        option_map_or (λ number. Some number) o (nearest f (option_map_or (λ above. chain (parent_of headers) steps above) p [])) ≡ Some m → MeansIn P D class n
    by (Some k) at_o p at_p more h = MeansIn.its_own (found class (at_o ∙ h))
    by None at_o None at_p more h = cc
    by None at_o (Some above) at_p more h = MeansIn.inherited (λ k. none class k at_o) (parent class above at_p).1 (more above h)

-- region names

abbrev pub row_of : OwnRegion → RegionRow
row_of own = record { owner = own.class; name = own.name; is_atomic = own.is_atomic }

named_rows : (c : ℕ) (is_atomic : Bool) (names : List Named) →
    region_rows c is_atomic names ≡ map row_of (map (λ (named : Named). record { class = c; name = named.name; is_atomic = is_atomic }) names)
named_rows c is_atomic [] = refl
named_rows c is_atomic (named ∷ names) = ap (λ more. record { owner = c; name = named.name; is_atomic = is_atomic } ∷ more) (named_rows c is_atomic names)

member_rows : (c : ℕ) (m : Member) → rows.member_regions c m ≡ map row_of (member_regions c m)
member_rows c (member.Regions is_atomic names) = named_rows c is_atomic names
member_rows c (member.Field field) = refl
member_rows c (member.Method method) = refl

members_rows : (c : ℕ) (ms : List Member) → flat_map (rows.member_regions c) ms ≡ map row_of (flat_map (member_regions c) ms)
members_rows c [] = refl
members_rows c (m ∷ ms) =
    ap (λ z. z ++ flat_map (rows.member_regions c) ms) (member_rows c m) ∙ ap (λ z. map row_of (member_regions c m) ++ z) (members_rows c ms)
    ∙ sym (map-append row_of (member_regions c m) (flat_map (member_regions c) ms))

all_rows : (at : ℕ) (classes : List Class) → at + length classes ≤ 4294967295 → rows.all_regions at classes ≡ map row_of (regions_from at classes)
all_rows at [] few = refl
all_rows at (class ∷ classes) few =
    let number : as_number at ≡ at = omega (arith, few) in
    let next : at + 1 ≡ suc at = omega arith in
    ap (λ c. flat_map (rows.member_regions c) class.members ++ rows.all_regions (at + 1) classes) number
    ∙ ap (λ k. flat_map (rows.member_regions at) class.members ++ rows.all_regions k classes) next
    ∙ ap (λ z. z ++ rows.all_regions (suc at) classes) (members_rows at class.members)
    ∙ ap (λ z. map row_of (flat_map (member_regions at) class.members) ++ z) (all_rows (suc at) classes (omega (arith, few)))
    ∙ sym (map-append row_of (flat_map (member_regions at) class.members) (regions_from (suc at) classes))

member_few : (c : ℕ) (m : Member) → length (member_regions c m) ≤ member_size m
member_few c (member.Regions is_atomic names) = let l = length-map {B = OwnRegion} names (λ (named : Named). record { class = c; name = named.name; is_atomic = is_atomic }) in omega (arith, l)
member_few c (member.Field field) = omega arith
member_few c (member.Method method) = omega arith

members_few : (c : ℕ) (ms : List Member) → length (flat_map (member_regions c) ms) ≤ sum_by member_size ms
members_few c [] = omega arith
members_few c (m ∷ ms) =
    let one = member_few c m in
    let rest = members_few c ms in
    let both = length-append (member_regions c m) (flat_map (member_regions c) ms) in
    let all = sum_by-cons member_size m ms in
    omega (arith, one, rest, both, all)

regions_few : (at : ℕ) (classes : List Class) → length (regions_from at classes) ≤ sum_by class_size classes
regions_few at [] = omega arith
regions_few at (class ∷ classes) =
    let one = members_few at class.members in
    let rest = regions_few (suc at) classes in
    let both = length-append (flat_map (member_regions at) class.members) (regions_from (suc at) classes) in
    let all = sum_by-cons class_size class classes in
    omega (arith, one, rest, both, all)

-- fields

row_there : (scope : PlainScope) (slot : ℕ) (members : List Member) (i : ℕ) (field : Field) → slice_get (flat_map member_fields members) i ≡ Some field →
    (row : PlainField) × (slice_get (fields_from scope slot members) i ≡ Some row) × (row.name ≡ field.name)
row_there scope slot [] i field e = cc
row_there scope slot (member.Regions is_atomic names ∷ members) i field e = row_there scope slot members i field e
row_there scope slot (member.Field one ∷ members) zero field e = (_, refl, ap (λ (f : Field). f.name) (some_same e))
row_there scope slot (member.Field one ∷ members) (suc i) field e = row_there scope (as_number (slot + 1)) members i field e
row_there scope slot (member.Method method ∷ members) i field e = row_there scope slot members i field e

field_there : (scope : PlainScope) (slot : ℕ) (members : List Member) (i : ℕ) (row : PlainField) → slice_get (fields_from scope slot members) i ≡ Some row →
    (field : Field) × (slice_get (flat_map member_fields members) i ≡ Some field) × (field.name ≡ row.name)
field_there scope slot [] i row e = cc
field_there scope slot (member.Regions is_atomic names ∷ members) i row e = field_there scope slot members i row e
field_there scope slot (member.Field one ∷ members) zero row e = (one, refl, ap (λ (r : PlainField). r.name) (some_same e))
field_there scope slot (member.Field one ∷ members) (suc i) row e = field_there scope (as_number (slot + 1)) members i row e
field_there scope slot (member.Method method ∷ members) i row e = field_there scope slot members i row e

row_slot : (scope : PlainScope) (slot : ℕ) (members : List Member) (i : ℕ) (row : PlainField) → slice_get (fields_from scope slot members) i ≡ Some row →
    slot + length (fields_from scope slot members) ≤ 4294967295 → row.slot ≡ slot + i
row_slot scope slot [] i row e few = cc
row_slot scope slot (member.Regions is_atomic names ∷ members) i row e few = row_slot scope slot members i row e few
row_slot scope slot (member.Field field ∷ members) zero row e few = let same = ap (λ (r : PlainField). r.slot) (sym (some_same e)) in omega (arith, same)
row_slot scope slot (member.Field field ∷ members) (suc i) row e few =
    let next : as_number (slot + 1) ≡ slot + 1 = omega (arith, few) in
    let h = row_slot scope (as_number (slot + 1)) members i row e (omega (arith, few)) in
    omega (arith, h, next)
row_slot scope slot (member.Method method ∷ members) i row e few = row_slot scope slot members i row e few

-- the superclass of a class

named_first : (name at : ℕ) (classes : List Class) (above : ℕ) → at + length classes ≤ 4294967295 → first_named name at classes ≡ Some above →
    (j : ℕ) × (class : Class) × (above ≡ at + j) × (slice_get classes j ≡ Some class) × (class.name ≡ name)
named_first name at [] above few e = cc
named_first name at (class ∷ classes) above few e = by (class.name == name) refl (λ h. named_first name (at + 1) classes above (omega (arith, few)) h) e
  where
    by : (b : Bool) → (class.name == name) ≡ b →
        (first_named name (at + 1) classes ≡ Some above → (j : ℕ) × (one : Class) × (above ≡ at + 1 + j) × (slice_get classes j ≡ Some one) × (one.name ≡ name)) →
        cond b (Some (as_number at)) (first_named name (at + 1) classes) ≡ Some above → (j : ℕ) × (one : Class) × (above ≡ at + j) × (slice_get (class ∷ classes) j ≡ Some one) × (one.name ≡ name)
    by true is more h = let same = some_same h in (0, class, omega (arith, same, few), refl, eqb-true class.name name is)
    by false is more h = let w = more h in let at_w = w.2 in (suc w.0, w.1, omega (arith, at_w), w.3, w.4)

-- a class that extends another: this is named there, and the typed program has it
pub record ParentFound (tree : Program) (P : PlainProgram) (table : Table) (at above : ℕ) : Type 0 where
  pub class : Class
  pub stands : slice_get tree.classes at ≡ Some class
  pub parent : Parent
  pub extends : class.parent ≡ Some parent
  pub named : ClassNamed tree parent.name.name above
  pub is : parent_in P at ≡ Some (record { class = above; args = parent_args_of table at })

is_result : (result : MethodResult) → is_constructor_result result ≡ true → result ≡ outcome.Constructor
is_result outcome.Constructor h = refl
is_result outcome.Void h = cc
is_result (outcome.Value t) h = cc

module _ (program : Program) (table : Table) (bodies : List PlainBody) (written : IsWritten program) (accepted : IsAccepted program table bodies)
  where
    abbrev P : PlainProgram
    P = made_of program table bodies

    facts : Facts table
    facts = facts_of program table accepted.rows

    classes_few : length program.classes < 4294967295
    classes_few = accepted.rows.counted.0

    pub as_many : class_count (headers_of table) ≡ length program.classes
    as_many =
        ap (λ (h : Headers). length h.rows) (granted accepted.rows).headers
        ∙ length_rows (parents_in program.classes) (object_fields program.classes (parents_in program.classes)) 0 program.classes

    abbrev pub header_at : ℕ → Class → Header
    header_at = header_row (parents_in program.classes) (object_fields program.classes (parents_in program.classes))

    -- the header of a class
    pub header_there : (c : ℕ) (class : Class) → slice_get program.classes c ≡ Some class → header_of (headers_of table) c ≡ Some (header_at (0 + c) class)
    header_there c class is =
        ap (λ (h : Headers). header_of h c) (granted accepted.rows).headers
        ∙ class_header (parents_in program.classes) (object_fields program.classes (parents_in program.classes)) 0 program.classes c class is

    class_means : (name at : ℕ) → class_of (headers_of table) name ≡ Some at → ClassNamed program name at
    class_means name at is =
        let m = map_there as_number (position_from (λ (row : Header). row.name == name) 0 (headers_of table).rows) at is in
        let w = position_there (λ (row : Header). row.name == name) 0 (headers_of table).rows m.0 m.1 in
        let l = slice_get_within (headers_of table).rows w.0 w.1 w.2 in
        let many = as_many in
        let few = classes_few in
        let place = w.4 in
        let number = m.2 in
        let same : w.0 ≡ at = omega (arith, place, number, l, many, few) in
        let c = there program.classes w.0 (omega (arith, l, many)) in
        let row : header_at (0 + w.0) c.0 ≡ w.1 = some_same (sym (header_there w.0 c.0 c.1) ∙ w.2) in
        (c.0, subst (λ k. slice_get program.classes k ≡ Some c.0) same c.1, ap (λ (h : Header). h.name) row ∙ eqb-true w.1.name name w.3)

    class_known : (name at : ℕ) → class_of (headers_of table) name ≡ Some at → (k : PlainClass) × (class_at P at ≡ Some k) × (k.params ≡ map (λ (param : ParamRow). param.atomic) (params_in (headers_of table) at))
    class_known name at is =
        let w = class_means name at is in
        let l = slice_get_within program.classes at w.0 w.1 in
        let many = as_many in
        let few = classes_few in
        let number : as_number at ≡ at = omega (arith, l, few) in
        let h = header_there at w.0 w.1 in (
          typed_class table at,
          class_there program table bodies accepted at (omega (arith, l, many)),
          ap (λ k. option_map_or (λ (header : Header). map (λ (param : ParamRow). param.atomic) header.params) (header_of (headers_of table) k) []) number
              ∙ ap (λ o. option_map_or (λ (header : Header). map (λ (param : ParamRow). param.atomic) header.params) o []) h
              ∙ sym (ap (λ o. map (λ (param : ParamRow). param.atomic) (option_map_or (λ (header : Header). header.params) o [])) h),
        )

    up_there : (c above : ℕ) → parent_of (headers_of table) c ≡ Some above → (args : _) × (parent_in P c ≡ Some (record { class = above; args = args }))
    up_there c above is = (parent_args_of table c, parent_there program table bodies accepted c above is)

    -- the rows of region names are those that the text declares
    pub region_list : (headers_of table).regions ≡ map row_of (all_regions program)
    region_list = let few = classes_few in ap (λ (h : Headers). h.regions) (granted accepted.rows).headers ∙ all_rows 0 program.classes (omega (arith, few))

    abbrev is_region : ℕ → ℕ → RegionRow → Bool
    is_region c name row = (row.owner == c) && (row.name == name)

    region_found : (name n c : ℕ) → own_region (headers_of table) c name ≡ Some n → DeclaresRegion program name c n
    region_found name n c is =
        elim (place_there (is_region c name) 0 (map row_of (all_regions program)) None n (sym (ap (λ rs. last_place (is_region c name) 0 rs None) region_list) ∙ is)) [
          | inl none ↦ cc
          | inr w ↦
              let o = map_there row_of (slice_get (all_regions program) w.0) w.1 (sym (slice_get-map row_of (all_regions program) w.0) ∙ w.2) in
              let l = slice_get_within (all_regions program) w.0 o.0 o.1 in
              let most = regions_few 0 program.classes in
              let small = written.small in
              let number = w.4 in
              let same : w.0 ≡ n = omega (arith, number, l, most, small) in
              let test = and_parts (w.1.owner == c) (w.1.name == name) w.3 in
              let owner : o.0.class ≡ c = ap (λ (r : RegionRow). r.owner) o.2 ∙ eqb-true w.1.owner c test.0 in
              let called : o.0.name ≡ name = ap (λ (r : RegionRow). r.name) o.2 ∙ eqb-true w.1.name name test.1 in (
                o.0.is_atomic,
                subst (λ k. slice_get (all_regions program) k ≡ Some (record { class = c; name = name; is_atomic = o.0.is_atomic })) same
                    (o.1 ∙ ap (λ k. Some (record { class = k; name = o.0.name; is_atomic = o.0.is_atomic })) owner
                    ∙ ap (λ k. Some (record { class = c; name = k; is_atomic = o.0.is_atomic })) called),
              )
        ]

    region_none : (name c n : ℕ) → own_region (headers_of table) c name ≡ None → DeclaresRegion program name c n → ⊥
    region_none name c n is declares =
        let own : OwnRegion = record { class = c; name = name; is_atomic = declares.0 } in
        place_missed (is_region c name) 0 (map row_of (all_regions program)) (sym (ap (λ rs. last_place (is_region c name) 0 rs None) region_list) ∙ is) n (row_of own)
        (got_mapped row_of (all_regions program) n own declares.1)
        (ap (λ b. b && (name == name)) (eq-eqb c c refl) ∙ eq-eqb name name refl)

    pub headers_tell : HeadersTell program P (headers_of table)
    headers_tell = record {
      classes = class_means;
      params = class_known;
      regions = λ class name n is.
          nearest_means (headers_of table) P (λ at. own_region (headers_of table) at name) (DeclaresRegion program name) n n (region_found name n) (λ c k. region_none name c k) up_there
          (class_count (headers_of table)) class is;
    }

    pub parent_found : (at above : ℕ) → parent_of (headers_of table) at ≡ Some above → ParentFound program P table at above
    parent_found at above is =
        let entry = sym (parent_entry program table bodies accepted at) ∙ is in
        let o = and_then_there (λ entry. entry) (slice_get (parents_in program.classes) at) above entry in
        let c = map_there (named_parent (class_named program.classes)) (slice_get program.classes at) o.0 (sym (slice_get-map (named_parent (class_named program.classes)) program.classes at) ∙ o.1) in
        let p = and_then_there (λ (parent : Parent). class_named program.classes parent.name.name) c.0.parent above (c.2 ∙ o.2) in
        let few = classes_few in
        let w = named_first p.0.name.name 0 program.classes above (omega (arith, few)) p.2 in
        let place = w.2 in
        let same : w.0 ≡ above = omega (arith, place) in
        record {
          class = c.0;
          stands = c.1;
          parent = p.0;
          extends = p.1;
          named = (w.1, subst (λ k. slice_get program.classes k ≡ Some w.1) same w.3, w.4);
          is = parent_there program table bodies accepted at above is;
        }

    -- the fields that a class has from its superclass come before its own
    pub inherited_count : (c : ℕ) → inherited_fields P c ≡ first_slot (headers_of table) c
    inherited_count c = by (parent_in P c) refl ∙ sym (first_is program table accepted.rows written.small c)
      where
        none : (o : Option ℕ) → parent_of (headers_of table) c ≡ o → parent_in P c ≡ None → o ≡ None
        none None up at_p = refl
        none (Some above) up at_p = let has = parent_there program table bodies accepted c above up in cc

        by : (o : Option PlainParent) → parent_in P c ≡ o → option_map_or (λ (p : PlainParent). option_map_or (λ (k : PlainClass). length k.fields) (class_at P p.class) 0) o 0
            ≡ length (option_map_or (map (field_with (parent_args_of table c))) (option_map (fields_in table) (parent_of (headers_of table) c)) [])
        by None at_p = sym (ap (λ o. length (option_map_or (map (field_with (parent_args_of table c))) (option_map (fields_in table) o) [])) (none (parent_of (headers_of table) c) refl at_p))
        by (Some p) at_p =
            let up = (parent_is program table bodies accepted c p at_p).1 in
            let l = upper_there program table bodies accepted c p.class up in
            ap (λ o. option_map_or (λ (k : PlainClass). length k.fields) o 0) (class_there program table bodies accepted p.class l)
            ∙ length-map (fields_in table p.class) typed_field ∙ sym (length-map (fields_in table p.class) (field_with (parent_args_of table c)))
            ∙ sym (ap (λ o. length (option_map_or (map (field_with (parent_args_of table c))) (option_map (fields_in table) o) [])) up)

    abbrev meant : List PlainField
    meant = fields_meant (headers_of table) table.given 0 program.classes

    fields_said : map plain_field (fields_of table) ≡ meant
    fields_said = (granted accepted.rows).read.fields

    field_declared : (name c place : ℕ) (row : FieldRow) → slice_get (fields_of table) place ≡ Some row → own_field table c name ≡ Some place → DeclaresField program P name c row.slot
    field_declared name c place row at is =
        elim (last_there (is_field_of c name) by_place 0 None (fields_of table) place is) [
          | inl none ↦ cc
          | inr w ↦ from w.0 w.1 w.2 w.3 w.4
        ]
      where
        from : (i : ℕ) (one : FieldRow) → slice_get (fields_of table) i ≡ Some one → is_field_of c name one ≡ true → by_place (0 + i) one ≡ place → DeclaresField program P name c row.slot
        from i one here passes number =
            let few = classes_few in
            let small = written.small in
            let l = slice_get_within (fields_of table) i one here in
            let many = length-map (fields_of table) plain_field in
            let all = ap length fields_said in
            let most = meant_small (headers_of table) table.given 0 program.classes in
            let place_is : i ≡ place = omega (arith, number, l, many, all, most, small) in
            let same : one ≡ row = some_same (sym here ∙ ap (slice_get (fields_of table)) place_is ∙ at) in
            let test = and_parts (one.owner == c) (one.name == name) passes in
            let w = stands_in (headers_of table) table.given 0 program.classes i (plain_field one) (ap (λ rs. slice_get rs i) (sym fields_said) ∙ got_mapped plain_field (fields_of table) i one here) (omega (arith, few)) in
            let owner = w.owner in
            let mine = eqb-true one.owner c test.0 in
            let class_is : w.place ≡ c = omega (arith, owner, mine) in
            let f = field_there (class_scope (headers_of table) table.given (0 + w.place)) (first_slot (headers_of table) (0 + w.place)) w.class.members w.index (plain_field one) w.there in
            let room = slots_few program table accepted.rows written.small (0 + w.place) in
            let own = ap length (fields_of_class (headers_of table) table.given 0 program.classes w.place w.class w.is (omega (arith, few))) in
            let slot = row_slot (class_scope (headers_of table) table.given (0 + w.place)) (first_slot (headers_of table) (0 + w.place)) w.class.members w.index (plain_field one) w.there (omega (arith, room, own)) in
            let zero_plus : 0 + w.place ≡ c = omega (arith, class_is) in (
              w.class,
              f.0,
              w.index,
              subst (λ k. slice_get program.classes k ≡ Some w.class) class_is w.is,
              f.1,
              f.2 ∙ eqb-true one.name name test.1,
              ap (λ (r : FieldRow). r.slot) (sym same) ∙ slot ∙ ap (λ k. k + w.index) (ap (first_slot (headers_of table)) zero_plus ∙ sym (inherited_count c)),
            )

    field_none : (name c k : ℕ) → own_field table c name ≡ None → DeclaresField program P name c k → ⊥
    field_none name c k is d =
        let few = classes_few in
        let plain : 0 + c ≡ c = omega arith in
        let r = row_there (class_scope (headers_of table) table.given (0 + c)) (first_slot (headers_of table) (0 + c)) d.0.members d.2 d.1 d.4 in
        let w = filter_in (λ (row : PlainField). row.owner == 0 + c) meant d.2 r.0
        (ap (λ rs. slice_get rs d.2) (fields_of_class (headers_of table) table.given 0 program.classes c d.0 d.3 (omega (arith, few))) ∙ r.1) in
        let m = map_there plain_field (slice_get (fields_of table) w.0) r.0 (sym (slice_get-map plain_field (fields_of table) w.0) ∙ ap (λ rs. slice_get rs w.0) fields_said ∙ w.1) in
        let owner : m.0.owner ≡ c = ap (λ (row : PlainField). row.owner) m.2 ∙ eqb-true r.0.owner (0 + c) w.2 ∙ plain in
        let called : m.0.name ≡ name = ap (λ (row : PlainField). row.name) m.2 ∙ r.2 ∙ d.5 in
        last_missed (is_field_of c name) by_place 0 (fields_of table) is w.0 m.0 m.1 (ap (λ b. b && (m.0.name == name)) (eq-eqb m.0.owner c owner) ∙ eq-eqb m.0.name name called)

    -- the field that a name means in a class
    pub field_found : (class name : ℕ) (row : FieldRow) → field_of table class name ≡ Some row → MeansIn P (DeclaresField program P name) class row.slot
    field_found class name row is =
        let w = and_then_there (λ place. slice_get (fields_of table) place) (nearest (λ above. own_field table above name) (upwards (headers_of table) class)) row is in
        nearest_means (headers_of table) P (λ above. own_field table above name) (DeclaresField program P name) w.0 row.slot (λ c. field_declared name c w.0 row w.2) (λ c k. field_none name c k) up_there
        (class_count (headers_of table)) class w.1

    -- of a method or a constructor and its row
    row_owner : (n : ℕ) (own : OwnMethod) (row : MethodRow) → Row program table n own row → own.class ≡ row.owner
    row_owner n own row w = sym (ap (λ (r : PlainMethod). r.owner) w.is)

    row_name : (n : ℕ) (own : OwnMethod) (row : MethodRow) → Row program table n own row → own.method.name ≡ row.name
    row_name n own row w = sym (ap (λ (r : PlainMethod). r.name) w.is)

    row_result : (n : ℕ) (own : OwnMethod) (row : MethodRow) → Row program table n own row → row.is_constructor ≡ is_constructor_result own.method.result
    row_result n own row w = ap (λ (r : PlainMethod). r.is_constructor) w.is

    own_there : (n c : ℕ) (own : OwnMethod) → slice_get (all_methods program) n ≡ Some own → own.class ≡ c → IsMethodOf program own.method c n
    own_there n c own e same = e ∙ ap (λ k. Some (record { class = k; method = own.method })) same

    method_declared : (name n c : ℕ) → own_method table c name ≡ Some n → DeclaresMethod program name c n
    method_declared name n c is =
        let m = own_is table facts c name n is in
        let w = row_own program table accepted.rows n m.row m.there in
        let test = and_parts (not m.row.is_constructor) (m.row.owner == c) m.own in (
          w.0.method,
          own_there n c w.0 w.1.own_there (row_owner n w.0 m.row w.1 ∙ eqb-true m.row.owner c test.1),
          λ made. plain m.row.is_constructor (row_result n w.0 m.row w.1 ∙ ap is_constructor_result made) test.0,
          row_name n w.0 m.row w.1 ∙ m.called,
        )
      where
        plain : (b : Bool) → b ≡ true → not b ≡ true → ⊥
        plain true e h = cc
        plain false e h = cc

    method_none : (name c n : ℕ) → own_method table c name ≡ None → DeclaresMethod program name c n → ⊥
    method_none name c n is d =
        let own : OwnMethod = record { class = c; method = d.0 } in
        let w = own_row program table accepted.rows n own d.1 in
        let plain : not w.0.is_constructor ≡ true = ap not (row_result n own w.0 w.1) ∙ other d.0.result d.2 in
        last_missed (is_method_of c name) by_id 0 (methods_of table) is n w.0 w.1.row_there
        (ap (λ b. b && ((w.0.owner == c) && (w.0.name == name))) plain ∙ ap (λ b. b && (w.0.name == name)) (eq-eqb w.0.owner c (sym (row_owner n own w.0 w.1)))
        ∙ eq-eqb w.0.name name (sym (row_name n own w.0 w.1) ∙ d.3))
      where
        other : (result : MethodResult) → (result ≡ outcome.Constructor → ⊥) → not (is_constructor_result result) ≡ true
        other outcome.Constructor h = absurd (h refl)
        other outcome.Void h = refl
        other (outcome.Value t) h = refl

    -- the method that a name means in a class
    pub method_means : (class name n : ℕ) → nearest (λ at. own_method table at name) (upwards (headers_of table) class) ≡ Some n → MeansIn P (DeclaresMethod program name) class n
    method_means class name n is =
        nearest_means (headers_of table) P (λ at. own_method table at name) (DeclaresMethod program name) n n (method_declared name n) (λ c k. method_none name c k) up_there (class_count (headers_of table)) class is

    pub method_called : (class name : ℕ) (row : MethodRow) → method_of table class name ≡ Some row → method_name program row.id ≡ Some name
    method_called class name row is =
        let w = and_then_there (numbered table) (nearest (λ above. own_method table above name) (upwards (headers_of table) class)) row is in
        let n = nearest_in (λ above. own_method table above name) (upwards (headers_of table) class) w.0 w.1 in
        let d = method_declared name w.0 n.0 n.2 in
        ap (method_name program) (facts.numbered w.0 row w.2) ∙ ap (option_map (λ (own : OwnMethod). own.method.name)) d.1 ∙ ap Some d.3

    -- the constructor of a class
    constructor_row : (class id : ℕ) → constructor_number (methods_of table) class ≡ Some id →
        (row : MethodRow) × (slice_get (methods_of table) id ≡ Some row) × (is_constructor_of class row ≡ true)
    constructor_row class id is =
        elim (last_there (is_constructor_of class) by_id 0 None (methods_of table) id is) [
          | inl none ↦ cc
          | inr w ↦
              let same : w.0 ≡ id = sym (facts.numbered w.0 w.1 w.2) ∙ w.4 in
              (w.1, subst (λ k. slice_get (methods_of table) k ≡ Some w.1) same w.2, w.3)
        ]

    pub constructor_found : (class : ℕ) (row : MethodRow) → constructor_of table class ≡ Some row → DeclaresConstructor program class row.id
    constructor_found class row is =
        let w = and_then_there (numbered table) (constructor_number (methods_of table) class) row is in
        let r = constructor_row class w.0 w.1 in
        let same : r.0 ≡ row = some_same (sym r.1 ∙ w.2) in
        let test = and_parts r.0.is_constructor (r.0.owner == class) r.2 in
        let o = row_own program table accepted.rows w.0 r.0 r.1 in
        subst (DeclaresConstructor program class) (sym (facts.numbered w.0 row w.2))
        (o.0.method, own_there w.0 class o.0 o.1.own_there (row_owner w.0 o.0 r.0 o.1 ∙ eqb-true r.0.owner class test.1), is_result o.0.method.result (sym (row_result w.0 o.0 r.0 o.1) ∙ test.0))

    pub no_constructor : (class n : ℕ) → constructor_of table class ≡ None → DeclaresConstructor program class n → ⊥
    no_constructor class n is d = by (constructor_number (methods_of table) class) refl is
      where
        own : OwnMethod
        own = record { class = class; method = d.0 }

        by : (o : Option ℕ) → constructor_number (methods_of table) class ≡ o → option_and_then (numbered table) o ≡ None → ⊥
        by (Some id) at_o h = let r = constructor_row class id at_o in let has = r.1 in cc
        by None at_o h =
            let w = own_row program table accepted.rows n own d.1 in
            last_missed (is_constructor_of class) by_id 0 (methods_of table) at_o n w.0 w.1.row_there
            (ap (λ b. b && (w.0.owner == class)) (row_result n own w.0 w.1 ∙ ap is_constructor_result d.2) ∙ eq-eqb w.0.owner class (sym (row_owner n own w.0 w.1)))
