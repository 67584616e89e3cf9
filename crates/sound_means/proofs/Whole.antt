-- The typed program of an accepted one is what its text means.
use Rattle.std.proofs.Common.{◌≡◌, ◌∙◌, ℕ, suc, ◌+◌, ◌≤◌, ◌==◌, ◌&&◌, ◌||◌, not, Bool, true, false, cond, is_none, List, [], ◌∷◌, ◌++◌, map, length, flat_map, Option, None, Some, option_map, option_and_then, refl, sym, ap, subst, arith}
use Rattle.std.proofs.lemmas.List.{length-map, map-append}
use Rattle.std.proofs.lemmas.List.FromFn.{length-range_with_len}
use Rattle.std.proofs.lemmas.Option.{get_or_from_slice_get}
use Rattle.std.proofs.lemmas.Slice.Eq.{bytes_eq-Decides}
use Rattle.std.specs.List.{find, list_any, range_with_len}
use Rattle.std.specs.Option.{option_map_or}
use Rattle.std.specs.Prelude.{slice_get, unwrap_or, codes}
use Rattle.std.specs.Str.{bytes_eq}
use Rattle.lang_base.specs.declared.refusal.Kind.TheVariants as kind
use Rattle.lang_base.specs.declared.refusal.Refusal.{Refusal}
use Rattle.lang_base.specs.Types.{plain_type}
use Rattle.syntax_tree.specs.declared.class.Class.{Class}
use Rattle.syntax_tree.specs.declared.class.Member.{Member}
use Rattle.syntax_tree.specs.declared.class.Member.TheVariants as member
use Rattle.syntax_tree.specs.declared.class.Program.{Program}
use Rattle.syntax_tree.specs.declared.region.Named.{Named}
use Rattle.syntax_tree.specs.Nd.{program_uses_nd}
use Rattle.syntax_means.specs.Declares.{ClassNamed, OwnMethod, OwnRegion, all_methods, all_regions, member_regions, method_name, regions_from, spelled}
use Rattle.syntax_means.specs.Means.{Means}
use Rattle.decl_headers.specs.declared.faults.Order.TheVariants as order
use Rattle.decl_headers.specs.declared.header.Header.{Header}
use Rattle.decl_headers.specs.declared.header.Headers.{Headers}
use Rattle.decl_headers.specs.declared.header.RegionRow.{RegionRow}
use Rattle.decl_headers.specs.Faults.{none_by}
use Rattle.decl_headers.specs.First.{parents_in}
use Rattle.decl_headers.specs.Gathered.{object_fields}
use Rattle.decl_headers.specs.Gathered.{all_regions as rows_from, member_regions as member_rows}
use Rattle.decl_headers.specs.Headers.{class_of, header_of, main_of, class_count}
use Rattle.decl_headers.specs.Numbers.{as_number}
use Rattle.decl_headers.specs.Passes.{fault, fault_if}
use Rattle.decl_headers.proofs.Gathered.{length_rows}
use Rattle.decl_table.specs.declared.rows.MethodRow.{MethodRow}
use Rattle.decl_table.specs.declared.table.Table.{Table}
use Rattle.decl_table.specs.Main.{begins_runs, is_int, is_main, is_spelled, main_class, main_faults, main_method, start, takes_int}
use Rattle.decl_table.specs.Plain.{PlainMethod}
use Rattle.decl_table.specs.Table.{headers_of, methods_of, constructor_of}
use Rattle.decl_classes.specs.Build.{table_faults}
use Rattle.decl_classes.specs.Overriding.{override_faults}
use Rattle.decl_laws.proofs.Granted.{granted}
use Rattle.lang_typed.specs.Plain.{PlainProgram}
use Rattle.body_assembly.specs.Assembled.{PlainBody, members_of}
use Rattle.body_assembly.specs.Assembled.{class_of as made_class}
use Rattle.syntax_grammar.specs.Written.{IsWritten}
use Rattle.sound_lemmas.proofs.BodyRules.{checks_in}
use Rattle.sound_lemmas.specs.Accepted.{IsAccepted}
use Rattle.sound_lemmas.proofs.Assembled.{facts}
use Rattle.sound_lemmas.proofs.Counting.{bodies_made}
use Rattle.sound_lemmas.proofs.Free.{append_none, fault_none, none_reported, not_false, and_split}
use Rattle.sound_lemmas.proofs.Lists.{and_then_there, there}
use Rattle.sound_lemmas.proofs.Signatures.{rows_many as methods_many}
use Rattle.sound_decls.proofs.table.Finding.{class_within}
use Rattle.sound_bodies.specs.Whole.{made_of}
use Rattle.sound_bodies.proofs.table.Reported.{table_tells}
use Rattle.sound_means.proofs.Classes.{class_means}
use Rattle.sound_means.proofs.Finding.{headers_tell, name_spelled}
use Rattle.sound_means.proofs.Members.{member_means}
use Rattle.sound_means.proofs.Methods.{rows_many, row_own}

-- as many members as rows with bodies
members_many : (rows : List MethodRow) (bodies : List PlainBody) → length bodies ≡ length rows → length (members_of rows bodies) ≡ length rows
members_many [] bodies same = refl
members_many (row ∷ rows) [] same = absurd (omega (arith, same))
members_many (row ∷ rows) (body ∷ bodies) same = ap suc (members_many rows bodies (omega (arith, same)))

-- whether region names are atomic
named_atomic : (at number : ℕ) (is_atomic : Bool) (names : List Named) →
    map (λ (row : RegionRow). row.is_atomic) (map (λ (named : Named). record { owner = number; name = named.name; is_atomic = is_atomic }) names)
    ≡ map (λ (region : OwnRegion). region.is_atomic) (map (λ (named : Named). record { class = at; name = named.name; is_atomic = is_atomic }) names)
named_atomic at number is_atomic [] = refl
named_atomic at number is_atomic (named ∷ names) = ap (λ z. is_atomic ∷ z) (named_atomic at number is_atomic names)

member_atomic : (at number : ℕ) (m : Member) → map (λ (row : RegionRow). row.is_atomic) (member_rows number m) ≡ map (λ (region : OwnRegion). region.is_atomic) (member_regions at m)
member_atomic at number (member.Regions is_atomic names) = named_atomic at number is_atomic names
member_atomic at number (member.Field field) = refl
member_atomic at number (member.Method method) = refl

members_atomic : (at number : ℕ) (members : List Member) →
    map (λ (row : RegionRow). row.is_atomic) (flat_map (member_rows number) members) ≡ map (λ (region : OwnRegion). region.is_atomic) (flat_map (member_regions at) members)
members_atomic at number [] = refl
members_atomic at number (m ∷ members) =
    map-append (λ (row : RegionRow). row.is_atomic) (member_rows number m) (flat_map (member_rows number) members)
    ∙ ap (λ z. z ++ map (λ (row : RegionRow). row.is_atomic) (flat_map (member_rows number) members)) (member_atomic at number m)
    ∙ ap (λ z. map (λ (region : OwnRegion). region.is_atomic) (member_regions at m) ++ z) (members_atomic at number members)
    ∙ sym (map-append (λ (region : OwnRegion). region.is_atomic) (member_regions at m) (flat_map (member_regions at) members))

regions_atomic : (at : ℕ) (classes : List Class) → map (λ (row : RegionRow). row.is_atomic) (rows_from at classes) ≡ map (λ (region : OwnRegion). region.is_atomic) (regions_from at classes)
regions_atomic at [] = refl
regions_atomic at (class ∷ classes) =
    let next : at + 1 ≡ suc at = omega arith in
    map-append (λ (row : RegionRow). row.is_atomic) (flat_map (member_rows (as_number at)) class.members) (rows_from (at + 1) classes)
    ∙ ap (λ z. z ++ map (λ (row : RegionRow). row.is_atomic) (rows_from (at + 1) classes)) (members_atomic at (as_number at) class.members)
    ∙ ap (λ z. map (λ (region : OwnRegion). region.is_atomic) (flat_map (member_regions at) class.members) ++ z)
    (regions_atomic (at + 1) classes ∙ ap (λ k. map (λ (region : OwnRegion). region.is_atomic) (regions_from k classes)) next)
    ∙ sym (map-append (λ (region : OwnRegion). region.is_atomic) (flat_map (member_regions at) class.members) (regions_from (suc at) classes))

-- the first that passes a test, where some does
record First {X : Type 0} (test : X → Bool) (xs : List X) : Type 0 where
  place : ℕ
  item : X
  stands : slice_get xs place ≡ Some item
  first : find test xs ≡ Some item
  passes : test item ≡ true

any_first : {X : Type 0} (test : X → Bool) (xs : List X) → list_any test xs ≡ true → First test xs
any_first test [] e = absurd (cc)
any_first test (x ∷ xs) e = by (λ h. any_first test xs h) (test x) refl e
  where
    by : (list_any test xs ≡ true → First test xs) → (b : Bool) → test x ≡ b → b || list_any test xs ≡ true → First test (x ∷ xs)
    by later true is h = record { place = 0; item = x; stands = refl; first = ap (λ b. cond b (Some x) (find test xs)) is; passes = is }
    by later false is h = let w = later h in
        record { place = suc w.place; item = w.item; stands = w.stands; first = ap (λ b. cond b (Some x) (find test xs)) is ∙ w.first; passes = w.passes }

module _ (program : Program) (table : Table) (bodies : List PlainBody) (named : length program.names ≤ 4294967295) (written : IsWritten program) (accepted : IsAccepted program table bodies)
  where
    abbrev P : PlainProgram
    P = made_of program table bodies

    abbrev headers : Headers
    headers = headers_of table

    classes_many : length P.classes ≡ length program.classes
    classes_many =
        length-map (range_with_len 0 (class_count headers)) (made_class table) ∙ length-range_with_len 0 (class_count headers)
        ∙ ap class_count (granted accepted.rows).headers ∙ length_rows (parents_in program.classes) (object_fields program.classes (parents_in program.classes)) 0 program.classes

    all_members : length P.members ≡ length (all_methods program)
    all_members =
        members_many (methods_of table) bodies (bodies_made (checks_in program table accepted.checked) ∙ sym (methods_many program table (granted accepted.rows).read))
        ∙ rows_many program table accepted.rows

    region_names : P.region_names ≡ map (λ (region : OwnRegion). region.is_atomic) (all_regions program)
    region_names = ap (λ (h : Headers). map (λ (row : RegionRow). row.is_atomic) h.regions) (granted accepted.rows).headers ∙ regions_atomic 0 program.classes

    -- where a run begins
    record Begins : Type 0 where
      main_name : ℕ
      class_named : ClassNamed program main_name P.main_class
      main_spelled : spelled program main_name ≡ codes "Main"
      entry_name : ℕ
      member_named : method_name program P.main_member ≡ Some entry_name
      entry_spelled : spelled program entry_name ≡ codes "main"

    abbrev begins : ℕ → MethodRow → Bool
    begins at row = (row.owner == at) && is_main program.names row

    spelled_so : (name : ℕ) (text : List ℕ) → is_spelled program.names name text ≡ true → spelled program name ≡ text
    spelled_so name text is = by (slice_get program.names name) refl is
      where
        by : (o : Option (List ℕ)) → slice_get program.names name ≡ o → option_map_or (λ spelling. bytes_eq spelling text) o false ≡ true → spelled program name ≡ text
        by None e h = cc
        by (Some spelling) e h = get_or_from_slice_get program.names name spelling [] e ∙ (bytes_eq-Decides spelling text).0 h

    begun : (at : ℕ) (header : Header) → main_class table ≡ Some at → begins_runs table at header program.names ≡ true → Begins
    begun at header main fine =
        let first = and_split (length header.params == 0 && is_none (constructor_of table at)) (list_any (begins at) (methods_of table)) fine in
        let f = any_first (begins at) (methods_of table) first.1 in
        let row = f.item in
        let tests = and_split (row.owner == at) (is_main program.names row) f.passes in
        let third = and_split (is_spelled program.names row.name (codes "main") && not row.is_constructor && (length row.regions == 0) && is_int (plain_type row.result)) (takes_int row.params) tests.1 in
        let fourth = and_split (is_spelled program.names row.name (codes "main") && not row.is_constructor && (length row.regions == 0)) (is_int (plain_type row.result)) third.0 in
        let fifth = and_split (is_spelled program.names row.name (codes "main") && not row.is_constructor) (length row.regions == 0) fourth.0 in
        let sixth = and_split (is_spelled program.names row.name (codes "main")) (not row.is_constructor) fifth.0 in
        let main_there = and_then_there (class_of headers) (main_of headers) at main in
        let here : P.main_class ≡ at = ap (λ o. unwrap_or o 0) main in
        let method : main_method table program.names ≡ Some row.id =
        ap (option_and_then (λ at. option_map (λ (row : MethodRow). row.id) (find (begins at) (methods_of table)))) main
        ∙ ap (option_map (λ (row : MethodRow). row.id)) f.first in
        let number = (facts program table bodies accepted program.names (program_uses_nd program)).numbered f.place row f.stands in
        let w = row_own program table accepted.rows f.place row f.stands in
        let member_is : P.main_member ≡ f.place = ap (λ o. unwrap_or o 0) method ∙ number in
        record {
          main_name = main_there.0;
          class_named = subst (ClassNamed program main_there.0) (sym here) ((headers_tell program table bodies written accepted).classes main_there.0 at main_there.2);
          main_spelled = name_spelled program (codes "Main") main_there.0 named (ap main_of (sym (granted accepted.rows).headers) ∙ main_there.1);
          entry_name = row.name;
          member_named =
              ap (method_name program) member_is ∙ ap (option_map (λ (own : OwnMethod). own.method.name)) w.1.own_there ∙ ap Some (sym (ap (λ (r : PlainMethod). r.name) w.1.is));
          entry_spelled = spelled_so row.name (codes "main") sixth.0;
        }

    free : main_faults table program.names ≡ []
    free =
        (append_none (override_faults table (methods_of table)) (main_faults table program.names)
        (none_reported (none_by order.Place) (table_faults table program.names) (granted accepted.rows).whole)).1

    abbrev faults_of : Option ℕ → List Refusal
    faults_of o =
        option_map_or
        (λ at. option_map_or (λ header. fault_if (not (begins_runs table at header program.names)) kind.Main header.place) (header_of headers at) [])
        o (fault kind.Main start ∷ [])

    header_there : (name at : ℕ) → class_of headers name ≡ Some at → (header : Header) × (header_of headers at ≡ Some header)
    header_there name at e = there headers.rows at (class_within headers name at e)

    begun_at : (o : Option ℕ) → main_class table ≡ o → faults_of o ≡ [] → Begins
    begun_at None is none = absurd (cc (none))
    begun_at (Some at) is none =
        let w = and_then_there (class_of headers) (main_of headers) at is in
        let h = header_there w.0 at w.2 in
        begun at h.0 is
        (not_false (begins_runs table at h.0 program.names)
        (fault_none (not (begins_runs table at h.0 program.names)) kind.Main h.0.place
        (sym (ap (λ o. option_map_or (λ (h : Header). fault_if (not (begins_runs table at h program.names)) kind.Main h.place) o []) h.1) ∙ none)))

    begins_so : Begins
    begins_so = begun_at (main_class table) refl free

    pub accepted_means : Means program P
    accepted_means = record {
      as_many_classes = classes_many;
      classes = λ c class k stands there. class_means program table bodies written accepted c class k stands there;
      as_many_members = all_members;
      members = member_means program table bodies named written accepted (table_tells program table bodies written accepted);
      region_names = region_names;
      main_name = begins_so.main_name;
      main_class = begins_so.class_named;
      main_spelled = begins_so.main_spelled;
      entry_name = begins_so.entry_name;
      main_member = begins_so.member_named;
      entry_spelled = begins_so.entry_spelled;
      uses_nd = refl;
    }
