-- A run of an accepted program begins in a class and with a member as it should.
use Rattle.std.proofs.Common.{◌≡◌, ◌∙◌, ℕ, suc, ◌+◌, ◌<◌, ◌==◌, ◌&&◌, ◌||◌, not, Bool, true, false, cond, is_none, List, [], ◌∷◌, map, length, Option, Some, None, refl, ap, sym, arith}
use Rattle.std.proofs.lemmas.Bool.Decides.{Decides-eqb}
use Rattle.std.proofs.lemmas.Option.{slice_get_within}
use Rattle.std.specs.List.{find, list_any, position_from}
use Rattle.std.specs.Option.{option_and_then, option_map, option_map_or}
use Rattle.std.specs.Prelude.{slice_get, unwrap_or, codes}
use Rattle.lang_base.specs.declared.refusal.Refusal.{Refusal}
use Rattle.lang_base.specs.declared.refusal.Kind.TheVariants as kind
use Rattle.lang_base.specs.declared.ty.Ty.{Ty}
use Rattle.lang_base.specs.Types.{PlainType, plain_type, int, boolean, void, null, class, array}
use Rattle.decl_headers.specs.declared.faults.Order.TheVariants as order
use Rattle.decl_headers.specs.declared.header.Header.{Header}
use Rattle.decl_headers.specs.Faults.{none_by}
use Rattle.decl_headers.specs.Headers.{class_of, header_of, main_of, class_count}
use Rattle.decl_headers.specs.Numbers.{as_number}
use Rattle.decl_headers.specs.Passes.{fault, fault_if}
use Rattle.syntax_tree.specs.declared.class.Program.{Program}
use Rattle.syntax_tree.specs.Nd.{program_uses_nd}
use Rattle.lang_typed.specs.Plain.{PlainProgram}
use Rattle.lang_typed.specs.Scope.{member_at}
use Rattle.lang_typed.specs.WellTyped.{GoodMain}
use Rattle.body_assembly.specs.Assembled.{PlainBody, member_of, program_of}
use Rattle.body_assembly.specs.Assembled.{class_of as made_class}
use Rattle.decl_table.specs.declared.rows.MethodRow.{MethodRow}
use Rattle.decl_table.specs.declared.table.Table.{Table}
use Rattle.decl_classes.specs.Build.{table_faults}
use Rattle.decl_classes.specs.Overriding.{override_faults}
use Rattle.decl_table.specs.Main.{begins_runs, is_int, is_main, is_spelled, main_class, main_faults, main_method, start, takes_int}
use Rattle.decl_table.specs.Table.{headers_of, methods_of, constructor_of}
use Rattle.decl_laws.proofs.Granted.{granted}
use Rattle.sound_lemmas.specs.Accepted.{IsAccepted}
use Rattle.sound_lemmas.proofs.Assembled.{facts, has_member, number_is}
use Rattle.sound_lemmas.proofs.Free.{append_none, fault_none, none_reported, not_false, and_split}
use Rattle.sound_lemmas.proofs.Lists.{some_same, and_then_there, map_there, there, made_there}
use Rattle.syntax_grammar.specs.Written.{IsWritten}
use Rattle.sound_decls.specs.Laws.{AcceptedHasMain}
use Rattle.sound_decls.proofs.table.ClassesAndMethods.{none_of_class, none_of_member}

-- the first that passes a test, where some does
record Found {X : Type 0} (test : X → Bool) (xs : List X) : Type 0 where
  place : ℕ
  item : X
  stands : slice_get xs place ≡ Some item
  first : find test xs ≡ Some item
  passes : test item ≡ true

any_found : {X : Type 0} (test : X → Bool) (xs : List X) → list_any test xs ≡ true → Found test xs
any_found test [] e = absurd (cc)
any_found test (x ∷ xs) e = by (λ h. any_found test xs h) (test x) refl e
  where
    by : (list_any test xs ≡ true → Found test xs) → (b : Bool) → test x ≡ b → b || list_any test xs ≡ true → Found test (x ∷ xs)
    by later true is h = record { place = 0; item = x; stands = refl; first = ap (λ b. cond b (Some x) (find test xs)) is; passes = is }
    by later false is h = let w = later h in
        record { place = suc w.place; item = w.item; stands = w.stands; first = ap (λ b. cond b (Some x) (find test xs)) is ∙ w.first; passes = w.passes }

position_within : {X : Type 0} (test : X → Bool) (at : ℕ) (xs : List X) (p : ℕ) → position_from test at xs ≡ Some p → p < at + length xs
position_within test at [] p e = absurd (cc)
position_within test at (x ∷ xs) p e = by (λ h. position_within test (at + 1) xs p h) (test x) e
  where
    by : (position_from test (at + 1) xs ≡ Some p → p < at + 1 + length xs) → (b : Bool) → cond b (Some at) (position_from test (at + 1) xs) ≡ Some p →
        p < at + suc (length xs)
    by later true h = let same = some_same h in omega (arith, same)
    by later false h = let le = later h in omega (arith, le)

-- what the tests tell
empty : {X : Type 0} (xs : List X) → (length xs == 0) ≡ true → xs ≡ []
empty [] e = refl
empty (x ∷ xs) e = absurd (let none = (Decides-eqb (length (x ∷ xs)) 0).0 e in omega (arith, none))

none_there : {X : Type 0} (o : Option X) → is_none o ≡ true → o ≡ None
none_there None e = refl
none_there (Some x) e = cc

int_is : (t : PlainType) → is_int t ≡ true → t ≡ int
int_is int e = refl
int_is boolean e = cc
int_is void e = cc
int_is null e = cc
int_is (class c args) e = cc
int_is (array t r named) e = cc

one_int : (ts : List Ty) → takes_int ts ≡ true → map plain_type ts ≡ int ∷ []
one_int [] e = cc
one_int (t ∷ []) e = ap (λ (z : PlainType). z ∷ []) (int_is (plain_type t) e)
one_int (t ∷ u ∷ ts) e = cc

module _ (program : Program) (table : Table) (bodies : List PlainBody) (written : IsWritten program) (accepted : IsAccepted program table bodies)
  where
    abbrev P : PlainProgram
    P = program_of table program.names (program_uses_nd program) bodies

    abbrev begins : ℕ → MethodRow → Bool
    begins at row = (row.owner == at) && is_main program.names row

    begun : (at : ℕ) (header : Header) → main_class table ≡ Some at → header_of (headers_of table) at ≡ Some header → begins_runs table at header program.names ≡ true → GoodMain P
    begun at header main is fine =
        let first = and_split (length header.params == 0 && is_none (constructor_of table at)) (list_any (begins at) (methods_of table)) fine in
        let second = and_split (length header.params == 0) (is_none (constructor_of table at)) first.0 in
        let f = any_found (begins at) (methods_of table) first.1 in
        let row = f.item in
        let tests = and_split (row.owner == at) (is_main program.names row) f.passes in
        let third = and_split (is_spelled program.names row.name (codes "main") && not row.is_constructor && (length row.regions == 0) && is_int (plain_type row.result)) (takes_int row.params) tests.1 in
        let fourth = and_split (is_spelled program.names row.name (codes "main") && not row.is_constructor && (length row.regions == 0)) (is_int (plain_type row.result)) third.0 in
        let fifth = and_split (is_spelled program.names row.name (codes "main") && not row.is_constructor) (length row.regions == 0) fourth.0 in
        let no_params = empty header.params second.0 in
        let no_regions = empty row.regions fifth.1 in
        let within = slice_get_within (headers_of table).rows at header is in
        let number : as_number at ≡ at = number_is program table bodies accepted program.names (program_uses_nd program) at within in
        let here : P.main_class ≡ at = ap (λ o. unwrap_or o 0) main in
        let method : main_method table program.names ≡ Some row.id =
        ap (option_and_then (λ at. option_map (λ (row : MethodRow). row.id) (find (begins at) (methods_of table)))) main
        ∙ ap (option_map (λ (row : MethodRow). row.id)) f.first in
        let m = has_member program table bodies accepted program.names (program_uses_nd program) f.place row f.stands in
        record {
          class = made_class table at;
          class_is = ap (slice_get P.classes) here ∙ made_there (made_class table) (class_count (headers_of table)) at within;
          no_class_params =
              ap (λ o. option_map_or (λ (header : Header). map (λ param. param.atomic) header.params) o []) (ap (header_of (headers_of table)) number ∙ is)
              ∙ ap (map (λ param. param.atomic)) no_params;
          nothing_given_of_class = none_of_class program table bodies written accepted (as_number at) header (ap (header_of (headers_of table)) number ∙ is) no_params;
          no_constructor = ap (option_map (λ (row : MethodRow). row.id)) (ap (constructor_of table) number ∙ none_there (constructor_of table at) second.1);
          member = member_of row m.0;
          member_is =
              ap (λ o. member_at P (unwrap_or o 0)) method
              ∙ ap (member_at P) ((facts program table bodies accepted program.names (program_uses_nd program)).numbered f.place row f.stands) ∙ m.2;
          own = (Decides-eqb row.owner at).0 tests.0 ∙ sym here;
          no_params = ap (map (λ param. param.atomic)) no_regions;
          nothing_given = none_of_member program table bodies written accepted f.place row f.stands no_regions;
          formals = one_int row.params third.1;
          result = int_is (plain_type row.result) fourth.1;
        }

    free : main_faults table program.names ≡ []
    free =
        (append_none (override_faults table (methods_of table)) (main_faults table program.names)
        (none_reported (none_by order.Place) (table_faults table program.names) (granted accepted.rows).whole)).1

    abbrev faults_of : Option ℕ → List Refusal
    faults_of o =
        option_map_or
        (λ at. option_map_or (λ header. fault_if (not (begins_runs table at header program.names)) kind.Main header.place) (header_of (headers_of table) at) [])
        o (fault kind.Main start ∷ [])

    begins_at : (at : ℕ) (header : Header) → header_of (headers_of table) at ≡ Some header → faults_of (Some at) ≡ [] → begins_runs table at header program.names ≡ true
    begins_at at header is none =
        not_false (begins_runs table at header program.names)
        (fault_none (not (begins_runs table at header program.names)) kind.Main header.place
        (sym (ap (λ o. option_map_or (λ (h : Header). fault_if (not (begins_runs table at h program.names)) kind.Main h.place) o []) is) ∙ none))

    begun_at : (o : Option ℕ) → main_class table ≡ o → faults_of o ≡ [] → GoodMain P
    begun_at None is none = absurd (cc (none))
    begun_at (Some at) is none =
        let w = and_then_there (class_of (headers_of table)) (main_of (headers_of table)) at is in
        let p = map_there as_number (position_from (λ (row : Header). row.name == w.0) 0 (headers_of table).rows) at w.2 in
        let le = position_within (λ (row : Header). row.name == w.0) 0 (headers_of table).rows p.0 p.1 in
        let number = p.2 in
        let h = there (headers_of table).rows at (omega (arith, le, number)) in
        begun at h.0 is h.1 (begins_at at h.0 h.1 none)

pub accepted_main : AcceptedHasMain
accepted_main program table bodies written accepted = begun_at program table bodies written accepted (main_class table) refl (free program table bodies written accepted)
