-- A class keeps what its superclass has.
use Rattle.std.proofs.Common.{◌≡◌, ◌∙◌, ◌⊎◌, inl, inr, ℕ, zero, suc, ◌+◌, ◌<◌, List, [], ◌∷◌, ◌++◌, All, map, length, Option, Some, refl, ap, sym, subst, arith}
use Rattle.std.proofs.lemmas.List.{length-map}
use Rattle.std.specs.Option.{option_and_then, option_map, option_map_or}
use Rattle.std.specs.Prelude.{slice_get, unwrap_or}
use Rattle.lang_base.specs.declared.region.Rpl.{Rpl}
use Rattle.decl_headers.specs.declared.faults.Order.TheVariants as order
use Rattle.decl_headers.specs.declared.header.Header.{Header}
use Rattle.decl_headers.specs.declared.header.ParamRow.{ParamRow}
use Rattle.decl_headers.specs.Faults.{none_by}
use Rattle.decl_headers.specs.Headers.{header_of, parent_of, parents_of, class_count}
use Rattle.decl_headers.specs.Inheriting.{made_in}
use Rattle.decl_headers.specs.Numbers.{as_number}
use Rattle.decl_headers.specs.Rounds.{entry_of, up}
use Rattle.decl_headers.proofs.Cycles.{up-then}
use Rattle.decl_headers.proofs.Inheriting.{made_step}
use Rattle.syntax_tree.specs.declared.class.Program.{Program}
use Rattle.syntax_tree.specs.Nd.{program_uses_nd}
use Rattle.lang_typed.specs.Plain.{PlainProgram, PlainClass, PlainMember, PlainParent}
use Rattle.lang_typed.specs.Scope.{Above, class_at}
use Rattle.lang_typed.specs.Table.{field_with, own_paths, method_paths, KeepsRow, Overrides, RowIsThere}
use Rattle.decl_table.specs.declared.rows.MethodRow.{MethodRow}
use Rattle.decl_table.specs.declared.table.Table.{Table}
use Rattle.decl_classes.specs.Build.{table_faults}
use Rattle.decl_table.specs.Inherited.{declared_fields, fields_after, fields_in, members_in}
use Rattle.decl_table.specs.Inherited.{field_with as checked_with}
use Rattle.decl_table.specs.Main.{main_faults}
use Rattle.decl_classes.specs.Overriding.{args_in, override_fault, overridden_row, override_faults, param_count, row_faults}
use Rattle.decl_classes.specs.Overriding.{params_from as checked_from}
use Rattle.decl_table.specs.Plain.{PlainField}
use Rattle.decl_table.specs.Table.{headers_of, methods_of, numbered, constructor_of, overridden_by, parent_args_of, args_at}
use Rattle.body_assembly.specs.Assembled.{PlainBody, class_of, field_of, member_of, parent_at}
use Rattle.sound_lemmas.specs.Accepted.{IsAccepted}
use Rattle.sound_lemmas.proofs.Assembled.{facts, has_member}
use Rattle.sound_lemmas.proofs.Free.{append_none, none_reported}
use Rattle.sound_lemmas.proofs.Lists.{some_same, map_there, there, made_is}
use Rattle.decl_laws.proofs.Facts.{Facts, over_is, named_is, parent_is}
use Rattle.decl_laws.proofs.Numbers.{owner_of}
use Rattle.decl_laws.proofs.Stand.{rows_kept}
use Rattle.decl_laws.proofs.Granted.{granted}
use Rattle.syntax_grammar.specs.Written.{IsWritten}
use Rattle.sound_decls.specs.Laws.{KeepsSuper, AcceptedInherits}
use Rattle.sound_decls.proofs.table.Above.{P, number, class_there, lower_there, upper_there, args_found}
use Rattle.sound_decls.proofs.classes.Closed.{constructor_is, extended_open}
use Rattle.sound_decls.proofs.classes.Fitting.{Fits, fits_of}
use Rattle.sound_decls.proofs.written.Params.{params_few, params_same}
use Rattle.sound_decls.proofs.table.Rows.{kept_or_own, row_is_there}
use Rattle.sound_decls.proofs.table.RowSources.{all_from}

-- the fields of a superclass, with the arguments put in, as the program has them
fields_with : (args : List Rpl) (fs own : List PlainField) → map field_of (map (checked_with args) fs ++ own) ≡ map (field_with args) (map field_of fs) ++ map field_of own
fields_with args [] own = refl
fields_with args (f ∷ fs) own = ap (λ gs. field_with args (field_of f) ∷ gs) (fields_with args fs own)

row_free : (table : Table) (rows : List MethodRow) (i : ℕ) (row : MethodRow) → override_faults table rows ≡ [] → slice_get rows i ≡ Some row → row_faults table row ≡ []
row_free table [] i row free e = cc
row_free table (r ∷ rows) zero row free e = ap (row_faults table) (sym (some_same e)) ∙ (append_none (row_faults table r) (override_faults table rows) free).0
row_free table (r ∷ rows) (suc i) row free e = row_free table rows i row (append_none (row_faults table r) (override_faults table rows) free).1 e

module _ (program : Program) (table : Table) (bodies : List PlainBody) (written : IsWritten program) (accepted : IsAccepted program table bodies)
  where
    abbrev world : PlainProgram
    world = P program table bodies accepted

    known : Facts table
    known = facts program table bodies accepted program.names (program_uses_nd program)

    abbrev parents : List (Option ℕ)
    parents = parents_of (headers_of table)

    -- how many classes stand above one
    abbrev rank : ℕ → ℕ
    rank = made_in (headers_of table) 0 (λ at above. option_map_or suc above 0)

    rank_up : (c above : ℕ) → parent_of (headers_of table) c ≡ Some above → rank above < rank c
    rank_up c above is =
        let one : rank c ≡ suc (rank above) =
        made_step (headers_of table) 0 (λ at above. option_map_or suc above 0) c known.forest ∙ ap (λ o. option_map_or suc (option_map rank o) 0) is in
        omega (arith, one)

    fields_kept : (c above : ℕ) → parent_of (headers_of table) c ≡ Some above →
        map field_of (fields_in table c) ≡ map (field_with (parent_args_of table c)) (map field_of (fields_in table above)) ++ map field_of (declared_fields table c)
    fields_kept c above is =
        ap (map field_of) (made_step (headers_of table) [] (fields_after table) c known.forest ∙ ap (λ o. fields_after table c (option_map (fields_in table) o)) is)
        ∙ fields_with (parent_args_of table c) (fields_in table above) (declared_fields table c)

    faults_free : override_faults table (methods_of table) ≡ []
    faults_free = (append_none (override_faults table (methods_of table)) (main_faults table program.names) (none_reported (none_by order.Place) (table_faults table program.names) (granted accepted.rows).whole)).0

    -- a method that overrides one fits it
    fits_there : (m n : ℕ) (row over : MethodRow) → slice_get (methods_of table) m ≡ Some row → slice_get (methods_of table) n ≡ Some over → overridden_by table m ≡ Some n → Fits (args_in table row over.owner) row over
    fits_there m n row over e f is =
        let found : overridden_row table row ≡ Some over =
        ap (λ k. option_and_then (numbered table) (overridden_by table k)) (known.numbered m row e) ∙ ap (option_and_then (numbered table)) is ∙ f in
        fits_of (args_in table row over.owner) row over
        (sym (ap (λ o. option_map_or (λ (overridden : MethodRow). override_fault (args_in table row overridden.owner) row overridden) o []) found)
        ∙ row_free table (methods_of table) m row faults_free e)

    params_are : (c : ℕ) (header : Header) → c < class_count (headers_of table) → header_of (headers_of table) c ≡ Some header → length (class_of table c).params ≡ length header.params
    params_are c header l is =
        ap (λ o. length (option_map_or (λ (header : Header). map (λ param. param.atomic) header.params) o []))
        (ap (header_of (headers_of table)) (number program table bodies accepted c l) ∙ is)
        ∙ length-map header.params (λ (param : ParamRow). param.atomic)

    -- the arguments that the checker puts in are what the class sees
    args_are : (c m owner : ℕ) (row : MethodRow) (over : PlainMember) (seen : List Rpl) → c < class_count (headers_of table) → slice_get (methods_of table) m ≡ Some row → row.owner ≡ c → length row.regions ≡ length over.params →
        args_at table c (own_paths (class_of table c)) owner ≡ Some seen → args_in table row owner ≡ seen ++ method_paths (class_of table c) over
    args_are c m owner row over seen l e own same found =
        let h = there (headers_of table).rows c l in
        let few = params_few program table bodies written accepted m row h.0 e (ap (header_of (headers_of table)) own ∙ h.1) in
        let long = params_are c h.0 l h.1 in
        let size = length (class_of table c).params in
        let count : param_count (headers_of table) row.owner ≡ size =
        ap (λ o. option_map_or (λ (header : Header). as_number (length header.params)) o 0) (ap (header_of (headers_of table)) own ∙ h.1) ∙ omega (arith, few, long) in
        let made : ℕ → ℕ → ℕ → List Rpl = λ o k n. unwrap_or (args_at table o (checked_from 0 k) owner) [] ++ checked_from k n in
        let regions : as_number (length row.regions) ≡ length over.params = omega (arith, few, same) in
        ap (λ o. made o (param_count (headers_of table) row.owner) (as_number (length row.regions))) own
        ∙ ap (λ k. made c k (as_number (length row.regions))) count
        ∙ ap (made c size) regions
        ∙ ap (λ ps. unwrap_or (args_at table c ps owner) [] ++ checked_from size (length over.params)) (params_same 0 size (omega (arith, few, long)))
        ∙ ap (λ o. unwrap_or o [] ++ checked_from size (length over.params)) found
        ∙ ap (λ ps. seen ++ ps) (params_same size (length over.params) (omega (arith, few, long, same)))

    -- a member of the class itself that overrides one, which the class sees with these arguments
    seen_overriding : (c m n : ℕ) (row over : MethodRow) (seen : List Rpl) → c < class_count (headers_of table) → slice_get (methods_of table) m ≡ Some row → slice_get (methods_of table) n ≡ Some over → row.owner ≡ c → overridden_by table m ≡ Some n →
        args_at table c (own_paths (class_of table c)) over.owner ≡ Some seen → Above world c (own_paths (class_of table c)) over.owner seen → KeepsRow world c (class_of table c) n m
    seen_overriding c m n row over seen l e there_is own is found sees =
        let b = has_member program table bodies accepted program.names (program_uses_nd program) m row e in
        let d = has_member program table bodies accepted program.names (program_uses_nd program) n over there_is in
        inr (member_of row b.0, member_of over d.0, b.2, d.2, overrides b.0 d.0)
      where
        first : Fits (args_in table row over.owner) row over
        first = fits_there m n row over e there_is is

        overrides : (body above : PlainBody) → Overrides world c (class_of table c) (member_of row body) (member_of over above)
        overrides body above =
            let many : length row.regions ≡ length (member_of over above).params = first.as_many ∙ sym (length-map over.regions (λ (param : ParamRow). param.atomic)) in
            let f : Fits (seen ++ method_paths (class_of table c) (member_of over above)) row over =
            subst (λ z. Fits z row over) (args_are c m over.owner row (member_of over above) seen l e own many found) first in
            record { own = own; seen = seen; sees = sees; params = f.params; given = f.given; formals = f.formals; result = f.result; covered = f.covered }

    -- what it overrides stands in a class above
    overriding : (c m n : ℕ) (row : MethodRow) → c < class_count (headers_of table) → slice_get (methods_of table) m ≡ Some row → row.owner ≡ c → overridden_by table m ≡ Some n → KeepsRow world c (class_of table c) n m
    overriding c m n row l e own is =
        let o = over_is table known m n row e is in
        let w = named_is table known o.0 row.name n o.2 in
        by o.0 w.0 w.1 w.3.row (sym (parent_is table c) ∙ ap (parent_of (headers_of table)) (sym own) ∙ o.1) w.2 w.3.there (owner_of w.0 w.3.row w.3.own)
      where
        by : (parent class k : ℕ) (over : MethodRow) → entry_of parents c ≡ Some parent → up parents k parent ≡ Some class → slice_get (methods_of table) n ≡ Some over → over.owner ≡ class → KeepsRow world c (class_of table c) n m
        by parent class k over entry high there_is owner =
            let on : k + 1 ≡ suc k = omega arith in
            let higher : up parents (suc k) c ≡ Some over.owner =
            ap (λ j. up parents j c) (sym on) ∙ up-then parents k 1 c parent entry ∙ high ∙ ap Some (sym owner) in
            let a = args_found program table bodies accepted (suc k) c over.owner (own_paths (class_of table c)) higher in
            seen_overriding c m n row over a.0 l e there_is own is a.1 a.2

    rows_there : (c above r n : ℕ) → parent_of (headers_of table) c ≡ Some above → slice_get (members_in table above) r ≡ Some n →
        (m : ℕ) × (slice_get (members_in table c) r ≡ Some m) × KeepsRow world c (class_of table c) n m
    rows_there c above r n is e =
        let w = rows_kept program table accepted.rows c above r n is e in
        (w.0, w.1, by w.2 (kept_or_own program table bodies accepted c above r n w.0 is e w.1))
      where
        by : {m : ℕ} → (m ≡ n) ⊎ (overridden_by table m ≡ Some n) → (m ≡ n) ⊎ ((row : MethodRow) × (slice_get (methods_of table) m ≡ Some row) × (row.owner ≡ c)) → KeepsRow world c (class_of table c) n m
        by (inl same) q = inl same
        by (inr over) (inl same) = inl same
        by {m} (inr over) (inr own) = overriding c m n own.0 (lower_there program table bodies accepted c above is) own.1 own.2 over

    kept : (c above : ℕ) → parent_of (headers_of table) c ≡ Some above → KeepsSuper world rank c (class_of table c) (record { class = above; args = parent_args_of table c })
    kept c above is =
        let l = upper_there program table bodies accepted c above is in
        record {
          above = class_of table above;
          is = class_there program table bodies accepted above l;
          before = rank_up c above is;
          no_constructor = ap (λ k. option_map (λ (row : MethodRow). row.id) (constructor_of table k)) (number program table bodies accepted above l)
              ∙ ap (option_map (λ (row : MethodRow). row.id)) (extended_open program table bodies written accepted c above is);
          own_fields = map field_of (declared_fields table c);
          fields = fields_kept c above is;
          rows = λ r n e. rows_there c above r n is e;
        }

    kept_there : (c : ℕ) (k : PlainClass) (p : PlainParent) → class_at world c ≡ Some k → k.parent ≡ Some p → KeepsSuper world rank c k p
    kept_there c k p e h =
        let w = made_is (class_of table) (class_count (headers_of table)) c k e in
        let here = number program table bodies accepted c w.0 in
        let own : parent_at table c ≡ Some p = ap (parent_at table) (sym here) ∙ ap (λ (class : PlainClass). class.parent) w.1 ∙ h in
        let a = map_there (λ (above : ℕ). record { class = above; args = parent_args_of table c }) (parent_of (headers_of table) c) p own in
        subst (λ (q : PlainParent). KeepsSuper world rank c k q) a.2
        (subst (λ (z : PlainClass). KeepsSuper world rank c z (record { class = a.0; args = parent_args_of table c })) w.1 (kept c a.0 a.1))

pub accepted_inherits : AcceptedInherits
accepted_inherits program table bodies written accepted = record {
  rank = rank program table bodies written accepted;
  supers = kept_there program table bodies written accepted;
  rows = λ c k e.
      let w = made_is (class_of table) (class_count (headers_of table)) c k e in
      let stands : ℕ → Type 0 = RowIsThere (P program table bodies accepted) c in
      subst (λ (z : PlainClass). All stands z.rows) w.1 (all_from stands (members_in table c) (row_is_there program table bodies accepted c));
  constructors = λ c k e n h.
      let w = made_is (class_of table) (class_count (headers_of table)) c k e in
      constructor_is program table bodies written accepted c n
      (ap (λ j. option_map (λ (row : MethodRow). row.id) (constructor_of table j)) (sym (number program table bodies accepted c w.0)) ∙ ap (λ (z : PlainClass). z.constructor) w.1 ∙ h);
}
