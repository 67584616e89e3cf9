-- What the table of an accepted program says of classes and methods, by the text.
use Rattle.std.proofs.Common.{◌≡◌, ◌∙◌, ℕ, zero, suc, ◌+◌, true, List, [], ◌∷◌, map, Option, Some, refl, ap, sym, arith}
use Rattle.std.specs.Option.{option_map_or}
use Rattle.std.specs.Prelude.{slice_get}
use Rattle.lang_base.specs.Types.{plain_type, void}
use Rattle.decl_headers.specs.declared.header.Header.{Header}
use Rattle.decl_headers.specs.declared.header.Headers.{Headers}
use Rattle.decl_headers.specs.First.{parents_in}
use Rattle.decl_headers.specs.Gathered.{header_row, header_rows, object_fields, param_row}
use Rattle.decl_headers.specs.Headers.{header_of}
use Rattle.decl_headers.specs.Numbers.{as_number}
use Rattle.decl_headers.specs.Passes.{is_constructor_result}
use Rattle.decl_resolve.specs.Scopes.{PlainScope}
use Rattle.syntax_tree.specs.declared.class.Class.{Class}
use Rattle.syntax_tree.specs.declared.class.MethodResult.{MethodResult}
use Rattle.syntax_tree.specs.declared.class.MethodResult.TheVariants as outcome
use Rattle.syntax_tree.specs.declared.class.Program.{Program}
use Rattle.syntax_tree.specs.declared.region.Params.{Params}
use Rattle.decl_table.specs.declared.rows.MethodRow.{MethodRow}
use Rattle.decl_table.specs.declared.table.Table.{Table}
use Rattle.decl_classes.specs.Around.{class_scope}
use Rattle.decl_table.specs.Plain.{PlainMethod, plain_method}
use Rattle.decl_classes.specs.Rows.{said_scope, method_scope, all_constraints}
use Rattle.decl_classes.specs.Signatures.{constraints_meant, result_type}
use Rattle.decl_table.specs.Table.{headers_of, methods_of, given_of, all_given}
use Rattle.decl_laws.proofs.Granted.{granted}
use Rattle.body_assembly.specs.Assembled.{PlainBody}
use Rattle.sound_lemmas.specs.Accepted.{IsAccepted}
use Rattle.sound_lemmas.proofs.Lists.{some_same, got_mapped}
use Rattle.syntax_grammar.specs.Written.{IsWritten, ClassIsWritten, MemberIsWritten, MethodIsWritten, HasFront}
use Rattle.sound_decls.proofs.table.RowSources.{Comes, row_comes, all_at}

map_none : {A B : Type 0} (f : A → B) (xs : List A) → map f xs ≡ [] → xs ≡ []
map_none f [] e = refl
map_none f (x ∷ xs) e = cc

-- the class of a header
header_comes : (parents : List (Option ℕ)) (fields : ℕ → ℕ) (at : ℕ) (classes : List Class) (i : ℕ) (header : Header) → slice_get (header_rows parents fields at classes) i ≡ Some header →
    (class : Class) × (slice_get classes i ≡ Some class) × (header ≡ header_row parents fields (at + i) class)
header_comes parents fields at [] i header e = cc
header_comes parents fields at (class ∷ classes) zero header e =
    let here : at ≡ at + 0 = omega arith in
    (class, refl, sym (some_same e) ∙ ap (λ k. header_row parents fields k class) here)
header_comes parents fields at (class ∷ classes) (suc i) header e =
    let w = header_comes parents fields (at + 1) classes i header e in
    let next : at + 1 + i ≡ at + suc i = omega arith in
    (w.0, w.1, w.2 ∙ ap (λ k. header_row parents fields k w.0) next)

given_comes : (headers : Headers) (at : ℕ) (classes : List Class) (i : ℕ) (class : Class) → slice_get classes i ≡ Some class →
    slice_get (all_constraints headers at classes) i ≡ Some (constraints_meant (class_scope headers [] (as_number (at + i))) class.params.given)
given_comes headers at [] i class e = cc
given_comes headers at (one ∷ classes) zero class e =
    let here : at ≡ at + 0 = omega arith in
    ap (λ (c : Class). Some (constraints_meant (class_scope headers [] (as_number at)) c.params.given)) (some_same e)
    ∙ ap (λ k. Some (constraints_meant (class_scope headers [] (as_number k)) class.params.given)) here
given_comes headers at (one ∷ classes) (suc i) class e =
    let next : at + 1 + i ≡ at + suc i = omega arith in
    given_comes headers (at + 1) classes i class e
    ∙ ap (λ k. Some (constraints_meant (class_scope headers [] (as_number k)) class.params.given)) next

-- a constructor has no region parameters and gives nothing
front_none : (scope : PlainScope) (r : MethodResult) (params : Params) → HasFront r params → is_constructor_result r ≡ true → (params.list ≡ []) × (result_type scope r ≡ void)
front_none scope outcome.Constructor params front is = (front, refl)
front_none scope outcome.Void params front is = cc
front_none scope (outcome.Value tree) params front is = cc

-- the class of a header in the text
pub record OfClass (program : Program) (at : ℕ) (header : Header) : Type 0 where
  pub class : Class
  pub stands : slice_get program.classes at ≡ Some class
  pub params : header.params ≡ map param_row class.params.list
  pub is_written : ClassIsWritten class

-- what the row of a constructor has not
pub record Constructs (row : MethodRow) : Type 0 where
  pub regions : row.regions ≡ []
  pub given : row.given ≡ []
  pub result : plain_type row.result ≡ void

module _ (program : Program) (table : Table) (bodies : List PlainBody) (written : IsWritten program) (accepted : IsAccepted program table bodies)
  where
    pub of_header : (at : ℕ) (header : Header) → header_of (headers_of table) at ≡ Some header → OfClass program at header
    of_header at header e =
        let parents = parents_in program.classes in
        let w = header_comes parents (object_fields program.classes parents) 0 program.classes at header (ap (λ (h : Headers). slice_get h.rows at) (sym (granted accepted.rows).headers) ∙ e) in
        record { class = w.0; stands = w.1; params = ap (λ (h : Header). h.params) w.2; is_written = all_at ClassIsWritten program.classes at w.0 written.classes w.1 }

    -- a class without region parameters has no constraints
    pub none_of_class : (at : ℕ) (header : Header) → header_of (headers_of table) at ≡ Some header → header.params ≡ [] → given_of table at ≡ []
    none_of_class at header e none =
        let w = of_header at header e in
        let list = map_none param_row w.class.params.list (sym w.params ∙ none) in
        let given = w.is_written.params list in
        let scope = class_scope (headers_of table) [] (as_number (0 + at)) in
        ap (λ all. option_map_or (λ given. given) (slice_get all at) []) (granted accepted.rows).read.given
        ∙ ap (λ o. option_map_or (λ given. given) o []) (given_comes (headers_of table) 0 program.classes at w.class w.stands)
        ∙ ap (constraints_meant scope) given

    pub comes : (i : ℕ) (row : MethodRow) → slice_get (methods_of table) i ≡ Some row → Comes program.classes 0 (plain_method row)
    comes i row e =
        row_comes (headers_of table) (all_given table) 0 0 program.classes i (plain_method row)
        (ap (λ rows. slice_get rows i) (sym (granted accepted.rows).read.methods) ∙ got_mapped plain_method (methods_of table) i row e)

    row_written : (i : ℕ) (row : MethodRow) (e : slice_get (methods_of table) i ≡ Some row) → MethodIsWritten (comes i row e).method
    row_written i row e =
        let w = comes i row e in
        let c : ClassIsWritten w.class = all_at ClassIsWritten program.classes w.place w.class written.classes w.stands in
        all_at MemberIsWritten w.class.members w.spot _ c.members w.declared

    -- nor has a member
    pub none_of_member : (i : ℕ) (row : MethodRow) → slice_get (methods_of table) i ≡ Some row → row.regions ≡ [] → row.given ≡ []
    none_of_member i row e none =
        let w = comes i row e in
        let m = row_written i row e in
        let list = map_none param_row w.method.params.list (sym (ap (λ (r : PlainMethod). r.regions) w.is) ∙ none) in
        ap (λ (r : PlainMethod). r.given) w.is ∙ ap (constraints_meant (method_scope w.scope w.method)) (m.params list)

    pub constructs : (i : ℕ) (row : MethodRow) → slice_get (methods_of table) i ≡ Some row → row.is_constructor ≡ true → Constructs row
    constructs i row e is =
        let w = comes i row e in
        let m = row_written i row e in
        let f = front_none (said_scope w.scope w.method) w.method.result w.method.params m.front (sym (ap (λ (r : PlainMethod). r.is_constructor) w.is) ∙ is) in
        let regions : row.regions ≡ [] = ap (λ (r : PlainMethod). r.regions) w.is ∙ ap (map param_row) f.0 in
        record { regions = regions; given = none_of_member i row e regions; result = ap (λ (r : PlainMethod). r.result) w.is ∙ f.1 }
