-- The table that is made is that of the program.
use Rattle.std.proofs.Common.{◌≡◌, ◌∙◌, ℕ, List, [], map, length, Option, None, Some, Result, Ok, Err, sym, ap}
use Rattle.lang_base.specs.declared.effect.Constraint.{Constraint}
use Rattle.lang_base.specs.declared.refusal.Refusal.{Refusal}
use Rattle.lang_base.specs.declared.ty.Super.{Super}
use Rattle.syntax_tree.specs.declared.class.Program.{Program}
use Rattle.decl_headers.specs.declared.header.Headers.{Headers}
use Rattle.decl_headers.specs.First.{first_faults, parents_in}
use Rattle.decl_headers.specs.Gathered.{headers_in, check_headers}
use Rattle.decl_headers.specs.Headers.{parents_of}
use Rattle.decl_headers.specs.Passes.{first_of, refused_or}
use Rattle.decl_headers.specs.Second.{AreCounted, second_faults}
use Rattle.decl_headers.proofs.Gathered.{went_on}
use Rattle.decl_table.specs.declared.rows.FieldRow.{FieldRow}
use Rattle.decl_table.specs.declared.rows.MethodRow.{MethodRow}
use Rattle.decl_table.specs.declared.table.Table.{Table}
use Rattle.decl_table.specs.Plain.{plain_super, plain_field, plain_method}
use Rattle.decl_table.specs.RowNumbers.{rows_on_way}
use Rattle.decl_table.specs.Visible.{overridden_on_way}
use Rattle.decl_classes.specs.Build.{text_faults, table_faults, check_table}
use Rattle.decl_classes.specs.Rows.{all_constraints, supers_meant, fields_meant, methods_meant}
use Rattle.decl_classes.specs.Tables.{super_of, field_of, method_of, overriding_table, numbered_table, table_of}
use Rattle.decl_classes.proofs.Back.{supers_back, fields_back, methods_back}
use Rattle.decl_classes.proofs.Overrides.{finds_overridden}

-- a table of which nothing is said of what forks
abbrev pub of_parts : Headers → List (List Constraint) → List Super → List FieldRow → List MethodRow → List (Option ℕ) → List ℕ → Table
of_parts headers given supers fields methods overrides rows = record { headers = headers; given = given; supers = supers; fields = fields; methods = methods; overrides = overrides; rows = rows; forks = [] }

-- what is read of a program, with what is found on the way through its classes
pub record IsRead (program : Program) (headers : Headers) (given : List (List Constraint)) (supers : List Super) (fields : List FieldRow) (methods : List MethodRow) (overrides : List (Option ℕ)) (rows : List ℕ) : Type 0 where
  pub headers_are : headers ≡ headers_in program
  pub given_is : given ≡ all_constraints headers 0 program.classes
  pub supers_are : map plain_super supers ≡ supers_meant headers (all_constraints headers 0 program.classes) 0 program.classes
  pub fields_are : map plain_field fields ≡ fields_meant headers (all_constraints headers 0 program.classes) 0 program.classes
  pub methods_are : map plain_method methods ≡ methods_meant headers (all_constraints headers 0 program.classes) 0 0 program.classes
  pub overrides_are : overrides ≡ overridden_on_way (parents_of headers) methods (length program.names)
  pub rows_are : rows ≡ rows_on_way headers methods overrides

pub numbered_is : (program : Program) (headers : Headers) (given : List (List Constraint)) (supers : List Super) (fields : List FieldRow) (methods : List MethodRow) (overrides : List (Option ℕ)) (rows : List ℕ)
    → AreCounted (length program.names) program.classes → first_of (first_faults program.classes) ≡ None → IsRead program headers given supers fields methods overrides rows → of_parts headers given supers fields methods overrides rows ≡ numbered_table program
numbered_is program headers given supers fields methods overrides rows counted first is =
    ap (of_parts headers given supers fields methods overrides) is.rows_are
    ∙ ap (λ os. of_parts headers given supers fields methods os (rows_on_way headers methods os)) is.overrides_are
    ∙ ap (λ ss. with_all headers given ss fields methods) (sym (supers_back supers) ∙ ap (map super_of) is.supers_are)
    ∙ ap (λ fs. with_all headers given (map super_of (supers_meant headers own 0 program.classes)) fs methods) (sym (fields_back fields) ∙ ap (map field_of) is.fields_are)
    ∙ ap (with_all headers given (map super_of (supers_meant headers own 0 program.classes)) (map field_of (fields_meant headers own 0 program.classes))) (sym (methods_back methods) ∙ ap (map method_of) is.methods_are)
    ∙ ap (λ all. with_all headers all (map super_of (supers_meant headers own 0 program.classes)) (map field_of (fields_meant headers own 0 program.classes)) (map method_of (methods_meant headers own 0 0 program.classes))) is.given_is
    ∙ ap over is.headers_are
    ∙ ap (λ os. record (overriding_table program) { overrides = os; rows = rows_on_way (headers_in program) (overriding_table program).methods os }) (finds_overridden program counted first)
  where
    own : List (List Constraint)
    own = all_constraints headers 0 program.classes

    with_all : Headers → List (List Constraint) → List Super → List FieldRow → List MethodRow → Table
    with_all hs all ss fs ms =
        let os = overridden_on_way (parents_of hs) ms (length program.names) in
        of_parts hs all ss fs ms os (rows_on_way hs ms os)

    over : Headers → Table
    over hs =
        let all = all_constraints hs 0 program.classes in
        with_all hs all (map super_of (supers_meant hs all 0 program.classes)) (map field_of (fields_meant hs all 0 program.classes)) (map method_of (methods_meant hs all 0 0 program.classes))

-- what the four passes answer, one after the other
pub named : (program : Program) (headers : Headers) → check_headers program ≡ Ok headers → (first_of (first_faults program.classes) ≡ None) × (first_of (second_faults program.classes (parents_in program.classes)) ≡ None) × (headers ≡ headers_in program)
named program headers h =
    let a = went_on (first_of (first_faults program.classes)) _ headers h in
    let b = went_on (first_of (second_faults program.classes (parents_in program.classes))) _ headers a.1 in
    let same : headers_in program ≡ headers = cc b.1 in
    (a.0, b.0, sym same)

refused_early : {T U : Type 0} (first second : Option Refusal) (made : T) (next : Result U Refusal) (fault : Refusal) → refused_or first (refused_or second (Ok made)) ≡ Err fault → refused_or first (refused_or second next) ≡ Err fault
refused_early None None made next fault h = cc
refused_early None (Some one) made next fault h = let same : one ≡ fault = cc in ap Err same
refused_early (Some one) second made next fault h = let same : one ≡ fault = cc in ap Err same

pub refused_by_names : (program : Program) (fault : Refusal) → check_headers program ≡ Err fault → check_table program ≡ Err fault
refused_by_names program fault h =
    refused_early (first_of (first_faults program.classes)) (first_of (second_faults program.classes (parents_in program.classes))) (headers_in program)
    (refused_or (first_of (text_faults (headers_in program) program.classes)) (refused_or (first_of (table_faults (table_of program) program.names)) (Ok (table_of program)))) fault h

pub answered : (program : Program) (text whole : Option Refusal) → first_of (first_faults program.classes) ≡ None → first_of (second_faults program.classes (parents_in program.classes)) ≡ None →
    first_of (text_faults (headers_in program) program.classes) ≡ text → first_of (table_faults (table_of program) program.names) ≡ whole → check_table program ≡ refused_or text (refused_or whole (Ok (table_of program)))
answered program text whole first second t w =
    ap (λ found. refused_or found (refused_or (first_of (second_faults program.classes (parents_in program.classes))) of_text)) first
    ∙ ap (λ found. refused_or found of_text) second
    ∙ ap (λ found. refused_or found (refused_or (first_of (table_faults (table_of program) program.names)) (Ok (table_of program)))) t
    ∙ ap (λ found. refused_or text (refused_or found (Ok (table_of program)))) w
  where
    of_text : Result Table Refusal
    of_text = refused_or (first_of (text_faults (headers_in program) program.classes)) (refused_or (first_of (table_faults (table_of program) program.names)) (Ok (table_of program)))
