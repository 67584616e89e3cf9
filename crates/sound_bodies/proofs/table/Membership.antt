-- A member of an accepted program: the method of the text that it is, the class in which that stands, and how its body was checked.
use Rattle.std.proofs.Common.{◌≡◌, ◌∙◌, ℕ, zero, suc, ◌+◌, ◌<◌, ◌≤◌, List, [], ◌∷◌, ◌++◌, map, length, Option, Some, None, Ok, refl, ap, sym, subst, arith}
use Rattle.std.proofs.lemmas.List.{length-map}
use Rattle.std.proofs.lemmas.Option.{slice_get_within}
use Rattle.std.specs.Option.{option_map_or}
use Rattle.std.specs.Prelude.{slice_get}
use Rattle.decl_headers.specs.declared.faults.Order.TheVariants as order
use Rattle.decl_headers.specs.declared.header.Header.{Header}
use Rattle.decl_headers.specs.Faults.{none_by}
use Rattle.decl_headers.specs.Gathered.{param_row, header_rows}
use Rattle.decl_headers.specs.Headers.{header_of, class_count}
use Rattle.decl_headers.specs.Numbers.{as_number}
use Rattle.syntax_tree.specs.declared.class.Class.{Class}
use Rattle.syntax_tree.specs.declared.class.Method.{Method}
use Rattle.syntax_tree.specs.declared.class.Program.{Program}
use Rattle.syntax_tree.specs.Nd.{program_uses_nd}
use Rattle.syntax_tree.specs.Size.{method_size}
use Rattle.decl_resolve.specs.Classes.{params_in}
use Rattle.lang_typed.specs.Plain.{PlainClass, PlainMember}
use Rattle.lang_typed.specs.Scope.{class_at, member_at}
use Rattle.body_assembly.specs.Assembled.{PlainBody, class_of, member_of}
use Rattle.decl_table.specs.declared.rows.MethodRow.{MethodRow}
use Rattle.decl_table.specs.declared.table.Table.{Table}
use Rattle.decl_classes.specs.Around.{class_scope}
use Rattle.decl_classes.specs.Build.{text_faults}
use Rattle.decl_table.specs.Plain.{PlainMethod, plain_method}
use Rattle.decl_classes.specs.Rows.{method_row, method_faults, all_constraint_faults, methods_meant, signature_faults}
use Rattle.decl_table.specs.Table.{headers_of, given_of, methods_of, numbered}
use Rattle.decl_laws.proofs.Granted.{granted}
use Rattle.body_exprs.specs.declared.env.Env.{Env}
use Rattle.body_exprs.specs.Env.{table_of, at_class, class_params}
use Rattle.body_check.specs.Methods.{own_params}
use Rattle.sound_lemmas.proofs.BodyRules.{MethodChecking, start_in, checks_in}
use Rattle.sound_lemmas.specs.Accepted.{IsAccepted}
use Rattle.sound_lemmas.proofs.Assembled.{is_member}
use Rattle.sound_lemmas.proofs.Free.{none_reported, append_none}
use Rattle.sound_lemmas.proofs.Lists.{some_same, got_mapped, made_is}
use Rattle.syntax_grammar.specs.Written.{IsWritten, MethodIsWritten}
use Rattle.sound_bodies.specs.Whole.{made_of, StandsAmong}
use Rattle.sound_bodies.proofs.table.Standing.{InClasses, all_made}

-- what is known of the member with a number, which has a body in the class that its row tells
pub record IsMember (program : Program) (table : Table) (start : Env) (n : ℕ) (m : PlainMember) (class : PlainClass) : Type 0 where
  pub row : MethodRow
  pub row_there : numbered table n ≡ Some row
  pub body : PlainBody
  pub is : member_of row body ≡ m
  pub method : Method
  pub number : ℕ
  pub stands : StandsAmong method n number program.classes 0 0
  pub row_is : plain_method row ≡ method_row (class_scope (headers_of table) table.given number) n method
  pub free : method_faults (class_scope (headers_of table) table.given number) method ≡ []
  pub written : MethodIsWritten method
  pub small : length (params_in (headers_of table) number) + method_size method ≤ 4294967295
  pub checked : MethodChecking (at_class start number) (class_params (table_of start) number ++ own_params (table_of start) n) n method (Ok body)
  pub class_params_are : class.params ≡ map (λ param. param.atomic) (params_in (headers_of table) number)
  pub class_given_is : class.given ≡ given_of table number

-- the region parameters of a class stand in its header
header_params : (parents : List (Option ℕ)) (fields : ℕ → ℕ) (at : ℕ) (classes : List Class) (i : ℕ) (class : Class) → slice_get classes i ≡ Some class →
    (header : Header) × (slice_get (header_rows parents fields at classes) i ≡ Some header) × (header.params ≡ map param_row class.params.list)
header_params parents fields at [] i class e = cc
header_params parents fields at (one ∷ classes) zero class e = (_, refl, ap (λ (k : Class). map param_row k.params.list) (some_same e))
header_params parents fields at (one ∷ classes) (suc i) class e = header_params parents fields (at + 1) classes i class e

params_mapped : (o : Option Header) → option_map_or (λ header. map (λ param. param.atomic) header.params) o [] ≡ map (λ param. param.atomic) (option_map_or (λ header. header.params) o [])
params_mapped None = refl
params_mapped (Some header) = refl

module _ (program : Program) (table : Table) (bodies : List PlainBody) (written : IsWritten program) (accepted : IsAccepted program table bodies)
  where
    abbrev start : Env
    start = start_in program table

    signatures_free : signature_faults (headers_of table) table.given 0 program.classes ≡ []
    signatures_free =
        let read = (granted accepted.rows).read in
        let all = none_reported (none_by order.Place) (text_faults (headers_of table) program.classes) read.free in
        let w = append_none (all_constraint_faults (headers_of table) 0 program.classes) _ all in
        subst (λ given. signature_faults (headers_of table) given 0 program.classes ≡ []) (sym read.given) w.1

    params_few : (number : ℕ) (text : Class) → slice_get program.classes number ≡ Some text → length (params_in (headers_of table) number) ≡ length text.params.list
    params_few number text e =
        let w = header_params _ _ 0 program.classes number text e in
        ap (λ headers. length (params_in headers number)) (granted accepted.rows).headers
        ∙ ap (λ o. length (option_map_or (λ (header : Header). header.params) o [])) w.1 ∙ ap length w.2 ∙ length-map text.params.list param_row

    of_row : (n : ℕ) (row : MethodRow) (body : PlainBody) (class : PlainClass) → slice_get (methods_of table) n ≡ Some row → slice_get bodies n ≡ Some body →
        class_at (made_of program table bodies) row.owner ≡ Some class → IsMember program table start n (member_of row body) class
    of_row n row body class there body_there class_there = record {
      row = row;
      row_there = there;
      body = body;
      is = refl;
      method = s.method;
      number = s.class;
      stands = s.stands;
      row_is = row_is;
      free = subst (λ k. method_faults (class_scope (headers_of table) table.given k) s.method ≡ []) class_so s.free;
      written = s.written;
      small = (let less = s.small in let all = written.small in let few = params_few s.class s.text text_there in omega (arith, less, all, few));
      checked = subst (λ k. MethodChecking (at_class start s.class) (class_params (table_of start) s.class ++ own_params (table_of start) k) k s.method (Ok body)) number_so
          (subst (λ k. MethodChecking (at_class start k) (class_params (table_of start) k ++ own_params (table_of start) (as_number n)) (as_number n) s.method (Ok body)) class_so s.checked);
      class_params_are = ap (λ (k : PlainClass). k.params) (sym c.1) ∙ params_mapped (header_of (headers_of table) (as_number row.owner)) ∙ ap (λ k. map (λ param. param.atomic) (params_in (headers_of table) k)) owner_so;
      class_given_is = ap (λ (k : PlainClass). k.given) (sym c.1) ∙ ap (given_of table) owner_so;
    }
      where
        s : InClasses start (headers_of table) table.given program.classes 0 0 n body
        s =
            let none : 0 ≡ as_number 0 = refl in
            let on : n ≡ 0 + n = omega arith in
            all_made start (headers_of table) table.given 0 none written.classes signatures_free (checks_in program table accepted.checked) n n body on body_there

        text_there : slice_get program.classes s.class ≡ Some s.text
        text_there = let at = s.class_at in let same : s.class_place ≡ s.class = omega (arith, at) in subst (λ k. slice_get program.classes k ≡ Some s.text) same s.class_there

        class_so : as_number s.class ≡ s.class
        class_so = let l = slice_get_within program.classes s.class s.text text_there in let few = accepted.rows.counted.0 in omega (arith, l, few)

        number_so : as_number n ≡ n
        number_so = let l = slice_get_within (methods_of table) n row there in let few = accepted.rows.few in omega (arith, l, few)

        row_is : plain_method row ≡ method_row (class_scope (headers_of table) table.given s.class) n s.method
        row_is =
            let at = s.place_at in
            let same : s.place ≡ n = omega (arith, at) in
            some_same (sym (got_mapped plain_method (methods_of table) n row there) ∙ ap (λ rows. slice_get rows n) (granted accepted.rows).read.methods
            ∙ subst (λ k. slice_get (methods_meant (headers_of table) table.given 0 0 program.classes) k ≡ Some (method_row (class_scope (headers_of table) table.given (as_number s.class)) (as_number n) s.method)) same s.row)
            ∙ ap (λ k. method_row (class_scope (headers_of table) table.given k) (as_number n) s.method) class_so
            ∙ ap (λ k. method_row (class_scope (headers_of table) table.given s.class) k s.method) number_so

        owner_is : row.owner ≡ s.class
        owner_is = ap (λ (r : PlainMethod). r.owner) row_is

        owner_so : as_number row.owner ≡ s.class
        owner_so = ap as_number owner_is ∙ class_so

        c : (row.owner < class_count (headers_of table)) × (class_of table row.owner ≡ class)
        c = made_is (class_of table) (class_count (headers_of table)) row.owner class class_there

    pub member_of_text : (n : ℕ) (m : PlainMember) (class : PlainClass) → member_at (made_of program table bodies) n ≡ Some m → class_at (made_of program table bodies) m.class ≡ Some class →
        IsMember program table start n m class
    member_of_text n m class there class_there =
        let w = is_member program table bodies accepted program.names (program_uses_nd program) n m there in
        subst (λ k. IsMember program table start n k class) w.is
        (of_row n w.row w.body class w.row_there w.body_there (subst (λ (k : PlainMember). class_at (made_of program table bodies) k.class ≡ Some class) (sym w.is) class_there))
