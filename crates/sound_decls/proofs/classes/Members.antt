-- Members of an accepted program: their signatures are well formed. With their classes, so is all that is declared.
use Rattle.std.proofs.Common.{◌≡◌, ◌∙◌, ◌⊎◌, ℕ, suc, ◌+◌, ◌≤◌, Bool, List, [], ◌∷◌, ◌++◌, All, map, length, get_or, sum_by, slice_get, Some, refl, sym, ap, subst, arith}
use Rattle.std.proofs.lemmas.List.{length-map}
use Rattle.std.proofs.lemmas.Option.{none-some, slice_get-get_or, slice_get_within}
use Rattle.lang_base.specs.declared.effect.Effect.{Effect}
use Rattle.lang_base.specs.Types.{void}
use Rattle.decl_headers.specs.declared.header.Headers.{Headers}
use Rattle.decl_headers.specs.declared.header.ParamRow.{ParamRow}
use Rattle.decl_headers.specs.Gathered.{param_row}
use Rattle.syntax_tree.specs.Nd.{program_uses_nd}
use Rattle.syntax_tree.specs.declared.class.Class.{Class}
use Rattle.syntax_tree.specs.declared.class.Formal.{Formal}
use Rattle.syntax_tree.specs.declared.class.Member.TheVariants as member
use Rattle.syntax_tree.specs.declared.class.MethodResult.{MethodResult}
use Rattle.syntax_tree.specs.declared.class.MethodResult.TheVariants as outcome
use Rattle.syntax_tree.specs.declared.class.Program.{Program}
use Rattle.syntax_tree.specs.declared.region.ParamTree.{ParamTree}
use Rattle.syntax_tree.specs.declared.region.TypeTree.{TypeTree}
use Rattle.syntax_tree.specs.Size.{type_size, result_size, method_size}
use Rattle.decl_resolve.specs.Classes.{params_in, constraints_in}
use Rattle.decl_resolve.specs.Scoped.{values_in}
use Rattle.decl_resolve.specs.Scopes.{PlainScope}
use Rattle.decl_table.specs.declared.rows.MethodRow.{MethodRow}
use Rattle.decl_table.specs.declared.table.Table.{Table}
use Rattle.decl_classes.specs.Around.{param_names}
use Rattle.decl_classes.specs.Around.{class_scope as text_scope}
use Rattle.decl_table.specs.Plain.{PlainMethod, plain_method}
use Rattle.decl_classes.specs.Rows.{method_scope, method_given, said_scope, said_faults}
use Rattle.decl_classes.specs.Signatures.{constraints_faults, formal_faults, result_faults, summary_faults}
use Rattle.decl_table.specs.Table.{headers_of, methods_of}
use Rattle.decl_laws.proofs.Granted.{granted}
use Rattle.lang_typed.specs.Plain.{PlainClass, PlainMember}
use Rattle.lang_typed.specs.Scope.{class_at, member_at}
use Rattle.lang_typed.specs.Table.{GoodConstraint, member_scope}
use Rattle.lang_typed.specs.Types.{GoodPath, GoodType}
use Rattle.body_assembly.specs.Assembled.{PlainBody, class_of, member_of, program_of}
use Rattle.syntax_grammar.specs.Written.{IsWritten}
use Rattle.sound_lemmas.specs.Accepted.{IsAccepted}
use Rattle.sound_lemmas.proofs.Assembled.{is_member}
use Rattle.sound_lemmas.proofs.Free.{append_none}
use Rattle.sound_lemmas.proofs.Lists.{some_same, got_mapped}
use Rattle.sound_decls.specs.Laws.{GoodSignature, AcceptedIsDeclared}
use Rattle.sound_decls.proofs.written.Around.{Surrounds, surrounds_mean, param_values, formal_barred}
use Rattle.sound_decls.proofs.classes.Classes.{ClassText, class_text, class_there, named_mean, plain_number, member_free, member_small, constraints_moved, short_type, given_good, parents_good, fields_good}
use Rattle.sound_decls.proofs.written.Signs.{Short, constraints_good, summary_good, formals_good, result_good}
use Rattle.sound_decls.proofs.table.Text.{counted_in, MethodRead, method_text}

-- whether region parameters are atomic, in the text and in rows
rows_atomic : (params : List ParamTree) → map (λ (param : ParamRow). param.atomic) (map param_row params) ≡ map (λ (param : ParamTree). param.atomic) params
rows_atomic [] = refl
rows_atomic (param ∷ params) = ap (λ z. param.atomic ∷ z) (rows_atomic params)

short_formals : (formals : List Formal) → sum_by (λ (formal : Formal). suc (type_size formal.ty)) formals ≤ 4294967295 → All (λ (formal : Formal). Short formal.ty) formals
short_formals formals small = λ i d l.
    let s = counted_in (λ (formal : Formal). suc (type_size formal.ty)) formals i (get_or formals i d) (slice_get-get_or formals i d l) in
    short_type (get_or formals i d).ty (omega (arith, s, small))

short_result : (r : MethodResult) → result_size r ≤ 4294967295 → (tree : TypeTree) → r ≡ outcome.Value tree → Short tree
short_result r small tree is = let same = ap result_size is in short_type tree (omega (arith, small, same))

module _ (program : Program) (table : Table) (bodies : List PlainBody) (written : IsWritten program) (accepted : IsAccepted program table bodies) (uses_nd : Bool)
  where
    abbrev headers : Headers
    headers = headers_of table

    -- a method of a class in the text, and its row
    module _ (number : ℕ) (k : PlainClass) (is_class : class_at (program_of table program.names uses_nd bodies) number ≡ Some k) (text : ClassText program table bodies written accepted uses_nd number k) (row : MethodRow) (body : PlainBody)
        (read : MethodRead text.class.members (text_scope headers table.given number) (plain_method row))
      where
        abbrev scope : PlainScope
        scope = text_scope headers table.given number

        abbrev m : PlainMember
        m = member_of row body

        small : length text.class.params.list + method_size read.method ≤ 4294967295
        small = member_small program table bodies written accepted uses_nd number k text read.place (member.Method read.method) read.there

        regions_are : row.regions ≡ map param_row read.method.params.list
        regions_are = ap (λ (r : PlainMethod). r.regions) read.is

        given_are : row.given ≡ method_given scope read.method
        given_are = ap (λ (r : PlainMethod). r.given) read.is

        params_are : k.params ++ map (λ (param : ParamRow). param.atomic) row.regions ≡ map (λ (param : ParamRow). param.atomic) (params_in headers number) ++ values_in (param_names read.method.params.list)
        params_are =
            ap (λ z. z ++ map (λ (param : ParamRow). param.atomic) row.regions) text.params
            ∙ ap (λ z. map (λ (param : ParamRow). param.atomic) (params_in headers number) ++ z) (ap (map (λ (param : ParamRow). param.atomic)) regions_are ∙ rows_atomic read.method.params.list ∙ sym (param_values read.method.params.list))

        few : length (params_in headers number) + length (values_in (param_names read.method.params.list)) ≤ 4294967295
        few =
            let own = ap length text.declared ∙ length-map text.class.params.list param_row in
            let more = ap length (param_values read.method.params.list) ∙ length-map read.method.params.list (λ (param : ParamTree). param.atomic) in
            omega (arith, own, more, small)

        around_constraints : Surrounds (program_of table program.names uses_nd bodies) (record (member_scope k m) { given = k.given }) (method_scope scope read.method)
        around_constraints = record {
          names = refl;
          params = params_are;
          few = few;
          variables = formal_barred read.method.formals;
          regions = λ name number e. none-some number e;
          given = text.given;
        }

        around_rest : Surrounds (program_of table program.names uses_nd bodies) (member_scope k m) (said_scope scope read.method)
        around_rest = record {
          names = refl;
          params = params_are;
          few = few;
          variables = formal_barred read.method.formals;
          regions = λ name number e. none-some number e;
          given = ap (λ z. z ++ row.given) text.given ∙ ap (λ z. constraints_in table.given number ++ z) given_are;
        }

        signature : GoodSignature (program_of table program.names uses_nd bodies) (record m { class = number })
        signature =
            let P = program_of table program.names uses_nd bodies in
            let L = member_scope k m in
            let method = read.method in
            let means = surrounds_mean P L (said_scope scope method) around_rest in
            let classes = named_mean program table bodies written accepted uses_nd (said_scope scope method) refl refl in
            let free = member_free program table bodies written accepted uses_nd number k text read.place (member.Method method) read.there in
            let f = append_none (constraints_faults (method_scope scope method) method.params.given) (said_faults (said_scope scope method) method) free in
            let g = append_none (formal_faults (said_scope scope method) method.formals ++ result_faults (said_scope scope method) method.result) (summary_faults (said_scope scope method) method.summary) f.1 in
            let h = append_none (formal_faults (said_scope scope method) method.formals) (result_faults (said_scope scope method) method.result) g.0 in
            record {
              class = k;
              is = is_class;
              given = subst (All (GoodConstraint P L)) (sym given_are)
                  (constraints_moved P (record L { given = k.given }) L refl refl (method_given scope method)
                  (constraints_good P (record L { given = k.given }) (method_scope scope method) (surrounds_mean P (record L { given = k.given }) (method_scope scope method) around_constraints) (λ r. refl) method.params.given));
              formals = subst (All (GoodType P L 0)) (sym (ap (λ (r : PlainMethod). r.params) read.is))
                  (formals_good P L (said_scope scope method) means (λ r. refl) classes method.formals (short_formals method.formals (omega (arith, small))) h.0);
              result = subst (λ t. (t ≡ void) ⊎ GoodType P L 0 t) (sym (ap (λ (r : PlainMethod). r.result) read.is))
                  (result_good P L (said_scope scope method) means (λ r. refl) classes method.result (short_result method.result (omega (arith, small))) h.1);
              summary = subst (All (λ (e : Effect). GoodPath P L 0 e.rpl)) (sym (ap (λ (r : PlainMethod). r.summary) read.is)) (summary_good P L (said_scope scope method) means (λ r. refl) method.summary);
            }

    -- the class of the text in which a row stands
    row_signed : (n : ℕ) (class : Class) → slice_get program.classes n ≡ Some class → (row : MethodRow) (body : PlainBody) → MethodRead class.members (text_scope headers table.given n) (plain_method row) →
        GoodSignature (program_of table program.names uses_nd bodies) (member_of row body)
    row_signed n class stands row body read =
        let there = class_there program table bodies written accepted uses_nd n (slice_get_within program.classes n class stands) in
        let text = class_text program table bodies written accepted uses_nd n (class_of table n) there in
        let same : class ≡ text.class = some_same (sym stands ∙ text.stands) in
        let owner : n ≡ row.owner = ap (λ (r : PlainMethod). r.owner) (sym read.is) in
        subst (λ z. GoodSignature (program_of table program.names uses_nd bodies) (record (member_of row body) { class = z })) owner
        (signature n (class_of table n) there text row body (subst (λ (z : Class). MethodRead z.members (text_scope headers table.given n) (plain_method row)) same read))

    pub members_good : (n : ℕ) (m : PlainMember) → member_at (program_of table program.names uses_nd bodies) n ≡ Some m → GoodSignature (program_of table program.names uses_nd bodies) m
    members_good n m e =
        let one = is_member program table bodies accepted program.names uses_nd n m e in
        let w = method_text headers table.given 0 0 program.classes n (plain_method one.row)
        (ap (λ z. slice_get z n) (sym (granted accepted.rows).read.methods) ∙ got_mapped plain_method (methods_of table) n one.row one.row_there) in
        let number = plain_number program table bodies written accepted uses_nd w.number (slice_get_within program.classes w.number w.class w.stands) in
        subst (GoodSignature (program_of table program.names uses_nd bodies)) one.is
        (row_signed w.number w.class w.stands one.row one.body (subst (λ z. MethodRead w.class.members (text_scope headers table.given z) (plain_method one.row)) number w.read))

pub accepted_declared : AcceptedIsDeclared
accepted_declared program table bodies written accepted =
    let uses_nd = program_uses_nd program in
    record {
      given = given_good program table bodies written accepted uses_nd;
      parents = parents_good program table bodies written accepted uses_nd;
      fields = fields_good program table bodies written accepted uses_nd;
      members = members_good program table bodies written accepted uses_nd;
    }
