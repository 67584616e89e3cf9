-- Each method and constructor of an accepted program is what its text means.
use Rattle.std.proofs.Common.{◌≡◌, ◌∙◌, ℕ, suc, ◌+◌, ◌≤◌, List, [], ◌∷◌, ◌++◌, All, map, length, get_or, flat_map, sum_by, Some, refl, sym, ap, subst, arith}
use Rattle.std.proofs.lemmas.List.{length-append, length-map}
use Rattle.std.proofs.lemmas.Option.{slice_get-get_or, slice_get_within}
use Rattle.std.specs.List.{AllZip}
use Rattle.std.specs.Prelude.{slice_get}
use Rattle.syntax_tree.specs.declared.class.Class.{Class}
use Rattle.syntax_tree.specs.declared.class.Formal.{Formal}
use Rattle.syntax_tree.specs.declared.class.Member.{Member}
use Rattle.syntax_tree.specs.declared.class.Member.TheVariants as member
use Rattle.syntax_tree.specs.declared.class.Method.{Method}
use Rattle.syntax_tree.specs.declared.class.MethodResult.{MethodResult}
use Rattle.syntax_tree.specs.declared.class.MethodResult.TheVariants as outcome
use Rattle.syntax_tree.specs.declared.class.Program.{Program}
use Rattle.syntax_tree.specs.declared.region.ParamTree.{ParamTree}
use Rattle.syntax_tree.specs.declared.region.TypeTree.{TypeTree}
use Rattle.syntax_tree.specs.Nd.{program_uses_nd}
use Rattle.syntax_tree.specs.Size.{type_size, result_size}
use Rattle.syntax_tree.specs.Plain.{plain_stmt, plain_stmts}
use Rattle.syntax_means.specs.Bodies.{AllMean}
use Rattle.syntax_means.specs.Declares.{OwnMethod, member_methods, methods_from, all_methods}
use Rattle.syntax_means.specs.Means.{ConstraintMeans, MemberMeans, ResultMeans, SummaryMeans, in_class, in_method}
use Rattle.syntax_means.specs.Numbered.{Counts, given_in_all, own_regions, own_slots}
use Rattle.syntax_means.specs.Paths.{Around, TypeMeans}
use Rattle.decl_headers.specs.declared.header.Headers.{Headers}
use Rattle.decl_headers.specs.declared.header.ParamRow.{ParamRow}
use Rattle.decl_headers.specs.Gathered.{param_row}
use Rattle.decl_resolve.specs.Classes.{params_in}
use Rattle.decl_resolve.specs.Scopes.{PlainScope}
use Rattle.decl_table.specs.declared.table.Table.{Table}
use Rattle.decl_table.specs.Plain.{PlainMethod}
use Rattle.decl_table.specs.Table.{headers_of}
use Rattle.decl_classes.specs.Around.{class_scope}
use Rattle.decl_classes.specs.Rows.{method_scope, said_faults, said_scope}
use Rattle.decl_classes.specs.Signatures.{constraints_faults, formal_faults, result_faults, summary_faults}
use Rattle.decl_reach.specs.Bodies.{class_marks, own_marks}
use Rattle.lang_typed.specs.Plain.{PlainProgram, PlainClass, PlainMember}
use Rattle.lang_typed.specs.Scope.{member_at}
use Rattle.body_assembly.specs.Assembled.{PlainBody, class_of, member_of}
use Rattle.syntax_grammar.specs.Written.{IsWritten}
use Rattle.sound_lemmas.proofs.BodyRules.{start_in}
use Rattle.sound_lemmas.specs.Accepted.{IsAccepted}
use Rattle.sound_lemmas.proofs.Free.{append_none}
use Rattle.sound_lemmas.proofs.Lists.{some_same, got_first, got_later}
use Rattle.sound_decls.proofs.written.Around.{formal_barred}
use Rattle.sound_decls.proofs.classes.Classes.{class_text, class_there, short_type}
use Rattle.sound_decls.proofs.classes.Members.{accepted_declared}
use Rattle.sound_decls.proofs.written.Signs.{Short}
use Rattle.sound_decls.proofs.table.Text.{counted_in}
use Rattle.sound_bodies.specs.Seen.{Tells}
use Rattle.sound_bodies.specs.Whole.{made_of, never_forks, StandsIn, StandsAmong}
use Rattle.sound_bodies.specs.Whole.StandsIn.{here, later}
use Rattle.sound_bodies.specs.Whole.StandsAmong.{in_class as stands_in_class, in_later}
use Rattle.sound_bodies.proofs.table.Membership.{IsMember, member_of_text}
use Rattle.sound_means.proofs.Around.{KnowsPaths}
use Rattle.sound_means.proofs.Bodies.{body_meant, body_numbered}
use Rattle.sound_means.proofs.Finding.{headers_tell}
use Rattle.sound_means.proofs.Methods.{stands_in}
use Rattle.sound_means.proofs.Scopes.{rows_atomic, Signed, signed_known, with_formals_known}
use Rattle.sound_means.proofs.Signatures.{constraints_mean, formals_mean, result_means, summary_means}

-- where a method stands among members, and among classes
own_many : (at : ℕ) (m : Member) → length (member_methods at m) ≡ length (own_marks m)
own_many at (member.Regions is_atomic names) = refl
own_many at (member.Field field) = refl
own_many at (member.Method method) = refl

class_many : (at : ℕ) (members : List Member) → length (flat_map (member_methods at) members) ≡ length (flat_map own_marks members)
class_many at [] = refl
class_many at (m ∷ members) =
    length-append (member_methods at m) (flat_map (member_methods at) members)
    ∙ ap (λ k. k + length (flat_map (member_methods at) members)) (own_many at m) ∙ ap (λ k. length (own_marks m) + k) (class_many at members)
    ∙ sym (length-append (own_marks m) (flat_map own_marks members))

-- the place of a method after so many
record Placed (xs : List OwnMethod) (own : OwnMethod) (count n : ℕ) : Type 0 where
  place : ℕ
  is : n ≡ count + place
  there : slice_get xs place ≡ Some own

placed_in : (method : Method) (n at : ℕ) (members : List Member) (count : ℕ) → StandsIn method n members count → Placed (flat_map (member_methods at) members) (record { class = at; method = method }) count n
placed_in method n at members count (here {members = more}) = record { place = 0; is = omega arith; there = refl }
placed_in method n at members count (later {m = m} {members = more} h) =
    let w = placed_in method n at more (count + length (own_marks m)) h in
    let many = own_many at m in
    record {
      place = length (member_methods at m) + w.place;
      is = (let is = w.is in omega (arith, is, many));
      there = got_later (member_methods at m) (flat_map (member_methods at) more) (length (member_methods at m) + w.place) w.place (record { class = at; method = method }) refl w.there;
    }

placed_among : (method : Method) (n class : ℕ) (classes : List Class) (at count : ℕ) → StandsAmong method n class classes at count → Placed (methods_from at classes) (record { class = class; method = method }) count n
placed_among method n class classes at count (stands_in_class {k = k} {classes = more} h) =
    let w = placed_in method n class k.members count h in
    record { place = w.place; is = w.is; there = got_first (flat_map (member_methods class) k.members) (methods_from (suc class) more) w.place (record { class = class; method = method }) w.there }
placed_among method n class classes at count (in_later {k = k} {classes = more} h) =
    let next : at + 1 ≡ suc at = omega arith in
    let w = placed_among method n class more (at + 1) (count + length (class_marks k)) h in
    let mine = flat_map (member_methods at) k.members in
    let many = class_many at k.members in
    record {
      place = length mine + w.place;
      is = (let is = w.is in omega (arith, is, many));
      there = got_later mine (methods_from (suc at) more) (length mine + w.place) w.place (record { class = class; method = method }) refl
          (subst (λ j. slice_get (methods_from j more) w.place ≡ Some (record { class = class; method = method })) next w.there);
    }

short_formals : (formals : List Formal) → sum_by (λ (formal : Formal). suc (type_size formal.ty)) formals ≤ 4294967295 → All (λ (formal : Formal). Short formal.ty) formals
short_formals formals small = λ i d l.
    let s = counted_in (λ (formal : Formal). suc (type_size formal.ty)) formals i (get_or formals i d) (slice_get-get_or formals i d l) in
    short_type (get_or formals i d).ty (omega (arith, s, small))

short_result : (r : MethodResult) → result_size r ≤ 4294967295 → (tree : TypeTree) → r ≡ outcome.Value tree → Short tree
short_result r small tree is = let same = ap result_size is in short_type tree (omega (arith, small, same))

module _ (program : Program) (table : Table) (bodies : List PlainBody) (named : length program.names ≤ 4294967295) (written : IsWritten program) (accepted : IsAccepted program table bodies) (tells : Tells (made_of program table bodies) table (never_forks table))
  where
    abbrev P : PlainProgram
    P = made_of program table bodies

    abbrev headers : Headers
    headers = headers_of table

    module _ (n : ℕ) (m : PlainMember) (k : PlainClass) (one : IsMember program table (start_in program table) n m k) (class : Class) (stands : slice_get program.classes one.number ≡ Some class)
      where
        abbrev method : Method
        method = one.method

        abbrev own : OwnMethod
        own = record { class = one.number; method = one.method }

        abbrev scope : PlainScope
        scope = class_scope headers table.given one.number

        abbrev around : Around
        around = in_method program P class own

        declared : params_in headers one.number ≡ map param_row class.params.list
        declared =
            let uses_nd = program_uses_nd program in
            let there = class_there program table bodies written accepted uses_nd one.number (slice_get_within program.classes one.number class stands) in
            let t = class_text program table bodies written accepted uses_nd one.number (class_of table one.number) there in
            t.declared ∙ ap (λ (z : Class). map param_row z.params.list) (some_same (sym t.stands ∙ stands))

        few : length class.params.list + length method.params.list ≤ 4294967295
        few = let small = one.small in let long = ap length declared ∙ length-map class.params.list param_row in omega (arith, small, long)

        signed : Signed (method_scope scope method) class.params.list method.params.list
        signed = record {
          class_params = declared;
          own_params = refl;
          few = few;
          regions = refl;
          barred = formal_barred method.formals;
        }

        said : Signed (said_scope scope method) class.params.list method.params.list
        said = record {
          class_params = declared;
          own_params = refl;
          few = few;
          regions = refl;
          barred = formal_barred method.formals;
        }

        abbrev before : Around
        before = record (in_class program P one.number class) { params = map (λ (param : ParamTree). param.name) class.params.list ++ map (λ (param : ParamTree). param.name) method.params.list }

        knows : KnowsPaths around (method_scope scope method)
        knows =
            with_formals_known method.formals 1 before (method_scope scope method) (formal_barred method.formals)
            (signed_known (method_scope scope method) class.params.list method.params.list signed before (headers_tell program table bodies written accepted) refl refl refl)

        knows_said : KnowsPaths around (said_scope scope method)
        knows_said =
            with_formals_known method.formals 1 before (said_scope scope method) (formal_barred method.formals)
            (signed_known (said_scope scope method) class.params.list method.params.list said before (headers_tell program table bodies written accepted) refl refl refl)

        own_means : MemberMeans program P own (member_of one.row one.body)
        own_means =
            let small = one.small in
            let numbered = body_numbered program table bodies named written accepted tells n m k one class stands in
            let f = append_none (constraints_faults (method_scope scope method) method.params.given) (said_faults (said_scope scope method) method) one.free in
            let g = append_none (formal_faults (said_scope scope method) method.formals ++ result_faults (said_scope scope method) method.result) (summary_faults (said_scope scope method) method.summary) f.1 in
            let h = append_none (formal_faults (said_scope scope method) method.formals) (result_faults (said_scope scope method) method.result) g.0 in
            record {
              class = class;
              stands = stands;
              of_class = ap (λ (r : PlainMethod). r.owner) one.row_is;
              params = ap (map (λ (param : ParamRow). param.atomic)) (ap (λ (r : PlainMethod). r.regions) one.row_is) ∙ rows_atomic method.params.list;
              given = subst (AllZip (ConstraintMeans around) method.params.given) (sym (ap (λ (r : PlainMethod). r.given) one.row_is))
                  (constraints_mean around (method_scope scope method) knows method.params.given f.0);
              formals = subst (AllZip (λ (formal : Formal) t. TypeMeans around formal.ty t) method.formals) (sym (ap (λ (r : PlainMethod). r.params) one.row_is))
                  (formals_mean around (said_scope scope method) knows_said method.formals (short_formals method.formals (omega (arith, small))) h.0);
              result = subst (ResultMeans around method.result) (sym (ap (λ (r : PlainMethod). r.result) one.row_is))
                  (result_means around (said_scope scope method) knows_said method.result (short_result method.result (omega (arith, small))) h.1);
              summary = subst (SummaryMeans around method.summary) (sym (ap (λ (r : PlainMethod). r.summary) one.row_is))
                  (summary_means around (said_scope scope method) knows_said method.summary g.1);
              body = subst (λ (z : PlainMember). AllMean around (plain_stmts (map plain_stmt method.body)) z.body) (sym one.is)
                  (body_meant program table bodies named written accepted tells n m k one class stands);
              slots = subst (λ (z : PlainMember). Counts (suc (length z.formals)) z.slots (given_in_all own_slots z.body)) (sym one.is) numbered.0;
              regions = subst (λ (z : PlainMember). Counts 0 z.local_regions (given_in_all own_regions z.body)) (sym one.is) numbered.1;
            }

    pub member_means : (n : ℕ) (own : OwnMethod) (m : PlainMember) → slice_get (all_methods program) n ≡ Some own → member_at P n ≡ Some m → MemberMeans program P own m
    member_means n own m e there =
        let g = (accepted_declared program table bodies written accepted).members n m there in
        let one = member_of_text program table bodies written accepted n m g.class there g.is in
        let p = placed_among one.method n one.number program.classes 0 0 one.stands in
        let at : p.place ≡ n = (let is = p.is in omega (arith, is)) in
        let same : record { class = one.number; method = one.method } ≡ own = some_same (sym p.there ∙ ap (slice_get (all_methods program)) at ∙ e) in
        let s = stands_in 0 program.classes n own e in
        let number : s.number ≡ one.number = (let is = s.is in let class = ap (λ (o : OwnMethod). o.class) same in omega (arith, is, class)) in
        let stands : slice_get program.classes one.number ≡ Some s.class = subst (λ j. slice_get program.classes j ≡ Some s.class) number s.there in
        subst (λ (o : OwnMethod). MemberMeans program P o m) same
        (subst (MemberMeans program P (record { class = one.number; method = one.method })) one.is (own_means n m g.class one s.class stands))
