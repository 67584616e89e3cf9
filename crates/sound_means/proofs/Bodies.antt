-- The body of each member of an accepted program is what its text means.
use Rattle.std.proofs.Common.{◌≡◌, ◌∙◌, ◌≤◌, ◌+◌, ◌==◌, ◌&&◌, ℕ, suc, Bool, true, false, cond, fold, List, [], ◌∷◌, ◌++◌, All, map, length, slice_get, codes, Option, Some, None, option_map, Ok, refl, sym, ap, subst, arith}
use Rattle.std.proofs.lemmas.Bool.{eqb-true}
use Rattle.std.proofs.lemmas.List.{length-map}
use Rattle.std.proofs.lemmas.List.Elements.{All-head, All-tail}
use Rattle.std.specs.Option.{option_map_or}
use Rattle.lang_base.specs.declared.refusal.Kind.{Kind}
use Rattle.lang_base.specs.declared.refusal.Kind.TheVariants as kind
use Rattle.lang_base.specs.declared.refusal.Refusal.{Refusal}
use Rattle.decl_headers.specs.declared.header.Header.{Header}
use Rattle.decl_headers.specs.declared.header.ParamRow.{ParamRow}
use Rattle.decl_headers.specs.Gathered.{name_number, param_row}
use Rattle.decl_headers.specs.Passes.{fault}
use Rattle.syntax_tree.specs.declared.class.Class.{Class}
use Rattle.syntax_tree.specs.declared.class.Formal.{Formal}
use Rattle.syntax_tree.specs.declared.class.Member.{Member}
use Rattle.syntax_tree.specs.declared.class.Member.TheVariants as member
use Rattle.syntax_tree.specs.declared.class.Method.{Method}
use Rattle.syntax_tree.specs.declared.class.MethodResult.TheVariants as outcome
use Rattle.syntax_tree.specs.declared.class.Program.{Program}
use Rattle.syntax_tree.specs.declared.region.ParamTree.{ParamTree}
use Rattle.syntax_tree.specs.declared.stmt.Stmt.{Stmt}
use Rattle.syntax_tree.specs.Plain.{plain_stmt, plain_stmts}
use Rattle.syntax_tree.specs.Shaped.{MemberHasTargets}
use Rattle.syntax_tree.specs.Targets.{HasTargets, AllHaveTargets}
use Rattle.syntax_grammar.specs.Written.{IsWritten}
use Rattle.lang_typed.specs.Plain.{PlainProgram, PlainClass, PlainMember, TypedStmt, stmts_of}
use Rattle.syntax_means.specs.Bodies.{AllMean, IsLength}
use Rattle.syntax_means.specs.Means.{in_class, in_method}
use Rattle.syntax_means.specs.Means.{param_names as names_written}
use Rattle.syntax_means.specs.Numbered.{Counts, given_in_all, own_regions, own_slots}
use Rattle.syntax_means.specs.Paths.{Around}
use Rattle.decl_resolve.specs.Classes.{params_in}
use Rattle.decl_resolve.specs.Names.{Names}
use Rattle.decl_resolve.specs.Scoped.{no_names, with_name}
use Rattle.decl_classes.specs.Around.{class_scope}
use Rattle.decl_classes.specs.Rows.{said_scope}
use Rattle.decl_classes.specs.Signatures.{result_type}
use Rattle.decl_table.specs.declared.rows.MethodRow.{MethodRow}
use Rattle.decl_table.specs.declared.table.Table.{Table}
use Rattle.decl_table.specs.Plain.{PlainMethod}
use Rattle.decl_table.specs.Table.{headers_of, field_of, method_of, numbered}
use Rattle.decl_laws.proofs.Granted.{granted}
use Rattle.body_assembly.specs.Assembled.{PlainBody}
use Rattle.body_exprs.specs.declared.env.Env.{Env}
use Rattle.body_exprs.specs.Env.{table_of, scope_of, at_class, at_members, with_row, params_named, has_room, class_params}
use Rattle.body_check.specs.Checking.{check_block}
use Rattle.body_check.specs.Completes.{all_complete}
use Rattle.body_check.specs.Deciding.{has_value}
use Rattle.body_check.specs.Around.{method_around}
use Rattle.body_check.specs.Methods.{body_begun, own_params, formals_declared, formal_types, typed_body, reported, method_reported, method_judged, summary_of}
use Rattle.body_check.specs.Walks.{Walk, Verdict, passes, refused}
use Rattle.sound_lemmas.proofs.StatementSteps.{in_block_of}
use Rattle.sound_lemmas.proofs.BodyRules.{MethodChecking, start_in, fresh_start}
use Rattle.sound_lemmas.proofs.StatementRules.{InBlock}
use Rattle.lang_base.specs.Effects.{set_covers}
use Rattle.lang_base.specs.Types.{plain_type}
use Rattle.sound_lemmas.specs.Accepted.{IsAccepted}
use Rattle.sound_lemmas.proofs.Lists.{ok_same}
use Rattle.sound_decls.proofs.table.Text.{class_header}
use Rattle.sound_bodies.specs.Seen.{Tells}
use Rattle.sound_bodies.specs.Whole.{made_of, never_forks, StandsIn, StandsAmong}
use Rattle.sound_bodies.proofs.table.Membership.{IsMember}
use Rattle.sound_means.proofs.Around.{KnowsPaths, HeadersTell}
use Rattle.sound_means.proofs.Counting.{block_numbered, formals_counted}
use Rattle.sound_means.proofs.Finding.{name_spelled, headers_tell, field_found, method_called}
use Rattle.sound_means.proofs.Knows.{Knows, knows_formals}
use Rattle.sound_means.proofs.Scopes.{signed_known}
use Rattle.sound_means.proofs.Statements.{block_meant}

-- the targets of a method that stands in the text
targets_in : (method : Method) {number : ℕ} {members : List Member} {count : ℕ} → StandsIn method number members count → All MemberHasTargets members → All (λ s. HasTargets (plain_stmt s)) method.body
targets_in method (StandsIn.here {members = more}) all = All-head MemberHasTargets (member.Method method) more all
targets_in method (StandsIn.later {m = m} {members = more} s) all = targets_in method s (All-tail MemberHasTargets m more all)

targets_among : (method : Method) {number class : ℕ} {classes : List Class} {at count : ℕ} → StandsAmong method number class classes at count → All (λ (k : Class). All MemberHasTargets k.members) classes →
    All (λ s. HasTargets (plain_stmt s)) method.body
targets_among method (StandsAmong.in_class {k = k} {classes = classes} s) all = targets_in method s (All-head (λ (k : Class). All MemberHasTargets k.members) k classes all)
targets_among method (StandsAmong.in_later {k = k} {classes = classes} s) all = targets_among method s (All-tail (λ (k : Class). All MemberHasTargets k.members) k classes all)

all_targets : (body : List Stmt) → All (λ s. HasTargets (plain_stmt s)) body → AllHaveTargets (plain_stmts (map plain_stmt body))
all_targets [] all = tt
all_targets (s ∷ body) all = (All-head (λ s. HasTargets (plain_stmt s)) s body all, all_targets body (All-tail (λ s. HasTargets (plain_stmt s)) s body all))

-- the region parameters of a method, in its row and as they are written
params_folded : (params : List ParamTree) (names : Names Bool) →
    fold (λ (names : Names Bool) (row : ParamRow). with_name names row.name row.atomic) names (map param_row params) ≡ fold (λ (names : Names Bool) (param : ParamTree). with_name names param.name param.atomic) names params
params_folded [] names = refl
params_folded (param ∷ params) names = params_folded params (with_name names param.name param.atomic)

-- a body that passes
record Passed (env : Env) (params : List Bool) (number : ℕ) (method : Method) (body : PlainBody) : Type 0 where
  made : List TypedStmt
  walk : Walk
  block : InBlock params (method_around (has_value method.result)) (plain_stmts (map plain_stmt method.body)) (body_begun env number method) (passes made walk)
  is : typed_body made walk.env ≡ body
  room : has_room (body_begun env number method).env ≡ true

reported_none : (stated : Option Refusal) (made body : PlainBody) → reported stated made ≡ Ok body → (stated ≡ None) × (made ≡ body)
reported_none None made body e = (refl, ok_same e)
reported_none (Some refusal) made body e = cc

has_slots : (f : Kind → Refusal) (ends covered room : Bool) → option_map f (cond ends (Some kind.Return) (cond covered (cond room None (Some kind.TooLong)) (Some kind.Summary))) ≡ None → room ≡ true
has_slots f true covered room h = cc
has_slots f false true true h = refl
has_slots f false true false h = cc
has_slots f false false room h = cc

passed_of : {env : Env} {params : List Bool} {number : ℕ} {method : Method} {body : PlainBody} → MethodChecking env params number method (Ok body) → Passed env params number method body
passed_of {env} {params} {number} {method} {body} (MethodChecking.of_method {u = u} d j) = by u d j
  where
    by : (v : Verdict (List TypedStmt)) → check_block params (method_around (has_value method.result)) (plain_stmts (map plain_stmt method.body)) (body_begun env number method) ≡ v → method_judged env number method v ≡ Ok body →
        Passed env params number method body
    by (passes ss w) d is =
        let r = reported_none (method_reported env number method w.found.effects) (typed_body ss w.env) body is in
        record {
          made = ss;
          walk = w;
          block = in_block_of d;
          is = r.1;
          room = has_slots (λ reason. fault reason method.place) (has_value method.result && all_complete (plain_stmts (map plain_stmt method.body)))
              (set_covers (summary_of (numbered (table_of env) number)) w.found.effects) (has_room (body_begun env number method).env) r.0;
        }
    by (refused refusal) d is = cc

module _ (program : Program) (table : Table) (bodies : List PlainBody) (named : length program.names ≤ 4294967295) (written : IsWritten program) (accepted : IsAccepted program table bodies)
    (tells : Tells (made_of program table bodies) table (never_forks table)) (n : ℕ) (m : PlainMember) (class : PlainClass) (k : IsMember program table (start_in program table) n m class) (text : Class)
    (there : slice_get program.classes k.number ≡ Some text)
  where
    abbrev P : PlainProgram
    P = made_of program table bodies

    abbrev start : Env
    start = start_in program table

    table_is : table_of start ≡ table
    table_is = (fresh_start program table).table_is

    numbered_is : Some k.row ≡ numbered (table_of start) n
    numbered_is = sym (ap (λ (t : Table). numbered t n) table_is ∙ k.row_there)

    -- before the formals are in scope

    abbrev entry : Env
    entry = with_row (record (at_members (at_class start k.number)) { method = n }) (Some k.row)

    abbrev A : Around
    A = record (in_class program P k.number text) { params = names_written text.params ++ names_written k.method.params }

    headers_are : params_in (headers_of (table_of start)) k.number ≡ map param_row text.params.list
    headers_are =
        ap (λ (t : Table). params_in (headers_of t) k.number) table_is ∙ ap (λ headers. params_in headers k.number) (granted accepted.rows).headers
        ∙ ap (λ o. option_map_or (λ (header : Header). header.params) o []) (class_header _ _ 0 program.classes k.number text there)

    regions_are : k.row.regions ≡ map param_row k.method.params.list
    regions_are = ap (λ (r : PlainMethod). r.regions) k.row_is

    few : length text.params.list + length k.method.params.list ≤ 4294967295
    few =
        let small = k.small in
        let all = ap length (sym (ap (λ (t : Table). params_in (headers_of t) k.number) table_is) ∙ headers_are) ∙ length-map text.params.list param_row in
        omega (arith, small, all)

    told : HeadersTell program P (headers_of (table_of start))
    told = subst (λ (t : Table). HeadersTell program P (headers_of t)) (sym table_is) (headers_tell program table bodies written accepted)

    paths : KnowsPaths A (scope_of entry)
    paths =
        signed_known (scope_of entry) text.params.list k.method.params.list (record {
          class_params = headers_are;
          own_params = ap params_named regions_are ∙ params_folded k.method.params.list no_names;
          few = few;
          regions = refl;
          barred = λ name slot e. cc;
        }) A told refl refl refl

    length_spelled : (name : ℕ) (o : Option ℕ) → o ≡ name_number program.names (codes "length") → option_map_or (λ length_name. length_name == name) o false ≡ true → IsLength A name
    length_spelled name None is h = cc
    length_spelled name (Some number) is h = name_spelled program (codes "length") name named (sym is ∙ ap Some (eqb-true number name h))

    knows : Knows A entry
    knows = record {
      paths = paths;
      step = record {
        names = refl;
        values = refl;
        some_slot = omega arith;
        slots = λ name row h. cc;
        apart = λ x y row other h. cc;
        regions = refl;
      };
      locals = λ name row h. cc;
      parts = λ name row h. cc;
      spelled = λ name h. length_spelled name start.length (fresh_start program table).length_is h;
      fields = λ class name row h. field_found program table bodies written accepted class name row (sym (ap (λ (t : Table). field_of t class name) table_is) ∙ h);
      methods = λ class name row h. method_called program table bodies written accepted class name row (sym (ap (λ (t : Table). method_of t class name) table_is) ∙ h);
      nd_free = never_forks table;
      tells = subst (λ t. Tells P t (never_forks table)) (sym table_is) tells;
    }

    -- and after them

    abbrev begin_of : Option MethodRow → Env
    begin_of o = formals_declared (with_row (record (at_members (at_class start k.number)) { method = n }) o) k.method.formals (formal_types o)

    formals_many : length k.method.formals ≡ length k.row.params
    formals_many =
        let many = ap (λ (r : PlainMethod). length r.params) k.row_is in
        let rows = length-map k.row.params plain_type in
        let trees = length-map k.method.formals (λ (formal : Formal). result_type (said_scope (class_scope (headers_of table) table.given k.number) k.method) (outcome.Value formal.ty)) in
        omega (arith, many, rows, trees)

    begun : has_room (begin_of (Some k.row)) ≡ true → Knows (in_method program P text (record { class = k.number; method = k.method })) (begin_of (Some k.row))
    begun room = knows_formals A entry 1 k.method.formals k.row.params refl formals_many room knows

    passed : Passed (at_class start k.number) (class_params (table_of start) k.number ++ own_params (table_of start) n) n k.method k.body
    passed = passed_of k.checked

    room : has_room (begin_of (Some k.row)) ≡ true
    room = subst (λ o. has_room (begin_of o) ≡ true) (sym numbered_is) passed.room

    pub body_meant : AllMean (in_method program (made_of program table bodies) text (record { class = k.number; method = k.method })) (plain_stmts (map plain_stmt k.method.body)) m.body
    body_meant =
        let known = subst (λ o. Knows (in_method program P text (record { class = k.number; method = k.method })) (begin_of o)) numbered_is (begun room) in
        let meant = block_meant (in_method program P text (record { class = k.number; method = k.method })) known (all_targets k.method.body (targets_among k.method k.stands written.shaped.targets)) k.written.numbers passed.block in
        subst (λ (x : PlainMember). AllMean (in_method program P text (record { class = k.number; method = k.method })) (plain_stmts (map plain_stmt k.method.body)) x.body) k.is
        (subst (λ (b : PlainBody). AllMean (in_method program P text (record { class = k.number; method = k.method })) (plain_stmts (map plain_stmt k.method.body)) b.stmts) passed.is meant)

    -- slots are counted on after those of `this` and the formals, and local regions from the first
    pub body_numbered : Counts (suc (length m.formals)) m.slots (given_in_all own_slots m.body) × Counts 0 m.local_regions (given_in_all own_regions m.body)
    body_numbered =
        let first = formals_counted entry k.method.formals k.row.params formals_many room in
        let long = length-map k.row.params plain_type in
        let slots : entry.slots + length k.row.params ≡ suc (length (map plain_type k.row.params)) = omega (arith, long) in
        let done = passed.walk.env in
        let made = stmts_of passed.made in
        let counted = block_numbered passed.block in
        subst (λ (x : PlainMember). Counts (suc (length x.formals)) x.slots (given_in_all own_slots x.body) × Counts 0 x.local_regions (given_in_all own_regions x.body)) k.is
        (subst (λ (b : PlainBody). Counts (suc (length (map plain_type k.row.params))) b.slots (given_in_all own_slots b.stmts) × Counts 0 b.local_regions (given_in_all own_regions b.stmts)) passed.is (
          subst (λ z. Counts z done.slots (given_in_all own_slots made)) (ap (λ o. (begin_of o).slots) (sym numbered_is) ∙ first.0 ∙ slots) counted.0,
          subst (λ z. Counts z done.declared (given_in_all own_regions made)) (ap (λ o. (begin_of o).declared) (sym numbered_is) ∙ first.1) counted.1,
        ))
