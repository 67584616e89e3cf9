-- The bodies of a small text that passes are narrow, and so is the code that is made of them.
use Rattle.std.proofs.Common.{◌≡◌, ◌≤◌, ◌<◌, ℕ, ◌^◌, Bool, List, [], ◌∷◌, ◌++◌, All, map, Option, Some, None, Result, Ok, Err, subst, arith}
use Rattle.std.proofs.lemmas.List.Elements.{All-nil, All-cons, All-head, All-tail, All-append}
use Rattle.std.proofs.lemmas.List.Sums.{sum_by-cons}
use Rattle.std.specs.Prelude.{sum_by}
use Rattle.lang_base.specs.declared.refusal.Refusal.{Refusal}
use Rattle.syntax_tree.specs.declared.class.Class.{Class}
use Rattle.syntax_tree.specs.declared.class.Member.{Member}
use Rattle.syntax_tree.specs.declared.class.Method.{Method}
use Rattle.syntax_tree.specs.declared.class.Program.{Program}
use Rattle.syntax_tree.specs.Nd.{program_uses_nd}
use Rattle.syntax_tree.specs.Size.{method_size, member_size, class_size, program_size}
use Rattle.lang_typed.specs.Plain.{TypedStmt}
use Rattle.decl_table.specs.declared.rows.MethodRow.{MethodRow}
use Rattle.decl_table.specs.declared.table.Table.{Table}
use Rattle.decl_table.specs.Table.{methods_of}
use Rattle.body_assembly.specs.Assembled.{PlainBody, members_of, program_of}
use Rattle.body_exprs.specs.declared.env.Env.{Env}
use Rattle.syntax_tree.specs.Plain.{plain_stmt, plain_stmts}
use Rattle.body_check.specs.Around.{method_around}
use Rattle.body_check.specs.Deciding.{has_value}
use Rattle.body_check.specs.Methods.{typed_body, after_ok, reported, method_reported, method_judged, bodies_of, PlainBodies, after_bodies, body_begun}
use Rattle.body_check.specs.Walks.{Verdict, passes, refused}
use Rattle.sound_lemmas.proofs.StatementSteps.{in_block_of}
use Rattle.sound_lemmas.proofs.BodyRules.{MethodChecking, of_method, MemberChecking, MembersChecking, ClassesChecking, checks_in}
use Rattle.code_instrs.specs.declared.code.Code.{Code}
use Rattle.code_instrs.specs.Plain.{plain_code}
use Rattle.code_scheme.specs.Whole.{compiled}
use Rattle.exec_task.specs.Halts.{IsWidthBounded}
use Rattle.sound_lemmas.specs.Accepted.{IsAccepted}
use Rattle.lang_typed.proofs.Narrow.{AllNarrow}
use Rattle.sound_text.proofs.Sites.{code_few, OfMember}
use Rattle.sound_text.proofs.Statements.{If, BlockNarrow, block_narrow}

-- what holds of what is made, where nothing is refused
abbrev IfOk : {T : Type 0} → (T → Type 0) → Result T Refusal → Type 0
IfOk Q (Ok made) = Q made
IfOk Q (Err refusal) = Unit {0}

reported_if : {T : Type 0} (Q : T → Type 0) (stated : Option Refusal) (made : T) → Q made → IfOk Q (reported stated made)
reported_if Q None made h = h
reported_if Q (Some refusal) made h = tt

after_if : {T U : Type 0} (Q : T → Type 0) (R : U → Type 0) (make : T → U) (r : Result T Refusal) → ((made : T) → Q made → R (make made)) → IfOk Q r → IfOk R (after_ok make r)
after_if Q R make (Ok made) to h = to made h
after_if Q R make (Err refusal) to h = tt

module _ (n : ℕ)
  where
    abbrev OfBody : PlainBody → Type 0
    OfBody body = AllNarrow n body.stmts

    judged_narrow : (env : Env) (number : ℕ) (method : Method) (v : Verdict (List TypedStmt)) → If (BlockNarrow n) v → IfOk OfBody (method_judged env number method v)
    judged_narrow env number method (passes ss w) h = reported_if OfBody (method_reported env number method w.found.effects) (typed_body ss w.env) h
    judged_narrow env number method (refused refusal) h = tt

    method_narrow : {env : Env} {params : List Bool} {number : ℕ} {method : Method} {r : Result PlainBody Refusal} → method_size method ≤ n → MethodChecking env params number method r → IfOk OfBody r
    method_narrow {env} {params} {number} {method} small (of_method {u = u} d j) = subst (IfOk OfBody) j (judged_narrow env number method u (block_narrow n (omega (arith, small)) (in_block_of {params = params} {around = method_around (has_value method.result)} {all = plain_stmts (map plain_stmt method.body)} {w = body_begun env number method} d)))

    abbrev OfBodies : PlainBodies → Type 0
    OfBodies made = All OfBody made.bodies

    member_narrow : {env : Env} {params : List Bool} {m : Member} {number : ℕ} {r : Result (Option PlainBody) Refusal} → member_size m ≤ n → MemberChecking env params m number r →
        IfOk (λ made. All OfBody (bodies_of made)) r
    member_narrow small (MemberChecking.no_method none) = All-nil OfBody
    member_narrow small (MemberChecking.a_method {r = r} d j) =
        subst (IfOk (λ made. All OfBody (bodies_of made))) j
        (after_if OfBody (λ made. All OfBody (bodies_of made)) Some r (λ body h. All-cons OfBody body [] h (All-nil OfBody)) (method_narrow small d))

    members_narrow : {env : Env} {params : List Bool} {ms : List Member} {number : ℕ} {r : Result PlainBodies Refusal} → sum_by member_size ms ≤ n → MembersChecking env params ms number r → IfOk OfBodies r
    members_narrow small MembersChecking.no_members = All-nil OfBody
    members_narrow small MembersChecking.is_refused = tt
    members_narrow small (MembersChecking.then_members {m = m} {ms = ms} {made = made} {u = u} d rest j) =
        let both = sum_by-cons member_size m ms in
        let h = member_narrow (omega (arith, small, both)) d in
        subst (IfOk OfBodies) j
        (after_if OfBodies OfBodies (after_bodies (bodies_of made)) u (λ all k. All-append OfBody (bodies_of made) all.bodies h k) (members_narrow (omega (arith, small, both)) rest))

    classes_narrow : {start : Env} {at number : ℕ} {classes : List Class} {r : Result (List PlainBody) Refusal} → sum_by class_size classes ≤ n → ClassesChecking start at classes number r →
        IfOk (All OfBody) r
    classes_narrow small ClassesChecking.no_classes = All-nil OfBody
    classes_narrow small ClassesChecking.is_refused = tt
    classes_narrow small (ClassesChecking.then_classes {class = class} {classes = classes} {made = made} {u = u} d rest j) =
        let both = sum_by-cons class_size class classes in
        let h = members_narrow (omega (arith, small, both)) d in
        subst (IfOk (All OfBody)) j
        (after_if (All OfBody) (All OfBody) (λ bodies. made.bodies ++ bodies) u (λ bodies k. All-append OfBody made.bodies bodies h k) (classes_narrow (omega (arith, small, both)) rest))

    with_rows : (rows : List MethodRow) (bodies : List PlainBody) → All OfBody bodies → All (OfMember n) (members_of rows bodies)
    with_rows [] bodies h = All-nil (OfMember n)
    with_rows (row ∷ rows) [] h = All-nil (OfMember n)
    with_rows (row ∷ rows) (body ∷ bodies) h =
        All-cons (OfMember n) _ (members_of rows bodies) (All-head OfBody body bodies h) (with_rows rows bodies (All-tail OfBody body bodies h))

pub accepted_narrow : (program : Program) (table : Table) (bodies : List PlainBody) → program_size program ≤ 1048576 → IsAccepted program table bodies →
    (code : Code) → plain_code code ≡ compiled (program_of table program.names (program_uses_nd program) bodies) → All IsWidthBounded code.sites
accepted_narrow program table bodies small accepted code is =
    let below : 1048576 < 2 ^ 31 = omega arith in
    let narrow = with_rows 1048576 (methods_of table) bodies (classes_narrow 1048576 small (checks_in program table accepted.checked)) in
    code_few 1048576 below (program_of table program.names (program_uses_nd program) bodies) narrow code is
