-- The body of each member of an accepted program passes in the judgement.
use Rattle.std.proofs.Common.{◌≡◌, ◌∙◌, ◌⊎◌, ◌+◌, ◌&&◌, not, ℕ, zero, suc, Bool, true, false, cond, IsTrue, List, [], ◌∷◌, ◌++◌, map, length, slice_get, Contains, inl, inr, Option, Some, None, option_map, Ok, refl, sym, ap, subst, arith}
use Rattle.std.proofs.lemmas.Bool.{and_from, and_parts, false≢true}
use Rattle.std.proofs.lemmas.List.{length-map}
use Rattle.lang_base.specs.declared.effect.Effect.{Effect}
use Rattle.lang_base.specs.declared.refusal.Kind.{Kind}
use Rattle.lang_base.specs.declared.refusal.Kind.TheVariants as kind
use Rattle.lang_base.specs.declared.refusal.Refusal.{Refusal}
use Rattle.lang_base.specs.Effects.{some_covers, set_covers}
use Rattle.lang_base.specs.declared.region.Rpl.{Rpl}
use Rattle.lang_base.specs.Types.{PlainType, void, plain_type}
use Rattle.decl_headers.specs.Passes.{fault}
use Rattle.syntax_tree.specs.declared.class.Method.{Method}
use Rattle.syntax_tree.specs.declared.class.Program.{Program}
use Rattle.syntax_tree.specs.Plain.{PlainStmts, plain_stmt, plain_stmts}
use Rattle.lang_typed.specs.Effects.{Own, does, uses, as_effects}
use Rattle.lang_typed.specs.Plain.{PlainProgram, PlainClass, PlainMember, TypedStmt}
use Rattle.lang_typed.specs.Scope.{Scope, variable, part}
use Rattle.lang_typed.specs.Statements.{AllPass, all_complete}
use Rattle.lang_typed.specs.Table.{first_locals, body_scope}
use Rattle.body_assembly.specs.Assembled.{PlainBody, member_of}
use Rattle.decl_table.specs.declared.table.Table.{Table}
use Rattle.decl_table.specs.Table.{numbered, is_forking, supers_of}
use Rattle.body_exprs.specs.declared.env.Env.{Env}
use Rattle.body_exprs.specs.declared.found.Found.{Found}
use Rattle.body_exprs.specs.Env.{table_of, at_class, has_room, class_params}
use Rattle.body_check.specs.Checking.{check_block}
use Rattle.body_check.specs.declared.node.Around.{Around}
use Rattle.body_check.specs.Completes as tree_completes
use Rattle.body_check.specs.Deciding.{has_value}
use Rattle.body_check.specs.Around.{method_around}
use Rattle.body_check.specs.Methods.{own_params, summary_of, body_begun, typed_body, method_reported, reported, method_judged}
use Rattle.body_check.specs.Walks.{Walk, Verdict, passes, refused}
use Rattle.sound_lemmas.proofs.StatementSteps.{in_block_of}
use Rattle.sound_lemmas.proofs.BodyRules.{MethodChecking, start_in, fresh_start}
use Rattle.sound_lemmas.specs.Accepted.{IsAccepted}
use Rattle.sound_lemmas.proofs.Lists.{ok_same, map_there}
use Rattle.syntax_grammar.specs.Written.{IsWritten}
use Rattle.sound_bodies.specs.Gathered.{InFound}
use Rattle.sound_bodies.specs.Laws.{BlockPasses}
use Rattle.sound_bodies.specs.Naming.{AllDoneIn, Signed}
use Rattle.sound_bodies.specs.Ready.{Ready}
use Rattle.sound_bodies.specs.Seen.{Tells, SupersAgree}
use Rattle.sound_bodies.specs.Whole.{made_of, never_forks, BodiesPass, ForksAreReported, GoodBody, SignaturesNameNothing, SupersAreReported, TablesTell}
use Rattle.sound_bodies.proofs.scope.Beginnings.{ready_begun, result_none}
use Rattle.sound_bodies.proofs.statements.Bodies.{block_agrees}
use Rattle.sound_bodies.proofs.effects.Gathered.{head_in, later_in, nothing_in, in_cases}
use Rattle.sound_bodies.proofs.table.Membership.{IsMember, member_of_text}
use Rattle.sound_bodies.proofs.statements.Walks.{Blocked, block_walked}

-- what covers effects covers each of them
covers_one : (summary es : List Effect) (e : Effect) → set_covers summary es ≡ true → Contains es e → some_covers summary e ≡ true
covers_one summary [] e covered c = absurd (nothing_in e c)
covers_one summary (f ∷ es) e covered c =
    let both = and_parts (some_covers summary f) (set_covers summary es) covered in
    elim (in_cases f es e c) [
      | inl same ↦ subst (λ z. some_covers summary z ≡ true) same both.0
      | inr more ↦ covers_one summary es e both.1 more
    ]

-- where no part is in scope, all that is done is among the effects that were found
all_covered : (L : Scope) (summary : List Effect) (after : Found) → ((k : ℕ) (t : PlainType) (a : Rpl) → L.local k ≡ Some (part t a) → ⊥) → set_covers summary after.effects ≡ true → (E : List Own) → AllDoneIn L E →
    ((o : Own) → Contains E o → InFound after o) → set_covers summary (as_effects E) ≡ true
all_covered L summary after none covered [] done found = refl
all_covered L summary after none covered (does e ∷ E) done found =
    and_from (some_covers summary e) (set_covers summary (as_effects E)) (covers_one summary after.effects e covered (found (does e) (head_in (does e) E)))
    (all_covered L summary after none covered E done.1 (λ o c. found o (later_in (does e) E o c)))
all_covered L summary after none covered (uses k e ∷ E) done found = absurd (none k done.0.1.0 e.rpl done.0.1.1)

-- a body that passes has no fault as a whole
record Passed (env : Env) (params : List Bool) (number : ℕ) (method : Method) (body : PlainBody) : Type 0 where
  made : List TypedStmt
  walk : Walk
  block : check_block params (method_around (has_value method.result)) (plain_stmts (map plain_stmt method.body)) (body_begun env number method) ≡ passes made walk
  is : typed_body made walk.env ≡ body
  ends : (has_value method.result && tree_completes.all_complete (plain_stmts (map plain_stmt method.body))) ≡ false
  covered : set_covers (summary_of (numbered (table_of env) number)) walk.found.effects ≡ true
  room : has_room (body_begun env number method).env ≡ true

reported_none : (stated : Option Refusal) (made body : PlainBody) → reported stated made ≡ Ok body → (stated ≡ None) × (made ≡ body)
reported_none None made body e = (refl, ok_same e)
reported_none (Some refusal) made body e = cc

no_faults : (f : Kind → Refusal) (ends covered room : Bool) → option_map f (cond ends (Some kind.Return) (cond covered (cond room None (Some kind.TooLong)) (Some kind.Summary))) ≡ None →
    (ends ≡ false) × (covered ≡ true) × (room ≡ true)
no_faults f true covered room h = cc
no_faults f false true true h = (refl, refl, refl)
no_faults f false true false h = cc
no_faults f false false room h = cc

passed_of : {env : Env} {params : List Bool} {number : ℕ} {method : Method} {body : PlainBody} → MethodChecking env params number method (Ok body) → Passed env params number method body
passed_of {env} {params} {number} {method} {body} (MethodChecking.of_method {u = u} d j) = by u d j
  where
    by : (v : Verdict (List TypedStmt)) → check_block params (method_around (has_value method.result)) (plain_stmts (map plain_stmt method.body)) (body_begun env number method) ≡ v → method_judged env number method v ≡ Ok body →
        Passed env params number method body
    by (passes ss w) d is =
        let r = reported_none (method_reported env number method w.found.effects) (typed_body ss w.env) body is in
        let free = no_faults (λ reason. fault reason method.place) (has_value method.result && tree_completes.all_complete (plain_stmts (map plain_stmt method.body)))
        (set_covers (summary_of (numbered (table_of env) number)) w.found.effects) (has_room (body_begun env number method).env) r.0 in
        record { made = ss; walk = w; block = d; is = r.1; ends = free.0; covered = free.1; room = free.2 }
    by (refused refusal) d is = cc

-- a body that reaches an nd construct isn't that of a method that never does
nd_free_of : (reaches forks : Bool) → (reaches ≡ true → IsTrue forks) → IsTrue (not forks) → reaches ≡ false
nd_free_of false forks stated nd_free = refl
nd_free_of true true stated nd_free = absurd (false≢true nd_free)
nd_free_of true false stated nd_free = absurd (false≢true (stated refl))

-- a formal is no part of an array
no_part : (class : PlainClass) (m : PlainMember) (k : ℕ) (t : PlainType) (a : Rpl) → first_locals class m k ≡ Some (part t a) → ⊥
no_part class m zero t a h = cc
no_part class m (suc i) t a h = let w = map_there variable (slice_get m.formals i) (part t a) h in let same = w.2 in cc

module _ (program : Program) (table : Table) (bodies : List PlainBody) (written : IsWritten program) (accepted : IsAccepted program table bodies) (tells : Tells (made_of program table bodies) table (never_forks table))
    (supers : SupersAgree (made_of program table bodies) (supers_of table)) (signed : Signed (made_of program table bodies)) (forks : ForksAreReported)
  where
    body_passes : (n : ℕ) (one : PlainMember) (class : PlainClass) (k : IsMember program table (start_in program table) n one class) →
        GoodBody (made_of program table bodies) (never_forks table) n (member_of k.row k.body) class
    body_passes n one class k = record {
      room = (let more = walked.kept.slots in let begun = ready.1 in let rows = length-map k.row.params plain_type in let slots = slots_so in omega (arith, more, begun, slots, rows));
      effects = b.effects;
      passes_so = subst (λ (z : PlainBody). AllPass P L z.stmts b.effects) p.is b.passes_so;
      covered = all_covered L k.row.summary p.walk.found (no_part class m) covered b.effects b.in_scope (λ o c. (b.gathers o).1 (inr c));
      ends = by (has_value k.method.result) refl p.ends;
    }
      where
        P : PlainProgram
        P = made_of program table bodies

        start : Env
        start = start_in program table

        m : PlainMember
        m = member_of k.row k.body

        L : Scope
        L = body_scope class (never_forks table) n m

        params : List Bool
        params = class_params (table_of start) k.number ++ own_params (table_of start) n

        around : Around
        around = method_around (has_value k.method.result)

        all : PlainStmts
        all = plain_stmts (map plain_stmt k.method.body)

        begin : Walk
        begin = body_begun (at_class start k.number) n k.method

        p : Passed (at_class start k.number) params n k.method k.body
        p = passed_of k.checked

        ready : Ready P L begin.env params around (λ x. true) (λ x. true) × (begin.env.slots ≡ 1 + length k.row.params)
        ready = ready_begun program table bodies accepted tells supers n one class k p.room

        walked : Blocked all begin p.made p.walk
        walked = block_walked ready.0.step (in_block_of p.block)

        slots_so : p.walk.env.slots ≡ k.body.slots
        slots_so = ap (λ (z : PlainBody). z.slots) p.is

        regions_so : p.walk.env.declared ≡ k.body.local_regions
        regions_so = ap (λ (z : PlainBody). z.local_regions) p.is

        b : BlockPasses P L begin.found p.made p.walk.found
        b =
            block_agrees P signed L params around (λ x. true) (λ x. true) begin ready.0 all k.written.numbers (λ x h. refl) (λ x h. refl) p.made p.walk (in_block_of p.block)
            (record { slots = omega (arith, slots_so); regions = omega (arith, regions_so) })
            (nd_free_of p.walk.found.reaches_nd (is_forking table n)
            (forks program table bodies written accepted start (fresh_start program table) k.method n k.number k.stands params p.made p.walk p.block))

        covered : set_covers k.row.summary p.walk.found.effects ≡ true
        covered =
            ap (λ o. set_covers (summary_of o) p.walk.found.effects) (sym (ap (λ (t : Table). numbered t n) (fresh_start program table).table_is ∙ k.row_there)) ∙ p.covered

        by : (valued : Bool) → has_value k.method.result ≡ valued → (valued && tree_completes.all_complete all) ≡ false → (plain_type k.row.result ≡ void) ⊎ (all_complete k.body.stmts ≡ false)
        by true is h = inr (ap (λ (z : PlainBody). all_complete z.stmts) (sym p.is) ∙ walked.complete_so ∙ h)
        by false is h = inl (result_none program table bodies accepted tells supers n one class k is)

pub bodies_pass : TablesTell → SupersAreReported → SignaturesNameNothing → ForksAreReported → BodiesPass
bodies_pass tells supers signed forks program table bodies written accepted n m class there class_there =
    let k = member_of_text program table bodies written accepted n m class there class_there in
    subst (λ z. GoodBody (made_of program table bodies) (never_forks table) n z class) k.is
    (body_passes program table bodies written accepted (tells program table bodies written accepted) (supers program table bodies written accepted) (signed program table bodies written accepted) forks n m class k)
