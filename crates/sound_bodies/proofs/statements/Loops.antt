-- A `foreach` passes where its body does.
use Rattle.std.proofs.Common.{◌≡◌, ◌∙◌, ◌⊎◌, ◌<◌, ◌≤◌, ◌+◌, ◌==◌, ℕ, Bool, true, false, not, ◌&&◌, ◌||◌, IsTrue, List, ◌++◌, map, inl, inr, Some, None, refl, sym, ap, subst, arith, rules}
use Rattle.std.proofs.lemmas.Bool.{or_parts, false≢true}
use Rattle.lang_base.specs.declared.place.Place.{Place}
use Rattle.lang_base.specs.declared.region.Rpl.{Rpl}
use Rattle.lang_base.specs.declared.ty.Ty.{the_lemmas}
use Rattle.lang_base.specs.declared.ty.Ty.TheVariants as variant
use Rattle.lang_base.specs.Branches.{iterations_clash}
use Rattle.lang_base.specs.Types.{PlainType, plain_type}
use Rattle.lang_base.specs.Types.{PlainType as ty}
use Rattle.decl_headers.specs.Headers.{atomic_regions}
use Rattle.decl_table.specs.Table.{headers_of}
use Rattle.syntax_tree.specs.declared.region.Named.{Named}
use Rattle.body_locals.specs.Touches.{stmt_reads, stmt_assigns}
use Rattle.syntax_tree.specs.Plain.{PlainStmt}
use Rattle.lang_typed.specs.declared.stmt.Forking.TheVariants.{Deterministic}
use Rattle.lang_typed.specs.Plain.{PlainProgram, TypedExpr, type_of, TypedStmt, statement}
use Rattle.lang_typed.specs.Plain as typed
use Rattle.lang_typed.specs.Scope.{Scope, constant, part, in_loop_branch, atomic_for}
use Rattle.lang_typed.specs.Scope.{with_local as in_scope}
use Rattle.lang_typed.specs.Effects.{after_branches, outside_variable, as_effects}
use Rattle.lang_typed.specs.Effects.{Own as Done}
use Rattle.lang_typed.specs.Statements.{Passes}
use Rattle.body_exprs.specs.declared.env.Env.{Env}
use Rattle.body_exprs.specs.declared.found.Found.{Found}
use Rattle.body_exprs.specs.Env.{table_of, given_in, local_row, with_local}
use Rattle.body_check.specs.declared.node.Around.{Around}
use Rattle.body_check.specs.Checking.{closed, with_nd, forking_of}
use Rattle.body_check.specs.Deciding.{marks_after}
use Rattle.body_check.specs.Gathering.{with_uses, taken_in}
use Rattle.body_check.specs.Around.{inside}
use Rattle.body_check.specs.Leaving.{from_here}
use Rattle.body_check.specs.Meeting.{declared_atomic}
use Rattle.body_check.specs.Walks.{Walk, nothing_found, found_so}
use Rattle.sound_bodies.specs.Gathered.{Gathers}
use Rattle.sound_bodies.specs.Laws.{Stands}
use Rattle.sound_bodies.specs.Naming.{IsIndex, IsRegion, LocalsName, AllDoneIn, Signed}
use Rattle.sound_bodies.specs.Ready.{Ready, NdFree}
use Rattle.sound_bodies.specs.Seen.{RowIs}
use Rattle.sound_bodies.proofs.effects.Clashing.{same_effects, iterations_fewer}
use Rattle.sound_bodies.proofs.effects.Gathered.{then_gathered, gathered_nd}
use Rattle.sound_bodies.proofs.scope.InScope.{all_over_of}
use Rattle.sound_bodies.proofs.scope.InScopeStatements.{path_stays, free_none, only_index, alone_index, alone_part, part_parts, no_constant_part, all_names}
use Rattle.sound_bodies.proofs.effects.Left.{left, left_general, taken, marked_by}
use Rattle.sound_bodies.proofs.scope.Readiness.{ready_loop, ready_row, none_at}
use Rattle.sound_bodies.proofs.statements.Statements.{and_both, not_so, map_kept, ScopeGoes, Plainly}

pub int_plain : plain_type variant.Int ≡ ty.int
int_plain = search (rules, the_lemmas)

-- what is declared atomic, for the checker and for the judgement
pub atomic_same : (P : PlainProgram) (L : Scope) (env : Env) (params : List Bool) (nd : Bool) → P.region_names ≡ atomic_regions (headers_of (table_of env)) → L.atomic ≡ params →
    declared_atomic params nd env ≡ atomic_for (forking_of nd) P L
atomic_same P L env params false names same = refl
atomic_same P L env params true names same =
    ap (λ z. Some (record { names = z; params = params })) (sym names) ∙ ap (λ z. Some (record { names = P.region_names; params = z })) (sym same)

pub marks_same : (nd : Bool) (G : List Done) → map (marked_by (marks_after nd)) G ≡ after_branches (forking_of nd) G
marks_same false G = refl
marks_same true G = map_kept G

module _ (P : PlainProgram) (signed : Signed P) (L : Scope) (params : List Bool) (around : Around) (reads assigns : ℕ → Bool) (w : Walk) (ready : Ready P L w.env params around reads assigns)
  where
    abbrev pub n : ℕ
    n = w.env.slots

    abbrev pub Inner : Scope
    Inner = in_scope n (constant ty.int) (in_loop_branch L)

    free : L.local n ≡ None
    free = none_at L n ready.below n (omega arith)

    variable_is : (name : ℕ) (x y : Bool) → RowIs x y (local_row w.env name variant.Int true) (Some (constant ty.int))
    variable_is name x y = subst (λ z. RowIs x y (local_row w.env name variant.Int true) (Some (constant z))) int_plain (RowIs.is_constant refl refl)

    -- at the begin of an iteration
    pub ready_iteration : (var : Named) (body : PlainStmt) → ((x : ℕ) → IsTrue (not (var.name == x) && stmt_reads x body) → IsTrue (reads x)) → ((x : ℕ) → IsTrue (stmt_assigns x body) → ⊥) →
        Ready P Inner (with_local w.env var.name variant.Int true) params (inside around) (λ x. stmt_reads x body) (λ x. stmt_assigns x body)
    ready_iteration var body all none =
        ready_row P (in_loop_branch L) w.env params (inside around) reads (λ x. false) (λ x. stmt_reads x body) (λ x. stmt_assigns x body) (ready_loop P L w.env params around reads assigns ready)
        (local_row w.env var.name variant.Int true) (constant ty.int) (n + 1) refl (omega arith) (variable_is var.name) (λ final. absurd (false≢true (sym final))) tt
        (λ x other h. all x (and_both (not (var.name == x)) (stmt_reads x body) (not_so (var.name == x) other) h)) (λ x other h. absurd (none x h))

    inner_index : (y : ℕ) → IsIndex Inner y → (y ≡ n) ⊎ (y < n)
    inner_index y h = elim (only_index P signed (in_loop_branch L) n (constant ty.int) y h) [ inl same ↦ inl same | inr there ↦ inr (ready.below y (constant ty.int) (alone_index (L.local y) there)) ]

    inner_part : (k : ℕ) (t : PlainType) (a : Rpl) → Inner.local k ≡ Some (part t a) → L.local k ≡ Some (part t a)
    inner_part k t a h = alone_part (L.local k) t a (part_parts P signed n (constant ty.int) (in_loop_branch L) (no_constant_part P signed ty.int) k t a h)

    -- a `foreach` whose body passes
    pub foreach_plain : (place : Place) (nd : Bool) (e d : TypedExpr) (g h : Found) (made : TypedStmt) (u : Walk) → LocalsName Inner → Stands P L w.found e g → type_of e ≡ ty.int → Stands P L g d h → type_of d ≡ ty.int →
        n + 1 ≤ u.env.slots → ScopeGoes P signed Inner (record { env = with_local w.env 0 variant.Int true; found = nothing_found }) made u →
        iterations_clash (given_in w.env) (declared_atomic params nd w.env) n (with_uses u.found.effects u.found.uses) ≡ false →
        Plainly P signed L w (statement place (typed.foreach (forking_of nd) n e d made)) (closed (found_so w h) (marks_after nd) (with_nd nd u.found) u)
    foreach_plain place nd e d g h made u locals x e_int y d_int more s apart = record {
      nd_free = λ c. x.nd_free (y.nd_free (or_parts h.reaches_nd (u.found.reaches_nd || nd) c).0);
      alone = λ room nd_free.
          let inner_nd_free : NdFree Inner u = λ c. (or_parts u.found.reaches_nd nd (or_parts h.reaches_nd (u.found.reaches_nd || nd) (nd_free c)).1).0 in
          let r = s.goes (record { slots = room.slots; regions = room.regions }) inner_nd_free in
          let before : IsTrue L.nd_free → h.reaches_nd ≡ false = λ c. (or_parts h.reaches_nd (u.found.reaches_nd || nd) (nd_free c)).0 in
          let inside_so = all_names P signed {L = Inner} locals r.1 in
          let k = room.slots in
          record {
            effects = x.effects ++ (y.effects ++ outside_variable n (after_branches (forking_of nd) r.0));
            passes_so = Passes.foreach (λ c. deterministic nd (or_parts u.found.reaches_nd nd (or_parts h.reaches_nd (u.found.reaches_nd || nd) (nd_free c)).1).1) (x.has (λ c. y.nd_free (before c))) e_int (y.has before) d_int
                (free, omega (arith, more, k)) r.1 (clash r.0 r.2);
            gathers = then_gathered w.found g (taken_in (from_here w.env (marks_after nd)) h (with_nd nd u.found)) x.effects (y.effects ++ outside_variable n (after_branches (forking_of nd) r.0)) x.gathers
                (then_gathered g h (taken_in (from_here w.env (marks_after nd)) h (with_nd nd u.found)) y.effects (outside_variable n (after_branches (forking_of nd) r.0)) y.gathers
                (subst (λ z. Gathers h z (taken_in (from_here w.env (marks_after nd)) h (with_nd nd u.found))) (same r.0 inside_so)
                (taken (from_here w.env (marks_after nd)) h (with_nd nd u.found) r.0 (gathered_nd nothing_found u.found r.0 (u.found.reaches_nd || nd) r.2))));
          };
    }
      where
        deterministic : (b : Bool) → b ≡ false → forking_of b ≡ Deterministic
        deterministic true h = cc
        deterministic false h = refl

        same : (G : List Done) → AllDoneIn Inner G → left (from_here w.env (marks_after nd)) G ≡ outside_variable n (after_branches (forking_of nd) G)
        same G inside_so =
            left_general (from_here w.env (marks_after nd)) (IsIndex Inner) (IsRegion Inner) Inner n (omega arith) inner_index ready.regions
            (λ k t a h. path_stays L n (free_none L n free) a (ready.locals k (part t a) (inner_part k t a h)).0) G (all_over_of Inner G inside_so)
            ∙ ap (outside_variable n) (marks_same nd G)

        clash : (G : List Done) → Gathers nothing_found G u.found → iterations_clash L.given (atomic_for (forking_of nd) P L) n (as_effects G) ≡ false
        clash G gathers =
            subst (λ z. iterations_clash z (atomic_for (forking_of nd) P L) n (as_effects G) ≡ false) (sym ready.sees.given)
            (subst (λ z. iterations_clash (given_in w.env) z n (as_effects G) ≡ false) (atomic_same P L w.env params nd ready.tells.atomic ready.atomic)
            (iterations_fewer (given_in w.env) (declared_atomic params nd w.env) n (with_uses u.found.effects u.found.uses) (as_effects G) (λ e c. (same_effects u.found G gathers e).1 c) apart))
