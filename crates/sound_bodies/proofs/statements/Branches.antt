-- Branches of a `cobegin`, one after the other: what they touch, and that they don't get in each other's way.
use Rattle.std.proofs.Common.{◌≡◌, ◌∙◌, ◌⊎◌, ◌==◌, ◌||◌, ℕ, zero, suc, Bool, true, false, IsTrue, List, [], ◌∷◌, ◌++◌, All, map, Contains, inl, inr, ⊎_elim, Option, Some, None, refl, sym, ap, subst, arith}
use Rattle.std.specs.List.{list_any}
use Rattle.std.specs.Option.{option_map_or}
use Rattle.std.proofs.lemmas.Bool.{eqb-true, or_left, or_right, cases_Bool, false≢true}
use Rattle.std.proofs.lemmas.List.Folds.{list_any-append}
use Rattle.body_locals.specs.Touches.{stmt_reads, stmt_assigns, branches_assign}
use Rattle.syntax_tree.specs.Plain.{PlainStmt, PlainStmts, no_stmts, more_stmts}
use Rattle.lang_typed.specs.Effects.{marked, after_branches}
use Rattle.lang_typed.specs.Effects.{Own as Done}
use Rattle.lang_typed.specs.declared.stmt.Forking.{Forking as Order}
use Rattle.lang_typed.specs.declared.stmt.Forking.TheVariants.{Deterministic, Nondeterministic}
use Rattle.lang_typed.specs.Plain.{PlainProgram, TypedBranch, branches_of}
use Rattle.lang_typed.specs.Scope.{Scope}
use Rattle.lang_typed.specs.Statements.{IsVariable, AreApart, all_copies}
use Rattle.body_exprs.specs.declared.env.Env.{Env}
use Rattle.body_exprs.specs.declared.env.LocalRow.{LocalRow}
use Rattle.body_exprs.specs.Env.{local_of}
use Rattle.body_check.specs.declared.node.Around.{Around}
use Rattle.body_check.specs.Checking.{slots_of, branch_of}
use Rattle.body_check.specs.Touching.{assigned, disturbs, disturbs_some, some_disturb}
use Rattle.body_check.specs.Walks.{Walk}
use Rattle.body_check.proofs.Touched.{assigned_has, assigned_only}
use Rattle.sound_lemmas.proofs.StatementRules.{after_branch, BranchesVerdict, all_pass, one_refused, Branching}
use Rattle.sound_lemmas.proofs.Lists.{some_same}
use Rattle.sound_bodies.specs.Ready.{Ready}
use Rattle.sound_bodies.specs.Seen.{InStep}
use Rattle.sound_bodies.proofs.statements.Cobegins.{Foreign, all_by}
use Rattle.sound_bodies.proofs.effects.Gathered.{head_in, later_in}
use Rattle.sound_bodies.proofs.scope.Growing.{Kept, kept_then, kept_local, kept_step}
use Rattle.sound_bodies.proofs.statements.Singles.{variable_slot}
use Rattle.sound_bodies.proofs.statements.Walks.{NonFinal, non_final_by, scope_walked}

-- the slots that the branches give back, and that what they assign can be assigned
abbrev pub BranchesAre : Env → PlainStmts → List TypedBranch → Type 0
BranchesAre env no_stmts [] = Unit {0}
BranchesAre env no_stmts (b ∷ bs) = ⊥
BranchesAre env (more_stmts s ss) [] = ⊥
BranchesAre env (more_stmts s ss) (b ∷ bs) = ((b.copies ≡ slots_of env (assigned s)) × ((n : ℕ) → IsTrue (stmt_assigns n s) → NonFinal env n)) × BranchesAre env ss bs

abbrev pub Static : Env → PlainStmts → BranchesVerdict → Type 0
Static env ss (all_pass effects made u) = BranchesAre env ss made
Static env ss (one_refused refusal) = Unit {0}

slots_kept : (a b : Env) → Kept a b → (names : List ℕ) → slots_of b names ≡ slots_of a names
slots_kept a b kept [] = refl
slots_kept a b kept (n ∷ names) =
    ap (λ o. option_map_or (λ (row : LocalRow). row.slot ∷ slots_of b names) o (slots_of b names)) (kept_local a b n kept)
    ∙ ap (λ z. option_map_or (λ (row : LocalRow). row.slot ∷ z) (local_of a n) z) (slots_kept a b kept names)

static_more : (env : Env) (s : PlainStmt) (ss : PlainStmts) (w : Walk) (es : _) (made : _) (v : BranchesVerdict) → Kept env w.env → ((n : ℕ) → IsTrue (stmt_assigns n s) → NonFinal env n) →
    Static env ss v → Static env (more_stmts s ss) (after_branch es (branch_of w.env s made) v)
static_more env s ss w es made (all_pass effects branches u) kept open' rest = ((slots_kept env w.env kept (assigned s), open'), rest)
static_more env s ss w es made (one_refused refusal) kept open' rest = tt

pub branches_static : {params : List Bool} {around : Around} {nd : Bool} {ss : PlainStmts} {w : Walk} {v : BranchesVerdict} (env : Env) → Kept env w.env → InStep w.env → Branching params around nd ss w v → Static env ss v
branches_static env kept step Branching.no_branches = tt
branches_static env kept step Branching.branch_refused = tt
branches_static {w = w} env kept step (Branching.then_branches {s = s} {ss = ss} {u = u} {made = made} {v = v} d rest j) =
    let k = scope_walked step d in
    subst (Static env (more_stmts s ss)) j
    (static_more env s ss w _ made v kept (λ n h. non_final_by w.env env n (kept_local env w.env n kept) (k.assigned n h)) (branches_static env (kept_then env w.env u.env kept k.kept) (kept_step w.env u.env k.kept step) rest))

-- no two of them clash

-- the first assigns some local that the second reads or assigns
abbrev Disturbs : PlainStmt → PlainStmt → Type 0
Disturbs s t = (n : ℕ) × IsTrue (stmt_assigns n s) × (IsTrue (stmt_reads n t) ⊎ IsTrue (stmt_assigns n t))

abbrev NoneClash : PlainStmt → PlainStmts → Type 0
NoneClash s no_stmts = Unit {0}
NoneClash s (more_stmts t ts) = (Disturbs s t ⊎ Disturbs t s → ⊥) × NoneClash s ts

abbrev pub AllApart : PlainStmts → Type 0
AllApart no_stmts = Unit {0}
AllApart (more_stmts s ss) = NoneClash s ss × AllApart ss

pub neither : (a b : Bool) → (a || b) ≡ false → (a ≡ false) × (b ≡ false)
neither true b h = cc
neither false b h = (refl, h)

none_of : (test : ℕ → Bool) (xs : List ℕ) (n : ℕ) → list_any test xs ≡ false → Contains xs n → test n ≡ false
none_of test [] n h c = absurd (omega (arith, c.1))
none_of test (x ∷ xs) n h (zero, lt, is) = subst (λ z. test z ≡ false) is (neither (test x) (list_any test xs) h).0
none_of test (x ∷ xs) n h (suc k, lt, is) = none_of test xs n (neither (test x) (list_any test xs) h).1 (k, omega (arith, lt), is)

undisturbed : (s t : PlainStmt) → disturbs s t ≡ false → Disturbs s t → ⊥
undisturbed s t h (n, writes, uses) =
    let none = neither (stmt_reads n t) (stmt_assigns n t) (none_of (λ x. stmt_reads x t || stmt_assigns x t) (assigned s) n h (assigned_has s n writes)) in
    ⊎_elim (λ r. false≢true (sym none.0 ∙ r)) (λ a. false≢true (sym none.1 ∙ a)) uses

none_from : (s : PlainStmt) (ss : PlainStmts) → disturbs_some s ss ≡ false → NoneClash s ss
none_from s no_stmts h = tt
none_from s (more_stmts t ts) h =
    let both = neither (disturbs s t || disturbs t s) (disturbs_some s ts) h in
    let pair = neither (disturbs s t) (disturbs t s) both.0 in
    (⊎_elim (undisturbed s t pair.0) (undisturbed t s pair.1), none_from s ts both.1)

pub all_apart : (ss : PlainStmts) → some_disturb ss ≡ false → AllApart ss
all_apart no_stmts h = tt
all_apart (more_stmts s ss) h = let both = neither (disturbs_some s ss) (some_disturb ss) h in (none_from s ss both.0, all_apart ss both.1)

-- a name that none of them touches
abbrev pub Away : ℕ → PlainStmts → Type 0
Away n no_stmts = Unit {0}
Away n (more_stmts s ss) = ((IsTrue (stmt_reads n s) → ⊥) × (IsTrue (stmt_assigns n s) → ⊥)) × Away n ss

away_of : (n : ℕ) (s : PlainStmt) (ss : PlainStmts) → IsTrue (stmt_assigns n s) → NoneClash s ss → Away n ss
away_of n s no_stmts c none = tt
away_of n s (more_stmts t ts) c none = ((λ r. none.0 (inl (n, c, inl r)), λ q. none.0 (inl (n, c, inr q))), away_of n s ts c none.1)

in_slots : (env : Env) (names : List ℕ) (x : ℕ) → list_any (λ y. x == y) (slots_of env names) ≡ true → (n : ℕ) × Contains names n × (row : LocalRow) × (local_of env n ≡ Some row) × (row.slot ≡ x)
in_slots env [] x h = absurd (false≢true h)
in_slots env (n ∷ names) x h = by (local_of env n) refl (λ later. in_slots env names x later) h
  where
    either : (a b : Bool) → (a || b) ≡ true → (a ≡ true) ⊎ (b ≡ true)
    either true b h = inl refl
    either false b h = inr h

    by : (o : Option LocalRow) → local_of env n ≡ o → (list_any (λ y. x == y) (slots_of env names) ≡ true → (m : ℕ) × Contains names m × (row : LocalRow) × (local_of env m ≡ Some row) × (row.slot ≡ x)) →
        list_any (λ y. x == y) (option_map_or (λ r. r.slot ∷ slots_of env names) o (slots_of env names)) ≡ true → (m : ℕ) × Contains (n ∷ names) m × (row : LocalRow) × (local_of env m ≡ Some row) × (row.slot ≡ x)
    by None is next h = let w = next h in (w.0, later_in n names w.0 w.1, w.2, w.3, w.4)
    by (Some row) is next h =
        ⊎_elim (λ e. (n, head_in n names, row, is, sym (eqb-true x row.slot e))) (λ later. (let w = next later in (w.0, later_in n names w.0 w.1, w.2, w.3, w.4)))
        (either (x == row.slot) (list_any (λ y. x == y) (slots_of env names)) h)

any_either : (x : ℕ) (ys zs : List ℕ) → list_any (λ y. x == y) (ys ++ zs) ≡ true → (list_any (λ y. x == y) ys ≡ true) ⊎ (list_any (λ y. x == y) zs ≡ true)
any_either x ys zs h = by (list_any (λ y. x == y) ys) (sym (list_any-append (λ y. x == y) ys zs) ∙ h)
  where
    by : (b : Bool) → (b || list_any (λ y. x == y) zs) ≡ true → (b ≡ true) ⊎ (list_any (λ y. x == y) zs ≡ true)
    by true h = inl refl
    by false h = inr h

-- a slot that an earlier branch assigns, which these don't touch
pub record Earlier (L : Scope) (env : Env) (x : ℕ) (ss : PlainStmts) : Type 0 where
  pub name : ℕ
  pub row : LocalRow
  pub is : local_of env name ≡ Some row
  pub slot : row.slot ≡ x
  pub kept : IsVariable L x
  pub away : Away name ss

module _ (P : PlainProgram) (L : Scope) (env : Env) (params : List Bool) (around : Around) (reads assigns : ℕ → Bool) (ready : Ready P L env params around reads assigns)
  where
    variable_at : (n : ℕ) (row : LocalRow) → local_of env n ≡ Some row → NonFinal env n → IsTrue (assigns n) → IsVariable L row.slot
    variable_at n row is open' writes =
        (_, variable_slot (reads n) (assigns n) row (L.local row.slot) (ready.sees.locals n row is) (ap (λ (z : LocalRow). z.is_final) (some_same (sym is ∙ open'.is)) ∙ open'.open') writes)

    -- of the slots of the branches after one
    later_foreign : (s : PlainStmt) (ss : PlainStmts) (bs : List TypedBranch) (x : ℕ) → BranchesAre env ss bs → ((n : ℕ) → IsTrue (branches_assign n ss) → IsTrue (assigns n)) → NoneClash s ss →
        list_any (λ y. x == y) (all_copies (branches_of bs)) ≡ true → Foreign L env s x
    later_foreign s no_stmts [] x are writes none h = absurd (false≢true h)
    later_foreign s no_stmts (b ∷ bs) x are writes none h = absurd are
    later_foreign s (more_stmts t ts) [] x are writes none h = absurd are
    later_foreign s (more_stmts t ts) (b ∷ bs) x are writes none h =
        ⊎_elim (λ here. found (in_slots env (assigned t) x (sym (ap (list_any (λ y. x == y)) are.0.0) ∙ here)))
        (λ later. later_foreign s ts bs x are.1 (λ n k. writes n (or_right (stmt_assigns n t) (branches_assign n ts) k)) none.1 later) (any_either x b.copies (all_copies (branches_of bs)) h)
      where
        found : (n : ℕ) × Contains (assigned t) n × (row : LocalRow) × (local_of env n ≡ Some row) × (row.slot ≡ x) → Foreign L env s x
        found w =
            let so = assigned_only t w.0 w.1 in
            record {
              name = w.0;
              row = w.2;
              is = w.3;
              slot = w.4;
              unread = λ r. none.0 (inr (w.0, so, inl r));
              unassigned = λ q. none.0 (inr (w.0, so, inr q));
              kept = subst (IsVariable L) w.4 (variable_at w.0 w.2 w.3 (are.0.1 w.0 so) (writes w.0 (or_left (stmt_assigns w.0 t) (branches_assign w.0 ts) so)));
            }

    module _ (s : PlainStmt) (ss : PlainStmts) (b : TypedBranch) (bs : List TypedBranch) (are : BranchesAre env (more_stmts s ss) (b ∷ bs))
        (writes : (n : ℕ) → IsTrue (branches_assign n (more_stmts s ss)) → IsTrue (assigns n)) (apart : AllApart (more_stmts s ss)) (others : List ℕ)
        (earlier : (x : ℕ) → list_any (λ y. x == y) others ≡ true → Earlier L env x (more_stmts s ss))
      where
        abbrev pub beside : List ℕ
        beside = others ++ all_copies (branches_of bs)

        pub foreign : (x : ℕ) → list_any (λ y. x == y) beside ≡ true → Foreign L env s x
        foreign x h =
            ⊎_elim (λ before. (let e = earlier x before in record { name = e.name; row = e.row; is = e.is; slot = e.slot; unread = e.away.0.0; unassigned = e.away.0.1; kept = e.kept }))
            (λ later. later_foreign s ss bs x are.1 (λ n k. writes n (or_right (stmt_assigns n s) (branches_assign n ss) k)) apart.0 later) (any_either x others (all_copies (branches_of bs)) h)

        own_at : (x : ℕ) → list_any (λ y. x == y) b.copies ≡ true → (n : ℕ) × Contains (assigned s) n × (row : LocalRow) × (local_of env n ≡ Some row) × (row.slot ≡ x)
        own_at x h = in_slots env (assigned s) x (sym (ap (list_any (λ y. x == y)) are.0.0) ∙ h)

        own_variable : (x : ℕ) → list_any (λ y. x == y) b.copies ≡ true → IsVariable L x
        own_variable x h =
            let w = own_at x h in
            let so = assigned_only s w.0 w.1 in
            subst (IsVariable L) w.4 (variable_at w.0 w.2 w.3 (are.0.1 w.0 so) (writes w.0 (or_left (stmt_assigns w.0 s) (branches_assign w.0 ss) so)))

        pub own_variables : All (IsVariable L) b.copies
        own_variables = all_by (IsVariable L) b.copies own_variable

        pub own_apart : AreApart b.copies beside
        own_apart = all_by (λ x. list_any (λ y. x == y) beside ≡ false) b.copies (λ x h. ⊎_elim (λ u. absurd (clash x h (foreign x u))) (λ f. f) (cases_Bool (list_any (λ y. x == y) beside)))
          where
            clash : (x : ℕ) → list_any (λ y. x == y) b.copies ≡ true → Foreign L env s x → ⊥
            clash x h f =
                let w = own_at x h in
                f.unassigned (subst (λ z. IsTrue (stmt_assigns z s)) (ready.step.apart w.0 f.name w.2 f.row w.3 f.is (w.4 ∙ sym f.slot)) (assigned_only s w.0 w.1))

        pub next_earlier : (x : ℕ) → list_any (λ y. x == y) (others ++ b.copies) ≡ true → Earlier L env x ss
        next_earlier x h =
            ⊎_elim (λ before. (let e = earlier x before in record { name = e.name; row = e.row; is = e.is; slot = e.slot; kept = e.kept; away = e.away.1 }))
            (λ own. (let w = own_at x own in record { name = w.0; row = w.2; is = w.3; slot = w.4; kept = own_variable x own; away = away_of w.0 s ss (assigned_only s w.0 w.1) apart.0 })) (any_either x others b.copies h)

-- after the branches
marked_append : (b : Bool) (D F : List Done) → map (marked b) (D ++ F) ≡ map (marked b) D ++ map (marked b) F
marked_append b [] F = refl
marked_append b (o ∷ D) F = ap (λ z. marked b o ∷ z) (marked_append b D F)

pub after_append : (order : Order) (D F : List Done) → after_branches order (D ++ F) ≡ after_branches order D ++ after_branches order F
after_append Deterministic D F = marked_append false D F
after_append Nondeterministic D F = refl
