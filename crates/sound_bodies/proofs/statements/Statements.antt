-- Statements that pass for the checker pass in the judgement.
use Rattle.std.proofs.Common.{◌≡◌, ◌∙◌, ◌⊎◌, ◌≤◌, ◌+◌, ◌==◌, ℕ, Bool, true, false, not, ◌&&◌, ◌||◌, cond, IsTrue, List, [], ◌∷◌, ◌++◌, map, inl, inr, ⊎_elim, Option, Some, None, refl, sym, ap, subst, arith}
use Rattle.std.proofs.lemmas.Bool.{or_right, or_parts}
use Rattle.lang_base.specs.declared.place.Place.{Place}
use Rattle.lang_base.specs.declared.refusal.Kind.TheVariants as kind
use Rattle.lang_base.specs.declared.ty.Ty.{Ty}
use Rattle.lang_base.specs.Types.{PlainType, plain_type}
use Rattle.lang_base.specs.Types.{PlainType as ty}
use Rattle.body_locals.specs.Touches.{expr_reads, type_reads, stmt_form_reads, stmts_read, stmt_form_assigns, stmts_assign, declares_form}
use Rattle.syntax_tree.specs.Plain.{PlainExpr, PlainStmt, PlainStmts}
use Rattle.syntax_tree.specs.Plain as tree
use Rattle.lang_typed.specs.Plain.{PlainProgram, TypedExpr, type_of, TypedStmt, statement, TypedStmts, stmts_of, choice_form}
use Rattle.lang_typed.specs.Plain as typed
use Rattle.lang_typed.specs.Scope.{Scope, constant, part, with_local as in_scope, in_atomic_block}
use Rattle.lang_typed.specs.Effects.{after_block, outside_variable}
use Rattle.lang_typed.specs.Effects.{Own as Done}
use Rattle.lang_typed.specs.Types.{GoodType, Subtype}
use Rattle.lang_typed.specs.Typing.{Has}
use Rattle.lang_typed.specs.Statements.{completes, declared_as, Passes, AllPass}
use Rattle.body_exprs.specs.declared.env.Env.{Env}
use Rattle.body_exprs.specs.declared.found.Found.{Found}
use Rattle.body_exprs.specs.Answer.{gives}
use Rattle.body_exprs.specs.Env.{supers_of, local_row, with_local}
use Rattle.body_exprs.specs.Typed.{may_be, is_boolean, type_in, FitsAs}
use Rattle.body_exprs.specs.Typing.{Typing}
use Rattle.body_exprs.proofs.Fitted.{fits_is}
use Rattle.body_check.specs.Checking.{own_block, own_scope}
use Rattle.body_check.specs.declared.leaving.Leaving.{Leaving}
use Rattle.body_check.specs.declared.leaving.Marks.TheVariants as marks
use Rattle.body_check.specs.declared.node.Around.{Around}
use Rattle.body_check.specs.declared.node.Node.{Node}
use Rattle.body_check.specs.Completes as tree_completes
use Rattle.body_check.specs.Gathering.{entered, taken_in}
use Rattle.body_check.specs.Leaving.{from_here}
use Rattle.body_check.specs.Simple.{declared_type, declaration_noted, node_of}
use Rattle.body_check.specs.Walks.{Walk, Verdict, passes, refused, found_so, apart_from}
use Rattle.sound_lemmas.proofs.StatementRules.{Declaring, following}
use Rattle.sound_lemmas.proofs.Bodies.{free_if}
use Rattle.sound_lemmas.proofs.Free.{not_false}
use Rattle.sound_bodies.specs.Gathered.{Gathers}
use Rattle.sound_bodies.specs.Laws.{Stands, Passing}
use Rattle.sound_bodies.specs.Naming.{IsIndex, IsRegion, AllDoneIn, Signed}
use Rattle.sound_bodies.specs.Ready.{Ready, Room, NdFree}
use Rattle.sound_bodies.specs.Seen.{can_stand, RowIs}
use Rattle.syntax_grammar.specs.Written.{Fitting, StmtFormFitting}
use Rattle.sound_bodies.proofs.effects.Clashing.{same_entered}
use Rattle.sound_bodies.proofs.statements.Expressions.{boolean_is, expression_agrees}
use Rattle.sound_bodies.proofs.effects.Gathered.{then_gathered}
use Rattle.sound_bodies.proofs.scope.Growing.{Kept, room_free}
use Rattle.sound_bodies.proofs.scope.InScope.{all_over_of, good_type, good_stands, has_names}
use Rattle.sound_bodies.proofs.scope.InScopeStatements.{path_stays, free_none, only_index, part_parts, declared_no_part, declared_names, passes_names, all_names}
use Rattle.sound_bodies.proofs.effects.Left.{left, left_append, left_kept, left_further, left_stepped, taken, marked_by, Later, AllRaw, all_raw_of, raw_append, all_raw_before}
use Rattle.sound_bodies.proofs.scope.Meant.{declared_good}
use Rattle.sound_bodies.proofs.scope.Readiness.{ready_less, ready_kept, ready_row, none_at}
use Rattle.sound_bodies.proofs.table.Subtypes.{fits_subtype}
use Rattle.sound_bodies.proofs.statements.Walks.{If, judged_if, both_if, After, Walked, Stood, Ordered, OtherDone}

append_none : {A : Type 0} (xs : List A) → xs ++ [] ≡ xs
append_none [] = refl
append_none (x ∷ xs) = ap (λ z. x ∷ z) (append_none xs)

pub map_kept : (E : List Done) → map (marked_by marks.Kept) E ≡ E
map_kept [] = refl
map_kept (o ∷ E) = ap (λ z. o ∷ z) (map_kept E)

abbrev pub here : Env → Leaving
here env = from_here env marks.Kept

pub and_true : (a b : Bool) → (a && b) ≡ true → (a ≡ true) × (b ≡ true)
and_true true b h = (refl, h)
and_true false b h = cc

pub and_both : (a b : Bool) → a ≡ true → b ≡ true → (a && b) ≡ true
and_both true b h k = k
and_both false b h k = cc

pub not_so : (b : Bool) → b ≡ false → not b ≡ true
not_so true h = cc
not_so false h = refl

module _ (P : PlainProgram) (signed : Signed P)
  where
    -- a statement that is no declaration
    pub record Alone (L : Scope) (w : Walk) (made : TypedStmt) (u : Walk) : Type 0 where
      pub effects : List Done
      pub passes_so : Passes P L made effects
      pub gathers : Gathers w.found effects u.found

    pub record Plainly (L : Scope) (w : Walk) (made : TypedStmt) (u : Walk) : Type 0 where
      pub nd_free : u.found.reaches_nd ≡ false → w.found.reaches_nd ≡ false
      pub alone : Room L u.env → NdFree L u → Alone L w made u

    -- any statement, before others that are in a scope with what it declares
    pub record On (L M : Scope) (w : Walk) (made : TypedStmt) (u : Walk) : Type 0 where
      pub effects : List Done
      pub out : List Done → List Done
      pub none : out [] ≡ []
      pub inside' : AllDoneIn L effects
      pub gathers : Gathers w.found effects u.found
      pub following' : (ss : TypedStmts) (F : List Done) → IsTrue (completes made) ⊎ (ss ≡ typed.no_stmts) → AllPass P M ss F → AllPass P L (typed.more_stmts made ss) (effects ++ out F)
      pub leaves : (D : List Done) → AllRaw M u.env.slots u.env.declared D → left (here w.env) D ≡ out (left (here u.env) D)
      pub raws : (D : List Done) → AllRaw M u.env.slots u.env.declared D → AllRaw L w.env.slots w.env.declared D

    pub record Goes (L : Scope) (params : List Bool) (around : Around) (reads assigns : ℕ → Bool) (f : tree.StmtForm) (w : Walk) (made : TypedStmt) (u : Walk) : Type 0 where
      pub nd_free : u.found.reaches_nd ≡ false → w.found.reaches_nd ≡ false
      pub scope : Scope
      pub slots : scope.slots ≡ L.slots
      pub local_regions : scope.local_regions ≡ L.local_regions
      pub same_nd_free : scope.nd_free ≡ L.nd_free
      pub ready : (r a : ℕ → Bool) → ((x : ℕ) → declares_form x f ≡ false → IsTrue (r x) → IsTrue (reads x)) → ((x : ℕ) → declares_form x f ≡ false → IsTrue (a x) → IsTrue (assigns x)) →
          Ready P scope u.env params around r a
      pub on : Room L u.env → NdFree L u → On L scope w made u

    -- a statement in a scope of its own, the statements of a block, and those of a list
    pub record ScopeGoes (L : Scope) (w : Walk) (made : TypedStmt) (u : Walk) : Type 0 where
      pub nd_free : u.found.reaches_nd ≡ false → w.found.reaches_nd ≡ false
      pub goes : Room L u.env → NdFree L u → (E : List Done) × AllPass P L (typed.more_stmts made typed.no_stmts) E × Gathers w.found E u.found

    pub record BlockGoes (L : Scope) (w : Walk) (made : List TypedStmt) (u : Walk) : Type 0 where
      pub nd_free : u.found.reaches_nd ≡ false → w.found.reaches_nd ≡ false
      pub goes : Room L u.env → NdFree L u → (E : List Done) × AllPass P L (stmts_of made) E × Gathers w.found E u.found

    pub record OrderGoes (L : Scope) (w : Walk) (made : List TypedStmt) (u : Walk) : Type 0 where
      pub nd_free : u.found.reaches_nd ≡ false → w.found.reaches_nd ≡ false
      pub goes : Room L u.env → NdFree L u → (D : List Done) × AllPass P L (stmts_of made) (left (here w.env) D) × Gathers w.found D u.found × AllRaw L w.env.slots w.env.declared D

    abbrev pub OtherGoes : Scope → Option PlainStmt → Walk → Option TypedStmt → Walk → Type 0
    OtherGoes L None w None u = w.found ≡ u.found
    OtherGoes L (Some s) w (Some made) u = ScopeGoes L w made u
    OtherGoes L None w (Some made) u = ⊥
    OtherGoes L (Some s) w None u = ⊥

    room_before : (L : Scope) (a b : Env) → a.slots ≤ b.slots → a.declared ≤ b.declared → Room L b → Room L a
    room_before L a b s d room = let k = room.slots in let l = room.regions in record { slots = omega (arith, s, k); regions = omega (arith, d, l) }

    -- what is in the scope alone stays when later declarations are left
    stays : (L : Scope) (env : Env) (params : List Bool) (around : Around) (r a : ℕ → Bool) → Ready P L env params around r a → (E : List Done) → AllDoneIn L E → left (here env) E ≡ E
    stays L env params around r a ready E h =
        left_kept (here env) (IsIndex L) (IsRegion L) L (λ x i. ready.below x (constant ty.int) i) ready.regions E (all_over_of L E h) ∙ map_kept E

    -- a statement after which the same is in scope
    plain_on : (L : Scope) (params : List Bool) (around : Around) (reads assigns : ℕ → Bool) (w : Walk) (made : TypedStmt) (u : Walk) → Ready P L w.env params around reads assigns → Kept w.env u.env → Alone L w made u →
        On L L w made u
    plain_on L params around reads assigns w made u ready kept alone = record {
      effects = alone.effects;
      out = λ F. F;
      none = refl;
      inside' = passes_names P signed ready.locals alone.passes_so;
      gathers = alone.gathers;
      following' = λ ss F c all. AllPass.then' alone.passes_so c all;
      leaves = λ D raw. left_further w.env.slots w.env.declared u.env.slots u.env.declared (Later (IsIndex L) u.env.slots) (Later (IsRegion L) u.env.declared) L
          (λ x h. ⊎_elim (λ i. (let k = ready.below x (constant ty.int) i in let s = kept.slots in inl (k, omega (arith, k, s)))) (λ l. (let s = kept.slots in inr (omega (arith, l, s), l))) h)
          (λ r h. ⊎_elim (λ i. (let k = ready.regions r i in let s = kept.declared in inl (k, omega (arith, k, s)))) (λ l. (let s = kept.declared in inr (omega (arith, l, s), l))) h) D raw;
      raws = λ D raw. all_raw_before L L w.env.slots w.env.declared u.env.slots u.env.declared
          (λ x h. ⊎_elim (λ i. inl i) (λ l. (let s = kept.slots in inr (omega (arith, l, s)))) h) (λ r h. ⊎_elim (λ i. inl i) (λ l. (let s = kept.declared in inr (omega (arith, l, s)))) h) (λ k t a h. h) D raw;
    }

    plain_goes : (L : Scope) (params : List Bool) (around : Around) (reads assigns : ℕ → Bool) (f : tree.StmtForm) (w : Walk) (made : TypedStmt) (u : Walk) → ((x : ℕ) → declares_form x f ≡ false) →
        Ready P L w.env params around reads assigns → Kept w.env u.env → Plainly L w made u → Goes L params around reads assigns f w made u
    plain_goes L params around reads assigns f w made u none ready kept plainly = record {
      nd_free = plainly.nd_free;
      scope = L;
      slots = refl;
      local_regions = refl;
      same_nd_free = refl;
      ready = λ r a reads_so assigns_so. ready_less P L u.env params around reads assigns r a (λ x h. reads_so x (none x) h) (λ x h. assigns_so x (none x) h) (ready_kept P L w.env u.env params around reads assigns kept ready);
      on = λ room nd_free. plain_on L params around reads assigns w made u ready kept (plainly.alone room nd_free);
    }

    of_passing : (L : Scope) (w u : Walk) (made : TypedStmt) → Passing P L w.found made u.found → Plainly L w made u
    of_passing L w u made p = record { nd_free = p.nd_free; alone = λ room nd_free. record { effects = p.effects; passes_so = p.does_so nd_free; gathers = p.gathers } }

    -- an expression of a statement
    pub expr_at : (L : Scope) (env : Env) (params : List Bool) (around : Around) (reads assigns : ℕ → Bool) (e : PlainExpr) (f g : Found) (t : Option TypedExpr) → Ready P L env params around reads assigns → Fitting e →
        ((x : ℕ) → IsTrue (expr_reads x e) → IsTrue (reads x)) → Typing env e f (gives t g) → (x : TypedExpr) × (t ≡ Some x) × Stands P L f x g
    expr_at L env params around reads assigns e f g t ready fits all d = expression_agrees P L env reads assigns ready.tells ready.sees e f g t fits all d

    -- a declaration

    declared_is : (is_final : Bool) (t : PlainType) (name : ℕ) (env : Env) (made : Ty) → plain_type made ≡ t → (x y : Bool) → RowIs x y (local_row env name made is_final) (Some (declared_as is_final t))
    declared_is is_final t name env made same x y = subst (λ z. RowIs x y (local_row env name made is_final) (Some (declared_as is_final z))) same (by is_final refl)
      where
        by : (f : Bool) → is_final ≡ f → RowIs x y (local_row env name made is_final) (Some (declared_as f (plain_type made)))
        by true f = RowIs.is_constant refl f
        by false f = RowIs.is_variable refl f

    off_name : (name : ℕ) (r reads : ℕ → Bool) → ((x : ℕ) → (name == x) ≡ false → IsTrue (r x) → IsTrue (reads x)) → (x : ℕ) → (name == x) ≡ false → IsTrue (r x) → IsTrue (reads x)
    off_name name r reads h = h

    pub declaring_goes : (L : Scope) (params : List Bool) (around : Around) (reads assigns : ℕ → Bool) {node : Node} {is_final : Bool} {tree_type : _} {name : ℕ} {value : PlainExpr} {w : Walk} {v : Verdict TypedStmt} →
        Ready P L w.env params around reads assigns → StmtFormFitting (tree.declare is_final tree_type name value) → ((x : ℕ) → IsTrue (stmt_form_reads x (tree.declare is_final tree_type name value)) → IsTrue (reads x)) →
        Declaring node is_final tree_type name value w v → If (Goes L params around reads assigns (tree.declare is_final tree_type name value) w) v
    declaring_goes L params around reads assigns ready fits all Declaring.is_refused = tt
    declaring_goes L params around reads assigns {node} {is_final} {tree_type} {name} {value} {w} ready fits all (Declaring.declared {t = t} {g = g} {fit = fit} made unreported same d fit_is j) =
        subst (If (Goes L params around reads assigns (tree.declare is_final tree_type name value) w)) j
        (judged_if (Goes L params around reads assigns (tree.declare is_final tree_type name value) w) _ _ _ (λ free.
        let f = free_if (declaration_noted w.env name node.place node) _ (not fit) free in
        let has_one = room_free w.env name node.place node f.0 in
        subst (λ (z : Env). Goes L params around reads assigns (tree.declare is_final tree_type name value) w
        (statement node.place (typed.declare w.env.slots (declared_type w.env tree_type) is_final (node_of value t))) (record { env = z; found = g }))
        (sym (ap (λ b. cond b (with_local w.env name made is_final) w.env) has_one)) (by (not_false fit f.1))))
      where
        n : ℕ
        n = w.env.slots

        T : PlainType
        T = declared_type w.env tree_type

        good : GoodType P L 0 T
        good = declared_good P L w.env reads assigns ready.tells ready.sees tree_type fits.0 unreported

        free : L.local n ≡ None
        free = none_at L n ready.below n (omega arith)

        x : (e : TypedExpr) × (t ≡ Some e) × Stands P L w.found e g
        x = expr_at L w.env params around reads assigns value w.found g t ready fits.1 (λ y h. all y (or_right (type_reads y tree_type) (expr_reads y value) h)) d

        by : fit ≡ true →
            Goes L params around reads assigns (tree.declare is_final tree_type name value) w (statement node.place (typed.declare n T is_final (node_of value t)))
            (record { env = with_local w.env name made is_final; found = g })
        by fit_so = record {
          nd_free = x.2.nd_free;
          scope = in_scope n (declared_as is_final T) L;
          slots = refl;
          local_regions = refl;
          same_nd_free = refl;
          ready = λ r a reads_so assigns_so. ready_row P L w.env params around reads assigns r a ready (local_row w.env name made is_final) (declared_as is_final T) (n + 1) refl (omega arith)
              (declared_is is_final T name w.env made same) (λ _. ap can_stand same ∙ good_stands P L 0 T good) (declared_names P signed L is_final T (good_type P L 0 T good)) reads_so assigns_so;
          on = λ room nd_free. record {
            effects = x.2.effects;
            out = outside_variable n;
            none = refl;
            inside' = (has_names P signed L ready.locals (x.2.has nd_free)).1;
            gathers = x.2.gathers;
            following' = λ ss F c rest.
                AllPass.declare (free, (let k = room.slots in omega (arith, k))) good
                (subst (λ z. Has P L z x.2.effects) (sym (ap (node_of value) x.1)) (x.2.has nd_free))
                (subst (λ z. Subtype P (type_of z) T) (sym (ap (node_of value) x.1))
                (fits_subtype P (supers_of w.env) ready.sees.supers (type_of x.0) T (good_stands P L 0 T good) (subst (λ z. FitsAs (supers_of w.env) (type_in z) T) x.1 ((fits_is (supers_of w.env) (type_in t) T).0 (fit_is ∙ fit_so))))) rest;
            leaves = λ D raw. left_stepped n w.env.declared (Later (IsIndex (in_scope n (declared_as is_final T) L)) (n + 1)) (Later (IsRegion L) w.env.declared) (in_scope n (declared_as is_final T) L)
                (λ k u a h. path_stays L n (free_none L n free) a (ready.locals k (part u a) (part_parts P signed n (declared_as is_final T) L (declared_no_part P signed is_final T) k u a h)).0) D raw;
            raws = λ D raw. all_raw_before L (in_scope n (declared_as is_final T) L) n w.env.declared (n + 1) w.env.declared
                (λ y h. ⊎_elim (λ i. ⊎_elim (λ e. inr (omega (arith, e))) (λ k. inl k) (only_index P signed L n (declared_as is_final T) y i)) (λ l. inr (omega (arith, l))) h) (λ r h. h)
                (part_parts P signed n (declared_as is_final T) L (declared_no_part P signed is_final T)) D raw;
          };
        }

    -- with the facts of the walk
    pub plain_if : (L : Scope) (params : List Bool) (around : Around) (reads assigns : ℕ → Bool) (f : tree.StmtForm) (node : Node) (w : Walk) (v : Verdict TypedStmt) → ((x : ℕ) → declares_form x f ≡ false) →
        ((a b : Env) → After f a b → Kept a b) → Ready P L w.env params around reads assigns → If (Walked node f w) v → If (Plainly L w) v → If (Goes L params around reads assigns f w) v
    plain_if L params around reads assigns f node w (passes made u) none kept ready h k = plain_goes L params around reads assigns f w made u none ready (kept w.env u.env h.env) k
    plain_if L params around reads assigns f node w (refused refusal) none kept ready h k = tt

    pub single_if : (L : Scope) (w : Walk) (v : Verdict TypedStmt) → ((made : TypedStmt) (u : Walk) → v ≡ passes made u → Passing P L w.found made u.found) → If (Plainly L w) v
    single_if L w (passes made u) h = of_passing L w u made (h made u refl)
    single_if L w (refused refusal) h = tt

    -- what holds after the parts of a statement

    pub scope_if : (L : Scope) (params : List Bool) (around : Around) (reads assigns : ℕ → Bool) (f : tree.StmtForm) (w : Walk) (v : Verdict TypedStmt) → If (Goes L params around reads assigns f w) v → If (ScopeGoes L w) (own_scope w v)
    scope_if L params around reads assigns f w (passes made u) h = record { nd_free = h.nd_free; goes = λ room nd_free. by (h.on (record { slots = room.slots; regions = room.regions }) nd_free) }
      where
        by : On L h.scope w made u → (E : List Done) × AllPass P L (typed.more_stmts made typed.no_stmts) E × Gathers w.found E u.found
        by on = (on.effects, subst (AllPass P L (typed.more_stmts made typed.no_stmts)) (ap (λ z. on.effects ++ z) on.none ∙ append_none on.effects) (on.following' typed.no_stmts [] (inr refl) AllPass.no_more), on.gathers)
    scope_if L params around reads assigns f w (refused refusal) h = tt

    nd_before : (a b : Bool) → (a || b) ≡ false → (a ≡ false) × (b ≡ false)
    nd_before a b h = or_parts a b h

    pub block_if : (L : Scope) (w : Walk) (v : Verdict (List TypedStmt)) → If (OrderGoes L (apart_from w)) v → If (BlockGoes L w) (own_block w v)
    block_if L w (passes made u) h = record {
      nd_free = λ z. (nd_before w.found.reaches_nd u.found.reaches_nd z).0;
      goes = λ room nd_free.
          let g = h.goes (record { slots = room.slots; regions = room.regions }) (λ z. (nd_before w.found.reaches_nd u.found.reaches_nd (nd_free z)).1) in
          (left (here w.env) g.0, g.1, taken (here w.env) w.found u.found g.0 g.2);
    }
    block_if L w (refused refusal) h = tt

    order_then : (L : Scope) (params : List Bool) (around : Around) (reads assigns : ℕ → Bool) (before : Bool) (place : Place) (f : tree.StmtForm) (ss : PlainStmts) (w u : Walk) (made : TypedStmt) →
        Ready P L w.env params around reads assigns → Stood (tree.statement place f) w made u → (g : Goes L params around reads assigns f w made u) → (others : List TypedStmt) (z : Walk) →
        Ordered (before && tree_completes.form_completes f) ss u others z → OrderGoes g.scope u others z → OrderGoes L w (made ∷ others) z
    order_then L params around reads assigns before place f ss w u made ready stood g others z ordered rest = record {
      nd_free = λ c. g.nd_free (rest.nd_free c);
      goes = λ room nd_free.
          let on = g.on (room_before L u.env z.env ordered.grown.slots ordered.grown.declared room) (λ c. rest.nd_free (nd_free c)) in
          let inner : Room g.scope z.env = record { slots = subst (λ k. z.env.slots ≤ k) (sym g.slots) room.slots; regions = subst (λ k. z.env.declared ≤ k) (sym g.local_regions) room.regions } in
          let r = rest.goes inner (λ c. nd_free (sym g.same_nd_free ∙ c)) in (
            on.effects ++ r.0,
            subst (AllPass P L (typed.more_stmts made (stmts_of others)))
                (sym (left_append (here w.env) on.effects r.0 ∙ ap (λ k. k ++ left (here w.env) r.0) (stays L w.env params around reads assigns ready on.effects on.inside') ∙ ap (λ k. on.effects ++ k) (on.leaves r.0 r.3)))
                (on.following' (stmts_of others) (left (here u.env) r.0) (⊎_elim (λ both. inl (stood.complete_so ∙ (and_true before (tree_completes.form_completes f) both).1)) (λ none. inr none) ordered.starts) r.1),
            then_gathered w.found u.found z.found on.effects r.0 on.gathers r.2,
            raw_append L w.env.slots w.env.declared on.effects r.0 (all_raw_of L w.env.slots w.env.declared on.effects on.inside') (on.raws r.0 r.3),
          );
    }

    pub order_if : (L : Scope) (params : List Bool) (around : Around) (reads assigns : ℕ → Bool) (before : Bool) (place : Place) (f : tree.StmtForm) (ss : PlainStmts) (w u : Walk) (made : TypedStmt) →
        Ready P L w.env params around reads assigns → Stood (tree.statement place f) w made u → (g : Goes L params around reads assigns f w made u) → (v : Verdict (List TypedStmt)) →
        If (Ordered (before && tree_completes.form_completes f) ss u) v → If (OrderGoes g.scope u) v → If (OrderGoes L w) (following None (λ others. made ∷ others) v)
    order_if L params around reads assigns before place f ss w u made ready stood g (passes others z) h k = order_then L params around reads assigns before place f ss w u made ready stood g others z h k
    order_if L params around reads assigns before place f ss w u made ready stood g (refused refusal) h k = tt

    -- the reads of the statements after another
    pub later_reads : (f : tree.StmtForm) (place : Place) (ss : PlainStmts) (reads : ℕ → Bool) → ((x : ℕ) → IsTrue (stmts_read x (tree.more_stmts (tree.statement place f) ss)) → IsTrue (reads x)) →
        (x : ℕ) → declares_form x f ≡ false → IsTrue (stmts_read x ss) → IsTrue (reads x)
    later_reads f place ss reads all x none h = all x (or_right (stmt_form_reads x f) (not (declares_form x f) && stmts_read x ss) (and_both (not (declares_form x f)) (stmts_read x ss) (not_so (declares_form x f) none) h))

    pub later_assigns : (f : tree.StmtForm) (place : Place) (ss : PlainStmts) (assigns : ℕ → Bool) → ((x : ℕ) → IsTrue (stmts_assign x (tree.more_stmts (tree.statement place f) ss)) → IsTrue (assigns x)) →
        (x : ℕ) → declares_form x f ≡ false → IsTrue (stmts_assign x ss) → IsTrue (assigns x)
    later_assigns f place ss assigns all x none h = all x (or_right (stmt_form_assigns x f) (not (declares_form x f) && stmts_assign x ss) (and_both (not (declares_form x f)) (stmts_assign x ss) (not_so (declares_form x f) none) h))

    -- a `while`
    pub while_plain : (L : Scope) (params : List Bool) (around : Around) (reads assigns : ℕ → Bool) (place : Place) (test : PlainExpr) (w : Walk) (t : Option TypedExpr) (g : Found) (made : TypedStmt) (u : Walk) →
        Ready P L w.env params around reads assigns → Fitting test → ((x : ℕ) → IsTrue (expr_reads x test) → IsTrue (reads x)) → Typing w.env test w.found (gives t g) → may_be is_boolean (type_in t) ≡ true →
        ScopeGoes L (found_so w g) made u → Plainly L w (statement place (typed.while_loop (node_of test t) made)) u
    while_plain L params around reads assigns place test w t g made u ready fits all d bool s =
        let x = expr_at L w.env params around reads assigns test w.found g t ready fits all d in
        record {
          nd_free = λ c. x.2.nd_free (s.nd_free c);
          alone = λ room nd_free.
              let r = s.goes room nd_free in
              record {
                effects = x.2.effects ++ r.0;
                passes_so =
                    subst (λ z. Passes P L (statement place (typed.while_loop z made)) (x.2.effects ++ r.0)) (sym (ap (node_of test) x.1))
                    (Passes.while_loop (x.2.has (λ c. s.nd_free (nd_free c))) (boolean_is (type_of x.0) (subst (λ z. may_be is_boolean (type_in z) ≡ true) x.1 bool)) r.1);
                gathers = then_gathered w.found g u.found x.2.effects r.0 x.2.gathers r.2;
              };
        }

    -- an `if`
    pub choice_plain : (L : Scope) (params : List Bool) (around : Around) (reads assigns : ℕ → Bool) (place : Place) (test : PlainExpr) (other : Option PlainStmt) (w y u : Walk) (t : Option TypedExpr) (g : Found) (made : TypedStmt)
        (part' : Option TypedStmt) → Ready P L w.env params around reads assigns → Fitting test → ((x : ℕ) → IsTrue (expr_reads x test) → IsTrue (reads x)) → Typing w.env test w.found (gives t g) →
        may_be is_boolean (type_in t) ≡ true → ScopeGoes L (found_so w g) made y → OtherGoes L other y part' u → OtherDone other y part' u → Plainly L w (statement place (choice_form (node_of test t) made part')) u
    choice_plain L params around reads assigns place test None w y u t g made None ready fits all d bool s o k =
        let x = expr_at L w.env params around reads assigns test w.found g t ready fits all d in
        record {
          nd_free = λ c. x.2.nd_free (s.nd_free (ap (λ (z : Found). z.reaches_nd) o ∙ c));
          alone = λ room nd_free.
              let r = s.goes (room_before L y.env u.env k.slots k.declared room) (λ c. ap (λ (z : Found). z.reaches_nd) o ∙ nd_free c) in
              record {
                effects = x.2.effects ++ r.0;
                passes_so =
                    subst (λ z. Passes P L (statement place (typed.choice z made)) (x.2.effects ++ r.0)) (sym (ap (node_of test) x.1))
                    (Passes.choice (x.2.has (λ c. s.nd_free (ap (λ (z : Found). z.reaches_nd) o ∙ nd_free c))) (boolean_is (type_of x.0) (subst (λ z. may_be is_boolean (type_in z) ≡ true) x.1 bool)) r.1);
                gathers = subst (Gathers w.found (x.2.effects ++ r.0)) o (then_gathered w.found g y.found x.2.effects r.0 x.2.gathers r.2);
              };
        }
    choice_plain L params around reads assigns place test (Some second) w y u t g made (Some other) ready fits all d bool s o k =
        let x = expr_at L w.env params around reads assigns test w.found g t ready fits all d in
        record {
          nd_free = λ c. x.2.nd_free (s.nd_free (o.nd_free c));
          alone = λ room nd_free.
              let r = s.goes (room_before L y.env u.env k.kept.slots k.kept.declared room) (λ c. o.nd_free (nd_free c)) in
              let q = o.goes room nd_free in
              record {
                effects = x.2.effects ++ (r.0 ++ q.0);
                passes_so =
                    subst (λ z. Passes P L (statement place (typed.choice_else z made other)) (x.2.effects ++ (r.0 ++ q.0))) (sym (ap (node_of test) x.1))
                    (Passes.choice_else (x.2.has (λ c. s.nd_free (o.nd_free (nd_free c)))) (boolean_is (type_of x.0) (subst (λ z. may_be is_boolean (type_in z) ≡ true) x.1 bool)) r.1 q.1);
                gathers = then_gathered w.found g u.found x.2.effects (r.0 ++ q.0) x.2.gathers (then_gathered g y.found u.found r.0 q.0 r.2 q.2);
              };
        }
    choice_plain L params around reads assigns place test None w y u t g made (Some other) ready fits all d bool s o k = absurd o
    choice_plain L params around reads assigns place test (Some second) w y u t g made None ready fits all d bool s o k = absurd o

    -- an atomic block
    pub atomic_plain : (L : Scope) (params : List Bool) (around : Around) (reads assigns : ℕ → Bool) (place : Place) (w : Walk) (ss : List TypedStmt) (u : Walk) → Ready P L w.env params around reads assigns → u.found.reaches_nd ≡ false →
        BlockGoes (in_atomic_block L) (apart_from w) ss u →
        Plainly L w (statement place (typed.atomic (entered u.found) (stmts_of ss))) (record { env = u.env; found = taken_in (from_here w.env marks.Set) w.found u.found })
    atomic_plain L params around reads assigns place w ss u ready none b = record {
      nd_free = λ z. (nd_before w.found.reaches_nd u.found.reaches_nd z).0;
      alone = λ room nd_free.
          let r = b.goes (record { slots = room.slots; regions = room.regions }) (λ c. none) in
          let inside_so : AllDoneIn L r.0 = all_names P signed {L = in_atomic_block L} ready.locals r.1 in
          let same = left_kept (from_here w.env marks.Set) (IsIndex L) (IsRegion L) L (λ x i. ready.below x (constant ty.int) i) ready.regions r.0 (all_over_of L r.0 inside_so) in
          record {
            effects = after_block r.0;
            passes_so = Passes.atomic r.1 (same_entered u.found r.0 r.2);
            gathers = subst (λ z. Gathers w.found z (taken_in (from_here w.env marks.Set) w.found u.found)) same (taken (from_here w.env marks.Set) w.found u.found r.0 r.2);
          };
    }

    pub both_other : (L : Scope) (other : Option PlainStmt) (w : Walk) (v : Verdict (Option TypedStmt)) → If (OtherGoes L other w) v → If (OtherDone other w) v → If (λ made u. OtherGoes L other w made u × OtherDone other w made u) v
    both_other L other w v h k = both_if (OtherGoes L other w) (OtherDone other w) v h k
