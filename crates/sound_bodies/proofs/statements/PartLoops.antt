-- A `foreach_parts` passes where its body does.
use Rattle.std.proofs.Common.{◌≡◌, ◌∙◌, ◌<◌, ◌≤◌, ◌+◌, ◌==◌, ℕ, Bool, true, false, not, ◌&&◌, cond, IsTrue, List, [], ◌∷◌, ◌++◌, All, inl, inr, ⊎_elim, Option, Some, None, option_map, refl, sym, ap, subst, arith}
use Rattle.std.proofs.lemmas.Bool.{or_parts, eqb-true, ne_eqb, false≢true}
use Rattle.std.proofs.lemmas.List.Elements.{All-nil, All-cons}
use Rattle.lang_base.specs.declared.place.Place.{Place}
use Rattle.lang_base.specs.declared.refusal.Kind.{Kind}
use Rattle.lang_base.specs.declared.refusal.Kind.TheVariants as kind
use Rattle.lang_base.specs.declared.region.Rpl.{Rpl}
use Rattle.lang_base.specs.declared.ty.Ty.{Ty}
use Rattle.lang_base.specs.declared.ty.Ty.TheVariants as variant
use Rattle.lang_base.specs.Regions.{fully_specified}
use Rattle.lang_base.specs.Types.{PlainType, plain_type}
use Rattle.lang_base.specs.Types.{PlainType as ty}
use Rattle.body_locals.specs.Touches.{expr_reads, stmt_reads, stmt_assigns}
use Rattle.region_interfere.specs.Uses.{parts_interfere}
use Rattle.syntax_tree.specs.declared.region.Named.{Named}
use Rattle.syntax_tree.specs.Plain.{PlainExpr, PlainStmt}
use Rattle.lang_typed.specs.declared.stmt.Forking.TheVariants.{Deterministic}
use Rattle.lang_typed.specs.Plain.{PlainProgram, TypedExpr, type_of, Source, of_array, of_part, TypedStmt, statement}
use Rattle.lang_typed.specs.Plain as typed
use Rattle.lang_typed.specs.Scope.{Scope, constant, part, reserved, read_alone, in_loop_branch}
use Rattle.lang_typed.specs.Scope.{with_local as in_scope}
use Rattle.lang_typed.specs.Scope.{Local as Slot}
use Rattle.lang_typed.specs.Effects.{after_branches, outside_variable, after_parts, besides_part, through_part}
use Rattle.lang_base.specs.Branches.{iterations_clash, lists_clash}
use Rattle.lang_typed.specs.Effects.{Own as Done}
use Rattle.lang_typed.specs.Statements.{with_part as with_parts, IsFree, Cuts, Passes, AllPass}
use Rattle.body_exprs.specs.declared.env.Env.{Env}
use Rattle.body_exprs.specs.declared.env.LocalRow.{LocalRow}
use Rattle.body_exprs.specs.declared.found.Found.{Found}
use Rattle.body_exprs.specs.Answer.{gives}
use Rattle.body_exprs.specs.Env.{given_in, local_of, local_row, part_row, with_local, with_part}
use Rattle.body_exprs.specs.Typing.{Typing}
use Rattle.body_check.specs.declared.leaving.Marks.TheVariants as marks
use Rattle.body_check.specs.declared.node.Around.{Around}
use Rattle.body_check.specs.Checking.{outer_part, parts_left}
use Rattle.body_check.specs.Deciding.{whole_fault}
use Rattle.body_check.specs.Gathering.{taken_in}
use Rattle.body_check.specs.Gathering.{handed_on as hand_on}
use Rattle.body_check.specs.Around.{inside}
use Rattle.body_check.specs.Leaving.{from_here}
use Rattle.body_check.specs.Simple.{node_of}
use Rattle.body_check.specs.Walks.{Walk, nothing_found}
use Rattle.sound_lemmas.proofs.StatementRules.{cut_type, cut_fault, Cutting}
use Rattle.sound_lemmas.proofs.Lists.{some_same}
use Rattle.sound_bodies.specs.Gathered.{Gathers}
use Rattle.sound_bodies.specs.Laws.{Stands}
use Rattle.sound_bodies.specs.Naming.{IsIndex, IsRegion, TypeNames, LocalsName, AllDoneIn, Signed}
use Rattle.sound_bodies.specs.Ready.{Ready, Room, NdFree}
use Rattle.sound_bodies.specs.Seen.{RowIs, Sees}
use Rattle.syntax_grammar.specs.Written.{Fitting}
use Rattle.sound_bodies.proofs.effects.Clashing.{handed, parts_apart}
use Rattle.sound_bodies.proofs.scope.Declaring.{local_pushed}
use Rattle.sound_bodies.proofs.statements.Expressions.{part_seen, expression_agrees}
use Rattle.sound_bodies.proofs.effects.Gathered.{nothing_gathered, then_gathered}
use Rattle.sound_bodies.proofs.scope.InScope.{type_more, has_names}
use Rattle.sound_bodies.proofs.scope.InScopeStatements.{path_stays, free_none, locals_with, alone_index, parted_index, all_over, all_names}
use Rattle.sound_bodies.proofs.effects.Left.{left, left_general, taken}
use Rattle.sound_bodies.proofs.statements.Loops.{int_plain, marks_same}
use Rattle.sound_bodies.proofs.scope.Readiness.{ready_loop, ready_row, none_at}
use Rattle.sound_bodies.proofs.statements.Statements.{and_both, not_so, Plainly, expr_at}

-- a slot that is reserved beside those of the locals
ready_reserved : (P : PlainProgram) (L : Scope) (env : Env) (params : List Bool) (around : Around) (r a : ℕ → Bool) (x : ℕ) → Ready P L env params around r a →
    ((name : ℕ) (row : LocalRow) → local_of env name ≡ Some row → row.slot < x) → 0 < x → x < env.slots → (IsIndex L x → ⊥) → Ready P (in_scope x reserved L) env params around r a
ready_reserved P L env params around r a x ready rows positive below none = record {
  tells = ready.tells;
  sees = record {
    given = ready.sees.given;
    supers = ready.sees.supers;
    self = kept 0 positive ∙ ready.sees.self;
    locals = λ name row h. subst (RowIs (r name) (a name) row) (sym (kept row.slot (rows name row h))) (ready.sees.locals name row h);
    declared = ready.sees.declared;
    indices = ready.sees.indices;
    params = ready.sees.params;
    regions = ready.sees.regions;
  };
  step = ready.step;
  locals = locals_with L x reserved none ready.locals tt;
  below = λ y l h. by (y == x) y l refl h;
  regions = ready.regions;
  returns = record { value = ready.returns.value; nothing = ready.returns.nothing };
  atomic = ready.atomic;
}
  where
    kept : (y : ℕ) → y < x → (in_scope x reserved L).local y ≡ L.local y
    kept y l = ap (λ b. cond b (Some reserved) (L.local y)) (ne_eqb y x (λ e. omega (arith, l, e)))

    by : (b : Bool) (y : ℕ) (l : Slot) → (y == x) ≡ b → cond b (Some reserved) (L.local y) ≡ Some l → y < env.slots
    by true y l is h = let e = eqb-true y x is in omega (arith, e, below)
    by false y l is h = ready.below y l h

nd_handed : (k : ℕ) (o : Option ℕ) (g : Found) → (hand_on k o g).reaches_nd ≡ g.reaches_nd
nd_handed k None g = refl
nd_handed k (Some outer) g = refl

whole_array : (t : PlainType) → whole_fault t ≡ None → (elem : PlainType) × (a : Rpl) × (t ≡ ty.array elem a false) × IsTrue (fully_specified a)
whole_array (ty.array elem a false) h = (elem, a, refl, by (fully_specified a) h)
  where
    by : (b : Bool) → cond b None (Some kind.RegionArgs) ≡ None → b ≡ true
    by true h = refl
    by false h = cc
whole_array (ty.array elem a true) h = cc
whole_array ty.int h = cc
whole_array ty.boolean h = cc
whole_array ty.void h = cc
whole_array ty.null h = cc
whole_array (ty.class c args) h = cc

module _ (P : PlainProgram) (signed : Signed P) (L : Scope) (params : List Bool) (around : Around) (reads assigns : ℕ → Bool) (w : Walk) (ready : Ready P L w.env params around reads assigns)
  where
    abbrev pub k : ℕ
    k = w.env.slots

    -- what is cut
    pub record CutSo (t : PlainType) (source : Source) (f g : Found) : Type 0 where
      pub elem : PlainType
      pub path : Rpl
      pub is : t ≡ ty.array elem path false
      pub names : TypeNames (IsIndex L) (IsRegion L) (ty.array elem path false)
      pub effects : List Done
      pub cuts : (IsTrue L.nd_free → g.reaches_nd ≡ false) → Cuts P L source elem path effects
      pub part_is : (j : ℕ) → source ≡ of_part j → L.local j ≡ Some (part elem path)
      pub gathers : Gathers f effects g
      pub nd_free : g.reaches_nd ≡ false → f.reaches_nd ≡ false

    -- the same place where nothing need be nd-free
    abbrev Loud : Scope
    Loud = record L { nd_free = false }

    loud_sees : Sees P Loud w.env reads assigns
    loud_sees = record {
      given = ready.sees.given;
      supers = ready.sees.supers;
      self = ready.sees.self;
      locals = ready.sees.locals;
      declared = ready.sees.declared;
      indices = ready.sees.indices;
      params = ready.sees.params;
      regions = ready.sees.regions;
    }

    expr_names : (e : PlainExpr) (f g : Found) (t : Option TypedExpr) → Fitting e → ((x : ℕ) → IsTrue (expr_reads x e) → IsTrue (reads x)) → Typing w.env e f (gives t g) → (d : TypedExpr) → t ≡ Some d →
        TypeNames (IsIndex L) (IsRegion L) (type_of d)
    expr_names e f g t fits all typing d is =
        let x = expression_agrees P Loud w.env reads assigns ready.tells loud_sees e f g t fits all typing in
        subst (λ z. TypeNames (IsIndex L) (IsRegion L) (type_of z)) (some_same (sym x.1 ∙ is)) (has_names P signed Loud ready.locals (x.2.has (λ no. absurd (false≢true no)))).0

    pub cutting_so : {array : PlainExpr} {f g : Found} {t : PlainType} {source : Source} {fault : Option Kind} → Fitting array → ((x : ℕ) → IsTrue (expr_reads x array) → IsTrue (reads x)) →
        Cutting w.env array f t source fault g → fault ≡ None → CutSo t source f g
    cutting_so {array} {f} fits all (Cutting.a_part {row = row} l) none =
        let p = part_seen P L w.env reads assigns ready.tells ready.sees array row l in
        record {
          elem = p.0;
          path = p.1;
          is = p.3;
          names = ready.locals row.slot (part p.0 p.1) p.2;
          effects = [];
          cuts = λ c. Cuts.cuts_part p.2;
          part_is = λ j same. subst (λ z. L.local z ≡ Some (part p.0 p.1)) (slot_of same) p.2;
          gathers = nothing_gathered f;
          nd_free = λ c. c;
        }
      where
        slot_of : {i j : ℕ} → of_part i ≡ of_part j → i ≡ j
        slot_of e = cc
    cutting_so {array} {f} {g} fits all (Cutting.an_array {t = t} l d) none =
        let x = expr_at P signed L w.env params around reads assigns array f g t ready fits all d in
        let q = whole_array (type_of x.0) (sym (ap cut_fault x.1) ∙ none) in
        subst (λ z. CutSo z (of_array (node_of array t)) f g) (sym (ap cut_type x.1))
        (subst (λ z. CutSo (type_of x.0) (of_array z) f g) (sym (ap (node_of array) x.1)) (record {
          elem = q.0;
          path = q.1;
          is = q.2;
          names = subst (TypeNames (IsIndex L) (IsRegion L)) q.2 (expr_names array f g t fits all d x.0 x.1);
          effects = x.2.effects;
          cuts = λ c. Cuts.cuts_array (x.2.has c) q.2 q.3;
          part_is = λ j same. absurd (no_part same);
          gathers = x.2.gathers;
          nd_free = x.2.nd_free;
        }))
      where
        no_part : {e : TypedExpr} {j : ℕ} → of_array e ≡ of_part j → ⊥
        no_part e = cc

    free_at : (i : ℕ) → L.local (k + i) ≡ None
    free_at i = none_at L k ready.below (k + i) (omega arith)

    module _ (elem : PlainType) (path : Rpl) (names : TypeNames (IsIndex L) (IsRegion L) (ty.array elem path false))
      where
        abbrev pub Parted : Scope
        Parted = with_parts k elem path (in_loop_branch L)

        abbrev First : Scope
        First = in_scope k (part elem path) (in_loop_branch L)

        abbrev Second : Scope
        Second = in_scope (k + 1) reserved First

        abbrev Third : Scope
        Third = in_scope (k + 2) reserved Second

        abbrev Fourth : Scope
        Fourth = in_scope (k + 3) reserved Third

        -- at the begin of a branch
        pub ready_parts : (view var : Named) (t : Ty) (body : PlainStmt) → plain_type t ≡ ty.array elem path false →
            ((x : ℕ) → IsTrue (not (view.name == x) && (not (var.name == x) && stmt_reads x body)) → IsTrue (reads x)) → ((x : ℕ) → IsTrue (stmt_assigns x body) → ⊥) →
            Ready P Parted (with_local (with_part w.env view.name t) var.name variant.Int true) params (inside around) (λ x. stmt_reads x body) (λ x. stmt_assigns x body)
        ready_parts view var t body is all none =
            let r0 : Ready P First (with_part w.env view.name t) params (inside around) (λ x. not (var.name == x) && stmt_reads x body) (λ x. false) = ready_row P (in_loop_branch L) w.env params (inside around) reads (λ x. false) (λ x. not (var.name == x) && stmt_reads x body) (λ x. false) (ready_loop P L w.env params around reads assigns ready)
            (part_row w.env view.name t) (part elem path) (k + 4) refl (omega arith) (λ x y. RowIs.is_part refl refl is) (λ final. absurd (false≢true (sym final)))
            (type_more (IsIndex L) (IsRegion L) (IsIndex (in_loop_branch L)) (IsRegion L) (λ v h. ap (option_map read_alone) h) (λ r h. h) (ty.array elem path false) names)
            (λ x other h. all x (and_both (not (view.name == x)) (not (var.name == x) && stmt_reads x body) (not_so (view.name == x) other) h)) (λ x other h. h) in
            let r1 : Ready P Second (with_part w.env view.name t) params (inside around) (λ x. not (var.name == x) && stmt_reads x body) (λ x. false) = ready_reserved P First (with_part w.env view.name t) params (inside around) (λ x. not (var.name == x) && stmt_reads x body) (λ x. false) (k + 1) r0 (λ n row h. (let l = at_most n row h in omega (arith, l))) (omega arith) (omega arith) (later_none 1 (omega arith)) in
            let r2 : Ready P Third (with_part w.env view.name t) params (inside around) (λ x. not (var.name == x) && stmt_reads x body) (λ x. false) = ready_reserved P Second (with_part w.env view.name t) params (inside around) (λ x. not (var.name == x) && stmt_reads x body) (λ x. false) (k + 2) r1 (λ n row h. (let l = at_most n row h in omega (arith, l))) (omega arith) (omega arith) (none_after First (k + 1) (k + 2) (later_none 2 (omega arith))) in
            let r3 : Ready P Fourth (with_part w.env view.name t) params (inside around) (λ x. not (var.name == x) && stmt_reads x body) (λ x. false) = ready_reserved P Third (with_part w.env view.name t) params (inside around) (λ x. not (var.name == x) && stmt_reads x body) (λ x. false) (k + 3) r2 (λ n row h. (let l = at_most n row h in omega (arith, l))) (omega arith) (omega arith)
            (none_after Second (k + 2) (k + 3) (none_after First (k + 1) (k + 3) (later_none 3 (omega arith)))) in
            ready_row P Fourth (with_part w.env view.name t) params (inside around) (λ x. not (var.name == x) && stmt_reads x body) (λ x. false) (λ x. stmt_reads x body) (λ x. stmt_assigns x body) r3
            (local_row (with_part w.env view.name t) var.name variant.Int true) (constant ty.int) (k + 4 + 1) refl (omega arith) (variable_is (with_part w.env view.name t) var.name) (λ final. absurd (false≢true (sym final))) tt
            (λ x other h. and_both (not (var.name == x)) (stmt_reads x body) (not_so (var.name == x) other) h) (λ x other h. absurd (none x h))
          where
            at_most : (n : ℕ) (row : LocalRow) → local_of (with_part w.env view.name t) n ≡ Some row → row.slot ≤ k
            at_most n row h = by (view.name == n) (sym (local_pushed w.env (part_row w.env view.name t) ready.step n) ∙ h)
              where
                by : (b : Bool) → cond b (Some (part_row w.env view.name t)) (local_of w.env n) ≡ Some row → row.slot ≤ k
                by true h = let same = ap (λ (z : LocalRow). z.slot) (some_same h) in omega (arith, same)
                by false h = let l = ready.step.slots n row h in omega (arith, l)

            later_none : (i : ℕ) → 0 < i → IsIndex (in_scope k (part elem path) (in_loop_branch L)) (k + i) → ⊥
            later_none i l h = by (ne_eqb (k + i) k (λ e. omega (arith, l, e)))
              where
                by : (k + i == k) ≡ false → ⊥
                by ne = free_none L (k + i) (free_at i) (alone_index (L.local (k + i)) (sym (ap (λ b. cond b (Some (part elem path)) ((in_loop_branch L).local (k + i))) ne) ∙ h))

            none_after : (M : Scope) (x y : ℕ) → (IsIndex M y → ⊥) → IsIndex (in_scope x reserved M) y → ⊥
            none_after M x y none h = by (y == x) h
              where
                by : (b : Bool) → cond b (Some reserved) (M.local y) ≡ Some (constant ty.int) → ⊥
                by true h = cc
                by false h = none h

            variable_is : (env : Env) (name : ℕ) (x y : Bool) → RowIs x y (local_row env name variant.Int true) (Some (constant ty.int))
            variable_is env name x y = subst (λ z. RowIs x y (local_row env name variant.Int true) (Some (constant z))) int_plain (RowIs.is_constant refl refl)

        -- a `foreach_parts` whose body passes
        pub parts_plain : (place : Place) (source : Source) (d : TypedExpr) (g h : Found) (E : List Done) (made : TypedStmt) (u : Walk) → LocalsName Parted → ((IsTrue L.nd_free → g.reaches_nd ≡ false) → Cuts P L source elem path E) →
            ((j : ℕ) → source ≡ of_part j → L.local j ≡ Some (part elem path)) → Gathers w.found E g → (g.reaches_nd ≡ false → w.found.reaches_nd ≡ false) → Stands P L g d h → type_of d ≡ ty.int → k + 5 ≤ u.env.slots →
            ((room : Room Parted u.env) → NdFree Parted u → (G : List Done) × AllPass P Parted (typed.more_stmts made typed.no_stmts) G × Gathers nothing_found G u.found) →
            parts_interfere (given_in w.env) k (k + 4) u.found.effects u.found.uses ≡ false → Plainly P signed L w (statement place (typed.foreach_parts k source d made)) (parts_left k w source h u)
        parts_plain place source d g h E made u locals cuts part_is first first_nd_free y d_int more s apart = record {
          nd_free = λ c. first_nd_free (y.nd_free (or_parts h.reaches_nd (hand_on k (outer_part source) u.found).reaches_nd c).0);
          alone = λ room nd_free.
              let before : IsTrue L.nd_free → h.reaches_nd ≡ false = λ c. (or_parts h.reaches_nd (hand_on k (outer_part source) u.found).reaches_nd (nd_free c)).0 in
              let inner : NdFree Parted u = λ c. sym (nd_handed k (outer_part source) u.found) ∙ (or_parts h.reaches_nd (hand_on k (outer_part source) u.found).reaches_nd (nd_free c)).1 in
              let r = s (record { slots = room.slots; regions = room.regions }) inner in
              let inside_so = all_names P signed {L = Parted} locals r.1 in
              let q = parts_apart u.found r.0 (given_in w.env) k (k + 4) r.2 apart in
              let l = room.slots in
              record {
                effects = E ++ (y.effects ++ outside_variable (k + 4) (after_branches Deterministic (after_parts k source r.0)));
                passes_so = Passes.foreach_parts (cuts (λ c. y.nd_free (before c))) (y.has before) d_int (all_free (omega (arith, more, l))) r.1
                    (subst (λ z. iterations_clash z None (k + 4) (besides_part k r.0) ≡ false) (sym ready.sees.given) q.0)
                    (subst (λ z. lists_clash z None (besides_part k r.0) (through_part k r.0) ≡ false) (sym ready.sees.given) q.1);
                gathers = then_gathered w.found g (taken_in (from_here w.env marks.Dropped) h (hand_on k (outer_part source) u.found)) E (y.effects ++ outside_variable (k + 4) (after_branches Deterministic (after_parts k source r.0))) first
                    (then_gathered g h (taken_in (from_here w.env marks.Dropped) h (hand_on k (outer_part source) u.found)) y.effects (outside_variable (k + 4) (after_branches Deterministic (after_parts k source r.0))) y.gathers
                    (subst (λ z. Gathers h z (taken_in (from_here w.env marks.Dropped) h (hand_on k (outer_part source) u.found))) (same r.0 inside_so)
                    (taken (from_here w.env marks.Dropped) h (hand_on k (outer_part source) u.found) (after_parts k source r.0) (handed u.found r.0 k source r.2))));
              };
        }
          where
            all_free : k + 4 < L.slots → All (λ i. IsFree L (k + i)) (0 ∷ 1 ∷ 2 ∷ 3 ∷ 4 ∷ [])
            all_free l =
                let F : ℕ → Type 0 = λ i. IsFree L (k + i) in
                All-cons F 0 (1 ∷ 2 ∷ 3 ∷ 4 ∷ []) (free_at 0, omega (arith, l))
                (All-cons F 1 (2 ∷ 3 ∷ 4 ∷ []) (free_at 1, omega (arith, l))
                (All-cons F 2 (3 ∷ 4 ∷ []) (free_at 2, omega (arith, l)) (All-cons F 3 (4 ∷ []) (free_at 3, omega (arith, l)) (All-cons F 4 [] (free_at 4, l) (All-nil F)))))

            free_k : L.local k ≡ None
            free_k = none_at L k ready.below k (omega arith)

            same : (G : List Done) → AllDoneIn Parted G → left (from_here w.env marks.Dropped) (after_parts k source G) ≡ outside_variable (k + 4) (after_branches Deterministic (after_parts k source G))
            same G inside_so =
                left_general (from_here w.env marks.Dropped) (IsIndex Parted) (IsRegion Parted) L (k + 4) (omega arith)
                (λ y i. ⊎_elim (λ e. inl e) (λ old. inr (ready.below y (constant ty.int) old)) (parted_index L k elem path y i)) ready.regions
                (λ j t a part_so. path_stays L (k + 4) (free_none L (k + 4) (free_at 4)) a (ready.locals j (part t a) part_so).0) (after_parts k source G) (all_over L k elem path source free_k part_is G inside_so)
                ∙ ap (outside_variable (k + 4)) (marks_same false (after_parts k source G))
