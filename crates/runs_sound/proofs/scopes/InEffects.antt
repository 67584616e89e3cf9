-- The effects of expressions and statements speak of nothing but what is in scope, and local regions stand first in them.
use Rattle.std.proofs.Common.{slice_index_or, cond, ◌+◌, true, map, not, ap, inl, inr, ◌≡◌, ℕ, Bool, false, ◌==◌, List, [], ◌∷◌, ◌++◌, length, refl, sym, ◌∙◌, subst, arith, Some, ⊎_elim, slice_get}
use Rattle.std.specs.Prelude.{All}
use Rattle.std.proofs.lemmas.List.Elements.{All-head, All-tail, All-cons, All-map, All-append}
use Rattle.std.proofs.lemmas.Bool.{cases_Bool, cond-true, cond-false, eqb-true, eq-eqb, false≢true, false_from_ne_true}
use Rattle.std.proofs.lemmas.Option.{option_and_then_some}
use Rattle.lang_base.specs.declared.elems.Elem.{Elem}
use Rattle.lang_base.specs.declared.elems.Elem.TheVariants.{Name, At, Any, Star, Local}
use Rattle.lang_base.specs.declared.elems.Index.TheVariants.{Literal, Variable, Renamed, Own}
use Rattle.lang_base.specs.declared.region.Rpl.{Rpl}
use Rattle.lang_base.specs.Regions.{substituted, generalised, general_elem}
use Rattle.lang_base.specs.Types.{PlainType, class, array, int, path_at}
use Rattle.lang_typed.specs.declared.stmt.Forking.{Forking}
use Rattle.lang_typed.specs.declared.stmt.Forking.TheVariants.{Deterministic, Nondeterministic}
use Rattle.lang_typed.specs.Effects.{Own as EffectOwn, does, uses, effect_of, effect_with, mapped, outside_variable, outside_regions, begins_in, summary_with, marked, after_branches, after_parts, own_after, is_through, handed_on}
use Rattle.lang_typed.specs.Plain.{PlainProgram, PlainClass, PlainField, PlainMember, TypedExpr, type_of, TypedExprs, TypedStmt, TypedStmts, TypedBranches, Source, of_array, of_part}
use Rattle.lang_typed.specs.Scope.{Scope, constant, part, class_at, field_at, with_local, with_regions, in_loop_branch, in_branch}
use Rattle.lang_typed.specs.Scope.{Local as ScopeLocal}
use Rattle.lang_typed.specs.Statements.{IsVariable, Cuts, cuts_array, cuts_part, with_part, joined, all_copies, BranchesPass, no_branch, one_branch, declared_as, Passes, AllPass, store, store_field, store_element, store_part, perform, nested, choice, choice_else, while_loop, return_nothing, return_value, print_int, print_boolean, print_text, atomic, cobegin, foreach, foreach_parts, no_more, then', declare, declare_regions}
use Rattle.lang_typed.specs.Table.{class_scope, member_scope}
use Rattle.lang_typed.specs.Typing.{Has, literal_int, literal_boolean, literal_null, read_local, read_field, read_element, length_of_array, call_method, create_object, construct_object, make_array, negative, negation, operation, conjunction, disjunction, length_of_part, read_part, index_elem, Fit}
use Rattle.lang_typed.specs.Typing.{Fit as fit}
use Rattle.lang_typed.specs.WellTyped.{WellTyped}
use Rattle.runs_sound.specs.Scopes.{InScope, PathInScope, GoodScope}
use Rattle.runs_sound.proofs.scopes.Closed.{closed_path}
use Rattle.runs_sound.proofs.classes.Classes.{field_good}
use Rattle.runs_sound.proofs.scopes.InScope.{good_type, substituted_in, index_in, above_in}
use Rattle.runs_sound.proofs.work.Cobegins.{branch_narrower, good_branch, placed_branch, copies_variables}
use Rattle.runs_sound.proofs.work.Forks.{loop_narrower, loop_wider, good_loop, placed_loop, free_in_loop}
use Rattle.runs_sound.proofs.work.Parts.{good_part, placed_part, with_slots, slots_narrower}
use Rattle.runs_sound.proofs.paths.Uses.{cuts_in, free_slots, free_in_branch}
use Rattle.runs_sound.proofs.scopes.Wider.{Wider, wider_type}
use Rattle.runs_sound.proofs.scopes.Placed.{placed_wider_path, placed_wider, with_outer, PathPlaced, TypePlaced, PlacedScope, placed_path, good_placed_path, good_placed, at_placed_path, out_placed_path, typed_placed}
use Rattle.runs_sound.proofs.work.Regions.{outside_path, good_regions, placed_regions, placed_block, placed_declare}
use Rattle.runs_sound.proofs.work.Blocks.{good_block}
use Rattle.runs_sound.proofs.scopes.Locals.{good_declare, inner_local}

abbrev pub OwnInScope : Scope → EffectOwn → Type 0
OwnInScope L o = PathInScope L 0 (effect_of o).rpl

abbrev pub OwnPlaced : (ℕ → Bool) → Scope → EffectOwn → Type 0
OwnPlaced outer L o = PathPlaced outer L 0 (effect_of o).rpl

module _ (P : PlainProgram) (wt : WellTyped P) (outer : ℕ → Bool) where
  none_in : (L : Scope) → All (OwnPlaced outer L) []
  none_in L = λ k d l. absurd (omega (arith, l))

  one_in : (L : Scope) (o : EffectOwn) → OwnPlaced outer L o → All (OwnPlaced outer L) (o ∷ [])
  one_in L o h = All-cons (OwnPlaced outer L) o [] h (none_in L)

  both_in : (L : Scope) (E F : List EffectOwn) → All (OwnPlaced outer L) E → All (OwnPlaced outer L) F → All (OwnPlaced outer L) (E ++ F)
  both_in L E F h k = All-append (OwnPlaced outer L) E F h k

  pub all_own : (L : Scope) → PlacedScope outer L → (E : List EffectOwn) → All (OwnPlaced outer L) E → All (OwnInScope L) E
  all_own L placed E h = λ k d l. placed_path outer L placed 0 (effect_of (slice_index_or E k d)).rpl (h k d l)

  region_in_scope : (L : Scope) (c j : ℕ) (args : List Rpl) (f : PlainField) → field_at P c j ≡ Some f → All (PathInScope (with_outer outer L) 0) args →
      PathPlaced outer L 0 (substituted args f.region)
  region_in_scope L c j args f e h =
      inl (option_and_then_some (λ (class : PlainClass). slice_get class.fields j) (class_at P c) f e
      (λ k q z. substituted_in (with_outer outer L) 0 args h (length k.params) f.region (closed_path P (class_scope k) (λ y. refl) 0 f.region (field_good P wt c k j f q e).path)))

  summary_in : (L : Scope) (n : ℕ) (m : PlainMember) (args : List Rpl) → slice_get P.members n ≡ Some m → All (PathInScope (with_outer outer L) 0) args →
      All (OwnPlaced outer L) (summary_with args m.summary)
  summary_in L n m args e h =
      let g = wt.members n m e in
      All-map (OwnPlaced outer L) (λ e. does (effect_with args e)) m.summary
      (λ k d l. inl (substituted_in (with_outer outer L) 0 args h (length (member_scope g.class m).atomic) _ (closed_path P (member_scope g.class m) (λ y. refl) 0 _ (g.summary k d l))))

  module _ (L : Scope) (good : GoodScope L) (placed : PlacedScope outer L) where
    part_in : (k : ℕ) (t : PlainType) (a : Rpl) → L.local k ≡ Some (part t a) → PathPlaced outer L 0 a
    part_in k t a e = out_placed_path outer L 0 a ((good.each k (part t a) e).2 refl).0 (placed.each k (part t a) e).0

    args_in : {e : TypedExpr} {E : List EffectOwn} (c : ℕ) (args : List Rpl) → Has P L e E → type_of e ≡ class c args → All (PathInScope (with_outer outer L) 0) args
    args_in c args h ty = subst (TypePlaced outer L 0) ty (typed_placed outer P wt L good placed h)

    element_in : (i : TypedExpr) {a : TypedExpr} {E : List EffectOwn} {t : PlainType} {rpl : Rpl} {named : Bool} → Has P L a E →
        type_of a ≡ array t rpl named → PathPlaced outer L 0 (path_at 0 (index_elem L i) rpl)
    element_in i {rpl = rpl} h ty = let z = index_in L i in at_placed_path outer L 0 (index_elem L i) z.0 z.1 rpl (subst (TypePlaced outer L 0) ty (typed_placed outer P wt L good placed h)).0

    mutual
      pub effects_in : {e : TypedExpr} {E : List EffectOwn} → Has P L e E → All (OwnPlaced outer L) E
      effects_in (literal_int fits) = none_in L
      effects_in literal_boolean = none_in L
      effects_in literal_null = none_in L
      effects_in (read_local h) = none_in L
      effects_in (read_field {c = c} {k = k} {args = args} {f = f} {E = E} h ty fe rd eq) = both_in L E _ (effects_in h)
          (one_in L _ (region_in_scope L c k args f fe (args_in c args h ty)))
      effects_in (read_element {i = i} {E = E} {F = F} ha ty hi ti rg eq) = both_in L E _ (effects_in ha)
          (both_in L F _ (effects_in hi) (one_in L _ (element_in i ha ty)))
      effects_in (length_of_array h ty) = effects_in h
      effects_in (call_method {c = c} {n = n} {args = args} {owned = owned} {regions = regions} {m = m} {E = E} {F = F} h ty rw mb ab ga fu kn rd ft nd_free eq) =
          both_in L E _ (effects_in h) (both_in L F _ (actuals_in ft)
          (summary_in L n m (owned ++ regions) mb (All-append (PathInScope (with_outer outer L) 0) owned regions (above_in P wt (with_outer outer L) ab (args_in c args h ty)) (λ k d l. good_placed_path outer P L 0 _ (ga.paths k d l)))))
      effects_in (create_object e ga fu kn) = none_in L
      effects_in (construct_object {n = n} {args = args} {m = m} {F = F} e ga fu kn mb ft nd_free) = both_in L F _ (actuals_in ft)
          (summary_in L n m args mb (λ k d l. good_placed_path outer P L 0 _ (ga.paths k d l)))
      effects_in (make_array gt fu h ty) = effects_in h
      effects_in (negative h ty) = effects_in h
      effects_in (negation h ty) = effects_in h
      effects_in (operation {E = E} {F = F} ha hb ops eq) = both_in L E F (effects_in ha) (effects_in hb)
      effects_in (conjunction {E = E} {F = F} ha ta hb tb) = both_in L E F (effects_in ha) (effects_in hb)
      effects_in (disjunction {E = E} {F = F} ha ta hb tb) = both_in L E F (effects_in ha) (effects_in hb)
      effects_in (length_of_part e) = none_in L
      effects_in (read_part {k = k} {t = t} {a = a} {E = E} e h ty) = both_in L E _ (effects_in h) (one_in L _ (part_in k t a e))

      actuals_in : {es : TypedExprs} {ts : List PlainType} {E : List EffectOwn} → Fit P L es ts E → All (OwnPlaced outer L) E
      actuals_in fit.none = none_in L
      actuals_in (fit.one_more {E = E} {F = F} h sub rest) = both_in L E F (effects_in h) (actuals_in rest)

  general_in_elem : (L : Scope) (x : ℕ) (l : ScopeLocal) (y : Elem) → InScope (with_local x l L) 0 y → InScope L 0 (general_elem x y)
  general_in_elem L x l (Name n) s = tt
  general_in_elem L x l (At (Literal k)) s = tt
  general_in_elem L x l (At (Variable w)) s =
      ⊎_elim (λ t. subst (InScope L 0) (sym (cond-true (x == w) Any (At (Variable w)) t)) tt)
      (λ f. subst (InScope L 0) (sym (cond-false (x == w) Any (At (Variable w)) f)) (inner_local L x w l (constant int) (other f) s)) (cases_Bool (x == w))
    where
      other : (x == w) ≡ false → (w == x) ≡ false
      other f = false_from_ne_true (w == x) (λ t. false≢true (sym f ∙ eq-eqb x w (sym (eqb-true w x t))))
  general_in_elem L x l (At (Renamed w)) s = absurd s
  general_in_elem L x l (At (Own d)) s = s
  general_in_elem L x l Any s = tt
  general_in_elem L x l Star s = tt
  general_in_elem L x l (Local r n) s = s

  general_in_path : (L : Scope) (x : ℕ) (l : ScopeLocal) (a : List Elem) → All (InScope (with_local x l L) 0) a → All (InScope L 0) (map (general_elem x) a)
  general_in_path L x l a s = All-map (InScope L 0) (general_elem x) a (λ k d h. general_in_elem L x l _ (s k d h))

  general_placed : (L : Scope) (x : ℕ) (l : ScopeLocal) (a : Rpl) → PathPlaced outer (with_local x l L) 0 a → PathPlaced outer L 0 (generalised x a)
  unfolding generalised
  general_placed L x l a s = elim s [
    | inl p ↦ inl (general_in_path (with_outer outer L) x l a.elems p)
    | inr q ↦ inr (q.0, map (general_elem x) q.1, ap (generalised x) q.2, q.3, general_in_path (with_outer outer L) x l q.1 q.4)
  ]

  general_in : (L : Scope) (x : ℕ) (l : ScopeLocal) (o : EffectOwn) → OwnPlaced outer (with_local x l L) o →
      OwnPlaced outer L (mapped (λ e. record e { rpl = generalised x e.rpl }) o)
  general_in L x l (does e) s = general_placed L x l e.rpl s
  general_in L x l (uses j e) s = general_placed L x l e.rpl s

  pub outside_in : (L : Scope) (x : ℕ) (l : ScopeLocal) (F : List EffectOwn) → All (OwnPlaced outer (with_local x l L)) F →
      All (OwnPlaced outer L) (outside_variable x F)
  outside_in L x l F s = All-map (OwnPlaced outer L) (mapped (λ e. record e { rpl = generalised x e.rpl })) F (λ k d h. general_in L x l _ (s k d h))

  own_marked : (L : Scope) (c : Bool) (o : EffectOwn) → OwnPlaced outer L o → OwnPlaced outer L (marked c o)
  own_marked L c (does e) h = h
  own_marked L c (uses k e) h = h

  pub marked_in : (L : Scope) (c : Bool) (E : List EffectOwn) → All (OwnPlaced outer L) E → All (OwnPlaced outer L) (map (marked c) E)
  marked_in L c E h = All-map (OwnPlaced outer L) (marked c) E (λ k d l. own_marked L c (slice_index_or E k d) (h k d l))

  -- after branches, and outside their scopes
  branches_in : (L : Scope) (forking : Forking) (E : List EffectOwn) → All (OwnPlaced outer L) E → All (OwnPlaced outer L) (after_branches forking E)
  branches_in L Deterministic E h = marked_in L false E h
  branches_in L Nondeterministic E h = h

  all_narrower : (M L : Scope) → Wider M L → (E : List EffectOwn) → All (OwnPlaced outer M) E → All (OwnPlaced outer L) E
  all_narrower M L w E h = λ k d l. placed_wider_path outer M L w 0 (effect_of (slice_index_or E k d)).rpl (h k d l)

  none_assigned : (L : Scope) → All (IsVariable L) []
  none_assigned L = λ k d l. absurd (omega (arith, l))

  -- what is cut, and what is after a construct over parts
  pub cut_placed : (L : Scope) → GoodScope L → PlacedScope outer L → {source : Source} {t : PlainType} {a : Rpl} {E : List EffectOwn} → Cuts P L source t a E →
      TypePlaced outer L 0 (array t a false)
  cut_placed L good pl (cuts_array h ty full) = subst (TypePlaced outer L 0) ty (typed_placed outer P wt L good pl h)
  cut_placed L good pl (cuts_part {k = k} {t = t} {a = a} e) = pl.each k (part t a) e

  cut_in : (L : Scope) → GoodScope L → PlacedScope outer L → {source : Source} {t : PlainType} {a : Rpl} {E : List EffectOwn} → Cuts P L source t a E →
      All (OwnPlaced outer L) E
  cut_in L good pl (cuts_array h ty full) = effects_in L good pl h
  cut_in L good pl (cuts_part e) = none_in L

  own_after_in : (L : Scope) (source : Source) (c : Bool) (o : EffectOwn) → OwnPlaced outer L o → OwnPlaced outer L (cond c (handed_on source (effect_of o)) o)
  own_after_in L (of_array x) true o h = h
  own_after_in L (of_part j) true o h = h
  own_after_in L source false o h = h

  after_parts_in : (L : Scope) (k : ℕ) (source : Source) (E : List EffectOwn) → All (OwnPlaced outer L) E → All (OwnPlaced outer L) (after_parts k source E)
  after_parts_in L k source E h = All-map (OwnPlaced outer L) (own_after k source) E
      (λ j d l. own_after_in L source (is_through k (slice_index_or E j d)) (slice_index_or E j d) (h j d l))

  -- after the scope of local regions
  pub regions_in : (L : Scope) (rs : List ℕ) (F : List EffectOwn) → All (OwnPlaced outer (with_regions rs L)) F → All (OwnPlaced outer L) (outside_regions rs F)
  regions_in L rs [] h = none_in L
  regions_in L rs (o ∷ F) h =
      let first = All-head (OwnPlaced outer (with_regions rs L)) o F h in
      let rest = regions_in L rs F (All-tail (OwnPlaced outer (with_regions rs L)) o F h) in
      ⊎_elim
      (λ t. subst (All (OwnPlaced outer L)) (sym (cond-false (not (begins_in rs (effect_of o).rpl.elems)) (o ∷ outside_regions rs F) (outside_regions rs F) (ap not t))) rest)
      (λ f. subst (All (OwnPlaced outer L)) (sym (cond-true (not (begins_in rs (effect_of o).rpl.elems)) (o ∷ outside_regions rs F) (outside_regions rs F) (ap not f)))
      (All-cons (OwnPlaced outer L) o (outside_regions rs F) (outside_path outer L rs (effect_of o).rpl first f) rest))
      (cases_Bool (begins_in rs (effect_of o).rpl.elems))

  mutual
    stmt_effects_in : {L : Scope} {s : TypedStmt} {E : List EffectOwn} → Passes P L s E → GoodScope L → PlacedScope outer L → All (OwnPlaced outer L) E
    stmt_effects_in {L} (store lx h sub) good pl = effects_in L good pl h
    stmt_effects_in {L} (store_field {c = c} {k = k} {args = args} {f = f} {E = E} {F = F} ho ty fe kn he sub) good pl =
        both_in L E _ (effects_in L good pl ho) (both_in L F _ (effects_in L good pl he) (one_in L _ (region_in_scope L c k args f fe (args_in L good pl c args ho ty))))
    stmt_effects_in {L} (store_element {i = i} {E = E} {F = F} {G = G} ha ty hi ti rg he sub) good pl =
        both_in L E _ (effects_in L good pl ha) (both_in L F _ (effects_in L good pl hi) (both_in L G _ (effects_in L good pl he) (one_in L _ (element_in L good pl i ha ty))))
    stmt_effects_in {L} (store_part {k = k} {t = t} {a = a} {E = E} {F = F} e hi ti he sub) good pl = both_in L E _ (effects_in L good pl hi)
        (both_in L F _ (effects_in L good pl he) (one_in L _ (part_in L good pl k t a e)))
    stmt_effects_in {L} (perform ip h) good pl = effects_in L good pl h
    stmt_effects_in (nested p) good pl = stmts_effects_in p good pl
    stmt_effects_in {L} (choice {E = E} {F = F} h ty p) good pl = both_in L E F (effects_in L good pl h) (stmts_effects_in p good pl)
    stmt_effects_in {L} (choice_else {E = E} {F = F} {G = G} h ty p r) good pl = both_in L E _ (effects_in L good pl h)
        (both_in L F G (stmts_effects_in p good pl) (stmts_effects_in r good pl))
    stmt_effects_in {L} (while_loop {E = E} {F = F} h ty p) good pl = both_in L E F (effects_in L good pl h) (stmts_effects_in p good pl)
    stmt_effects_in {L} (return_nothing e) good pl = none_in L
    stmt_effects_in {L} (return_value e h sub) good pl = effects_in L good pl h
    stmt_effects_in {L} (print_int h ty) good pl = effects_in L good pl h
    stmt_effects_in {L} (print_boolean h ty) good pl = effects_in L good pl h
    stmt_effects_in {L} print_text good pl = none_in L
    stmt_effects_in {L} (atomic {E = E} p se) good pl = marked_in L true E (stmts_effects_in p (good_block L good) (placed_block outer L pl))
    stmt_effects_in {L} (cobegin {forking = forking} {Es = Es} nd_free p nc) good pl =
        branches_in L forking (joined Es) (branches_effects_in p (none_assigned L) good pl)
    stmt_effects_in {L} (foreach {forking = forking} {x = x} {E = E} {F = F} {G = G} nd_free hs ts hc tc free p ic) good pl =
        both_in L E _ (effects_in L good pl hs) (both_in L F _ (effects_in L good pl hc)
        (all_narrower (in_loop_branch L) L (loop_narrower L) _ (outside_in (in_loop_branch L) x (constant int) (after_branches forking G)
        (branches_in (with_local x (constant int) (in_loop_branch L)) forking G (stmts_effects_in p
        (good_declare (in_loop_branch L) (good_loop L good) x true int (free_in_loop L x free) tt)
        (placed_declare outer (in_loop_branch L) (placed_loop outer L pl) x true int (free_in_loop L x free) tt))))))
    stmt_effects_in {L} (foreach_parts {k = k} {source = source} {t = t} {a = a} {E = E} {F = F} {G = G} cu hc tc free p ic lc) good pl =
        let inner = stmts_effects_in p (good_part (in_loop_branch L) k t a (free_in_branch L k (free_slots L k free)) (good_loop L good)
        (wider_type L (in_loop_branch L) (loop_wider L) 0 (array t a false) (cuts_in P wt L good cu)))
        (placed_part (in_loop_branch L) k t a (free_in_branch L k (free_slots L k free)) outer (placed_loop outer L pl)
        (placed_wider outer L (in_loop_branch L) (loop_wider L) (part t a) (cut_placed L good pl cu))) in
        both_in L E _ (cut_in L good pl cu) (both_in L F _ (effects_in L good pl hc)
        (all_narrower (with_slots k t a (in_loop_branch L)) L (slots_narrower L k t a) _
        (outside_in (with_slots k t a (in_loop_branch L)) (k + 4) (constant int) (after_branches Deterministic (after_parts k source G))
        (marked_in (with_part k t a (in_loop_branch L)) false (after_parts k source G) (after_parts_in (with_part k t a (in_loop_branch L)) k source G inner)))))

    pub stmts_effects_in : {L : Scope} {ss : TypedStmts} {E : List EffectOwn} → AllPass P L ss E → GoodScope L → PlacedScope outer L → All (OwnPlaced outer L) E
    stmts_effects_in {L} no_more good pl = none_in L
    stmts_effects_in {L} (then' {E = E} {F = F} p c rest) good pl = both_in L E F (stmt_effects_in p good pl) (stmts_effects_in rest good pl)
    stmts_effects_in {L} (declare {x = x} {t = t} {is_final = is_final} {E = E} {F = F} free gt h sub rest) good pl =
        both_in L E (outside_variable x F) (effects_in L good pl h) (outside_in L x (declared_as is_final t) F (stmts_effects_in rest (good_declare L good x is_final t free (good_type P L 0 t gt)) (placed_declare outer L pl x is_final t free (good_placed outer P L 0 t gt))))
    stmts_effects_in {L} (declare_regions {rs = rs} {F = F} fr rest) good pl =
        regions_in L rs F (stmts_effects_in rest (good_regions L good rs) (placed_regions outer L pl rs))

    branches_effects_in : {L : Scope} {others : List ℕ} {bs : TypedBranches} {Es : List (List EffectOwn)} → BranchesPass P L others bs Es → All (IsVariable L) others →
        GoodScope L → PlacedScope outer L → All (OwnPlaced outer L) (joined Es)
    branches_effects_in {L} no_branch v good pl = none_in L
    branches_effects_in {L} {others} (one_branch {copies = copies} {bs = bs} {E = E} {Es = Es} cv ca p rest) v good pl =
        let seen = All-append (IsVariable L) others (all_copies bs) v (copies_variables rest) in
        both_in L E (joined Es)
        (all_narrower (in_branch copies (others ++ all_copies bs) L) L (branch_narrower L copies (others ++ all_copies bs)) E
        (stmts_effects_in p (good_branch L copies (others ++ all_copies bs) seen good) (placed_branch L copies (others ++ all_copies bs) seen outer pl)))
        (branches_effects_in rest (All-append (IsVariable L) others copies v cv) good pl)
