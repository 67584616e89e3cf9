-- Statements of a well-typed program are in order by the meaning that looks at kinds: by recursion on their typing.
use Rattle.std.proofs.Common.{arith, ◌≡◌, ℕ, ℤ, FitsSigned, ◌+◌, pos, Bool, true, false, ◌&&◌, ◌||◌, List, [], ◌∷◌, refl, sym, ap, ◌∙◌, subst, Option, Some, None, ◌≤◌, map}
use Rattle.std.specs.Prelude.{All}
use Rattle.std.specs.Int.{w32}
use Rattle.std.proofs.lemmas.Bool.{and_from, or_left, or_right}
use Rattle.lang_base.specs.declared.region.Rpl.{Rpl}
use Rattle.lang_base.specs.Matching.{Fits}
use Rattle.lang_base.specs.declared.elems.Elem.TheVariants.{At}
use Rattle.lang_base.specs.declared.elems.Index.TheVariants.{Literal}
use Rattle.lang_base.specs.Regions.{substituted}
use Rattle.lang_base.specs.Types.{PlainType, int, class, array, path_at}
use Rattle.lang_typed.specs.Effects.{Own as EffectOwn, does, uses, writes, effect_of, after_block, outside_regions}
use Rattle.lang_typed.specs.Plain.{PlainProgram, TypedExpr, type_of, TypedStmt, TypedStmts, no_stmts, more_stmts}
use Rattle.lang_typed.specs.Plain.{Source, of_part}
use Rattle.lang_typed.specs.Scope.{Scope, constant, in_loop_branch, part, with_local, with_regions}
use Rattle.lang_typed.specs.Scope.{Local as ScopeLocal}
use Rattle.lang_typed.specs.Statements.{with_part, Cuts, cuts_array, cuts_part, IsFree, completes, all_complete, declared_as, Passes, AllPass, store, store_field, store_element, store_part, perform, nested, choice, choice_else, while_loop, return_nothing, return_value, print_int, print_boolean, print_text, atomic, cobegin, foreach, foreach_parts, no_more, then', declare, declare_regions}
use Rattle.lang_typed.specs.Types.{Subtype}
use Rattle.lang_typed.specs.Typing.{Has, index_elem}
use Rattle.lang_typed.specs.WellTyped.{WellTyped}
use Rattle.lang_meaning.specs.Core.{Goes_on, Returns, next_of, and_then, Act}
use Rattle.lang_meaning.specs.Counts.{length_seen, number, truth, slot_value, text_of}
use Rattle.lang_meaning.specs.Expressions.{gives, none, unless_null}
use Rattle.lang_meaning.specs.Statements.{part_begun, part_taken_over, parts, with_value}
use Rattle.runs_theory.specs.Actions.{Look, Rest, Exit}
use Rattle.runs_theory.specs.Objects.{LocalRegion, Value, Int}
use Rattle.runs_program.specs.Steps.{named_by}
use Rattle.runs_sound.specs.Settings.{with_number, Setting, env_of}
use Rattle.runs_sound.specs.Shapes.{Shapes, FitsIn, Grows}
use Rattle.runs_sound.specs.Accesses.{Bounds, Entry, Within}
use Rattle.runs_sound.specs.Frames.{Frame, State, Since, PartFits, FrameFits}
use Rattle.runs_sound.specs.Scopes.{PathInScope, TypeInScope, GoodScope}
use Rattle.runs_sound.specs.Work.{Result, Prog, ReturnFits, Rounds, InOrder, without_latest}
use Rattle.runs_sound.specs.Laws.{Deeper, Yields, Leaves, DeeperInOrder}
use Rattle.runs_sound.proofs.classes.Types.{fits_grows}
use Rattle.runs_sound.proofs.classes.Classes.{env_alone, subtype_fits}
use Rattle.runs_sound.proofs.scopes.InScope.{good_type, index_in, typed_in}
use Rattle.runs_sound.proofs.scopes.InEffects.{stmts_effects_in, marked_in, all_own, cut_placed}
use Rattle.runs_sound.proofs.scopes.Placed.{PlacedScope, placed_scope, good_placed, placed_wider}
use Rattle.runs_sound.proofs.work.Regions.{good_regions, placed_regions, placed_block, placed_declare, with_made, NewRegions, makes_order, frame_regions, frame_regions_left, new_alike, within_regions}
use Rattle.runs_sound.proofs.scopes.Frames.{old_later, frame_since, frame_env, within_left, within_right, within_since}
use Rattle.runs_sound.proofs.scopes.Locals.{frame_outside, frame_store, frame_declare, frame_leave, good_declare, number_alike, lies_general}
use Rattle.lang_meaning.specs.Regions.{around, concrete_effect}
use Rattle.lang_typed.specs.Scope.{in_atomic_block}
use Rattle.runs_sound.proofs.work.Blocks.{good_block, frame_later, frame_block, frame_unblock, within_block, may_enter}
use Rattle.runs_sound.proofs.scopes.Alike.{set_other, set_same, Alike, fits_alike, setting_back}
use Rattle.runs_sound.proofs.work.Expressions.{order_choose}
use Rattle.runs_sound.proofs.work.Typed.{type_alone, yields}
use Rattle.runs_sound.proofs.work.Work.{since_now, since_since, since_after, order_then, order_on, order_post, order_ret}
use Rattle.runs_sound.proofs.work.Parts.{good_part, placed_part}
use Rattle.runs_sound.proofs.scopes.Wider.{wider_type}
use Rattle.runs_sound.proofs.paths.Uses.{without_marks, stmts_use, all_use, cuts_in, free_slots, free_in_branch}
use Rattle.runs_sound.proofs.work.Forking.{Left, left_since, cobegin_order, foreach_order, parts_order, filled, filled_first, room, room_first, taken_slots, array_order}
use Rattle.runs_sound.proofs.numbers.Ints.{number_fits}
use Rattle.runs_sound.proofs.work.Forks.{good_loop, placed_loop, loop_wider, free_in_loop}
use Rattle.runs_sound.proofs.work.Writing.{order_prints, part_write, field_write, element_write}
use Rattle.lang_base.specs.declared.place.Place.{Place}
use Rattle.lang_base.specs.Types.{boolean}
use Rattle.lang_meaning.specs.Statements.{parts_of_array}
use Rattle.runs_theory.specs.Objects.{Name, Boolean, Null, Object}
use Rattle.runs_sound.specs.Shapes.{Instance, ArrayInstance}
use Rattle.runs_sound.specs.Kinds.{Wrong, is_written, is_length, strict_expr, strict_stmt, strict_stmts}
use Rattle.runs_sound.proofs.kinds.Uses.{kind_fits, kind_as, part_kinds, FirstIs, IsWrite, SeesArray, write_answered, length_answered, order_needs, order_answered, order_use, first_of_part}
use Rattle.runs_sound.proofs.kinds.Expressions.{strict_order}

module _ (wrong : Wrong Name LocalRegion) (P : PlainProgram) (wt : WellTyped P) (b : Bounds) (dp : Option Deeper) (dd : DeeperInOrder P wt b dp) where
  -- after an expression, which is in order
  following : (L : Scope) → GoodScope L → (g : Setting) {e : TypedExpr} {E : List EffectOwn} → Has P L e E →
      (R : State → Result → Type 0) (j : Value → Frame → Prog) (st : State) (f : Frame) → FrameFits P b.path st g L f → Within b st.entries g E →
      ((h : State) (v : Value) → Since st h → FitsIn P h.shapes (env_of g) (type_of e) v →
      Fits (env_of g) (index_elem L e) (At (Literal (number v)) ∷ []) → InOrder P b R h (j v f)) →
      InOrder P b R st (and_then (strict_expr wrong (named_by b.path) P dp e f) j)
  following L good g {e = e} h R j st f ff w i = order_then P b L g e f R j st _ (strict_order wrong P wt b dp dd L good g h (Yields P L g e st f) st f ff w (yields P L g e st f)) i

  -- a value of a subtype
  sub_fits : (L : Scope) → GoodScope L → (g : Setting) {e : TypedExpr} {E : List EffectOwn} {t : PlainType} → Has P L e E → Subtype P (type_of e) t →
      {st : State} {f : Frame} → FrameFits P b.path st g L f → (S : Shapes) (v : Value) →
      FitsIn P S (env_of g) (type_of e) v → FitsIn P S (env_of g) t v
  sub_fits L good g {e = e} h sub ff S v fv = subtype_fits P wt S (env_of g) (env_alone L.given (env_of g) (frame_env ff)) refl sub
      (type_alone L (type_of e) (typed_in P wt L good h)) v fv

  -- after the body of a loop
  rounded : (L : Scope) (g : Setting) (c : Bool) (st u : State) (r : Result) → Left P b L g c st u r → Rounds P b.path st g L u r
  rounded L g c st u (Goes_on v f) y = (y.1, y.2)
  rounded L g c st u (Returns v) y = y

  looped : (L : Scope) (g : Setting) (st u : State) (r : Result) → Rounds P b.path st g L u r → Left P b L g true st u r
  looped L g st u (Goes_on v f) y = (refl, y.0, y.1)
  looped L g st u (Returns v) y = y

  -- after the body of an atomic block
  leaves_block : (L : Scope) (g : Setting) (c : Bool) (st u : State) (Es : Entry) → Grows st.shapes u.shapes → st.made ≤ u.made →
      u.entries ≡ Es ∷ st.entries →
      (h : State) (r : Result) → Left P b (in_atomic_block L) g c u h r →
      InOrder P b (Left P b L g true st) h (next_of (λ v k. Act Exit (λ c. gives none k)) r)
  unfolding InOrder
  leaves_block L g c st u Es grown made e h (Goes_on v k) y = (
    tt,
    λ x z after ans. (
      refl,
      record {
        grows = λ n i q. after.grows n i (y.1.grows n i (grown n i q));
        made = (let m1 = y.1.made in let m2 = after.made in omega (arith, made, m1, m2));
        entries = after.entries ∙ ap without_latest (y.1.entries ∙ e);
      },
      frame_unblock L (frame_later after.grows (let m = after.made in omega (arith, m)) y.2),
    ),
  )
  leaves_block L g c st u Es grown made e h (Returns v) y = absurd y.1

  -- where a statement goes on
  followed : (L : Scope) (g : Setting) (c d : Bool) (st : State) (j : Value → Frame → Prog) →
      ((h : State) (f : Frame) (v : Value) → c ≡ true → Since st h → FrameFits P b.path h g L f → InOrder P b (Left P b L g d st) h (j v f)) →
      (h : State) (r : Result) → Left P b L g c st h r → InOrder P b (Left P b L g d st) h (next_of j r)
  followed L g c d st j k h (Goes_on v f) y = k h f v y.0 y.1 y.2
  followed L g c d st j k h (Returns v) y = order_ret P b (Left P b L g d st) h (Returns v) y

  -- after a declaration
  abbrev Declared : Setting → PlainType → ℕ → State → Frame → State → Result → Type 0
  Declared g t x st f h (Goes_on u c) = (v : Value) × Since st h × FitsIn P h.shapes (env_of g) t v × (c ≡ with_value f x v)
  Declared g t x st f h (Returns v) = ⊥

  declared : (g : Setting) (t : PlainType) (x : ℕ) (st : State) (f : Frame) (R : State → Result → Type 0) (j : Value → Frame → Prog) →
      ((h : State) (v : Value) → Since st h → FitsIn P h.shapes (env_of g) t v → InOrder P b R h (j none (with_value f x v))) →
      (h : State) (r : Result) → Declared g t x st f h r → InOrder P b R h (next_of (λ u c. j none c) r)
  declared g t x st f R j k h (Goes_on u c) y = subst (λ z. InOrder P b R h (j none z)) (sym y.3) (k h y.0 y.1 y.2)
  declared g t x st f R j k h (Returns v) y = absurd y

  -- after the making of local regions
  abbrev Renewed : Scope → Setting → List ℕ → State → Frame → State → Result → Type 0
  Renewed L g rs st f h (Goes_on v e) = (made : ℕ → LocalRegion) × Since st h × NewRegions b.path h.entries rs g.made made f e × FrameFits P b.path h (with_made made g) L e
  Renewed L g rs st f h (Returns v) = ⊥

  renewed : (L : Scope) (g : Setting) (rs : List ℕ) (st : State) (f : Frame) (R : State → Result → Type 0) (j : Value → Frame → Prog) →
      ((h : State) (made : ℕ → LocalRegion) (e : Frame) → Since st h → NewRegions b.path h.entries rs g.made made f e → FrameFits P b.path h (with_made made g) L e → InOrder P b R h (j none e)) →
      (h : State) (r : Result) → Renewed L g rs st f h r → InOrder P b R h (next_of (λ u c. j none c) r)
  renewed L g rs st f R j k h (Goes_on u c) y = k h y.0 c y.1 y.2 y.3
  renewed L g rs st f R j k h (Returns v) y = absurd y

  -- after the block of a declared local
  return_leave : (L : Scope) → GoodScope L → (g : Setting) (x : ℕ) (k : ℤ) → L.local x ≡ None → (S : Shapes) (o : Option PlainType) → L.result ≡ o →
      (v : Value) → ReturnFits P S (with_number x k g) o v → ReturnFits P S g o v
  return_leave L good g x k n S None e v f = f
  return_leave L good g x k n S (Some t) e v f = fits_alike P S L (with_number x k g) g (setting_back (number_alike L g x k n)) t (good.result t e) v f

  left_leave : (L : Scope) → GoodScope L → (g : Setting) (x : ℕ) (l : ScopeLocal) (k : ℤ) → L.local x ≡ None →
      (c : Bool) (st h u : State) (r : Result) → Since st h → Left P b (with_local x l L) (with_number x k g) c h u r → Left P b L g c st u r
  left_leave L good g x l k n c st h u (Goes_on v f) s y = (y.0, since_since s y.1, frame_leave P b.path u g L good f x l k n y.2)
  left_leave L good g x l k n c st h u (Returns v) s y = (since_since s y.0, return_leave L good g x k n u.shapes L.result refl v y.1)

  -- and of local regions
  return_regions : (L : Scope) → GoodScope L → (g : Setting) (made : ℕ → LocalRegion) → Alike L g (with_made made g) → (S : Shapes) (o : Option PlainType) → L.result ≡ o →
      (v : Value) → ReturnFits P S (with_made made g) o v → ReturnFits P S g o v
  return_regions L good g made al S None e v f = f
  return_regions L good g made al S (Some t) e v f = fits_alike P S L (with_made made g) g (setting_back al) t (good.result t e) v f

  left_regions : (L : Scope) → GoodScope L → (g : Setting) (rs : List ℕ) (made : ℕ → LocalRegion) → Alike L g (with_made made g) → {f : Frame} (st h u : State) →
      FrameFits P b.path h g L f → (c : Bool) (r : Result) → Since st h → Left P b (with_regions rs L) (with_made made g) c h u r → Left P b L g c st u r
  left_regions L good g rs made al st h u ff c (Goes_on v e) s y = (
    y.0,
    since_since s y.1,
    frame_regions_left P b.path u g L good e rs made al ff.distinct
        (λ r. old_later b.path h.made u.made r y.1.made (g.made r) (ff.old r)) y.2,
  )
  left_regions L good g rs made al st h u ff c (Returns v) s y = (since_since s y.0, return_regions L good g made al u.shapes L.result refl v y.1)

  parts_scope : (L : Scope) → GoodScope L → {outer : ℕ → Bool} → PlacedScope outer L → {source : Source} (k : ℕ) {t : PlainType} {a : Rpl} {E G : List EffectOwn} {body : TypedStmt} →
      Cuts P L source t a E → All (λ i. IsFree L (k + i)) (0 ∷ 1 ∷ 2 ∷ 3 ∷ 4 ∷ []) → AllPass P (with_part k t a (in_loop_branch L)) (more_stmts body no_stmts) G →
      All (λ o. PathInScope (with_part k t a (in_loop_branch L)) 0 (effect_of o).rpl) G
  parts_scope L good {outer} pl {source} k {t} {a} {E} {G} cu fr p =
      let good' = good_part (in_loop_branch L) k t a (free_in_branch L k (free_slots L k fr)) (good_loop L good)
      (wider_type L (in_loop_branch L) (loop_wider L) 0 (array t a false) (cuts_in P wt L good cu)) in
      let placed' = placed_part (in_loop_branch L) k t a (free_in_branch L k (free_slots L k fr)) outer (placed_loop outer L pl)
      (placed_wider outer L (in_loop_branch L) (loop_wider L) (part t a) (cut_placed P wt outer L good pl cu)) in
      all_own P wt outer (with_part k t a (in_loop_branch L)) placed' G (stmts_effects_in P wt outer p good' placed')

  -- a look at the array that is cut comes first
  first_look : (g : Setting) (st : State) (at : Place) (t : PlainType) (a : Rpl) (k : ℕ) (s : TypedStmt) (f : Frame) (v : Value) → slot_value f.values k ≡ v →
      FitsIn P st.shapes (env_of g) (array t a false) v → FirstIs (SeesArray st) (parts_of_array dp at k s f)
  first_look g st at t a k s f v is fv = subst (λ z. FirstIs (SeesArray st) (unless_null at z (λ n. Act (Look n) (λ x. parts dp at k s (with_value f (k + 2) (Int (pos (length_seen x)))))))) (sym is) (go v fv)
    where
      go : (v : Value) → FitsIn P st.shapes (env_of g) (array t a false) v →
          FirstIs (SeesArray st) (unless_null at v (λ n. Act (Look n) (λ x. parts dp at k s (with_value f (k + 2) (Int (pos (length_seen x)))))))
      go Null h = tt
      go (Object n) h = (h.setting, h.element, h.rpl, h.shape)
      go (Int j) h = absurd h
      go (Boolean c) h = absurd h

  mutual
    unfolding InOrder

    strict_order_of : {L : Scope} {s : TypedStmt} {E : List EffectOwn} → Passes P L s E → GoodScope L → {outer : ℕ → Bool} → PlacedScope outer L →
        (g : Setting) (st : State) (f : Frame) → FrameFits P b.path st g L f → Within b st.entries g E →
        InOrder P b (Left P b L g (completes s) st) st (strict_stmt wrong (named_by b.path) P dp s f)
    strict_order_of {L} (store {x = x} {t = t} lx h sub) good pl g st f ff w =
        following L good g h _ _ st f ff w
        (λ h1 v s fv ix. (refl, s, frame_store P b.path h1 g L good f x t v lx (sub_fits L good g h sub ff h1.shapes v fv) (frame_since s ff)))
    strict_order_of {L} (store_field {at = at} {o = o} {e = e} {c = c} {k = k} {args = args} {f = fd} {E = E} {F = F} ho ty fe kn he sub) good pl g st f ff w =
        following L good g ho _ _ st f ff (within_left b st.entries g E _ w)
        (λ h1 v s fv ix. following L good g he _ _ h1 f (frame_since s ff) (within_since b s g _ (within_left b st.entries g F _ (within_right b st.entries g E _ w)))
        (λ h2 u s2 fu iu. (let here : FitsIn P h2.shapes (env_of g) (class c args) v =
        fits_grows P h1.shapes h2.shapes s2.grows (env_of g) (class c args) v (subst (λ z. FitsIn P h1.shapes (env_of g) z v) ty fv) in
        order_use P b wrong (Left P b L g true st) h2 IsWrite is_written (write_answered P b h2) at (Instance P h2.shapes (env_of g) c args) _ (λ n i. tt) v here
        (field_write P b wt L g (Left P b L g true st) h2 at f c k args fd fe kn (subst (TypeInScope L 0) ty (typed_in P wt L good ho))
        (within_since b (since_since s s2) g (does (writes (substituted args fd.region)) ∷ []) (within_right b st.entries g F _ (within_right b st.entries g E _ w))) u
        (sub_fits L good g he sub ff h2.shapes u fu) v here
        (λ h3 s3. (refl, since_since (since_since s s2) s3, frame_since (since_since (since_since s s2) s3) ff))))))
    strict_order_of {L} (store_element {at = at} {a = a} {i = i} {e = e} {t = t} {rpl = rpl} {named = named} {E = E} {F = F} {G = G} ha ty hi ti rg he sub) good pl g st f ff w =
        following L good g ha _ _ st f ff (within_left b st.entries g E _ w)
        (λ h1 v s fv ix. following L good g hi _ _ h1 f (frame_since s ff) (within_since b s g _ (within_left b st.entries g F _ (within_right b st.entries g E _ w)))
        (λ h2 j s2 fj ij. following L good g he _ _ h2 f (frame_since (since_since s s2) ff)
        (within_since b (since_since s s2) g _ (within_left b st.entries g G _ (within_right b st.entries g F _ (within_right b st.entries g E _ w))))
        (λ h3 u s3 fu iu. (let here : FitsIn P h3.shapes (env_of g) (array t rpl named) v =
        fits_grows P h1.shapes h3.shapes (since_since s2 s3).grows (env_of g) (array t rpl named) v (subst (λ z. FitsIn P h1.shapes (env_of g) z v) ty fv) in
        order_needs P b wrong (Left P b L g true st) h3 _ _ (kind_as P h2.shapes (env_of g) int j ti fj)
        (order_use P b wrong (Left P b L g true st) h3 IsWrite is_written (write_answered P b h3) at (ArrayInstance h3.shapes (env_of g) t rpl) _ (λ n i. tt) v here
        (element_write P b wt L g (Left P b L g true st) h3 at f t rpl named (index_elem L i) (number j) (index_in L i).0 ij rg
        (within_since b (since_since (since_since s s2) s3) g (does (writes (path_at 0 (index_elem L i) rpl)) ∷ [])
        (within_right b st.entries g G _ (within_right b st.entries g F _ (within_right b st.entries g E _ w)))) u
        (sub_fits L good g he sub ff h3.shapes u fu) v here
        (λ h4 s4. (refl, since_since (since_since (since_since s s2) s3) s4, frame_since (since_since (since_since (since_since s s2) s3) s4) ff))))))))
    strict_order_of {L} (store_part {at = at} {k = k} {t = t} {a = a} {i = i} {e = e} {E = E} {F = F} lk hi ti he sub) good pl g st f ff w =
        following L good g hi _ _ st f ff (within_left b st.entries g E _ w)
        (λ h1 j s fj ij. following L good g he _ _ h1 f (frame_since s ff) (within_since b s g _ (within_left b st.entries g F _ (within_right b st.entries g E _ w)))
        (λ h2 u s2 fu iu. order_needs P b wrong (Left P b L g true st) h2 _ _
        (and_from _ _ (kind_as P h1.shapes (env_of g) int j ti fj) (part_kinds P h2.shapes g f.values k t a ((frame_since (since_since s s2) ff).each k (part t a) lk)))
        (order_answered P b wrong (Left P b L g true st) h2 IsWrite is_written (write_answered P b h2) _ (first_of_part P b IsWrite at k (number j) f _ (λ n p. tt))
        (part_write P b (Left P b L g true st) h2 at f g k t a (number j) u ((frame_since (since_since s s2) ff).each k (part t a) lk)
        (within_since b (since_since s s2) g (uses k (writes a) ∷ []) (within_right b st.entries g F _ (within_right b st.entries g E _ w)))
        (sub_fits L good g he sub ff h2.shapes u fu)
        (λ h3 s3. (refl, since_since (since_since s s2) s3, frame_since (since_since (since_since s s2) s3) ff))))))
    strict_order_of {L} (perform ip h) good pl g st f ff w = following L good g h _ _ st f ff w (λ h1 v s fv ix. (refl, s, frame_since s ff))
    strict_order_of (nested p) good pl g st f ff w = strict_orders_of p good pl g st f ff w
    strict_order_of {L} (choice {s = a} {E = E} {F = F} h ty p) good pl g st f ff w =
        following L good g h _ _ st f ff (within_left b st.entries g E F w)
        (λ h1 v s fv ix. order_needs P b wrong (Left P b L g true st) h1 _ _ (kind_as P h1.shapes (env_of g) boolean v ty fv)
        (order_choose P b (Left P b L g true st) h1 (truth v) (gives none f) (strict_stmt wrong (named_by b.path) P dp a f)
        (order_ret P b (Left P b L g true st) h1 (Goes_on none f) (refl, s, frame_since s ff))
        (order_post P b (Left P b L g (completes a) h1) (Left P b L g true st)
        (λ u r y. left_since P b L g (completes a) true st h1 u r s (λ e. refl) y) (strict_stmt wrong (named_by b.path) P dp a f) h1
        (strict_single p good pl g h1 f (frame_since s ff) (within_since b s g F (within_right b st.entries g E F w))))))
    strict_order_of {L} (choice_else {s = a} {t = c} {E = E} {F = F} {G = G} h ty p r) good pl g st f ff w =
        following L good g h _ _ st f ff (within_left b st.entries g E _ w)
        (λ h1 v s fv ix. order_needs P b wrong (Left P b L g (completes a || completes c) st) h1 _ _ (kind_as P h1.shapes (env_of g) boolean v ty fv)
        (order_choose P b (Left P b L g (completes a || completes c) st) h1 (truth v) (strict_stmt wrong (named_by b.path) P dp c f)
        (strict_stmt wrong (named_by b.path) P dp a f)
        (order_post P b (Left P b L g (completes c) h1) (Left P b L g (completes a || completes c) st)
        (λ u x y. left_since P b L g (completes c) (completes a || completes c) st h1 u x s (or_right (completes a) (completes c)) y)
        (strict_stmt wrong (named_by b.path) P dp c f) h1
        (strict_single r good pl g h1 f (frame_since s ff) (within_since b s g G (within_right b st.entries g F G (within_right b st.entries g E _ w)))))
        (order_post P b (Left P b L g (completes a) h1) (Left P b L g (completes a || completes c) st)
        (λ u x y. left_since P b L g (completes a) (completes a || completes c) st h1 u x s (or_left (completes a) (completes c)) y)
        (strict_stmt wrong (named_by b.path) P dp a f) h1
        (strict_single p good pl g h1 f (frame_since s ff) (within_since b s g F (within_left b st.entries g F G (within_right b st.entries g E _ w)))))))
    strict_order_of {L} (while_loop {e = e} {s = a} {E = E} {F = F} h ty p) good pl g st f ff w = (
      L,
      g,
      ff,
      λ h1 f1 s ff1. following L good g h _ _ h1 f1 ff1 (within_since b s g E (within_left b st.entries g E F w))
          (λ h2 v s2 fv ix. order_needs P b wrong (Rounds P b.path h1 g L) h2 _ _ (kind_as P h2.shapes (env_of g) boolean v ty fv)
          (order_ret P b (Rounds P b.path h1 g L) h2 (Goes_on v f1) (s2, frame_since s2 ff1))),
      λ h1 f1 s ff1. order_post P b _ _ (λ u r y. rounded L g (completes a) h1 u r y) _ h1
          (strict_single p good pl g h1 f1 ff1 (within_since b s g F (within_right b st.entries g E F w))),
      λ h1 r y. looped L g st h1 r y,
    )
    strict_order_of {L} (return_nothing e) good pl g st f ff w = (since_now st, subst (λ z. ReturnFits P st.shapes g z none) (sym e) tt)
    strict_order_of {L} (return_value {e = e} {t = t} k h sub) good pl g st f ff w =
        following L good g h _ _ st f ff w (λ h1 v s fv ix. (s, subst (λ z. ReturnFits P h1.shapes g z v) (sym k) (sub_fits L good g h sub ff h1.shapes v fv)))
    strict_order_of {L} (print_int h ty) good pl g st f ff w =
        following L good g h _ _ st f ff w (λ h1 v s fv ix. order_needs P b wrong (Left P b L g true st) h1 _ _ (kind_as P h1.shapes (env_of g) int v ty fv)
        (order_prints P b (Left P b L g true st) h1 (text_of v) f (λ u s2. (refl, since_since s s2, frame_since (since_since s s2) ff))))
    strict_order_of {L} (print_boolean h ty) good pl g st f ff w =
        following L good g h _ _ st f ff w (λ h1 v s fv ix. order_needs P b wrong (Left P b L g true st) h1 _ _ (kind_as P h1.shapes (env_of g) boolean v ty fv)
        (order_prints P b (Left P b L g true st) h1 (text_of v) f (λ u s2. (refl, since_since s s2, frame_since (since_since s s2) ff))))
    strict_order_of {L} (print_text {text = text}) good pl g st f ff w = order_prints P b (Left P b L g true st) st text f (λ u s. (refl, s, frame_since s ff))
    strict_order_of {L} (atomic {entry = entry} {ss = ss} {E = E} p se) good {outer} pl g st f ff w = (
      tt,
      λ x h after ans. (
        may_enter P b L g h f (frame_later after.grows (let m = after.made in omega (arith, m)) ff) entry E h.entries se scoped
            (subst (λ z. Within b z g (after_block E)) (sym after.entries) w),
        λ y u enters ans'.
            (let s : Since st h = since_after Rest refl after in
            let block : Entry = record { effects = map (concrete_effect (named_by b.path) (around f)) entry; made = h.made } in
            let e : u.entries ≡ block ∷ st.entries = enters.entries ∙ ap (λ z. block ∷ z) s.entries in
            let grown : Grows st.shapes u.shapes = (λ n z i. enters.grows n z (s.grows n z i)) in
            let made : st.made ≤ u.made = (let m = s.made in let n = enters.made in omega (arith, m, n)) in
            order_on P b (Left P b (in_atomic_block L) g (all_complete ss) u) (Left P b L g true st) (next_of (λ v k. Act Exit (λ c. gives none k)))
            (leaves_block L g (all_complete ss) st u block grown made e) (strict_stmts wrong (named_by b.path) P dp ss f) u
            (strict_orders_of p (good_block L good) (placed_block outer L pl) g u f (frame_block L (frame_later grown made ff))
            (subst (λ z. Within b z g E) (sym e) (within_block P b L g st f ff h.made entry E st.entries se scoped w)))),
      ),
    )
      where
        scoped : All (λ o. PathInScope L 0 (effect_of o).rpl) (after_block E)
        scoped = all_own P wt outer L pl (after_block E) (marked_in P wt outer L true E (stmts_effects_in P wt outer p (good_block L good) (placed_block outer L pl)))
    strict_order_of {L} (cobegin {at = at} nd_free p nc) good pl g st f ff w = cobegin_order P b dp L good g st f ff at _ p nc (without_marks L _ (all_use P wt p (λ j d l. absurd (omega (arith, l))) good)) w
    strict_order_of {L} (foreach {at = at} {forking = forking} {x = x} {s = s} {E = E} {F = F} {G = G} nd_free hs ts hc tc free p ic) good {outer} pl g st f ff w =
        following L good g hs _ _ st f ff (within_left b st.entries g E _ w)
        (λ h1 v s1 fv iv. following L good g hc _ _ h1 f (frame_since s1 ff) (within_since b s1 g F (within_left b st.entries g F _ (within_right b st.entries g E _ w)))
        (λ h2 u s2 fu iu. order_needs P b wrong (Left P b L g true st) h2 _ _ (and_from _ _ (kind_as P h1.shapes (env_of g) int v ts fv) (kind_as P h2.shapes (env_of g) int u tc fu))
        (order_post P b (Left P b L g true h2) (Left P b L g true st) (λ z r y. left_since P b L g true true st h2 z r (since_since s1 s2) (λ e. e) y) _ h2
        (foreach_order P b dp L good g h2 f (frame_since (since_since s1 s2) ff) at forking free p ic
        (all_own P wt outer (with_local x (constant int) (in_loop_branch L)) (placed_declare outer (in_loop_branch L) (placed_loop outer L pl) x true int (free_in_loop L x free) tt) G
        (stmts_effects_in P wt outer p (good_declare (in_loop_branch L) (good_loop L good) x true int (free_in_loop L x free) tt)
        (placed_declare outer (in_loop_branch L) (placed_loop outer L pl) x true int (free_in_loop L x free) tt)))
        (without_marks (with_local x (constant int) (in_loop_branch L)) G (stmts_use P wt p (good_declare (in_loop_branch L) (good_loop L good) x true int (free_in_loop L x free) tt)))
        (within_since b (since_since s1 s2) g _ (within_right b st.entries g F _ (within_right b st.entries g E _ w))) (number v) (number u) (number_fits P h2.shapes (env_of g) _ u fu)))))
    strict_order_of {L} (foreach_parts {at = at} {k = k} {s = body} {t = t} {a = a} {E = E} {F = F} {G = G} (cuts_array {e = e} ha ty full) hc tc fr p ic lc) good {outer} pl g st f ff w =
        let cu = cuts_array ha ty full in
        let free = free_slots L k fr in
        let scope = cuts_in P wt L good cu in
        following L good g ha _ _ st f ff (within_left b st.entries g E _ w)
        (λ h1 v s1 fv iv.
        (let f1 : FrameFits P b.path h1 g L (part_begun k v f) = filled P wt b L good g k t a free scope 1 (Int (pos 0)) (omega arith) (filled_first P wt b L good g k t a free scope v (frame_since s1 ff)) in
        following L good g hc _ _ h1 (part_begun k v f) f1 (within_since b s1 g F (within_left b st.entries g F _ (within_right b st.entries g E _ w)))
        (λ h2 u s2 fu iu.
        (let f2 : FrameFits P b.path h2 g L (with_value (part_begun k v f) (k + 3) u) = filled P wt b L good g k t a free scope 3 u (omega arith) (frame_since s2 f1) in
        let is : slot_value (with_value (part_begun k v f) (k + 3) u).values k ≡ v =
        set_other (part_begun k v f).values (k + 3) k u (λ z. omega (arith, z)) ∙ set_other (with_value f k v).values (k + 1) k (Int (pos 0)) (λ z. omega (arith, z))
        ∙ set_same f.values k v (room_first P wt b L good g k t a free scope ff) in
        let here : FitsIn P h2.shapes (env_of g) (array t a false) v =
        fits_grows P h1.shapes h2.shapes s2.grows (env_of g) (array t a false) v (subst (λ z. FitsIn P h1.shapes (env_of g) z v) ty fv) in
        order_needs P b wrong (Left P b L g true st) h2 _ _ (and_from _ _ (kind_fits P h2.shapes (env_of g) (array t a false) v here) (kind_as P h2.shapes (env_of g) int u tc fu))
        (order_answered P b wrong (Left P b L g true st) h2 (SeesArray h2) is_length (length_answered P b h2) _ (first_look g h2 at t a k body (with_value (part_begun k v f) (k + 3) u) v is here)
        (order_post P b (Left P b L g true h2) (Left P b L g true st) (λ z r y. left_since P b L g true true st h2 z r (since_since s1 s2) (λ e. e) y) _ h2
        (subst (λ z. InOrder P b (Left P b L g true h2) h2 (unless_null at z (λ n. Act (Look n)
        (λ x. parts dp at k body (with_value (with_value (part_begun k v f) (k + 3) u) (k + 2) (Int (pos (length_seen x)))))))) (sym is)
        (array_order P wt b L good g k t a free scope dp h2 (with_value (part_begun k v f) (k + 3) u) f2 at e p ic lc (parts_scope L good pl k cu fr p)
        (within_since b (since_since s1 s2) g _ (within_right b st.entries g F _ (within_right b st.entries g E _ w)))
        (subst (λ z. FitsSigned w32 (number z)) (sym (set_same (part_begun k v f).values (k + 3) u (room P wt b L good g k t a free scope 3 (omega arith) f1))) (number_fits P h2.shapes (env_of g) _ u fu)) v is here))))))))
    strict_order_of {L} (foreach_parts {at = at} {k = k} {t = t} {a = a} {E = E} {F = F} {G = G} (cuts_part {k = j} e) hc tc fr p ic lc) good {outer} pl g st f ff w =
        let cu = cuts_part e in
        let free = free_slots L k fr in
        let scope = cuts_in P wt L good cu in
        let held = good.parts j t a e in
        let pf : PartFits P st.shapes g f.values j t a = ff.each j (part t a) e in
        let f1 : FrameFits P b.path st g L (part_taken_over k j f) =
        filled P wt b L good g k t a free scope 1 (slot_value (with_value f k (slot_value f.values j)).values (j + 1)) (omega arith)
        (filled_first P wt b L good g k t a free scope (slot_value f.values j) ff) in
        following L good g hc _ _ st (part_taken_over k j f) f1 (within_left b st.entries g F _ (within_right b st.entries g E _ w))
        (λ h1 u s1 fu iu.
        (let f2 : FrameFits P b.path h1 g L (with_value (part_taken_over k j f) (k + 3) u) = filled P wt b L good g k t a free scope 3 u (omega arith) (frame_since s1 f1) in
        let slots = taken_slots P wt b L good g k t a free scope f ff j e u in
        let d = with_value (with_value (part_taken_over k j f) (k + 3) u) (k + 2) (slot_value (with_value (part_taken_over k j f) (k + 3) u).values (j + 2)) in
        order_needs P b wrong (Left P b L g true st) h1 _ _ (and_from _ _ (kind_as P h1.shapes (env_of g) int u tc fu) (part_kinds P h1.shapes g _ j t a (f2.each j (part t a) e)))
        (order_post P b (Left P b L g true h1) (Left P b L g true st) (λ z r y. left_since P b L g true true st h1 z r s1 (λ e. e) y) _ h1
        (parts_order P wt b L good g k t a free scope dp h1 _
        (filled P wt b L good g k t a free scope 2 (slot_value (with_value (part_taken_over k j f) (k + 3) u).values (j + 2)) (omega arith) f2) at (of_part j) p ic lc (parts_scope L good pl k cu fr p)
        (within_since b s1 g _ (within_right b st.entries g F _ (within_right b st.entries g E _ w)))
        (subst (FitsIn P h1.shapes (env_of g) (array t a false)) (sym slots.0) (fits_grows P st.shapes h1.shapes s1.grows (env_of g) (array t a false) _ pf.array))
        (subst (λ z. FitsSigned w32 (number z)) (sym slots.2) (number_fits P st.shapes (env_of g) int _ pf.len))
        (subst (λ z. FitsSigned w32 (number z)) (sym slots.3) (number_fits P h1.shapes (env_of g) _ u fu))
        (λ i z. (let y : j ≡ i = (let x : of_part j ≡ of_part i = z in cc) in subst (λ x. g.part x ≡ record { array = slot_value d.values k; first = number (slot_value d.values (k + 1)); len = number (slot_value d.values (k + 2)) }) y
        (pf.places ∙ sym (λ i. record { array = slots.0 i; first = number (slots.1 i); len = number (slots.2 i) }))))))))

    -- a statement that is a block of its own
    strict_single : {L : Scope} {s : TypedStmt} {E : List EffectOwn} → AllPass P L (more_stmts s no_stmts) E → GoodScope L → {outer : ℕ → Bool} → PlacedScope outer L →
        (g : Setting) (st : State) (f : Frame) → FrameFits P b.path st g L f → Within b st.entries g E →
        InOrder P b (Left P b L g (completes s) st) st (strict_stmt wrong (named_by b.path) P dp s f)
    strict_single (then' {E = E} {F = F} p c rest) good pl g st f ff w = strict_order_of p good pl g st f ff (within_left b st.entries g E F w)
    strict_single {L} (declare {x = x} {t = t} {E = E} {F = F} free gt h sub rest) good pl g st f ff w =
        following L good g h _ _ st f ff (within_left b st.entries g E _ w)
        (λ h1 v s fv ix. (refl, s, frame_outside P b.path h1 g L good f x v free.0 (frame_since s ff)))
    strict_single {L} (declare_regions {rs = rs} free rest) good pl g st f ff w =
        makes_order P b L good (Left P b L g true st) rs free st g f ff
        (λ h made e s n fe. (
          refl,
          s,
          frame_regions_left P b.path h g L good e [] made (new_alike L b.path g made f e rs free n) ff.distinct
              (λ r. old_later b.path st.made h.made r s.made (g.made r) (ff.old r)) fe,
        ))

    pub strict_orders_of : {L : Scope} {ss : TypedStmts} {E : List EffectOwn} → AllPass P L ss E → GoodScope L → {outer : ℕ → Bool} → PlacedScope outer L →
        (g : Setting) (st : State) (f : Frame) → FrameFits P b.path st g L f → Within b st.entries g E →
        InOrder P b (Left P b L g (all_complete ss) st) st (strict_stmts wrong (named_by b.path) P dp ss f)
    strict_orders_of no_more good pl g st f ff w = (refl, since_now st, ff)
    strict_orders_of {L} (then' {s = s} {ss = ss} {E = E} {F = F} p c rest) good pl g st f ff w =
        order_on P b (Left P b L g (completes s) st) _ (next_of (λ v h. strict_stmts wrong (named_by b.path) P dp ss h))
        (followed L g (completes s) (completes s && all_complete ss) st (λ v h. strict_stmts wrong (named_by b.path) P dp ss h)
        (λ h c v cs s2 ffc. order_post P b (Left P b L g (all_complete ss) h) _
        (λ u r y. left_since P b L g (all_complete ss) (completes s && all_complete ss) st h u r s2 (λ e. and_from _ _ cs e) y) _ h
        (strict_orders_of rest good pl g h c ffc (within_since b s2 g F (within_right b st.entries g E F w)))))
        _ st (strict_order_of p good pl g st f ff (within_left b st.entries g E F w))
    strict_orders_of {L} (declare {x = x} {t = t} {is_final = is_final} {e = e} {ss = ss} {E = E} {F = F} free gt h sub rest) good {outer} pl g st f ff w =
        order_on P b (Declared g t x st f) _ (next_of (λ v h. strict_stmts wrong (named_by b.path) P dp ss h))
        (declared g t x st f (Left P b L g (all_complete ss) st) (λ v h. strict_stmts wrong (named_by b.path) P dp ss h)
        (λ h1 v s2 fv.
        order_post P b (Left P b (with_local x (declared_as is_final t) L) (with_number x (number v) g) (all_complete ss) h1) _
        (λ u r y. left_leave L good g x (declared_as is_final t) (number v) free.0 (all_complete ss) st h1 u r s2 y) _ h1
        (strict_orders_of rest (good_declare L good x is_final t free (good_type P L 0 t gt)) (placed_declare outer L pl x is_final t free (good_placed outer P L 0 t gt)) (with_number x (number v) g) h1 (with_value f x v)
        (frame_declare P b.path h1 g L good f x is_final t v free (good_type P L 0 t gt) fv (frame_since s2 ff))
        (λ a gu l. within_since b s2 g _ (within_right b st.entries g E _ w) a gu
        (lies_general g x (number v) (with_local x (declared_as is_final t) L) F a
        (all_own P wt outer (with_local x (declared_as is_final t) L) (placed_declare outer L pl x is_final t free (good_placed outer P L 0 t gt)) F
        (stmts_effects_in P wt outer rest (good_declare L good x is_final t free (good_type P L 0 t gt)) (placed_declare outer L pl x is_final t free (good_placed outer P L 0 t gt)))) l)))))
        _ st (following L good g h (Declared g t x st f) _ st f ff (within_left b st.entries g E _ w)
        (λ h1 v s2 fv ix. order_ret P b (Declared g t x st f) h1 (Goes_on none (with_value f x v)) (v, s2, sub_fits L good g h sub ff h1.shapes v fv, refl)))
    strict_orders_of {L} (declare_regions {rs = rs} {ss = ss} {F = F} free rest) good {outer} pl g st f ff w =
        order_on P b (Renewed L g rs st f) _ (next_of (λ v h. strict_stmts wrong (named_by b.path) P dp ss h))
        (renewed L g rs st f (Left P b L g (all_complete ss) st) (λ v h. strict_stmts wrong (named_by b.path) P dp ss h)
        (λ h made e s n fe.
        order_post P b (Left P b (with_regions rs L) (with_made made g) (all_complete ss) h) _
        (λ u r y. left_regions L good g rs made (new_alike L b.path g made f e rs free n) st h u (frame_since s ff) (all_complete ss) r s y) _ h
        (strict_orders_of rest (good_regions L good rs) (placed_regions outer L pl rs) (with_made made g) h e (frame_regions P b.path h (with_made made g) L f e rs g.made n fe)
        (within_regions L outer pl b h.entries g made f e rs free n F
        (stmts_effects_in P wt outer rest (good_regions L good rs) (placed_regions outer L pl rs))
        (within_since b s g (outside_regions rs F) w)))))
        _ st (makes_order P b L good (Renewed L g rs st f) rs free st g f ff (λ h made e s n fe. (made, s, n, fe)))

left_leaves : (P : PlainProgram) (b : Bounds) (L : Scope) (g : Setting) (ss : TypedStmts) (st h : State) (r : Result) →
    Left P b L g (all_complete ss) st h r → Leaves P b L g ss st h r
left_leaves P b L g ss st h (Goes_on v f) y = y
left_leaves P b L g ss st h (Returns v) y = y

pub strict_statements_in_order : (wrong : Wrong Name LocalRegion) (P : PlainProgram) (wt : WellTyped P) (b : Bounds) (dp : Option Deeper) → DeeperInOrder P wt b dp →
    (L : Scope) (ss : TypedStmts) (E : List EffectOwn) → AllPass P L ss E → GoodScope L → (g : Setting) (st : State) (f : Frame) →
    FrameFits P b.path st g L f → Within b st.entries g E → InOrder P b (Leaves P b L g ss st) st (strict_stmts wrong (named_by b.path) P dp ss f)
strict_statements_in_order wrong P wt b dp dd L ss E p good g st f ff w = order_post P b (Left P b L g (all_complete ss) st) (Leaves P b L g ss st)
    (left_leaves P b L g ss st) _ st (strict_orders_of wrong P wt b dp dd p good (placed_scope L good) g st f ff w)
