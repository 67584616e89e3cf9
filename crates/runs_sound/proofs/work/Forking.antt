-- Parallel constructs are in order: their forks, and what is after their joins.
use Rattle.std.specs.Int.{w32}
use Rattle.std.proofs.Common.{arith, ◌≡◌, ◌^◌, ℕ, ℤ, FitsSigned, ◌+◌, pos, Bool, true, false, List, [], length, refl, sym, ◌∙◌, subst, Option, Some, None, IsTrue, ◌<◌}
use Rattle.std.specs.Prelude.{All}
use Rattle.std.proofs.lemmas.List.{length-set}
use Rattle.lang_base.specs.declared.place.Place.{Place}
use Rattle.lang_base.specs.declared.region.Rpl.{Rpl}
use Rattle.lang_base.specs.Types.{PlainType, int, array}
use Rattle.lang_typed.specs.Effects.{Own as EffectOwn, effect_of, as_effects, besides_part, through_part, after_parts, after_branches, outside_variable}
use Rattle.lang_typed.specs.Plain.{PlainProgram, TypedExpr, TypedStmt, statement, no_stmts, more_stmts, TypedBranches}
use Rattle.lang_typed.specs.Plain.{Source, of_array, of_part}
use Rattle.lang_typed.specs.Plain.{StmtForm as form}
use Rattle.lang_typed.specs.declared.stmt.Forking.{Forking}
use Rattle.lang_typed.specs.declared.stmt.Forking.TheVariants.{Deterministic}
use Rattle.lang_base.specs.Branches.{iterations_clash, lists_clash}
use Rattle.lang_typed.specs.Scope.{Scope, constant, variable, reserved, in_loop_branch, atomic_for, part, with_local}
use Rattle.lang_typed.specs.Statements.{with_part, IsFree, NoClash, joined, BranchesPass, AllPass}
use Rattle.lang_typed.specs.WellTyped.{WellTyped}
use Rattle.lang_meaning.specs.Core.{Goes_on, Returns, Act}
use Rattle.lang_meaning.specs.Counts.{Back, Trap_of_branch, how_many, length_seen, number, slot_value}
use Rattle.lang_meaning.specs.Expressions.{unless_null}
use Rattle.lang_meaning.specs.Statements.{part_taken_over, parts, with_value, with_values, tasks_of, forks, of_stmt}
use Rattle.lang_meaning.specs.Statements.{joined as joined_after, all_copies as all_copied}
use Rattle.runs_theory.specs.Actions.{Look, Answer, Length}
use Rattle.runs_theory.specs.Objects.{Name, Value, Int}
use Rattle.runs_program.specs.Steps.{named_by}
use Rattle.runs_sound.specs.Settings.{Setting, env_of}
use Rattle.runs_sound.specs.Shapes.{elements, ArrayInstance, FitsIn}
use Rattle.runs_sound.specs.Accesses.{Bounds, Within}
use Rattle.runs_sound.specs.Frames.{Frame, State, Since, FrameFits}
use Rattle.runs_sound.specs.Scopes.{PathInScope, TypeInScope, GoodScope}
use Rattle.runs_sound.specs.Branches.{Forks, Brings}
use Rattle.runs_sound.specs.Work.{Result, Brought, ReturnFits, InOrder}
use Rattle.runs_sound.specs.Laws.{Deeper}
use Rattle.runs_sound.proofs.classes.Types.{fits_grows}
use Rattle.runs_sound.proofs.scopes.Frames.{frame_since, within_since}
use Rattle.runs_sound.proofs.scopes.Locals.{other_than, frame_outside}
use Rattle.runs_sound.proofs.scopes.Alike.{set_other, set_same}
use Rattle.runs_sound.proofs.work.Expressions.{order_unless}
use Rattle.runs_sound.proofs.numbers.Ints.{length_fits, few_iterations}
use Rattle.runs_sound.proofs.work.Work.{since_since, since_after, order_post}
use Rattle.runs_sound.proofs.work.Parts.{free_itself}
use Rattle.runs_sound.proofs.work.PartForks.{good_parts, parts_forks}
use Rattle.runs_sound.proofs.paths.Uses.{stmts_use}
use Rattle.runs_sound.proofs.work.Cobegins.{cobegin_forks, copied_fits}
use Rattle.runs_sound.proofs.work.Forks.{HasNoMark, foreach_forks, copied_none}

-- after statements that began in this state: locals that fit, where they can complete; or a value that a `return` gives
abbrev pub Left : PlainProgram → Bounds → Scope → Setting → Bool → State → State → Result → Type 0
Left P b L g c st h (Goes_on v f) = IsTrue c × Since st h × FrameFits P b.path h g L f
Left P b L g c st h (Returns v) = Since st h × ReturnFits P h.shapes g L.result v

pub left_since : (P : PlainProgram) (b : Bounds) (L : Scope) (g : Setting) (c d : Bool) (st h u : State) (r : Result) → Since st h → (c ≡ true → d ≡ true) →
    Left P b L g c h u r → Left P b L g d st u r
left_since P b L g c d st h u (Goes_on v f) s i y = (i y.0, since_since s y.1, y.2)
left_since P b L g c d st h u (Returns v) s i y = (since_since s y.0, y.1)

-- forks and what is after their joins
module _ (P : PlainProgram) (b : Bounds) where
  pub cobegin_order : (dp : Option Deeper) (L : Scope) → GoodScope L → (g : Setting) (st : State) (f : Frame) → FrameFits P b.path st g L f → (at : Place) (forking : Forking) → {bs : TypedBranches} {Es : List (List EffectOwn)} → BranchesPass P L [] bs Es → NoClash P forking L Es →
      All HasNoMark (joined Es) → Within b st.entries g (after_branches forking (joined Es)) →
      InOrder P b (Left P b L g true st) st (of_stmt (named_by b.path) P dp (statement at (form.cobegin forking bs)) f)
  unfolding InOrder
  cobegin_order None L good g st f ff at forking p nc plain w = tt
  cobegin_order (Some deeper) L good g st f ff at forking {bs} {Es} p nc plain w =
      (cobegin.0, λ x h s z. after x h s z)
    where
      cobegin : (forks : Forks P b st forking (tasks_of bs f)) × ((i : ℕ) → forks.setting i ≡ g)
          × ((i x : ℕ) (t : PlainType) → (forks.scope i).local x ≡ Some (variable t) → L.local x ≡ Some (variable t))
      cobegin = cobegin_forks P b st L good g f ff forking p nc plain w

      after : (x : Brought) (h : State) → Since st h → Brings P b st forking (tasks_of bs f) cobegin.0 h x →
          InOrder P b (Left P b L g true st) h (joined_after (all_copied bs) f x)
      after (Back ls) h s z = (
        refl,
        s,
        copied_fits P b.path h L good g (all_copied bs) ls f
            (λ x v c. (let r = z x v c in (r.ty, cobegin.2 r.number x r.ty r.local, subst (λ k. FitsIn P h.shapes (env_of k) r.ty v) (cobegin.1 r.number) r.fits))) (frame_since s ff),
      )
      after (Trap_of_branch trap place) h s z = tt

  pub foreach_order : (dp : Option Deeper) (L : Scope) → GoodScope L → (g : Setting) (st : State) (f : Frame) → FrameFits P b.path st g L f → (at : Place) (forking : Forking) → {x : ℕ} {s : TypedStmt} {G : List EffectOwn} → IsFree L x → AllPass P (with_local x (constant int) (in_loop_branch L)) (more_stmts s no_stmts) G →
      iterations_clash L.given (atomic_for forking P L) x (as_effects G) ≡ false → All (λ o. PathInScope (with_local x (constant int) (in_loop_branch L)) 0 (effect_of o).rpl) G →
      All HasNoMark G → Within b st.entries g (outside_variable x (after_branches forking G)) → (start count : ℤ) → FitsSigned w32 count →
      InOrder P b (Left P b L g true st) st (forks dp at forking None x s start count f)
  unfolding InOrder
  foreach_order None L good g st f ff at forking free p ic i plain w start count small = tt
  foreach_order (Some deeper) L good g st f ff at forking {x} {s} free p ic i plain w start count small = (
    foreach_forks P b st L good g f ff forking free p ic i plain w start (how_many count) (few_iterations count small),
    λ y h s1 z. after y h s1,
  )
    where
      after : (y : Brought) (h : State) → Since st h → InOrder P b (Left P b L g true st) h (joined_after [] f y)
      after (Back ls) h s1 = (refl, s1, subst (λ vs. FrameFits P b.path h g L (with_values f vs)) (sym (copied_none ls f.values)) (frame_since s1 ff))
      after (Trap_of_branch trap place) h s1 = tt

-- branches over the parts of an array whose slots are filled
module _ (P : PlainProgram) (wt : WellTyped P) (b : Bounds) (L : Scope) (good : GoodScope L) (g : Setting) (k : ℕ) (t : PlainType) (a : Rpl)
    (free : (i : ℕ) → i < 5 → IsFree L (k + i)) (s : TypeInScope L 0 (array t a false)) where
  pub parts_order : (dp : Option Deeper) (st : State) (f : Frame) → FrameFits P b.path st g L f → (at : Place) (source : Source) → {body : TypedStmt} {G : List EffectOwn} →
      AllPass P (with_part k t a (in_loop_branch L)) (more_stmts body no_stmts) G → iterations_clash L.given None (k + 4) (besides_part k G) ≡ false →
      lists_clash L.given None (besides_part k G) (through_part k G) ≡ false → All (λ o. PathInScope (with_part k t a (in_loop_branch L)) 0 (effect_of o).rpl) G →
      Within b st.entries g (outside_variable (k + 4) (after_branches Deterministic (after_parts k source G))) →
      FitsIn P st.shapes (env_of g) (array t a false) (slot_value f.values k) → FitsSigned w32 (number (slot_value f.values (k + 2))) →
      FitsSigned w32 (number (slot_value f.values (k + 3))) →
      ((j : ℕ) → source ≡ of_part j →
      g.part j ≡ record { array = slot_value f.values k; first = number (slot_value f.values (k + 1)); len = number (slot_value f.values (k + 2)) }) →
      InOrder P b (Left P b L g true st) st (parts dp at k body f)
  unfolding InOrder
  parts_order None st f ff at source p ic lc i w af lf cf is = tt
  parts_order (Some deeper) st f ff at source {body} {G} p ic lc i w af lf cf is = (
    parts_forks P b st L good g f ff k t a free s (s.2 refl) af lf p ic lc i (stmts_use P wt p (good_parts P b st L good g f ff k t a free s))
        source is w (how_many (number (slot_value f.values (k + 3)))) (few_iterations (number (slot_value f.values (k + 3))) cf),
    λ y h s1 z. after y h s1,
  )
    where
      after : (y : Brought) (h : State) → Since st h → InOrder P b (Left P b L g true st) h (joined_after [] f y)
      after (Back ls) h s1 = (refl, s1, subst (λ vs. FrameFits P b.path h g L (with_values f vs)) (sym (copied_none ls f.values)) (frame_since s1 ff))
      after (Trap_of_branch trap place) h s1 = tt

  -- a slot of the part is set, and others stay
  pub filled : {st : State} {f : Frame} (i : ℕ) (v : Value) → i < 5 → FrameFits P b.path st g L f → FrameFits P b.path st g L (with_value f (k + i) v)
  filled {st} {f} i v l ff = frame_outside P b.path st g L good f (k + i) v (free i l).0 ff

  pub filled_first : {st : State} {f : Frame} (v : Value) → FrameFits P b.path st g L f → FrameFits P b.path st g L (with_value f k v)
  filled_first {st} {f} v ff = frame_outside P b.path st g L good f k v (free_itself L k t a free).0 ff

  pub room : {st : State} {f : Frame} (i : ℕ) → i < 5 → FrameFits P b.path st g L f → k + i < length f.values
  room i l ff = subst (λ z. k + i < z) (sym ff.slots) (free i l).1

  pub room_first : {st : State} {f : Frame} → FrameFits P b.path st g L f → k < length f.values
  room_first ff = subst (λ z. k < z) (sym ff.slots) (free_itself L k t a free).1

  -- what stands in the slots that are taken over from a part
  pub taken_slots : {st : State} (f : Frame) → FrameFits P b.path st g L f → (j : ℕ) → L.local j ≡ Some (part t a) → (u : Value) →
      let e = with_value (part_taken_over k j f) (k + 3) u in
      let d = with_value e (k + 2) (slot_value e.values (j + 2)) in
      (slot_value d.values k ≡ slot_value f.values j) × (slot_value d.values (k + 1) ≡ slot_value f.values (j + 1)) × (slot_value d.values (k + 2) ≡ slot_value f.values (j + 2))
      × (slot_value d.values (k + 3) ≡ u)
  taken_slots {st} f ff j lj u =
      let held = good.parts j t a lj in
      let first = with_value f k (slot_value f.values j) in
      let over = part_taken_over k j f in
      let e = with_value (part_taken_over k j f) (k + 3) u in
      let last = slot_value e.values (j + 2) in
      let n1 = length-set f.values k (slot_value f.values j) in
      let n2 = length-set first.values (k + 1) (slot_value first.values (j + 1)) in
      let n3 = length-set over.values (k + 3) u in (
        set_other e.values (k + 2) k last (λ z. omega (arith, z)) ∙ set_other over.values (k + 3) k u (λ z. omega (arith, z))
            ∙ set_other first.values (k + 1) k (slot_value first.values (j + 1)) (λ z. omega (arith, z)) ∙ set_same f.values k (slot_value f.values j) (room_first ff),
        set_other e.values (k + 2) (k + 1) last (λ z. omega (arith, z)) ∙ set_other over.values (k + 3) (k + 1) u (λ z. omega (arith, z))
            ∙ set_same first.values (k + 1) (slot_value first.values (j + 1)) (let l = room 1 (omega arith) ff in omega (arith, l, n1))
            ∙ set_other f.values k (j + 1) (slot_value f.values j) (other_than L k (j + 1) reserved held.0 (free_itself L k t a free).0),
        set_same e.values (k + 2) last (let l = room 2 (omega arith) ff in omega (arith, l, n1, n2, n3))
            ∙ set_other over.values (k + 3) (j + 2) u (other_than L (k + 3) (j + 2) reserved held.1 (free 3 (omega arith)).0)
            ∙ set_other first.values (k + 1) (j + 2) (slot_value first.values (j + 1)) (other_than L (k + 1) (j + 2) reserved held.1 (free 1 (omega arith)).0)
            ∙ set_other f.values k (j + 2) (slot_value f.values j) (other_than L k (j + 2) reserved held.1 (free_itself L k t a free).0),
        set_other e.values (k + 2) (k + 3) last (λ z. omega (arith, z)) ∙ set_same over.values (k + 3) u (let l = room 3 (omega arith) ff in omega (arith, l, n1, n2)),
      )

  -- after the look at the array that is cut
  pub array_order : (dp : Option Deeper) (st : State) (f : Frame) → FrameFits P b.path st g L f → (at : Place) (e : TypedExpr) → {body : TypedStmt} {G : List EffectOwn} →
      AllPass P (with_part k t a (in_loop_branch L)) (more_stmts body no_stmts) G → iterations_clash L.given None (k + 4) (besides_part k G) ≡ false →
      lists_clash L.given None (besides_part k G) (through_part k G) ≡ false → All (λ o. PathInScope (with_part k t a (in_loop_branch L)) 0 (effect_of o).rpl) G →
      Within b st.entries g (outside_variable (k + 4) (after_branches Deterministic (after_parts k (of_array e) G))) →
      FitsSigned w32 (number (slot_value f.values (k + 3))) → (v : Value) → slot_value f.values k ≡ v → FitsIn P st.shapes (env_of g) (array t a false) v →
      InOrder P b (Left P b L g true st) st (unless_null at v (λ n. Act (Look n) (λ x. parts dp at k body (with_value f (k + 2) (Int (pos (length_seen x)))))))
  unfolding InOrder
  array_order dp st f ff at e {body} {G} p ic lc i w cf v is fv = order_unless P b (Left P b L g true st) st at (ArrayInstance st.shapes (env_of g) t a)
      (λ n. Act (Look n) (λ x. parts dp at k body (with_value f (k + 2) (Int (pos (length_seen x)))))) looked v fv
    where
      seen : (u : State) → Since st u → (x : Answer) → (len : ℕ) × (len < 2 ^ 31) × (x ≡ Length len) → InOrder P b (Left P b L g true st) u (parts dp at k body (with_value f (k + 2) (Int (pos (length_seen x)))))
      seen u s1 x is_length =
          order_post P b (Left P b L g true u) (Left P b L g true st) (λ z r y. left_since P b L g true true st u z r s1 (λ e. e) y) _ u
          (parts_order dp u (with_value f (k + 2) (Int (pos (length_seen x)))) (filled 2 (Int (pos (length_seen x))) (omega arith) (frame_since s1 ff)) at (of_array e) p ic lc i
          (within_since b s1 g _ w)
          (subst (FitsIn P u.shapes (env_of g) (array t a false))
          (sym (set_other f.values (k + 2) k (Int (pos (length_seen x))) (λ e. omega (arith, e)) ∙ is)) (fits_grows P st.shapes u.shapes s1.grows (env_of g) (array t a false) v fv))
          (subst (λ z. FitsSigned w32 (number z)) (sym (set_same f.values (k + 2) (Int (pos (length_seen x))) (room 2 (omega arith) ff))) (length_fits x is_length))
          (subst (λ z. FitsSigned w32 (number z)) (sym (set_other f.values (k + 2) (k + 3) (Int (pos (length_seen x))) (λ e. omega (arith, e)))) cf)
          (λ j z. absurd (let y : of_array e ≡ of_part j = z in cc)))

      looked : (n : Name) → ArrayInstance st.shapes (env_of g) t a n →
          InOrder P b (Left P b L g true st) st (Act (Look n) (λ x. parts dp at k body (with_value f (k + 2) (Int (pos (length_seen x))))))
      looked n i' = ((elements i'.setting i'.element i'.rpl, i'.shape), λ x u after ans. seen u (since_after (Look n) refl after) x ans)
