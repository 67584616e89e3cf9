-- Wherever a schedule leads a machine on compiled code, it records a run of the source.
use Rattle.std.proofs.Common.{◌≡◌, ◌≤◌, inl, inr, ℕ, ◌+◌, ◌==◌, if◌then◌else◌, ℤ, Bool, true, false, List, [], ◌∷◌, length, map, refl, sym, ap, ◌∙◌, subst, Option, Some, None, slice_get, arith}
use Rattle.std.proofs.lemmas.Bool.Decides.{eqb_tells}
use Rattle.std.proofs.lemmas.Option.{slice_get_within}
use Rattle.std.specs.FinMap.{empty, get, get-empty}
use Rattle.std.specs.Ordering.{nat_cmp}
use Rattle.lang_base.specs.declared.effect.Effect.{Effect as PathEffect}
use Rattle.lang_base.specs.declared.outcome.Limits.{Limits}
use Rattle.lang_base.specs.declared.outcome.Outcome.{Outcome as DeclaredOutcome}
use Rattle.lang_typed.specs.Plain.{PlainProgram}
use Rattle.lang_typed.specs.Resolved.{Resolved, HasMain}
use Rattle.code_instrs.specs.Plain.{PlainCode, plain_code}
use Rattle.code_instrs.specs.declared.code.Code.{Code}
use Rattle.code_scheme.proofs.RunsToActions.{runs_are_right}
use Rattle.code_scheme.specs.Whole.{compiled}
use Rattle.runs_theory.specs.Actions.{Ending, Program, Rule}
use Rattle.runs_theory.specs.Blocks.{hold}
use Rattle.runs_theory.specs.Objects.{Path, size}
use Rattle.runs_theory.specs.Order.{Comes, Limited, Outcome, ending_of, printed, trapped}
use Rattle.runs_theory.specs.Runs.{Event, Follows, Run, cells_of, entry_step, event_cells, event_steps, mine, now, steps_of}
use Rattle.runs_theory.specs.Schedules.{Numbered, Ran, Ready, Within, branch_is, ended, no_room, over, root_is}
use Rattle.runs_theory.proofs.events.Cost.{total_nil}
use Rattle.runs_theory.specs.Standing.{Outside, above, first_of, joined_by}
use Rattle.runs_theory.proofs.events.Mine.{mine_nil}
use Rattle.runs_theory.proofs.runs.Standing.{above_nil, above_step}
use Rattle.runs_theory.proofs.runs.Written.{allowed_from}
use Rattle.runs_program.specs.Interfering.{lets}
use Rattle.runs_program.specs.Steps.{named_by, stepped}
use Rattle.exec_heap.specs.Heap.{instance, with_object}
use Rattle.exec_task.specs.declared.action.Action.{Action as DeclaredAction}
use Rattle.exec_task.specs.declared.action.Action.TheVariants as action
use Rattle.exec_task.specs.declared.action.Own.TheVariants as own
use Rattle.exec_task.specs.declared.action.Ending.{Ending as DeclaredEnding}
use Rattle.exec_tasks.proofs.Numbers.{get_beside, get_inserted}
use Rattle.exec_tasks.specs.Scope.{Branches as Scope}
use Rattle.exec_tasks.specs.declared.task.State.TheVariants.{Running as Runs, Forked}
use Rattle.runs_theory.proofs.events.Upto.{upto_none}
use Rattle.runs_simulation.proofs.tied.Lives.{LivesTied, NoForkLast, lives_next}
use Rattle.std.specs.Prelude.{is_some}
use Rattle.exec_tasks.specs.Tree.{fresh, only_root, out_of, task_at}
use Rattle.exec_tasks.specs.declared.task.Task.{Task as Live}
use Rattle.exec_world.specs.Costs.{first_fields}
use Rattle.exec_world.specs.Costs.{Within as MachineWithin, cells_of as machine_cells, steps_of as machine_steps}
use Rattle.exec_world.specs.World.{at_start as world_at_start, with_heap, world_after}
use Rattle.exec_world.specs.declared.event.Event.{Event as DeclaredEvent}
use Rattle.exec_world.specs.declared.world.World.{World}
use Rattle.exec_machine.specs.declared.made_event.MadeEvent.{MadeEvent}
use Rattle.exec_machine.specs.Events.{Makes, MakesNext, makes, meets_limit, opens}
use Rattle.exec_machine.specs.Replay.{Moment, NextOf, CanBeMade, Opens, LeadsTo, after, came_to, limited, number_given, opened, outcome_after}
use Rattle.exec_machine.specs.Replay.{made as made_so, over as over_so, no_room as no_room_so}
use Rattle.runs_simulation.specs.Alike.{AnswerAlike, EventAlike, EventsAlike, SightOf}
use Rattle.runs_simulation.specs.Laws.{AllRecord, EventForEvent, MachinesRecord, Records}
use Rattle.runs_simulation.proofs.alike.Alikes.{event_later}
use Rattle.runs_simulation.proofs.alike.Sights.{Sight, each_more, each_none, each_weaker}
use Rattle.runs_simulation.proofs.events.Joins.{ForksAreJoined, forks_are_joined}
use Rattle.runs_simulation.proofs.tied.Ties.{Q, Tied}
use Rattle.runs_simulation.proofs.events.Asked.{disciplined}
use Rattle.runs_simulation.proofs.tied.Trees.{entered_next}
use Rattle.runs_simulation.proofs.events.Acting.{RightFor, IsScoped, event_of, Matched, Stepped}
use Rattle.runs_simulation.proofs.events.Owns.{FieldsFor, does_next, length_replicate, write_used}
use Rattle.runs_simulation.proofs.events.Forks.{forks_next}
use Rattle.runs_simulation.proofs.events.Begins.{begins_branch}
use Rattle.runs_simulation.proofs.events.Joinings.{joins_next}
use Rattle.runs_simulation.proofs.events.Endings.{EndReported, end_reported, ends_next}
use Rattle.runs_simulation.proofs.tied.Segments.{Seg, seg_in_order}
use Rattle.runs_simulation.proofs.tied.Sorted.{seg_whole}
use Rattle.runs_theory.specs.Order.{Came as CameOut}
use Rattle.lang_base.specs.declared.value.Value.{Value as Constant}
use Rattle.lang_base.specs.declared.value.Value.TheVariants as constant
use Rattle.lang_base.specs.declared.value.Trap.{Trap}
use Rattle.lang_base.specs.declared.place.Place.{Place}
use Rattle.lang_base.specs.declared.outcome.Ending.TheVariants as came
use Rattle.lang_meaning.specs.Values.{Value}
use Rattle.lang_meaning.specs.Counts.{number}
use Rattle.runs_theory.specs.Objects.{Name}
use Rattle.exec_task.specs.Tasks.{plain_ending}
use Rattle.exec_frames.specs.Names.{plain_value}
use Rattle.exec_task.specs.declared.action.Ending.TheVariants as ending
use Rattle.exec_world.specs.World.{trap_in as machine_trap}
use Rattle.runs_elision.proofs.Worlds.{Names, ValueLike, int_like, boolean_like, null_like, object_like, EndingLike, returned_like, assigned_like, trapped_like}
use Rattle.runs_simulation.proofs.events.Blocks.{blocks_next, entry_allowed}
use Rattle.runs_simulation.proofs.tied.Inside.{BlocksTied, StandTied, stands_out}
use Rattle.runs_simulation.proofs.tied.Waiting.{all_noted}
use Rattle.runs_simulation.proofs.tied.Starting.{fields_for, first_tied, first_sight, main_size}
use Rattle.lang_meaning.specs.Reported.{reported, reported_ending}

-- what an event costs a machine
record Charged (code : Code) (w n : World) (ticks : ℕ) (a : DeclaredAction) : Type 0 where
  steps : n.steps ≡ w.steps + (ticks + machine_steps a)
  cells : n.heap.used ≡ w.heap.used + machine_cells code a

charged : (code : Code) (w : World) (k ticks : ℕ) (wants : Option (List PathEffect)) (a : DeclaredAction) → Charged code w (world_after code w (event_of k ticks wants a)) ticks a
charged code w k ticks wants (action.Do (own.Write n j v)) = record { steps = refl; cells = (let u = write_used w.heap n j v in omega (arith, u)) }
charged code w k ticks wants (action.Do (own.NewArray region len first)) = record { steps = refl; cells = (let a = length_replicate len first in omega (arith, a)) }
charged code w k ticks wants a = record { steps = refl; cells = omega arith }

if_reported : {A : Type 0} (b : Bool) (x o : A) → (if b then Some x else None) ≡ Some o → b ≡ true
if_reported true x o e = refl
if_reported false x o e = absurd (cc)

-- only the end of the root ends a run
record RootEnds (k : ℕ) (a : DeclaredAction) : Type 0 where
  ending : DeclaredEnding
  ends : a ≡ action.End ending
  root : k ≡ 0

root_ends : (before after : World) (k : ℕ) (a : DeclaredAction) (o : DeclaredOutcome) → outcome_after before after k a ≡ Some o → RootEnds k a
root_ends before after k (action.End c) o e = record { ending = c; ends = refl; root = zero_reported (if_reported (k == 0) _ o e) }
  where
    zero_reported : (k == 0) ≡ true → k ≡ 0
    zero_reported t = elim (eqb_tells k 0) [
      | inl s ↦ s.1
      | inr s ↦ absurd (let no : false ≡ true = sym s.0 ∙ t in cc)
    ]
root_ends before after k a o e = absurd (cc)

-- and then it tells how, what was printed, and the costs
end_outcome : (before after : World) (k : ℕ) (c : DeclaredEnding) (o : DeclaredOutcome) → outcome_after before after k (action.End c) ≡ Some o
    → record { ending = came_to c; out = out_of (task_at before.tree 0); steps = after.steps; cells = after.heap.used } ≡ o
end_outcome before after k c o e = some_of (k == 0) _ o e
  where
    some_of : (b : Bool) (x o : DeclaredOutcome) → (if b then Some x else None) ≡ Some o → x ≡ o
    some_of true x o e = cc
    some_of false x o e = absurd (cc)

number_like : {ns : Names} (v : Constant) {u : Value Name} → ValueLike ns (plain_value v) u → number_given v ≡ number u
number_like (constant.Int n) (int_like k) = refl
number_like (constant.Bool b) (boolean_like k) = refl
number_like constant.Null null_like = refl
number_like (constant.Obj n) (object_like m x h) = refl

-- the ending of the root, after a trap below it or not
came_like : {ns : Names} (c : DeclaredEnding) (x : Ending) → EndingLike ns (plain_ending c) x → (t : Option (Trap × Place)) → machine_trap c ≡ t
    → came_to c ≡ reported_ending (ending_of t x)
came_like (ending.Returned v) x (returned_like l) None e = ap (λ n. came.Done n) (number_like v l)
came_like (ending.Returned v) x (returned_like l) (Some f) e = absurd (let both : None ≡ Some f = e in cc)
came_like (ending.Assigned ls) x (assigned_like l) None e = refl
came_like (ending.Assigned ls) x (assigned_like l) (Some f) e = absurd (let both : None ≡ Some f = e in cc)
came_like (ending.Trapped t p) x (trapped_like t' p') None e = refl
came_like (ending.Trapped t p) x (trapped_like t' p') (Some f) e = (let both : Some (t, p) ≡ Some f = e in let a : (t, p) ≡ f = cc in ap (λ (g : Trap × Place). came.Trapped g.0 g.1) a)

first_none : (n : ℕ) → first_of n [] ≡ []
unfolding first_of
first_none n = refl

-- a program's own rule of open blocks
abbrev rule : Rule
rule = lets

module _ (code : Code) (P : PlainProgram) (arg : ℤ) (L : Limits) (right : RightFor (plain_code code) P) (fields : FieldsFor code)
    (FJ : ForksAreJoined (plain_code code)) where
  abbrev C : PlainCode
  C = plain_code code

  abbrev QR : Program
  QR = Q P arg rule C

  abbrev Next_of : Sight → Run → ℕ → Moment → Type 0
  Next_of w R k n = Stepped code P arg rule L right w R k n

  abbrev Matched_of : Moment → DeclaredEvent → Sight → Run → ℕ → Moment → Type 0
  Matched_of m e w R k n = Matched code P arg rule L right m e w R k n

  step_any : {m : Moment} {w : Sight} {R : Run} (T : Tied P arg rule C L m w R) → m.world.steps ≤ 20000001 → (k ticks : ℕ) (wants : Option (List PathEffect)) (a : DeclaredAction)
      (x : NextOf C m k (event_of k ticks wants a)) → (IsScoped a → CanBeMade C m.world (event_of k ticks wants a) x.stands.state)
      → Matched_of m (event_of k ticks wants a) w R k (after code m (event_of k ticks wants a) x.stands.state x.stands.made)
  step_any T short k ticks wants (action.Do o) x can = does_next code P arg rule L right fields T k ticks wants o x
  step_any T short k ticks wants (action.Fork forking many) x can = forks_next code P arg rule L right FJ T k ticks wants forking many x
  step_any T short k ticks wants (action.Begin b) x can = begins_branch code P arg rule L right FJ T short k ticks wants b x (can tt)
  step_any T short k ticks wants action.Join x can = joins_next code P arg rule L right FJ T k ticks wants x (can tt)
  step_any T short k ticks wants (action.End c) x can = ends_next code P arg rule L right T k ticks wants c x

  any_event : {m : Moment} {w : Sight} {R : Run} (T : Tied P arg rule C L m w R) → m.world.steps ≤ 20000001 → (k : ℕ) (e : DeclaredEvent) (x : NextOf C m k e)
      → (IsScoped e.action → CanBeMade C m.world e x.stands.state) → Matched_of m e w R k (after code m e x.stands.state x.stands.made)
  any_event {m} {w} {R} T short k e x can =
      subst (λ j. (y : NextOf C m j e) → (IsScoped e.action → CanBeMade C m.world e y.stands.state) → Matched_of m e w R j (after code m e y.stands.state y.stands.made)) x.stands.number
      (λ y can. step_any T short e.task e.ticks e.wants e.action y can) x can

  -- the limits are those of the run
  within_next : {m n : Moment} {w v : Sight} {R : Run} {e : Event} (d : DeclaredEvent) → Tied P arg rule C L m w R → Tied P arg rule C L n v (e ∷ R) → Follows QR R e
      → n.world ≡ world_after code m.world d → (MachineWithin code m.world d → Within QR L (e ∷ R)) × (Within QR L (e ∷ R) → MachineWithin code m.world d)
  within_next {m} {n} {R = R} {e = e} d T U follows is = (
    λ h. record {
      steps = (let a = U.costs.steps in let b = costs.steps in let c = h.0 in let f = T.costs.most_steps in let g = entered in omega (arith, a, b, c, f, g));
      cells = (let a = U.costs.cells in let b = costs.cells in let c = h.1 in let f = T.costs.most_cells in omega (arith, a, b, c, f));
    },
    λ h. (
      (let a = U.costs.steps in let b = costs.steps in let c = h.steps in let f = T.costs.most_steps in let g = entered in omega (arith, a, b, c, f, g)),
      (let a = U.costs.cells in let b = costs.cells in let c = h.cells in let f = T.costs.most_cells in omega (arith, a, b, c, f)),
    ),
  )
    where
      entered : entry_step (mine (e ∷ R) []) ≡ 1
      entered = entered_next {P = QR} e follows T.numbers.entered

      costs : Charged code m.world n.world d.ticks d.action
      costs = subst (λ (u : World). Charged code m.world u d.ticks d.action) (sym is) (charged code m.world d.task d.ticks d.wants d.action)

  -- a run up to a moment
  pub record Led (ks : List ℕ) (m : Moment) : Type 0 where
    pub run : Run
    pub sight : Sight
    pub ran : Ran QR L ks run
    pub tied : Tied P arg rule C L m sight run
    pub blocks : BlocksTied sight run m.world
    pub lives : LivesTied sight run m
    pub short : m.world.steps ≤ 20000001

  -- the next event of a ready task is ready in the run
  ready_next : {ks : List ℕ} {m n : Moment} {k : ℕ} (leads : LeadsTo code L arg ks m) (A : Led ks m) (e : DeclaredEvent) (x : NextOf C m k e)
      (S : Next_of A.sight A.run k n) → Ready QR A.run k S.event
  ready_next {ks} {m} {n} {k} leads A e x S = record {
    allowed = allowed_from QR (disciplined P arg rule C) A.run S.event A.tied.faithful (record {
      follows = S.follows;
      enters = λ E act. entry_allowed code P arg rule L right A.tied A.short A.blocks (all_noted code L arg ks m leads) k e x n S E act;
    });
    number = A.tied.numbers.numbered k S.event.path S.there;
  }

  pub ready_in_run : {ks : List ℕ} {m : Moment} {k : ℕ} (leads : LeadsTo code L arg ks m) (A : Led ks m) (e : DeclaredEvent) (x : NextOf C m k e)
      → (IsScoped e.action → CanBeMade C m.world e x.stands.state) → (f : Event) × Ready QR A.run k f
  ready_in_run {ks} {m} {k} leads A e x can =
      let S : Next_of A.sight A.run k (after code m e x.stands.state x.stands.made) = (any_event A.tied A.short k e x can).stepped in
      (S.event, ready_next leads A e x S)

  zero_path : {R : Run} {k : ℕ} {p : Path} → Numbered R k p → k ≡ 0 → p ≡ []
  zero_path (root_is a b) e = a
  zero_path (branch_is q u G g a b c d n i) e = absurd (omega (arith, i, e))

  module _ (few : L.steps ≤ 20000000) (first : (m : Moment) → Opens code L arg m → m.outcome ≡ None → (w : Sight) × Tied P arg rule C L m w [])
      (main_so : length (first_fields code code.main_class) ≡ size QR.object) where
    -- the run with one event more
    abbrev next_ran : {ks : List ℕ} {m : Moment} {k : ℕ} (leads : LeadsTo code L arg ks m) (A : Led ks m) (e : DeclaredEvent) (x : NextOf C m k e)
        → MachineWithin code m.world e
        → (S : Next_of A.sight A.run k (after code m e x.stands.state x.stands.made)) → Ran QR L (k ∷ ks) (S.event ∷ A.run)
    next_ran leads A e x within S = (A.ran, ready_next leads A e x S, (within_next e A.tied S.tied S.follows refl).0 within)

    -- with this event
    abbrev led_with : {ks : List ℕ} {m : Moment} {k : ℕ} (leads : LeadsTo code L arg ks m) (A : Led ks m) (e : DeclaredEvent) (x : NextOf C m k e)
        (can : CanBeMade C m.world e x.stands.state) → MachineWithin code m.world e
        → (S : Next_of A.sight A.run k (after code m e x.stands.state x.stands.made)) → Led (k ∷ ks) (after code m e x.stands.state x.stands.made)
    led_with {ks} {m} {k} leads A e x can within S = record {
      run = S.event ∷ A.run;
      sight = S.sight;
      ran = next_ran leads A e x within S;
      tied = S.tied;
      blocks = blocks_next code P arg rule L right A.tied A.short A.blocks (all_noted code L arg ks m leads) k e x S;
      lives = lives_next code P arg rule L right A.tied A.short A.blocks (all_noted code L arg ks m leads) A.lives k e x can S;
      short = (let a = within.0 in let b = A.tied.costs.most_steps in let c = (charged code m.world e.task e.ticks e.wants e.action).steps in omega (arith, a, b, c, few));
    }

    led_next : {ks : List ℕ} {m : Moment} {k : ℕ} (leads : LeadsTo code L arg ks m) (A : Led ks m) (e : DeclaredEvent) (x : NextOf C m k e)
        (can : CanBeMade C m.world e x.stands.state) → MachineWithin code m.world e → Led (k ∷ ks) (after code m e x.stands.state x.stands.made)
    led_next {ks} {m} {k} leads A e x can within = led_with leads A e x can within (any_event A.tied A.short k e x (λ scoped. can)).stepped

    -- at the start the root alone is there, and stands in no block
    blocks_first : {m : Moment} {w : Sight} → Tied P arg rule C L m w [] → m.world
        ≡ with_heap (world_at_start L) (with_object (world_at_start L).heap (instance code.main_class [] (first_fields code code.main_class))) → BlocksTied w [] m.world
    blocks_first {m} {w} T is = record {
      stand = λ k x p live h. subst (λ o. StandTied w [] p o) (sym (no_lock k)) (stands_out (nowhere p) (ap hold (mine_nil p)));
      none = λ k e. no_lock k;
      there = λ k p h. inl (root_there k (within k p h));
    }
      where
        no_lock : (k : ℕ) → get m.world.locks k ≡ None
        no_lock k = ap (λ (w : World). get w.locks k) is ∙ get-empty nat_cmp k

        nowhere : (p : Path) → above [] p ≡ Outside
        nowhere [] = above_nil []
        nowhere (u ∷ q) = above_step [] u q ∙ ap (λ s. joined_by s q (hold (first_of u.0 (mine [] q)))) (nowhere q)
            ∙ ap (λ l. joined_by Outside q (hold (first_of u.0 l))) (mine_nil q) ∙ ap (λ l. joined_by Outside q (hold l)) (first_none u.0)

        within : (k : ℕ) (p : Path) → slice_get w.paths k ≡ Some p → k ≡ 0
        within k p h =
            let l = slice_get_within w.paths k p h in
            let many = T.numbers.many in
            let begun = ap (λ (w : World). w.tree.begun) is in omega (arith, l, many, begun)

        root_there : (k : ℕ) → k ≡ 0 → (x : Live) × (get m.world.tree.tasks k ≡ Some x)
        root_there k z = (_, ap (λ (w : World). get w.tree.tasks k) is ∙ ap (λ i. get only_root.tasks i) z ∙ get_inserted empty 0 (fresh None))

    lives_first : (m : Moment) (w : Sight) → m.world
        ≡ with_heap (world_at_start L) (with_object (world_at_start L).heap (instance code.main_class [] (first_fields code code.main_class))) → LivesTied w [] m
    lives_first m w is = record {
      unended = λ k x p live h z g. upto_none g.stands;
      branches = λ k b x scope live s h. absurd (only_runs k x scope (sym (ap (λ (w : World). get w.tree.tasks k) is) ∙ live) s);
      rests = λ k x p live h run. subst NoForkLast (sym (mine_nil p)) tt;
      root = λ none. ap (λ (w : World). is_some (get w.tree.tasks 0)) is ∙ ap (λ o. is_some o) (get_inserted empty 0 (fresh None));
    }
      where
        only_runs : (k : ℕ) (x : Live) (scope : Scope) → get only_root.tasks k ≡ Some x → x.state ≡ Forked scope → ⊥
        only_runs k x scope live s = elim (eqb_tells k 0) [
          | inl z ↦ (let both : Some (fresh None) ≡ Some x = sym (get_inserted empty 0 (fresh None)) ∙ ap (λ i. get only_root.tasks i) (sym z.1) ∙ live in
              let same : fresh None ≡ x = cc in let no : Runs ≡ Forked scope = ap (λ (l : Live). l.state) same ∙ s in cc)
          | inr z ↦ (let both : None ≡ Some x = sym (get_beside empty 0 k (fresh None) z.1 ∙ get-empty nat_cmp k) ∙ live in cc)
        ]

    led_opened : (m : Moment) → Opens code L arg m → m.outcome ≡ None → (A : Led [] m) × (A.run ≡ [])
    led_opened m (opened room is) none = go (first m (opened room is) none)
      where
        used : m.world.heap.used ≡ length (first_fields code code.main_class) + 1
        used = ap (λ (n : Moment). n.world.heap.used) is ∙ omega arith

        go : (w : Sight) × Tied P arg rule C L m w [] → (A : Led [] m) × (A.run ≡ [])
        go start = (
          record {
            run = [];
            sight = start.0;
            ran = record {
              steps = (let z = total_nil event_steps in let n = ap entry_step (mine_nil []) in omega (arith, z, n));
              cells = (let a = start.1.costs.cells in let b = used in let c = room in omega (arith, a, b, c));
            };
            tied = start.1;
            blocks = blocks_first start.1 (ap (λ (n : Moment). n.world) is);
            lives = lives_first m start.0 (ap (λ (n : Moment). n.world) is);
            short = (let a = start.1.costs.steps in let z = total_nil event_steps in omega (arith, a, z));
          },
          refl,
        )
    led_opened m (no_room_so full is) none = absurd (let both : None ≡ Some (limited L) = sym none ∙ ap (λ (n : Moment). n.outcome) is in cc)

    pub led : (ks : List ℕ) (m : Moment) → LeadsTo code L arg ks m → m.outcome ≡ None → Led ks m
    led [] m start none = (led_opened m start none).0
    led (k ∷ ks) m (before, leads, made_so e x can within is) none =
        subst (λ n. Led (k ∷ ks) n) (sym is) (led_next leads (led ks before leads x.unfinished) e x can within)
    led (k ∷ ks) m (before, leads, over_so e x can beyond is) none =
        absurd (let both : None ≡ Some (limited L) = sym none ∙ ap (λ (n : Moment). n.outcome) is in cc)

    -- the same, of the events that a schedule makes
    record Followed (ks : List ℕ) (xs : List MadeEvent) (m : Moment) : Type 0 where
      led : Led ks m
      tasks : map (λ x. x.event.task) xs ≡ ks
      alike : EventsAlike led.sight xs led.run

    followed_next : {ks : List ℕ} {xs : List MadeEvent} {m : Moment} {k : ℕ} (leads : LeadsTo code L arg ks m) (A : Followed ks xs m) (x : MadeEvent)
        (y : MakesNext C m k x) → CanBeMade C m.world x.event y.next.stands.state → MachineWithin code m.world x.event
        → Followed (k ∷ ks) (x ∷ xs) (after code m x.event y.next.stands.state y.next.stands.made)
    followed_next {ks} {xs} {m} {k} leads A x y can within = record {
      led = led_with leads A.led x.event y.next can within D.stepped;
      tasks = ap (λ j. j ∷ map (λ (x : MadeEvent). x.event.task) xs) y.next.stands.number ∙ ap (λ js. k ∷ js) A.tasks;
      alike = each_more here (each_weaker (λ x e h. event_later D.wider h) A.alike);
    }
      where
        D : Matched_of m x.event A.led.sight A.led.run k (after code m x.event y.next.stands.state y.next.stands.made)
        D = any_event A.led.tied A.led.short k x.event y.next (λ scoped. can)

        here : EventAlike D.stepped.sight x D.stepped.event
        here = record {
          task = D.wider.paths x.event.task D.stepped.event.path
              (subst (λ j. slice_get A.led.sight.paths j ≡ Some D.stepped.event.path) (sym y.next.stands.number) D.stepped.there);
          ticks = D.ticks;
          action = D.action;
          answer = subst (λ a. AnswerAlike D.stepped.sight a D.stepped.event.ans) (sym y.answer) D.answer;
        }

    makes_leads : {ks : List ℕ} {xs : List MadeEvent} {m : Moment} → Makes code L arg ks xs m → LeadsTo code L arg ks m
    makes_leads (opens h) = h
    makes_leads (makes {before} k x y h can within is) = (before, makes_leads h, made_so x.event y.next can within is)
    makes_leads (meets_limit {before} k x y h can beyond is) = (before, makes_leads h, over_so x.event y.next can beyond is)

    followed : {ks : List ℕ} {xs : List MadeEvent} {m : Moment} → Makes code L arg ks xs m → m.outcome ≡ None → Followed ks xs m
    followed {m = m} (opens h) none =
        (let A = led_opened m h none in record { led = A.0; tasks = refl; alike = subst (λ R. EventsAlike A.0.sight [] R) (sym A.1) each_none })
    followed {ks = j ∷ js} {xs = z ∷ zs} (makes k x y h can within is) none =
        subst (λ n. Followed (j ∷ js) (z ∷ zs) n) (sym is) (followed_next (makes_leads h) (followed h y.next.unfinished) x y can within)
    followed (meets_limit k x y h can beyond is) none = absurd (let both : None ≡ Some (limited L) = sym none ∙ ap (λ (n : Moment). n.outcome) is in cc)

    -- the run whose events they are
    record AlikeRun (xs : List MadeEvent) : Type 0 where
      run : Run
      sight : Sight
      ran : Ran QR L (map (λ x. x.event.task) xs) run
      sight_of : SightOf sight run
      alike : EventsAlike sight xs run

    alike_run : {ks : List ℕ} {xs : List MadeEvent} {m : Moment} → Followed ks xs m → AlikeRun xs
    alike_run {xs = xs} A = record {
      run = A.led.run;
      sight = A.led.sight;
      ran = subst (λ js. Ran QR L js A.led.run) (sym A.tasks) A.led.ran;
      sight_of = record { distinct = A.led.tied.heap.holds.distinct; numbered = A.led.tied.numbers.numbered };
      alike = A.alike;
    }

    -- before any event
    nothing_made : Within QR L [] → AlikeRun []
    nothing_made room = record {
      run = [];
      sight = record { names = []; paths = [] };
      ran = room;
      sight_of = record {
        distinct = record { one = λ n m x a b. absurd (let none : None ≡ Some x = a in cc) };
        numbered = λ k p a. absurd (let none : None ≡ Some p = a in cc);
      };
      alike = each_none;
    }

    alike_made : {ks : List ℕ} {xs : List MadeEvent} {m : Moment} → Makes code L arg ks xs m → (xs ≡ [] → Within QR L []) → AlikeRun xs
    alike_made (opens h) room = nothing_made (room refl)
    alike_made (makes k x y h can within is) room = alike_run (followed_next (makes_leads h) (followed h y.next.unfinished) x y can within)
    alike_made (meets_limit k x y h can beyond is) room = alike_run (followed h y.next.unfinished)

    pub all_alike : (ks : List ℕ) (xs : List MadeEvent) (m : Moment) → Makes code L arg ks xs m → (xs ≡ [] → Within QR L [])
        → (R : Run) × (w : Sight) × Ran QR L (map (λ x. x.event.task) xs) R × SightOf w R × EventsAlike w xs R
    all_alike ks xs m made room = (let A = alike_made made room in (A.run, A.sight, A.ran, A.sight_of, A.alike))

    -- the root has ended
    at_end : {ks : List ℕ} {m : Moment} {k : ℕ} (leads : LeadsTo code L arg ks m) (A : Led ks m) (ticks : ℕ) (wants : Option (List PathEffect)) (c : DeclaredEnding)
        (x : NextOf C m k (event_of k ticks wants (action.End c))) (can : CanBeMade C m.world (event_of k ticks wants (action.End c)) x.stands.state)
        → MachineWithin code m.world (event_of k ticks wants (action.End c)) → (o : DeclaredOutcome) → k ≡ 0
        → (after code m (event_of k ticks wants (action.End c)) x.stands.state x.stands.made).outcome ≡ Some o → Records QR L (k ∷ ks) (Some o)
    at_end {ks} {m} {k} leads A ticks wants c x can within o is_root is = (come, ended (S.event ∷ A.run) ran comes, reported_so)
      where
        n : Moment
        n = after code m (event_of k ticks wants (action.End c)) x.stands.state x.stands.made

        B : EndReported code P arg rule L right A.sight A.run k (after code m (event_of k ticks wants (action.End c)) x.stands.state x.stands.made) c (out_of (task_at m.world.tree k))
        B = end_reported code P arg rule L right A.tied k ticks wants c x

        S : Next_of A.sight A.run k (after code m (event_of k ticks wants (action.End c)) x.stands.state x.stands.made)
        S = B.stepped

        ran : Ran QR L (k ∷ ks) (S.event ∷ A.run)
        ran = next_ran leads A (event_of k ticks wants (action.End c)) x within S

        path : S.event.path ≡ []
        path = zero_path (A.tied.numbers.numbered k S.event.path S.there) is_root

        seg : Seg (S.event ∷ A.run) [] (mine (S.event ∷ A.run) []) B.segment
        seg = subst (λ p. Seg (S.event ∷ A.run) p (mine (S.event ∷ A.run) p) B.segment) path B.seg

        come : Outcome
        come = CameOut (ending_of (trapped B.segment) B.ending) (printed B.segment) (steps_of (S.event ∷ A.run)) (cells_of QR (S.event ∷ A.run))

        comes : Comes QR (S.event ∷ A.run) come
        comes = record {
          end = B.ending;
          ended = record { before = A.run; event = S.event; stands = now; path = path; act = B.act };
          sorted = B.segment;
          in_order = seg_in_order seg;
          events = seg_whole QR (disciplined P arg rule C) (S.event ∷ A.run) S.tied.faithful seg;
          outcome = refl;
        }

        entered : entry_step (mine (S.event ∷ A.run) []) ≡ 1
        entered = entered_next {P = QR} S.event S.follows A.tied.numbers.entered

        reported_so : o ≡ reported come
        reported_so = sym (end_outcome m.world (world_after code m.world (event_of k ticks wants (action.End c))) k c o is) ∙ (λ z. record { ending = ending_so z; out = out_so z; steps = steps_so z; cells = cells_so z })
          where
            ending_so : came_to c ≡ reported_ending (ending_of (trapped B.segment) B.ending)
            ending_so = came_like c B.ending B.like (trapped B.segment) B.trap

            out_so : out_of (task_at m.world.tree 0) ≡ printed B.segment
            out_so = ap (λ j. out_of (task_at m.world.tree j)) (sym is_root) ∙ B.out_is

            steps_so : n.world.steps ≡ steps_of (S.event ∷ A.run)
            steps_so = S.tied.costs.steps ∙ (let a = entered in omega (arith, a))

            cells_so : n.world.heap.used ≡ cells_of QR (S.event ∷ A.run)
            cells_so = S.tied.costs.cells

    root_ended : {ks : List ℕ} {m : Moment} {k : ℕ} (leads : LeadsTo code L arg ks m) (A : Led ks m) (e : DeclaredEvent) (x : NextOf C m k e)
        (can : CanBeMade C m.world e x.stands.state) → MachineWithin code m.world e → (o : DeclaredOutcome)
        → (after code m e x.stands.state x.stands.made).outcome ≡ Some o → Records QR L (k ∷ ks) (Some o)
    root_ended {ks} {m} {k} leads A e x can within o is =
        subst (λ e. (x : NextOf C m k e) → CanBeMade C m.world e x.stands.state → MachineWithin code m.world e
        → (after code m e x.stands.state x.stands.made).outcome ≡ Some o → Records QR L (k ∷ ks) (Some o)) (sym event_so)
        (λ x can within is. at_end leads A e.ticks e.wants ends.ending x can within o (sym number ∙ ends.root) is) x can within is
      where
        ends : RootEnds e.task e.action
        ends = root_ends m.world (world_after code m.world e) e.task e.action o is

        number : e.task ≡ k
        number = x.stands.number

        event_so : e ≡ event_of k e.ticks e.wants (action.End ends.ending)
        event_so = λ z. record { task = x.stands.number z; ticks = e.ticks; wants = e.wants; action = ends.ends z }

    finished : (ks : List ℕ) (m : Moment) → LeadsTo code L arg ks m → (o : DeclaredOutcome) → m.outcome ≡ Some o → Records QR L ks (Some o)
    finished [] m (opened room is) o some = absurd (let both : None ≡ Some o = sym (ap (λ (n : Moment). n.outcome) is) ∙ some in cc)
    finished [] m (no_room_so full is) o some = (
      Limited L.steps L.cells,
      no_room (λ w. (let a = w.cells in let z = total_nil event_cells in let s = main_so in omega (arith, a, z, s, full))),
      (let both : Some (limited L) ≡ Some o = sym (ap (λ (n : Moment). n.outcome) is) ∙ some in let same : limited L ≡ o = cc in sym same),
    )
    finished (k ∷ ks) m (before, leads, made_so e x can within is) o some =
        root_ended leads (led ks before leads x.unfinished) e x can within o (sym (ap (λ (n : Moment). n.outcome) is) ∙ some)
    finished (k ∷ ks) m (before, leads, over_so e x can beyond is) o some = over_limit (led ks before leads x.unfinished)
      where
        over_limit : Led ks before → Records QR L (k ∷ ks) (Some o)
        over_limit A =
            let S = (any_event A.tied A.short k e x (λ scoped. can)).stepped in (
              Limited L.steps L.cells,
              over k ks A.run S.event A.ran (ready_next leads A e x S)
                  (λ w. beyond ((within_next e A.tied S.tied S.follows refl).1 w)),
              (let both : Some (limited L) ≡ Some o = sym (ap (λ (n : Moment). n.outcome) is) ∙ some in let same : limited L ≡ o = cc in sym same),
            )

    pub all_record : AllRecord QR code L arg
    all_record ks m leads = go m.outcome refl
      where
        go : (o : Option DeclaredOutcome) → m.outcome ≡ o → Records QR L ks o
        go None e = (let A = led ks m leads e in (A.run, A.ran))
        go (Some o) e = finished ks m leads o e

-- of compiled code
module _ (code : Code) (P : PlainProgram) (L : Limits) (arg : ℤ) (is : plain_code code ≡ compiled P) (resolved : Resolved P) (main : HasMain P) (few : L.steps ≤ 20000000) where
  pub right : RightFor (plain_code code) P
  right = subst (λ C. RightFor C P) (sym is) (λ p b t c got h halts. runs_are_right (named_by p) P resolved b t c got h halts)

  pub FJ : ForksAreJoined (plain_code code)
  FJ = subst ForksAreJoined (sym is) (forks_are_joined P)

  first : (m : Moment) → Opens code L arg m → m.outcome ≡ None → (w : Sight) × Tied P arg rule (plain_code code) L m w []
  first m (opened room so) none = (first_sight code P arg rule L is resolved main, subst (λ m. Tied P arg rule (plain_code code) L m (first_sight code P arg rule L is resolved main) []) (sym so) (first_tied code P arg rule L is resolved main))
  first m (no_room_so full so) none = absurd (let both : None ≡ Some (limited L) = sym none ∙ ap (λ (n : Moment). n.outcome) so in cc)

  pub recorded : AllRecord (stepped P arg) code L arg
  recorded = all_record code P arg L right (fields_for code P is) FJ few first (main_size code P arg rule L is resolved main)

  pub made_alike : (ks : List ℕ) (xs : List MadeEvent) (m : Moment) → Makes code L arg ks xs m → (xs ≡ [] → Within (stepped P arg) L [])
      → (R : Run) × (w : Sight) × Ran (stepped P arg) L (map (λ x. x.event.task) xs) R × SightOf w R × EventsAlike w xs R
  made_alike = all_alike code P arg L right (fields_for code P is) FJ few first (main_size code P arg rule L is resolved main)

  abbrev pub LedTo : List ℕ → Moment → Type 0
  LedTo ks m = Led code P arg L right (fields_for code P is) FJ ks m

  pub led_to : (ks : List ℕ) (m : Moment) → LeadsTo code L arg ks m → m.outcome ≡ None → LedTo ks m
  led_to = led code P arg L right (fields_for code P is) FJ few first (main_size code P arg rule L is resolved main)

  pub ready_as_recorded : {ks : List ℕ} {m : Moment} {k : ℕ} → LeadsTo code L arg ks m → (A : LedTo ks m) (e : DeclaredEvent) (x : NextOf (plain_code code) m k e)
      → (IsScoped e.action → CanBeMade (plain_code code) m.world e x.stands.state) → (f : Event) × Ready (stepped P arg) A.run k f
  ready_as_recorded leads A e x can = ready_in_run code P arg L right (fields_for code P is) FJ leads A e x can

pub machines_record : MachinesRecord
machines_record code P L arg is resolved main few = recorded code P L arg is resolved main few

pub event_for_event : EventForEvent
event_for_event code P L arg is resolved main few = made_alike code P L arg is resolved main few
