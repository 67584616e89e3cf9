-- A begin of a branch, in a machine and in the run.
use Rattle.std.proofs.Common.{◌≡◌, ◌≢◌, ◌≤◌, ◌<◌, inl, inr, ⊎_elim, ℕ, zero, suc, ◌+◌, ℤ, List, [], ◌∷◌, ◌++◌, length, refl, sym, ap, ◌∙◌, subst, Option, Some, None, slice_get, arith, length-append}
use Rattle.std.proofs.lemmas.Bool.Decides.{eqb_tells}
use Rattle.std.proofs.lemmas.Option.{slice_get_within}
use Rattle.std.specs.FinMap.{get, insert}
use Rattle.lang_base.specs.declared.effect.Effect.{Effect}
use Rattle.lang_base.specs.declared.outcome.Limits.{Limits}
use Rattle.lang_typed.specs.Plain.{PlainProgram}
use Rattle.lang_meaning.specs.Actions as meaning
use Rattle.code_instrs.specs.RunsToActions.{Asks as AsksAt}
use Rattle.code_instrs.specs.Machine.{Start, State, Stand, Goes, Ticks, Makes, Waits, Ends, Stuck, begins_at, step}
use Rattle.code_instrs.specs.Plain.{PlainCode, plain_code}
use Rattle.code_instrs.specs.declared.code.Code.{Code}
use Rattle.code_scheme.specs.Compiled.{Compiled, SameAct}
use Rattle.runs_theory.specs.Actions.{Begin, Task, Went, Next, Rule}
use Rattle.runs_theory.specs.Objects.{Path, Name, LocalRegion}
use Rattle.runs_theory.specs.Runs.{Event, Follows, Run, answers, branch, count, event_steps, later, mine, now}
use Rattle.runs_theory.specs.Schedules.{Numbered, branch_is}
use Rattle.runs_theory.proofs.events.Cost.{total_step}
use Rattle.runs_theory.proofs.events.Mine.{mine_other, mine_same}
use Rattle.runs_theory.proofs.events.Numbers.{begins_step}
use Rattle.runs_theory.proofs.order.Working.{not_begun}
use Rattle.exec_task.specs.Branches.{starts_at}
use Rattle.exec_task.specs.Halts.{stands}
use Rattle.exec_task.specs.Names.{names_of}
use Rattle.exec_task.specs.Tasks.{plain_answer}
use Rattle.exec_task.specs.declared.action.Action.TheVariants as action
use Rattle.exec_task.specs.declared.action.Answer.TheVariants as answer
use Rattle.exec_tasks.specs.Scope.{Branches as Scope, with_branch}
use Rattle.exec_tasks.specs.Tree.{Tasks, CanBegin, OfTask, OfScope, branches_begun, changed, fresh, in_scope, next_origin, with_scope}
use Rattle.exec_tasks.specs.declared.end.TaskEnd.{TaskEnd}
use Rattle.exec_tasks.specs.declared.task.Origin.{Origin}
use Rattle.exec_tasks.specs.declared.task.State.{State as Standing}
use Rattle.exec_tasks.specs.declared.task.State.TheVariants.{Running as Runs, Forked}
use Rattle.exec_tasks.specs.declared.task.Task.{Task as Live}
use Rattle.exec_tasks.proofs.Numbers.{get_inserted, get_beside}
use Rattle.exec_machine.specs.Replay.{Moment, NextOf, CanBeMade, StartsIn, after, begun, with_task}
use Rattle.exec_machine.specs.Running.{Running, at_start}
use Rattle.runs_elision.proofs.Worlds.{later_none, no_values, still_there}
use Rattle.runs_elision.proofs.Writes.{last_there}
use Rattle.runs_simulation.specs.Alike.{begin_alike, went_alike}
use Rattle.runs_simulation.proofs.alike.Sights.{Sight, Wider, Each, each_none, each_more, on_like, StartLike, starts_later, start_later, went_like}
use Rattle.runs_simulation.proofs.events.Joins.{ForksAreJoined}
use Rattle.runs_simulation.proofs.events.Forking.{AtJoin, HasBegun, Kept, step_keeps, join_run}
use Rattle.runs_simulation.proofs.alike.Wrapping.{first_numbers, next_numbers}
use Rattle.runs_simulation.proofs.alike.RunsToActions.{StandsAfter, at_first}
use Rattle.runs_simulation.proofs.tied.Heaps.{HeapTied, heap_wider, structural, last_cases}
use Rattle.runs_simulation.proofs.tied.Ties.{Q, EndsTied, ForkTied, ScopeTied, BranchTied, OriginTied, LiveTied, NumbersTied, TaskTied, Tied, ends_later}
use Rattle.runs_simulation.proofs.events.Asked.{ActionIn, acts_at, beginning_like, same_begin, begins_next, compiled_at, disciplined}
use Rattle.runs_simulation.proofs.tied.Trees.{placed, beside, changed_own, changed_other, numbered_later, entered_next, costs_next, above_apart, path_one, not_itself, live_with, branch_later, origin_later}
use Rattle.runs_simulation.proofs.events.Acting.{RightFor, event_of, Matched, Stepped, found, live, at, run_here, AskedAt, asked_at, goes_to, goes_so, task_next}
use Rattle.runs_simulation.proofs.events.Forks.{front_step}
use Rattle.runs_simulation.proofs.tied.Outs.{BeginsSince, OutLive, OutForks, begins_more, ends_out_later, ends_out_more}
use Rattle.runs_simulation.proofs.tied.Segments.{Seg, seg_later, seg_none}
use Rattle.runs_simulation.proofs.tied.Sorted.{printed_nil, trapped_nil}

each_get : {A B : Type 0} {K : A → B → Type 0} {xs : List A} {ys : List B} (n : ℕ) (x : A) → Each K xs ys → slice_get xs n ≡ Some x
    → (y : B) × (slice_get ys n ≡ Some y) × K x y
each_get {K = K} n x each_none e = absurd (let none : None ≡ Some x = e in cc)
each_get {K = K} zero x (each_more {x = u} {y = v} h t) e = (v, refl, (let same : u ≡ x = cc in subst (λ z. K z v) same h))
each_get (suc n) x (each_more h t) e = each_get n x t e

start_there : (C : PlainCode) (o : Option (Start ℕ (ℕ × ℕ))) → StartsIn C o → (s : Start ℕ (ℕ × ℕ)) × (o ≡ Some s)
start_there C None h = absurd h
start_there C (Some s) h = (s, refl)

-- a scope of which a branch can begin
record CanOpen (x : Live) : Type 0 where
  scope : Scope
  state : x.state ≡ Forked scope
  less : length scope.ends < scope.count

can_open : (tasks : Tasks) (k : ℕ) (x : Live) → get tasks k ≡ Some x → CanBegin tasks k → CanOpen x
can_open tasks k x e h = go x.state refl (subst (λ o. OfTask o (λ task. OfScope task.state (λ scope. length scope.ends < scope.count))) e h)
  where
    go : (s : Standing) → x.state ≡ s → OfScope s (λ scope. length scope.ends < scope.count) → CanOpen x
    go Runs i h = absurd h
    go (Forked scope) i h = record { scope = scope; state = i; less = h }

-- one branch more, that runs
ends_more : (w : Sight) (R : Run) (q : Path) (n b : ℕ) (es : List (Option TaskEnd)) → EndsTied w R q n b es → EndsTied w R q n b (es ++ None ∷ [])
ends_more w R q n b [] h = tt
ends_more w R q n b (None ∷ es) h = ends_more w R q n (suc b) es h
ends_more w R q n b (Some e ∷ es) h = (h.0, ends_more w R q n (suc b) es h.1)

more_length : {A : Type 0} (xs : List A) (x : A) → length (xs ++ x ∷ []) ≡ suc (length xs)
more_length xs x = (let a = length-append xs (x ∷ []) in omega (arith, a))

stands_waits : (ticks made : ℕ) (o : Stand ℕ (ℕ × ℕ)) (n m : ℕ) (a : ActionIn) (f : meaning.Answer ℕ (ℕ × ℕ) → State ℕ (ℕ × ℕ)) → stands ticks made o ≡ AsksAt n m a f → o ≡ Waits a f
stands_waits ticks made (Waits b g) n m a f i = (let x : b ≡ a = cc in let y : g ≡ f = cc in λ j. Waits (x j) (y j))
stands_waits ticks made (Ends x) n m a f i = absurd (cc)
stands_waits ticks made (Goes s) n m a f i = absurd (cc)
stands_waits ticks made (Ticks s) n m a f i = absurd (cc)
stands_waits ticks made (Makes g) n m a f i = absurd (cc)
stands_waits ticks made Stuck n m a f i = absurd (cc)

module _ (code : Code) (P : PlainProgram) (arg : ℤ) (rule : Rule) (L : Limits) (right : RightFor (plain_code code) P) (FJ : ForksAreJoined (plain_code code)) where
  abbrev C : PlainCode
  C = plain_code code

  -- a task that begins a branch stands at its join still, and its branches start as they did
  module _ {m : Moment} {w : Sight} {R : Run} (T : Tied P arg rule C L m w R) (short : m.world.steps ≤ 20000001) (k ticks : ℕ) (wants : Option (List Effect)) (b : ℕ)
      (x : NextOf C m k (event_of k ticks wants (action.Begin b))) (A : AskedAt code P arg rule L right T k ticks wants (action.Begin b) x (Begin b)) {scope : Scope}
      (F : ForkTied P arg rule C w R (live code P arg rule L right T k ticks wants (action.Begin b) x).path
      (live code P arg rule L right T k ticks wants (action.Begin b) x).runs.state scope) (b_is : length scope.ends ≡ b) where
    abbrev V_at : LiveTied P arg rule C w R m.world.tree.tasks m.tasks k (found code P arg rule L right T k ticks wants (action.Begin b) x).0
    V_at = live code P arg rule L right T k ticks wants (action.Begin b) x

    abbrev then_at : meaning.Answer ℕ (ℕ × ℕ) → State ℕ (ℕ × ℕ)
    then_at = A.both.then_in

    abbrev went_at : meaning.Answer ℕ (ℕ × ℕ)
    went_at = plain_answer answer.Went

    few_at : suc b < 2147483648
    few_at = (let a = F.few in let c = T.costs.steps in let d = b_is in omega (arith, a, c, d, short))

    -- where it stands after its last answer it stands at its join
    pub from_join_at : AtJoin C (then_at went_at) × HasBegun C (then_at went_at) × (starts_at C (then_at went_at) ≡ starts_at C V_at.runs.state)
    from_join_at = go (subst (λ o. Kept C V_at.runs.state o) waits (step_keeps C FJ first_numbers next_numbers k V_at.runs.state))
      where
        waits : step (names_of k) C V_at.runs.state ≡ Waits (Begin b) then_at
        waits = stands_waits 0 V_at.runs.made (step (names_of k) C V_at.runs.state) A.both.ticks A.both.made (Begin b) then_at
            (join_run C k V_at.runs.made V_at.runs.state (at code P arg rule L right T k ticks wants (action.Begin b) x) F.at_join
            (run_here code P arg rule L right T k ticks wants (action.Begin b) x) ∙ A.both.is_in)

        go : Kept C V_at.runs.state (Waits (Begin b) then_at) → AtJoin C (then_at went_at) × HasBegun C (then_at went_at) × (starts_at C (then_at went_at) ≡ starts_at C V_at.runs.state)
        go h = (let j = h.is.0 F.at_join went_at in (j.0, j.1, h.is.1 went_at j.1 few_at))

    pub from_there_at : starts_at C (then_at went_at) ≡ starts_at C x.stands.state
    from_there_at = go (subst (λ o. Kept C x.stands.state o) (front_step C k ticks x.stands.made x.stands.state A.both.ticks A.both.made (Begin b) then_at A.both.is_in (λ i. (cc))) (step_keeps C FJ first_numbers next_numbers k x.stands.state))
      where
        go : Kept C x.stands.state (Waits (Begin b) then_at) → starts_at C (then_at went_at) ≡ starts_at C x.stands.state
        go h = h.is.1 went_at from_join_at.1 few_at

  module _ {m : Moment} {w : Sight} {R : Run} (T : Tied P arg rule C L m w R) (short : m.world.steps ≤ 20000001) (k ticks : ℕ) (wants : Option (List Effect)) (b : ℕ)
      (x : NextOf C m k (event_of k ticks wants (action.Begin b))) (can : CanBeMade C m.world (event_of k ticks wants (action.Begin b)) x.stands.state) where
    abbrev n : Moment
    n = after code m (event_of k ticks wants (action.Begin b)) x.stands.state x.stands.made

    abbrev z : State ℕ (ℕ × ℕ)
    z = x.stands.state

    A : AskedAt code P arg rule L right T k ticks wants (action.Begin b) x (Begin b)
    A = asked_at code P arg rule L right T k ticks wants (action.Begin b) x (Begin b)
        (acts_at C (action.Begin b) (Begin b) (λ e i. (cc)) (λ c e. e) (at code P arg rule L right T k ticks wants (action.Begin b) x) x.stands.is_action)

    abbrev V : LiveTied P arg rule C w R m.world.tree.tasks m.tasks k (found code P arg rule L right T k ticks wants (action.Begin b) x).0
    V = live code P arg rule L right T k ticks wants (action.Begin b) x

    abbrev y : Live
    y = (found code P arg rule L right T k ticks wants (action.Begin b) x).0

    y_is : get m.world.tree.tasks k ≡ Some y
    y_is = (found code P arg rule L right T k ticks wants (action.Begin b) x).1

    opens : CanOpen y
    opens = can_open m.world.tree.tasks k y y_is can.fits.0

    abbrev scope : Scope
    scope = opens.scope

    F : ForkTied P arg rule C w R V.path V.runs.state scope
    F = subst (λ s. ScopeTied P arg rule C w R V.path V.runs.state s) opens.state V.scope

    asks : (Q P arg rule C).meaning V.path V.task.task (answers (mine R V.path)) ≡ Next ticks (Begin b)
    asks = A.asks ∙ ap (λ c. Next ticks c) (same_begin C P A.act b (subst (λ c. SameAct C P A.act c) (beginning_like A.both.like) A.same))

    b_is : length scope.ends ≡ b
    b_is = begins_next P arg rule C T.faithful scope F V.task.task V.task.begun ticks b asks opens.less

    abbrev event : Event
    event = record { path = V.path; ticks = ticks; act = Begin b; ans = Went }

    follows : Follows (Q P arg rule C) R event
    follows = record { task = V.task.task; begun = V.task.begun; asks = asks; right = refl }

    abbrev then_in : meaning.Answer ℕ (ℕ × ℕ) → State ℕ (ℕ × ℕ)
    then_in = A.both.then_in

    abbrev went : meaning.Answer ℕ (ℕ × ℕ)
    went = plain_answer answer.Went

    from_join : AtJoin C (then_in went) × HasBegun C (then_in went) × (starts_at C (then_in went) ≡ starts_at C V.runs.state)
    from_join = from_join_at T short k ticks wants b x A F b_is

    from_there : starts_at C (then_in went) ≡ starts_at C z
    from_there = from_there_at T short k ticks wants b x A F b_is

    -- the start of the branch
    start : (s : Start ℕ (ℕ × ℕ)) × (slice_get (starts_at C z) b ≡ Some s)
    start = start_there C (slice_get (starts_at C z) b) can.starts

    source : (c : Start Name LocalRegion) × (slice_get F.starts b ≡ Some c) × StartLike w start.0 c
    source = each_get b start.0 F.like (ap (λ l. slice_get l b) (sym from_join.2 ∙ from_there) ∙ start.1)

    branch_task : (t : Task) × (slice_get F.tasks.tasks b ≡ Some t) × Compiled C P source.0 t
    branch_task = compiled_at C P F.starts F.tasks.tasks b source.0 F.compiled source.1

    abbrev step_to : ℕ × ℕ
    step_to = (count F.before V.path, b)

    abbrev child_path : Path
    child_path = step_to ∷ V.path

    own_count : count R V.path ≡ suc (count F.before V.path + b)
    own_count = ap length F.last ∙ length_on F.since ∙ (let a = F.begun in let c = b_is in omega (arith, a, c))
      where
        length_on : (es : Run) → length (es ++ F.fork ∷ mine F.before V.path) ≡ length es + suc (count F.before V.path)
        length_on [] = omega arith
        length_on (e ∷ es) = (let r = length_on es in omega (arith, r))

    abbrev v : Sight
    v = record { names = w.names; paths = w.paths ++ child_path ∷ [] }

    wide : Wider w v
    wide = record { names = later_none T.heap.holds.distinct; paths = λ j p h. still_there w.paths (child_path ∷ []) j p h }

    abbrev c : ℕ
    c = m.world.tree.begun

    in_paths : (j : ℕ) (p : Path) → slice_get w.paths j ≡ Some p → j ≢ c
    in_paths j p h same = (let l = slice_get_within w.paths j p h in let l' = T.numbers.many in omega (arith, l, l', same))

    k_apart : k ≢ c
    k_apart = in_paths k V.path V.there

    -- the tree
    abbrev child : Live
    child = fresh (next_origin k (Some y))

    abbrev y_next : Live
    y_next = with_scope with_branch y

    abbrev inserted : Tasks
    inserted = insert m.world.tree.tasks c child

    abbrev tasks : Tasks
    tasks = changed inserted k (with_scope with_branch)

    tree_is : n.world.tree.tasks ≡ tasks
    tree_is = ap (λ o. changed (insert m.world.tree.tasks c (fresh (next_origin k o))) k (with_scope with_branch)) y_is

    k_inserted : get inserted k ≡ Some y
    k_inserted = get_beside m.world.tree.tasks c k child k_apart ∙ y_is

    k_now : get tasks k ≡ Some y_next
    k_now = changed_own inserted k (with_scope with_branch) k_inserted

    c_now : get tasks c ≡ Some child
    c_now = changed_other inserted k (with_scope with_branch) c k_inserted (λ s. k_apart (sym s)) ∙ get_inserted m.world.tree.tasks c child

    other_now : (j : ℕ) → j ≢ k → j ≢ c → get tasks j ≡ get m.world.tree.tasks j
    other_now j a d = changed_other inserted k (with_scope with_branch) j k_inserted a ∙ get_beside m.world.tree.tasks c j child d

    state_now : y_next.state ≡ Forked (with_branch scope)
    state_now = ap (λ s. in_scope with_branch s) opens.state

    -- the tasks
    abbrev base : ℕ → Option Running
    base = with_task m.tasks c (begun (slice_get (starts_at C z) b))

    k_runs : n.tasks k ≡ Some (goes_to code P arg rule L right T k ticks wants (action.Begin b) x (Begin b) A answer.Went)
    k_runs = placed base k _ k refl ∙ goes_so code P arg rule L right T k ticks wants (action.Begin b) x (Begin b) A answer.Went

    c_runs : n.tasks c ≡ Some (at_start start.0)
    c_runs = beside base k _ c (λ s. k_apart (sym s)) ∙ placed m.tasks c _ c refl ∙ ap begun start.1

    other_runs : (j : ℕ) → j ≢ k → j ≢ c → n.tasks j ≡ m.tasks j
    other_runs j a d = beside base k _ j a ∙ beside m.tasks c _ j d

    -- the parent
    fork_now : ForkTied P arg rule C v (event ∷ R) V.path (then_in went) (with_branch scope)
    fork_now = record {
      before = F.before;
      fork = F.fork;
      stands = later F.stands;
      path = F.path;
      since = event ∷ F.since;
      last = mine_same event R V.path refl ∙ ap (λ l. event ∷ l) F.last;
      tasks = F.tasks;
      act = F.act;
      many = F.many;
      begun = (let a = F.begun in let d = more_length scope.ends None in omega (arith, a, d));
      within = (let a = opens.less in let d = more_length scope.ends None in omega (arith, a, d));
      few = (let a = F.few in let d = more_length scope.ends None in let t = total_step event_steps event R in omega (arith, a, d, t));
      ends = ends_more v (event ∷ R) V.path (count F.before V.path) 0 scope.ends
          (ends_later P arg rule C wide R event V.path (count F.before V.path) 0 scope.ends F.ends);
      at_join = from_join.0;
      starts = F.starts;
      compiled = F.compiled;
      like = subst (λ bs. Each (StartLike v) bs F.starts) (sym from_join.2) (starts_later wide F.like);
    }

    H : OutForks R V.path y.out scope
    H = subst (λ s. OutLive R V.path V.runs.state y.out s) opens.state V.out

    out_now : OutForks (event ∷ R) V.path y.out (with_branch scope)
    out_now = record {
      own = H.own;
      number = H.number;
      many = H.many;
      segment = H.segment;
      seg = seg_later event H.seg;
      out_is = H.out_is;
      fine = H.fine;
      since = event ∷ H.since;
      last = mine_same event R V.path refl ∙ ap (λ l. event ∷ l) H.last;
      begins = subst (λ n. BeginsSince V.path (event ∷ H.since) n) (sym (more_length scope.ends None)) (begins_more event refl (ap (λ (n : ℕ). Begin n) (sym b_is)) H.begins);
      ends = ends_out_more (event ∷ R) V.path H.number 0 scope.ends (ends_out_later R event V.path H.number 0 scope.ends H.ends);
    }

    k_next : LiveTied P arg rule C v (event ∷ R) tasks n.tasks k y_next
    k_next = record {
      path = V.path;
      there = wide.paths k V.path V.there;
      runs = goes_to code P arg rule L right T k ticks wants (action.Begin b) x (Begin b) A answer.Went;
      runs_so = k_runs;
      task = task_next code P arg rule L right T k ticks wants (action.Begin b) x (Begin b) A answer.Went event refl wide went_like;
      origin = origin_later P arg rule C L wide T.numbers event k V.there m.world.tree.tasks tasks V.path y.origin
          (λ u f. (let a = not_itself P arg rule C L w R m.world.tree.tasks k V.there y.origin V.origin u f in (a, other_now u.parent a (parent_in y.origin V.origin u f)))) V.origin;
      scope = subst (λ s. ScopeTied P arg rule C v (event ∷ R) V.path (then_in went) s) (sym state_now) fork_now;
      out = subst (λ s. OutLive (event ∷ R) V.path (then_in went) y.out s) (sym state_now) out_now;
    }
      where
        parent_in : (o : Option Origin) → OriginTied P arg rule C w R m.world.tree.tasks V.path o → (u : Origin) → o ≡ Some u → u.parent ≢ c
        parent_in None h u f s = absurd (cc)
        parent_in (Some o) h u f s = (let same : o ≡ u = cc in in_paths o.parent h.above h.there (ap (λ (i : Origin). i.parent) same ∙ s))

    -- the branch
    none_mine : mine (event ∷ R) child_path ≡ []
    none_mine = mine_other event R child_path (λ s. above_apart step_to child_path V.path refl s)
        ∙ not_begun (Q P arg rule C) (disciplined P arg rule C) R V.path (count F.before V.path) b T.faithful own_count

    none_made : answers (mine (event ∷ R) child_path) ≡ []
    none_made = ap answers none_mine

    child_task : TaskTied P arg rule C v (event ∷ R) child_path (at_start start.0)
    child_task = record {
      task = branch_task.0;
      begun = branch V.path step_to F.before F.fork F.tasks R event refl (later F.stands) F.path refl F.act branch_task.1 now refl refl own_count;
      start = source.0;
      compiled = branch_task.2;
      state = begins_at source.0;
      stands = subst (λ es. StandsAfter C child_path source.0 es (begins_at source.0) 0) (sym none_made) at_first;
      like = on_like (record { body = source.2.body; at = refl; frame = (start_later wide source.2).frame; stack = no_values }) each_none;
    }

    c_next : LiveTied P arg rule C v (event ∷ R) tasks n.tasks c child
    c_next = record {
      path = child_path;
      there = subst (λ i. slice_get (w.paths ++ child_path ∷ []) i ≡ Some child_path) T.numbers.many (last_there w.paths child_path);
      runs = at_start start.0;
      runs_so = c_runs;
      task = child_task;
      origin = record {
        above = V.path;
        step = step_to;
        is = refl;
        there = wide.paths k V.path V.there;
        branch = ap branches_begun opens.state ∙ b_is;
        parent = y_next;
        parent_is = k_now;
        scope = with_branch scope;
        state = state_now;
        unended = subst (λ i. slice_get (scope.ends ++ None ∷ []) i ≡ Some None) b_is (last_there scope.ends None);
        number = (let a = more_length scope.ends None in let d = own_count in let e = ap length (mine_same event R V.path refl) in let f = b_is in omega (arith, a, d, e, f));
      };
      scope = tt;
      out = record { segment = []; seg = subst (λ es. Seg (event ∷ R) child_path es []) (sym none_mine) seg_none; out_is = sym printed_nil; fine = inl trapped_nil };
    }

    -- an elder branch
    elder : (q : Path) (u : Origin) → u.parent ≡ k → BranchTied P arg rule C w R m.world.tree.tasks q u → BranchTied P arg rule C v (event ∷ R) tasks q u
    elder q u same D = record {
      above = D.above;
      step = D.step;
      is = D.is;
      there = wide.paths u.parent D.above D.there;
      branch = D.branch;
      parent = y_next;
      parent_is = ap (λ i. get tasks i) same ∙ k_now;
      scope = with_branch scope;
      state = state_now;
      unended = still_there scope.ends (None ∷ []) D.step.1 None (subst (λ (s : Scope). slice_get s.ends D.step.1 ≡ Some None) scopes D.unended);
      number = (let a = more_length scope.ends None in let d : suc (D.step.0 + length scope.ends) ≡ count R D.above =
          subst (λ (s : Scope). suc (D.step.0 + length s.ends) ≡ count R D.above) scopes D.number in
          let e : count (event ∷ R) D.above ≡ suc (count R D.above) = ap length (mine_same event R D.above (sym aboves)) in omega (arith, a, d, e));
    }
      where
        parents : D.parent ≡ y
        parents = (let both : Some D.parent ≡ Some y = sym D.parent_is ∙ ap (λ i. get m.world.tree.tasks i) same ∙ y_is in cc)

        scopes : D.scope ≡ scope
        scopes = (let both : Forked D.scope ≡ Forked scope = sym D.state ∙ ap (λ (l : Live). l.state) parents ∙ opens.state in cc)

        aboves : D.above ≡ V.path
        aboves = path_one w k (subst (λ i. slice_get w.paths i ≡ Some D.above) same D.there) V.there

    other_next : (j : ℕ) (u : Live) → j ≢ k → j ≢ c → get m.world.tree.tasks j ≡ Some u → LiveTied P arg rule C v (event ∷ R) tasks n.tasks j u
    other_next j u a d is =
        live_with P arg rule C L wide T.numbers event k V.there m.world.tree.tasks tasks j u a (other_runs j a d) W (origin u.origin W.origin)
      where
        W : LiveTied P arg rule C w R m.world.tree.tasks m.tasks j u
        W = T.live j u is

        origin : (o : Option Origin) → OriginTied P arg rule C w R m.world.tree.tasks W.path o → OriginTied P arg rule C v (event ∷ R) tasks W.path o
        origin None h = h
        origin (Some o) h = elim (eqb_tells o.parent k) [
          | inl s ↦ elder W.path o s.1 h
          | inr s ↦ branch_later P arg rule C L wide T.numbers event k V.there m.world.tree.tasks tasks W.path o s.1
              (other_now o.parent s.1 (in_paths o.parent h.above h.there)) h
        ]

    live_next : (j : ℕ) (u : Live) → get tasks j ≡ Some u → LiveTied P arg rule C v (event ∷ R) tasks n.tasks j u
    live_next j u is = elim (eqb_tells j k) [
      | inl s ↦ (let f : get tasks k ≡ Some u = subst (λ i. get tasks i ≡ Some u) s.1 is in
          let same : y_next ≡ u = (let both : Some y_next ≡ Some u = sym k_now ∙ f in cc) in
          subst (λ i. LiveTied P arg rule C v (event ∷ R) tasks n.tasks i u) (sym s.1) (subst (λ u. LiveTied P arg rule C v (event ∷ R) tasks n.tasks k u) same k_next))
      | inr s ↦ elim (eqb_tells j c) [
        | inl d ↦ (let f : get tasks c ≡ Some u = subst (λ i. get tasks i ≡ Some u) d.1 is in
            let same : child ≡ u = (let both : Some child ≡ Some u = sym c_now ∙ f in cc) in
            subst (λ i. LiveTied P arg rule C v (event ∷ R) tasks n.tasks i u) (sym d.1) (subst (λ u. LiveTied P arg rule C v (event ∷ R) tasks n.tasks c u) same c_next))
        | inr d ↦ other_next j u s.1 d.1 (sym (other_now j s.1 d.1) ∙ is)
      ]
    ]

    numbers_next : NumbersTied v (event ∷ R) (c + 1)
    numbers_next = record {
      many = (let a = more_length w.paths child_path in let d = T.numbers.many in omega (arith, a, d));
      count = (let a = T.numbers.count in let d = begins_step event R in omega (arith, a, d));
      numbered = λ j p h. ⊎_elim (λ e. numbered_later event (T.numbers.numbered j p e))
          (λ e. subst (λ q. Numbered (event ∷ R) j q) e.1
          (branch_is V.path step_to R event refl now refl refl own_count (e.0 ∙ T.numbers.many ∙ T.numbers.count))) (last_cases w.paths child_path p j h);
      entered = inl (entered_next {P = Q P arg rule C} event follows T.numbers.entered);
    }

    seen_later : HeapTied (Q P arg rule C) w (event ∷ R) m.world.heap.objects → HeapTied (Q P arg rule C) v (event ∷ R) m.world.heap.objects
    seen_later H = heap_wider (Q P arg rule C) H wide refl

    abbrev stepped : Stepped code P arg rule L right w R k n
    stepped = record {
      event = event;
      follows = follows;
      there = V.there;
      sight = v;
      tied = record {
        heap = seen_later (structural (Q P arg rule C) T.heap V.path ticks event refl (λ c. refl) (λ f. refl) refl);
        numbers = numbers_next;
        costs = costs_next P arg rule C L m n event (record { steps = refl; cells = omega arith; most_steps = refl; most_cells = refl }) T.costs;
        faithful = (follows, T.faithful);
        live = subst (λ ts. (j : ℕ) (u : Live) → get ts j ≡ Some u → LiveTied P arg rule C v (event ∷ R) ts n.tasks j u) (sym tree_is) live_next;
      };
    }

    pub begins_branch : Matched code P arg rule L right m (event_of k ticks wants (action.Begin b)) w R k n
    begins_branch = record { stepped = stepped; wider = wide; ticks = refl; action = begin_alike b; answer = went_alike }
