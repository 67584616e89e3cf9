-- An event after which its task goes on, in a machine and in the run: the common part of all of them.
use Rattle.std.proofs.Common.{◌≡◌, ◌≢◌, inl, ℕ, zero, suc, ◌+◌, ℤ, IsTrue, List, [], ◌∷◌, ◌++◌, append-nil, refl, sym, ap, ◌∙◌, subst, Option, Some, None, slice_get}
use Rattle.std.specs.FinMap.{get}
use Rattle.lang_base.specs.declared.effect.Effect.{Effect}
use Rattle.lang_base.specs.declared.outcome.Limits.{Limits}
use Rattle.lang_typed.specs.Plain.{PlainProgram}
use Rattle.lang_meaning.specs.Actions.{Own as OwnOver, Ending as EndingOver, Trapped}
use Rattle.lang_meaning.specs.Asking.{ask}
use Rattle.lang_meaning.specs.Costs.{own_cells, own_steps}
use Rattle.code_instrs.specs.RunsToActions.{Halt, RunsToAction, Halts, said, run_to_action, Asks as AsksAt, Finished}
use Rattle.code_instrs.specs.Machine.{Start, Off, step}
use Rattle.code_instrs.specs.Plain.{PlainCode, plain_code}
use Rattle.code_instrs.specs.declared.code.Code.{Code}
use Rattle.code_scheme.specs.Compiled.{Compiled, SameAct, SameReply}
use Rattle.exec_progress.proofs.RunsToActions.{HasCounts, front_counts}
use Rattle.runs_theory.specs.Actions.{Task, Own, Answer, Action, Do, Next, Rule}
use Rattle.runs_theory.specs.Objects.{Path, Name, LocalRegion}
use Rattle.runs_theory.specs.Runs.{Event, Follows, Run, answers, later, mine, now}
use Rattle.runs_theory.proofs.runs.Faithful.{begun_upto}
use Rattle.runs_theory.proofs.events.Mine.{mine_same}
use Rattle.runs_program.specs.Steps.{named_by}
use Rattle.exec_task.specs.Names.{names_of}
use Rattle.exec_task.specs.Tasks.{plain_answer, plain_own}
use Rattle.exec_task.specs.declared.action.Action.{Action as DeclaredAction}
use Rattle.exec_task.specs.declared.action.Action.TheVariants as action
use Rattle.exec_task.specs.declared.action.Answer.{Answer as DeclaredAnswer}
use Rattle.exec_task.specs.declared.action.Own.{Own as DeclaredOwn}
use Rattle.exec_tasks.specs.Tree.{Tasks, ready}
use Rattle.exec_tasks.specs.declared.task.Origin.{Origin}
use Rattle.exec_tasks.specs.declared.task.State.TheVariants.{Running as Runs, Forked}
use Rattle.exec_tasks.specs.declared.task.Task.{Task as Live}
use Rattle.exec_world.specs.World.{answer_to, own_acted, own_answer, world_after}
use Rattle.exec_world.specs.declared.world.World.{World}
use Rattle.exec_world.specs.declared.event.Event.{Event as DeclaredEvent}
use Rattle.exec_machine.specs.Replay.{Moment, NextOf, after}
use Rattle.exec_machine.specs.Running.{Running, answered, front}
use Rattle.runs_simulation.specs.Alike.{ActionAlike, AnswerAlike, do_alike}
use Rattle.runs_simulation.proofs.alike.Alikes.{action_later, answer_alike, own_alike}
use Rattle.runs_simulation.proofs.alike.Sights.{Sight, Wider, OwnLike, AnswerLike, rest_like, read_like, write_like, look_like, new_like, print_like, enter_like, exit_like}
use Rattle.runs_simulation.proofs.alike.RunsToActions.{HaltOf, StandsAfter, after_answer}
use Rattle.runs_simulation.proofs.tied.Heaps.{OwnTied}
use Rattle.runs_simulation.proofs.tied.Ties.{Q, TaskTied, ScopeTied, OriginTied, BranchTied, LiveTied, Tied}
use Rattle.runs_simulation.proofs.events.Asked.{ActionIn, ActsAt, acts_at, BothAt, both_at, own_like, reply_act, same_do, runs_if, Stood, stood}
use Rattle.runs_simulation.proofs.tied.Trees.{placed, beside, plain_next}
use Rattle.runs_simulation.proofs.tied.Outs.{OutLive, OutRuns, fine_none, seg_with}
use Rattle.runs_simulation.proofs.tied.Sorted.{printed_step, trapped_step}
use Rattle.runs_theory.specs.Order.{printed, printed_by, trapped}
use Rattle.lang_meaning.specs.Actions as meaning

abbrev pub RightFor : PlainCode → PlainProgram → Type 0
RightFor C P = (p : Path) (b : Start Name LocalRegion) (t : Task) → Compiled C P b t → (got : List Answer) (h : HaltOf) → Halts (named_by p) C b got h
    → SameReply C P (ask (named_by p) P t got) (said h)

-- a ready task is live
pub ready_there : (o : Option Live) → IsTrue (ready o) → (x : Live) × (o ≡ Some x)
ready_there None h = absurd (cc)
ready_there (Some x) h = (x, refl)

-- a task that has ended stands at its end
pub off_run : (C : PlainCode) (k made : ℕ) (e : EndingOver ℕ) (h : Halt ℕ (ℕ × ℕ)) → RunsToAction (names_of k) C made (Off e) h → h ≡ Finished 0 e
unfolding step
off_run C k made e h l = go l.fuel l.runs
  where
    go : (fuel : ℕ) → run_to_action (names_of k) C fuel 0 made (Off e) ≡ Some h → h ≡ Finished 0 e
    go zero i = absurd (cc)
    go (suc fuel) i = (let same : Some (Finished 0 e) ≡ Some h = i in cc)

-- what an action of its own prints
abbrev pub bytes_of : OwnOver ℕ (ℕ × ℕ) → List ℕ
bytes_of (meaning.Print bytes) = bytes
bytes_of meaning.Rest = []
bytes_of (meaning.Read n i) = []
bytes_of (meaning.Write n i v) = []
bytes_of (meaning.Look n) = []
bytes_of (meaning.New t c) = []
bytes_of (meaning.Enter E) = []
bytes_of meaning.Exit = []

pub bytes_like : {w : Sight} {o : OwnOver ℕ (ℕ × ℕ)} {q : Own} → OwnLike w o q → printed_by (Do q) None ≡ bytes_of o
bytes_like rest_like = refl
bytes_like (read_like n x i h) = refl
bytes_like (write_like n x i h k) = refl
bytes_like (look_like n x h) = refl
bytes_like (new_like c h) = refl
bytes_like (print_like bytes) = refl
bytes_like (enter_like h) = refl
bytes_like exit_like = refl

-- a begin or a join: what a scope of branches has to allow
abbrev pub IsScoped : DeclaredAction → Type 0
IsScoped (action.Begin b) = Unit {0}
IsScoped action.Join = Unit {0}
IsScoped a = ⊥

abbrev pub event_of : ℕ → ℕ → Option (List Effect) → DeclaredAction → DeclaredEvent
event_of k ticks wants a = record { task = k; ticks = ticks; action = a; wants = wants }

module _ (code : Code) (P : PlainProgram) (arg : ℤ) (rule : Rule) (L : Limits) (right : RightFor (plain_code code) P) where
  abbrev C : PlainCode
  C = plain_code code

  -- a task's next event in the run, and the tie after it
  pub record Stepped (w : Sight) (R : Run) (k : ℕ) (n : Moment) : Type 0 where
    pub event : Event
    pub follows : Follows (Q P arg rule C) R event
    pub there : slice_get w.paths k ≡ Some event.path
    pub sight : Sight
    pub tied : Tied P arg rule C L n sight (event ∷ R)

  -- and it is like the event that the machine makes
  pub record Matched (m : Moment) (d : DeclaredEvent) (w : Sight) (R : Run) (k : ℕ) (n : Moment) : Type 0 where
    pub stepped : Stepped w R k n
    pub wider : Wider w stepped.sight
    pub ticks : d.ticks ≡ stepped.event.ticks
    pub action : ActionAlike stepped.sight d.action stepped.event.act
    pub answer : AnswerAlike stepped.sight (answer_to m.world d) stepped.event.ans

  -- the live task of a ready number, at its next action
  module _ {m : Moment} {w : Sight} {R : Run} (T : Tied P arg rule C L m w R) (k ticks : ℕ) (wants : Option (List Effect)) (a : DeclaredAction)
      (x : NextOf C m k (event_of k ticks wants a)) where
    pub found : (y : Live) × (get m.world.tree.tasks k ≡ Some y)
    found = ready_there (get m.world.tree.tasks k) x.ready.0

    pub live : LiveTied P arg rule C w R m.world.tree.tasks m.tasks k found.0
    live = T.live k found.0 found.1

    same_running : x.task ≡ live.runs
    same_running = (let same : Some x.task ≡ Some live.runs = sym x.there ∙ live.runs_so in cc)

    abbrev pub at : Halt ℕ (ℕ × ℕ)
    at = front C k ticks x.stands.made x.stands.state

    pub run_here : RunsToAction (names_of k) C live.runs.made live.runs.state at
    run_here = subst (λ (t : Running). RunsToAction (names_of k) C t.made t.state at) same_running x.stands.run_to_action

    pub here : Stood P arg rule C right T.heap.holds.distinct k live.path live.there live.task run_here
    here = stood P arg rule C right T.heap.holds.distinct k live.path live.there live.task run_here

    -- what is asked there
    pub record AskedAt (b : ActionIn) : Type 0 where
      pub both : BothAt w at here.halt b
      pub ticks_are : both.ticks ≡ ticks
      pub act : Action
      pub asks : (Q P arg rule C).meaning live.path live.task.task (answers (mine R live.path)) ≡ Next ticks act
      pub same : SameAct C P act both.act

    pub asked_at : (b : ActionIn) → ActsAt at b → AskedAt b
    asked_at b acts = record { both = both; ticks_are = ticks_are; act = r.0; asks = r.1 ∙ ap (λ n. Next n r.0) ticks_are; same = r.2 }
      where
        both : BothAt w at here.halt b
        both = both_at b here.like acts

        ticks_are : both.ticks ≡ ticks
        ticks_are = (subst (λ h. HasCounts ticks x.stands.made h) both.is_in (front_counts C k ticks x.stands.made x.stands.state)).0

        r : (act : Action) × ((Q P arg rule C).meaning live.path live.task.task (answers (mine R live.path)) ≡ Next both.ticks act) × SameAct C P act both.act
        r = reply_act C P ((Q P arg rule C).meaning live.path live.task.task (answers (mine R live.path))) both.ticks both.act
            (subst (λ h. SameReply C P ((Q P arg rule C).meaning live.path live.task.task (answers (mine R live.path))) (said h)) both.is_of here.same)

    -- it hasn't ended there
    pub not_off : (b : ActionIn) → AskedAt b → (e : EndingOver ℕ) → live.runs.state ≡ Off e → ⊥
    not_off b A e i =
        let h : at ≡ Finished 0 e = off_run C k live.runs.made e at (subst (λ s. RunsToAction (names_of k) C live.runs.made s at) i run_here) in
        let both : AsksAt A.both.ticks A.both.made b A.both.then_in ≡ Finished 0 e = sym A.both.is_in ∙ h in
        cc

    pub out_runs : found.0.state ≡ Runs → OutRuns R live.path live.runs.state found.0.out
    out_runs i = subst (λ s. OutLive R live.path live.runs.state found.0.out s) i live.out

    -- how it goes on after an answer
    abbrev pub goes_to : (b : ActionIn) → AskedAt b → DeclaredAnswer → Running
    goes_to b A y = record { state = A.both.then_in (plain_answer y); made = A.both.made }

    pub goes_so : (b : ActionIn) (A : AskedAt b) (y : DeclaredAnswer) → answered at y ≡ Some (goes_to b A y)
    goes_so b A y = ap (λ h. answered h y) A.both.is_in

    pub task_next : (b : ActionIn) (A : AskedAt b) (y : DeclaredAnswer) {v : Sight} (e : Event) → e.path ≡ live.path → Wider w v
        → AnswerLike v (plain_answer y) e.ans → TaskTied P arg rule C v (e ∷ R) live.path (goes_to b A y)
    task_next b A y {v} e own wide like = record {
      task = live.task.task;
      begun = begun_upto (later now) live.task.begun;
      start = live.task.start;
      compiled = live.task.compiled;
      state = A.both.then_of e.ans;
      stands = subst (λ es. StandsAfter C live.path live.task.start (answers es) (A.both.then_of e.ans) A.both.made) (sym (mine_same e R live.path own))
          (after_answer (answers (mine R live.path)) A.both.ticks A.both.made A.both.act A.both.then_of
          (subst (λ h. Halts (named_by live.path) C live.task.start (answers (mine R live.path)) h) A.both.is_of here.halts) e.ans);
      like = A.both.on v (plain_answer y) e.ans wide like;
    }

    -- a task without an open fork has no live branch
    pub childless_if : found.0.state ≡ Runs → (j : ℕ) (z : Live) (o : Origin) → j ≢ k → get m.world.tree.tasks j ≡ Some z → z.origin ≡ Some o → o.parent ≢ k
    childless_if runs j z o apart is origin same =
        let V = T.live j z is in
        let B : BranchTied P arg rule C w R m.world.tree.tasks V.path o = subst (λ u. OriginTied P arg rule C w R m.world.tree.tasks V.path u) origin V.origin in
        let p : B.parent ≡ found.0 = (let both : Some B.parent ≡ Some found.0 = sym B.parent_is ∙ ap (λ i. get m.world.tree.tasks i) same ∙ found.1 in cc) in
        let both : Forked B.scope ≡ Runs = sym B.state ∙ ap (λ (u : Live). u.state) p ∙ runs in
        cc

  -- an action of a task's own
  pub record OwnCosts (old new : World) (ticks : ℕ) (q : Own) : Type 0 where
    pub steps : new.steps ≡ old.steps + (ticks + own_steps q)
    pub cells : new.heap.used ≡ old.heap.used + own_cells q
    pub most_steps : new.most_steps ≡ old.most_steps
    pub most_cells : new.heap.limit ≡ old.heap.limit

  -- a task, whatever it has printed
  pub record SameLive (old new : Tasks) (k : ℕ) (more : List ℕ) : Type 0 where
    pub others : (j : ℕ) → j ≢ k → get new j ≡ get old j
    pub itself : (x : Live) → get old k ≡ Some x → (y : Live) × (get new k ≡ Some y) × (y.origin ≡ x.origin) × (y.state ≡ x.state) × (y.out ≡ x.out ++ more)

  pub same_live : (tasks : Tasks) (k : ℕ) → SameLive tasks tasks k []
  same_live tasks k = record { others = λ j apart. refl; itself = λ x e. (x, e, refl, refl, sym (append-nil x.out)) }

  module _ {m : Moment} {w : Sight} {R : Run} (T : Tied P arg rule C L m w R) (k ticks : ℕ) (wants : Option (List Effect)) (d : DeclaredOwn)
      (x : NextOf C m k (event_of k ticks wants (action.Do d)))
      (does : (p : Path) (q : Own) → OwnLike w (plain_own C d) q
      → OwnTied (Q P arg rule C) w R p ticks q (own_answer m.world d) (own_acted code m.world k wants d).heap.objects)
      (costs : (q : Own) → OwnLike w (plain_own C d) q → OwnCosts m.world (world_after code m.world (event_of k ticks wants (action.Do d))) ticks q)
      (begun_same : (own_acted code m.world k wants d).tree.begun ≡ m.world.tree.begun)
      (tree : SameLive m.world.tree.tasks (own_acted code m.world k wants d).tree.tasks k (bytes_of (plain_own C d))) where
    abbrev a : DeclaredAction
    a = action.Do d

    abbrev n : Moment
    n = after code m (event_of k ticks wants (action.Do d)) x.stands.state x.stands.made

    abbrev o : OwnOver ℕ (ℕ × ℕ)
    o = plain_own C d

    abbrev V : LiveTied P arg rule C w R m.world.tree.tasks m.tasks k (found T k ticks wants a x).0
    V = live T k ticks wants a x

    A : AskedAt T k ticks wants a x (Do o)
    A = asked_at T k ticks wants a x (Do o) (acts_at C a (Do o) (λ e i. (cc)) (λ b e. e) (at T k ticks wants a x) x.stands.is_action)

    own : (q : Own) × (A.both.act ≡ Do q) × OwnLike w o q
    own = own_like A.both.like

    act_is : A.act ≡ Do own.0
    act_is = same_do C P A.act own.0 (subst (λ b. SameAct C P A.act b) own.1 A.same)

    asks : (Q P arg rule C).meaning V.path V.task.task (answers (mine R V.path)) ≡ Next ticks (Do own.0)
    asks = A.asks ∙ ap (λ c. Next ticks c) act_is

    D : OwnTied (Q P arg rule C) w R V.path ticks own.0 (own_answer m.world d) (own_acted code m.world k wants d).heap.objects
    D = does V.path own.0 own.2

    abbrev event : Event
    event = record { path = V.path; ticks = ticks; act = Do own.0; ans = D.answer }

    follows : Follows (Q P arg rule C) R event
    follows = record { task = V.task.task; begun = V.task.begun; asks = asks; right = D.replies }

    runs : (found T k ticks wants a x).0.state ≡ Runs
    runs = runs_if P arg rule C w T.faithful V.runs.state (found T k ticks wants a x).0.state V.scope V.task.task V.task.begun ticks (Do own.0) asks (λ b i. (cc)) (λ i. (cc))

    y : (y : Live) × (get n.world.tree.tasks k ≡ Some y) × (y.origin ≡ (found T k ticks wants a x).0.origin) × (y.state ≡ (found T k ticks wants a x).0.state)
        × (y.out ≡ (found T k ticks wants a x).0.out ++ bytes_of o)
    y = tree.itself (found T k ticks wants a x).0 (found T k ticks wants a x).1

    K : OwnCosts m.world n.world ticks own.0
    K = costs own.0 own.2

    H : OutRuns R V.path V.runs.state (found T k ticks wants a x).0.out
    H = out_runs T k ticks wants a x runs

    fine : trapped H.segment ≡ None
    fine = fine_none H.segment V.runs.state H.fine (λ f i. not_off T k ticks wants a x (Do o) A (Trapped f.0 f.1) i)

    out_now : OutRuns (event ∷ R) V.path (goes_to T k ticks wants a x (Do o) A (own_answer m.world d)).state y.0.out
    out_now = record {
      segment = event ∷ H.segment;
      seg = seg_with event refl (λ b i. (cc)) H;
      out_is = y.4 ∙ ap (λ l. l ++ bytes_of o) H.out_is
          ∙ sym (printed_step event H.segment ∙ ap (λ u. printed H.segment ++ printed_by (Do own.0) u) fine ∙ ap (λ l. printed H.segment ++ l) (bytes_like own.2));
      fine = inl (trapped_step event H.segment ∙ fine);
    }

    abbrev stepped : Stepped w R k n
    stepped = record {
      event = event;
      follows = follows;
      there = V.there;
      sight = D.sight;
      tied = plain_next P arg rule C L m n T k (found T k ticks wants a x).0 y.0 (found T k ticks wants a x).1 D.wider D.paths event V.there follows refl D.heap begun_same
          tree.others y.1 y.2 (λ j apart. beside m.tasks k _ j apart) (goes_to T k ticks wants a x (Do o) A (own_answer m.world d))
          (placed m.tasks k _ k refl ∙ goes_so T k ticks wants a x (Do o) A (own_answer m.world d))
          (task_next T k ticks wants a x (Do o) A (own_answer m.world d) event refl D.wider D.like)
          (subst (λ s. ScopeTied P arg rule C D.sight (event ∷ R) V.path (goes_to T k ticks wants a x (Do o) A (own_answer m.world d)).state s) (sym (y.3 ∙ runs)) tt)
          (subst (λ s. OutLive (event ∷ R) V.path (goes_to T k ticks wants a x (Do o) A (own_answer m.world d)).state y.0.out s) (sym (y.3 ∙ runs)) out_now)
          (childless_if T k ticks wants a x runs)
          (record { steps = K.steps; cells = K.cells; most_steps = K.most_steps; most_cells = K.most_cells });
    }

    pub own_next : Matched m (event_of k ticks wants a) w R k n
    own_next = record {
      stepped = stepped;
      wider = D.wider;
      ticks = refl;
      action = action_later D.wider (do_alike (own_alike C d own.2));
      answer = answer_alike (own_answer m.world d) D.like;
    }
