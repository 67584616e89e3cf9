-- At each moment to which a schedule leads, compiled code goes on.
use Rattle.std.proofs.Common.{◌≡◌, ◌≢◌, ◌≤◌, ◌<◌, ◌+◌, ℕ, ℤ, if◌then◌else◌, inl, inr, IsTrue, IsSome, List, [], ◌∷◌, length, refl, sym, ap, ◌∙◌, subst, Option, Some, None, slice_get, arith}
use Rattle.std.proofs.lemmas.Bool.Decides.{eqb_tells, leb_tells}
use Rattle.lang_base.specs.declared.effect.Effect.{Effect}
use Rattle.lang_base.specs.declared.outcome.Limits.{Limits}
use Rattle.lang_base.specs.declared.outcome.Outcome.{Outcome}
use Rattle.lang_typed.specs.Plain.{PlainProgram}
use Rattle.lang_typed.specs.Resolved.{Resolved, HasMain}
use Rattle.lang_meaning.specs.Actions.{End}
use Rattle.lang_meaning.specs.Actions as meaning
use Rattle.code_instrs.specs.declared.code.Code.{Code}
use Rattle.code_instrs.specs.RunsToActions.{Halt, Asks, Finished, Dead, RunsToAction}
use Rattle.code_instrs.specs.Machine.{Start, State, Solo, root_start}
use Rattle.code_instrs.specs.Plain.{PlainCode, plain_code}
use Rattle.code_scheme.specs.Compiled.{Compiled}
use Rattle.code_scheme.specs.Laws.{RunsEndOf}
use Rattle.code_scheme.specs.Whole.{number_in, compiled}
use Rattle.code_scheme.proofs.Bodies.{bodies_are_compiled}
use Rattle.code_scheme.proofs.RunsToActions.{runs_end}
use Rattle.code_scheme.proofs.Theorems.{never_stuck}
use Rattle.code_scheme.proofs.Whole.{laid_out, members_are_compiled}
use Rattle.exec_task.specs.Branches.{starts_at}
use Rattle.exec_task.specs.Halts.{IsActionOf}
use Rattle.exec_task.specs.Names.{names_of}
use Rattle.exec_task.specs.Tasks.{Says, plain_answer}
use Rattle.exec_task.specs.declared.action.Action.{Action}
use Rattle.exec_task.specs.declared.action.Action.TheVariants as action
use Rattle.exec_task.specs.declared.action.Answer.{Answer}
use Rattle.exec_task.specs.declared.action.Ending.{Ending}
use Rattle.exec_task.specs.declared.action.Own.TheVariants as own
use Rattle.exec_tasks.specs.Tree.{Tree, only_root, ready, task_at, printed_task, forked_task, joined_task}
use Rattle.exec_tasks.specs.declared.task.Task.{Task}
use Rattle.exec_world.specs.Costs.{Within, steps_of}
use Rattle.exec_world.specs.World.{acted_at, world_after, answer_to, trap_in, slots_in}
use Rattle.exec_world.specs.declared.event.Event.{Event}
use Rattle.exec_world.specs.declared.world.World.{World}
use Rattle.exec_machine.specs.Premise.{GoesOn, CanProgress}
use Rattle.exec_machine.specs.Replay.{Moment, NextOf, CanBeMade, StartsIn, Moves, made, over, Opens, opened, no_room, LeadsTo, with_task, with_branch, goes_on, begun, after, root_alone, limited}
use Rattle.exec_machine.specs.Running.{Running, Goes, at_start, answered, front}
use Rattle.exec_progress.proofs.RunsToActions.{run_counted, HasCounts, front_counts, ComesTo, at_first, next_run, comes_on, never_dead}
use Rattle.exec_progress.specs.Progress.{CodeMakesProgress}
use Rattle.exec_progress.proofs.Trees.{IsLive, root_live, changed_live, begun_live, ended_live, ended_begun}

module _ (code : Code) (L : Limits) (few : L.steps ≤ 20000000) (Good : Start ℕ (ℕ × ℕ) → Type 0)
    (ends : (k : ℕ) (b : Start ℕ (ℕ × ℕ)) → Good b → RunsEndOf (names_of k) (plain_code code) b)
    (never : (k : ℕ) (b : Start ℕ (ℕ × ℕ)) → Good b → (got : List (meaning.Answer ℕ (ℕ × ℕ))) → Solo (names_of k) (plain_code code) b got meaning.Unknown → ⊥)
    (bodies : (b : Start ℕ (ℕ × ℕ)) → b.body < length (plain_code code).bodies → Good b) where
  abbrev C : PlainCode
  C = plain_code code

  -- a task that began at a good start, and has made no more local regions than the run has taken steps
  record Known (k steps : ℕ) (t : Running) : Type 0 where
    start : Start ℕ (ℕ × ℕ)
    good : Good start
    comes : ComesTo C k start t
    made : t.made ≤ steps

  record Holds (m : Moment) : Type 0 where
    beyond : (q : ℕ) → m.world.tree.begun ≤ q → m.tasks q ≡ None
    there : (q : ℕ) → IsLive m.world.tree.tasks q → (t : Running) × (m.tasks q ≡ Some t)
    known : (q : ℕ) (t : Running) → m.tasks q ≡ Some t → Known q m.world.steps t
    steps : m.world.steps ≤ 20000001
    most : m.world.most_steps ≡ L.steps

  ready_live : (o : Option Task) → IsTrue (ready o) → IsSome o
  ready_live None x = absurd (cc)
  ready_live (Some t) x = refl

  known_goes : (k steps : ℕ) (t : Running) → steps ≤ 20000001 → Known k steps t → Goes C k t
  known_goes k steps t few x = record {
    halt = l.0;
    run_to_action = l.1;
    alive = λ dead. never_dead C k x.start (never k x.start x.good) t x.comes (subst (λ h. RunsToAction (names_of k) C t.made t.state h) dead l.1);
    names = (let le = x.made in omega (arith, le, few));
  }
    where
      l : (h : Halt ℕ (ℕ × ℕ)) × RunsToAction (names_of k) C t.made t.state h
      l = next_run C k x.start (ends k x.start x.good) t x.comes

  holds_goes : (m : Moment) → Holds m → GoesOn C m
  holds_goes m h = record {
    next = h.beyond m.world.tree.begun (omega (arith));
    live = λ k x. h.there k (ready_live (task_at m.world.tree k) x.0);
    all_go = λ k t e. known_goes k m.world.steps t h.steps (h.known k t e);
  }

  later : (q steps more : ℕ) (t : Running) → steps ≤ more → Known q steps t → Known q more t
  later q steps more t le x = record { start = x.start; good = x.good; comes = x.comes; made = (let m = x.made in omega (arith, m, le)) }

  live_below : (m : Moment) → Holds m → (k : ℕ) (t : Running) → m.tasks k ≡ Some t → k < m.world.tree.begun
  live_below m h k t e = elim (leb_tells m.world.tree.begun k) [
    | inl above ↦ (let none = h.beyond k above.1 in absurd (cc))
    | inr below ↦ below.1
  ]

  -- where a task goes on so, and others as before or as a branch that has begun
  module _ (w : World) (base : ℕ → Option Running) (i : ℕ) (o : Option Running) (outcome : Option Outcome)
      (below : i < w.tree.begun)
      (base_beyond : (q : ℕ) → w.tree.begun ≤ q → base q ≡ None)
      (base_known : (q : ℕ) (t : Running) → base q ≡ Some t → Known q w.steps t)
      (own : (t : Running) → o ≡ Some t → Known i w.steps t)
      (live : (q : ℕ) → IsLive w.tree.tasks q → q ≢ i → (t : Running) × (base q ≡ Some t))
      (itself : IsLive w.tree.tasks i → (t : Running) × (o ≡ Some t)) where
    placed : (q : ℕ) → q ≡ i → with_task base i o q ≡ o
    placed q same = elim (eqb_tells q i) [
      | inl x ↦ ap (λ b. if b then o else base q) x.0
      | inr x ↦ absurd (x.1 same)
    ]

    beside : (q : ℕ) → q ≢ i → with_task base i o q ≡ base q
    beside q apart = elim (eqb_tells q i) [
      | inl x ↦ absurd (apart x.1)
      | inr x ↦ ap (λ b. if b then o else base q) x.0
    ]

    put_beyond : (q : ℕ) → w.tree.begun ≤ q → with_task base i o q ≡ None
    put_beyond q le = beside q (λ same. (omega (arith, below, le, same))) ∙ base_beyond q le

    put_there : (q : ℕ) → IsLive w.tree.tasks q → (t : Running) × (with_task base i o q ≡ Some t)
    put_there q x = elim (eqb_tells q i) [
      | inl s ↦ (let own = itself (subst (λ n. IsLive w.tree.tasks n) s.1 x) in (own.0, placed q s.1 ∙ own.1))
      | inr s ↦ (let other = live q x s.1 in (other.0, beside q s.1 ∙ other.1))
    ]

    put_known : (q : ℕ) (t : Running) → with_task base i o q ≡ Some t → Known q w.steps t
    put_known q t e = elim (eqb_tells q i) [
      | inl s ↦ subst (λ n. Known n w.steps t) (sym s.1) (own t (sym (placed q s.1) ∙ e))
      | inr s ↦ base_known q t (sym (beside q s.1) ∙ e)
    ]

    put_holds : w.steps ≤ 20000001 → w.most_steps ≡ L.steps → Holds (record { world = w; tasks = with_task base i o; outcome = outcome })
    put_holds short all = record { beyond = put_beyond; there = put_there; known = put_known; steps = short; most = all }

  -- an action after which its task goes on, that begins no branch
  record IsPlain (a : Action) : Type 0 where
    branch : (z : State ℕ (ℕ × ℕ)) (next : ℕ) (tasks : ℕ → Option Running) → with_branch C z a next tasks ≡ tasks
    goes : (h : Halt ℕ (ℕ × ℕ)) (x : Answer) → goes_on a h x ≡ answered h x
    no_end : (c : meaning.Ending ℕ) → Says C a (End c) → ⊥
    live : (w : World) (i : ℕ) (wants : Option (List Effect)) (q : ℕ) → IsLive (acted_at code w i wants a).tree.tasks q → IsLive w.tree.tasks q
    begun : (w : World) (i : ℕ) (wants : Option (List Effect)) → (acted_at code w i wants a).tree.begun ≡ w.tree.begun
    steps : (w : World) (i : ℕ) (wants : Option (List Effect)) → (acted_at code w i wants a).steps ≡ w.steps
    most : (w : World) (i : ℕ) (wants : Option (List Effect)) → (acted_at code w i wants a).most_steps ≡ w.most_steps

  -- a task goes on from where it stood
  record Answered (k steps : ℕ) (h : Halt ℕ (ℕ × ℕ)) (x : Answer) : Type 0 where
    task : Running
    goes : answered h x ≡ Some task
    known : Known k steps task

  answered_known : (k steps : ℕ) (t : Running) (ticks regions : ℕ) (a : Action) → ((c : meaning.Ending ℕ) → Says C a (End c) → ⊥) → Known k steps t →
      (h : Halt ℕ (ℕ × ℕ)) → RunsToAction (names_of k) C t.made t.state h → HasCounts ticks regions h → IsActionOf C a h → (x : Answer) → Answered k (steps + ticks) h x
  answered_known k steps t ticks regions a no_end known (Asks n m b f) run_to_action counts is_action x = record {
    task = record { state = f (plain_answer x); made = m };
    goes = refl;
    known = record {
      start = known.start;
      good = known.good;
      comes = comes_on C k known.start t known.comes n m b f run_to_action (plain_answer x);
      made = (let le = run_counted (names_of k) C run_to_action.fuel 0 t.made t.state n m b f run_to_action.runs in let before = known.made in let n_is = counts.0 in
          omega (arith, le, before, n_is));
    };
  }
  answered_known k steps t ticks regions a no_end known (Finished n e) run_to_action counts is_action x = absurd (no_end e is_action)
  answered_known k steps t ticks regions a no_end known Dead run_to_action counts is_action x = absurd is_action

  start_there : (o : Option (Start ℕ (ℕ × ℕ))) → StartsIn C o → (s : Start ℕ (ℕ × ℕ)) × (o ≡ Some s) × (s.body < length C.bodies)
  start_there None x = absurd x
  start_there (Some s) x = (s, refl, x)

  -- the event of a ready task, with what is known of it
  module _ (m : Moment) (h : Holds m) (k ticks : ℕ) (wants : Option (List Effect)) where
    abbrev event : Action → Event
    event a = record { task = k; ticks = ticks; action = a; wants = wants }

    abbrev next_world : Action → World
    next_world a = world_after code m.world (event a)

    plain_holds : (a : Action) → IsPlain a → (x : NextOf C m k (event a)) → Within code m.world (event a) →
        Holds (after code m (event a) x.stands.state x.stands.made)
    plain_holds a p x within =
        put_holds (next_world a) base k (goes_on a halt answer) _ below beyond earlier own
        (λ q live apart. (let t = h.there q (p.live m.world k wants q live) in (t.0, ap (λ f. f q) base_is ∙ t.1)))
        (λ live. (next.task, own_is)) short all
      where
        halt : Halt ℕ (ℕ × ℕ)
        halt = front C k ticks x.stands.made x.stands.state

        answer : Answer
        answer = answer_to m.world (event a)

        base : ℕ → Option Running
        base = with_branch C x.stands.state a m.world.tree.begun m.tasks

        base_is : base ≡ m.tasks
        base_is = p.branch x.stands.state m.world.tree.begun m.tasks

        next : Answered k (m.world.steps + ticks) halt answer
        next = answered_known k m.world.steps x.task ticks x.stands.made a p.no_end (h.known k x.task x.there) halt x.stands.run_to_action
            (front_counts C k ticks x.stands.made x.stands.state) x.stands.is_action answer

        own_is : goes_on a halt answer ≡ Some next.task
        own_is = p.goes halt answer ∙ next.goes

        steps_are : (next_world a).steps ≡ m.world.steps + (ticks + steps_of a)
        steps_are = ap (λ n. n + (ticks + steps_of a)) (p.steps m.world k wants)

        below : k < (next_world a).tree.begun
        below = subst (λ n. k < n) (sym (p.begun m.world k wants)) (live_below m h k x.task x.there)

        beyond : (q : ℕ) → (next_world a).tree.begun ≤ q → base q ≡ None
        beyond q le = ap (λ f. f q) base_is ∙ h.beyond q (subst (λ n. n ≤ q) (p.begun m.world k wants) le)

        earlier : (q : ℕ) (t : Running) → base q ≡ Some t → Known q (next_world a).steps t
        earlier q t e = later q m.world.steps (next_world a).steps t (omega (arith, steps_are)) (h.known q t (sym (ap (λ f. f q) base_is) ∙ e))

        own : (t : Running) → goes_on a halt answer ≡ Some t → Known k (next_world a).steps t
        own t e = (let same : next.task ≡ t = (let i = own_is in cc) in
            subst (λ t. Known k (next_world a).steps t) same (later k (m.world.steps + ticks) (next_world a).steps next.task (omega (arith, steps_are)) next.known))

        all : (next_world a).most_steps ≡ L.steps
        all = p.most m.world k wants ∙ h.most

        short : (next_world a).steps ≤ 20000001
        short = (let le = within.0 in let limit = h.most in omega (arith, le, limit, few, steps_are))

    -- a branch begins, and its parent goes on
    begin_holds : (b : ℕ) (x : NextOf C m k (event (action.Begin b))) → CanBeMade C m.world (event (action.Begin b)) x.stands.state →
        Within code m.world (event (action.Begin b)) → Holds (after code m (event (action.Begin b)) x.stands.state x.stands.made)
    begin_holds b x can within =
        put_holds (next_world a) base k (goes_on a halt answer) _ (omega (arith, old_below)) beyond earlier own there
        (λ live. (next.task, next.goes)) (let le = within.0 in let limit = h.most in omega (arith, le, limit, few)) h.most
      where
        a : Action
        a = action.Begin b

        halt : Halt ℕ (ℕ × ℕ)
        halt = front C k ticks x.stands.made x.stands.state

        answer : Answer
        answer = answer_to m.world (event a)

        base : ℕ → Option Running
        base = with_branch C x.stands.state a m.world.tree.begun m.tasks

        there_is : (s : Start ℕ (ℕ × ℕ)) × (slice_get (starts_at C x.stands.state) b ≡ Some s) × (s.body < length C.bodies)
        there_is = start_there (slice_get (starts_at C x.stands.state) b) can.starts

        start : Start ℕ (ℕ × ℕ)
        start = there_is.0

        begins : begun (slice_get (starts_at C x.stands.state) b) ≡ Some (at_start start)
        begins = ap begun there_is.1

        inside : start.body < length C.bodies
        inside = there_is.2

        next : Answered k (m.world.steps + ticks) halt answer
        next = answered_known k m.world.steps x.task ticks x.stands.made a (λ c e. (cc)) (h.known k x.task x.there) halt x.stands.run_to_action
            (front_counts C k ticks x.stands.made x.stands.state) x.stands.is_action answer

        old_below : k < m.world.tree.begun
        old_below = live_below m h k x.task x.there

        at_next : (q : ℕ) → q ≡ m.world.tree.begun → base q ≡ Some (at_start start)
        at_next q same = elim (eqb_tells q m.world.tree.begun) [
          | inl y ↦ ap (λ c. if c then begun (slice_get (starts_at C x.stands.state) b) else m.tasks q) y.0 ∙ begins
          | inr y ↦ absurd (y.1 same)
        ]

        at_other : (q : ℕ) → q ≢ m.world.tree.begun → base q ≡ m.tasks q
        at_other q apart = elim (eqb_tells q m.world.tree.begun) [
          | inl y ↦ absurd (apart y.1)
          | inr y ↦ ap (λ c. if c then begun (slice_get (starts_at C x.stands.state) b) else m.tasks q) y.0
        ]

        beyond : (q : ℕ) → (next_world a).tree.begun ≤ q → base q ≡ None
        beyond q le = at_other q (λ same. (omega (arith, le, same))) ∙ h.beyond q (omega (arith, le))

        earlier : (q : ℕ) (t : Running) → base q ≡ Some t → Known q (next_world a).steps t
        earlier q t e = elim (eqb_tells q m.world.tree.begun) [
          | inl y ↦ (let same : at_start start ≡ t = (let is = at_next q y.1 in cc) in
              subst (λ t. Known q (next_world a).steps t) same
              (record { start = start; good = bodies start inside; comes = at_first; made = (omega (arith)) }))
          | inr y ↦ later q m.world.steps (next_world a).steps t (omega (arith)) (h.known q t (sym (at_other q y.1) ∙ e))
        ]

        own : (t : Running) → goes_on a halt answer ≡ Some t → Known k (next_world a).steps t
        own t e = (let same : next.task ≡ t = (let i = next.goes in cc) in
            subst (λ t. Known k (next_world a).steps t) same (later k (m.world.steps + ticks) (next_world a).steps next.task (omega (arith)) next.known))

        there : (q : ℕ) → IsLive (next_world a).tree.tasks q → q ≢ k → (t : Running) × (base q ≡ Some t)
        there q live apart = elim (begun_live m.world.tree k q live) [
          | inl same ↦ (at_start start, at_next q same)
          | inr old ↦ elim (eqb_tells q m.world.tree.begun) [
            | inl y ↦ (at_start start, at_next q y.1)
            | inr y ↦ (let t = h.there q old in (t.0, at_other q y.1 ∙ t.1))
          ]
        ]

    -- a task ends
    end_holds : (c : Ending) (x : NextOf C m k (event (action.End c))) → Within code m.world (event (action.End c)) →
        Holds (after code m (event (action.End c)) x.stands.state x.stands.made)
    end_holds c x within =
        put_holds (next_world a) m.tasks k None _ below beyond earlier (λ t e. absurd (cc)) there
        (λ live. absurd ((ended_live m.world.tree k (trap_in c) (slots_in c) k live).0 refl))
        (let le = within.0 in let limit = h.most in omega (arith, le, limit, few)) h.most
      where
        a : Action
        a = action.End c

        same_begun : (next_world a).tree.begun ≡ m.world.tree.begun
        same_begun = ended_begun m.world.tree k (trap_in c) (slots_in c)

        below : k < (next_world a).tree.begun
        below = subst (λ n. k < n) (sym same_begun) (live_below m h k x.task x.there)

        beyond : (q : ℕ) → (next_world a).tree.begun ≤ q → m.tasks q ≡ None
        beyond q le = h.beyond q (subst (λ n. n ≤ q) same_begun le)

        earlier : (q : ℕ) (t : Running) → m.tasks q ≡ Some t → Known q (next_world a).steps t
        earlier q t e = later q m.world.steps (next_world a).steps t (omega (arith)) (h.known q t e)

        there : (q : ℕ) → IsLive (next_world a).tree.tasks q → q ≢ k → (t : Running) × (m.tasks q ≡ Some t)
        there q live apart = h.there q (ended_live m.world.tree k (trap_in c) (slots_in c) q live).1

    made_holds : (a : Action) (x : NextOf C m k (event a)) → CanBeMade C m.world (event a) x.stands.state → Within code m.world (event a) →
        Holds (after code m (event a) x.stands.state x.stands.made)
    made_holds (action.Do (own.Print bytes)) x can within = plain_holds (action.Do (own.Print bytes)) (record {
      branch = λ z n t. refl;
      goes = λ s y. refl;
      no_end = λ c e. (cc);
      live = λ w i o q live. changed_live w.tree.tasks i (printed_task bytes) q live;
      begun = λ w i o. refl;
      steps = λ w i o. refl;
      most = λ w i o. refl;
    }) x within
    made_holds (action.Do o) x can within = plain_holds (action.Do o) (record {
      branch = λ z n t. refl;
      goes = λ s y. refl;
      no_end = λ c e. (cc);
      live = λ w i o q live. live;
      begun = λ w i o. refl;
      steps = λ w i o. refl;
      most = λ w i o. refl;
    }) x within
    made_holds (action.Fork forking many) x can within = plain_holds (action.Fork forking many) (record {
      branch = λ z n t. refl;
      goes = λ s y. refl;
      no_end = λ c e. (let is = e.1 in cc);
      live = λ w i o q live. changed_live w.tree.tasks i (forked_task many) q live;
      begun = λ w i o. refl;
      steps = λ w i o. refl;
      most = λ w i o. refl;
    }) x within
    made_holds (action.Begin b) x can within = begin_holds b x can within
    made_holds action.Join x can within = plain_holds action.Join (record {
      branch = λ z n t. refl;
      goes = λ s y. refl;
      no_end = λ c e. (cc);
      live = λ w i o q live. changed_live w.tree.tasks i joined_task q live;
      begun = λ w i o. refl;
      steps = λ w i o. refl;
      most = λ w i o. refl;
    }) x within
    made_holds (action.End c) x can within = end_holds c x within

  moves_holds : (m : Moment) → Holds m → (k : ℕ) (n : Moment) → Moves code L m k n → Holds n
  moves_holds m h k n (made e x can within is) = subst Holds (sym is)
      (subst (λ j. (y : NextOf C m j e) → CanBeMade C m.world e y.stands.state → Within code m.world e → Holds (after code m e y.stands.state y.stands.made)) x.stands.number
      (λ y can within. made_holds m h e.task e.ticks e.wants e.action y can within) x can within)
  moves_holds m h k n (over e x can beyond is) =
      subst Holds (sym is) (record { beyond = h.beyond; there = h.there; known = h.known; steps = h.steps; most = h.most })

  -- from the start on
  module _ (argument : ℤ) (root : Good (root_start (names_of 0) C 0 argument)) where
    opened_holds : (w : World) (outcome : Option Outcome) → w.tree ≡ only_root → w.steps ≡ 1 → w.most_steps ≡ L.steps →
        Holds (record { world = w; tasks = root_alone code argument; outcome = outcome })
    opened_holds w outcome tree steps all = record {
      beyond = λ q le. elim (eqb_tells q 0) [
        | inl y ↦ absurd (let one = ap (λ (t : Tree). t.begun) tree in omega (arith, le, one, y.1))
        | inr y ↦ ap (λ b. if b then Some first else None) y.0
      ];
      there = λ q live. (first, at_zero q (root_live q (subst (λ (t : Tree). IsLive t.tasks q) tree live)));
      known = λ q t e. elim (eqb_tells q 0) [
        | inl y ↦ (let same : first ≡ t = (let is = at_zero q y.1 in cc) in
            subst (λ t. Known q w.steps t) same (record { start = root_start (names_of 0) C 0 argument; good = root; comes = at_first; made = omega (arith) }))
        | inr y ↦ (let none : root_alone code argument q ≡ None = ap (λ b. if b then Some first else None) y.0 in absurd (cc))
      ];
      steps = omega (arith, steps);
      most = all;
    }
      where
        first : Running
        first = at_start (root_start (names_of 0) C 0 argument)

        at_zero : (q : ℕ) → q ≡ 0 → root_alone code argument q ≡ Some first
        at_zero q same = elim (eqb_tells q 0) [
          | inl y ↦ ap (λ b. if b then Some first else None) y.0
          | inr y ↦ absurd (y.1 same)
        ]

    opens_holds : (m : Moment) → Opens code L argument m → Holds m
    opens_holds m (opened room is) = subst Holds (sym is) (opened_holds _ None refl refl refl)
    opens_holds m (no_room full is) = subst Holds (sym is) (opened_holds _ (Some (limited L)) refl refl refl)

    leads_holds : (ks : List ℕ) (m : Moment) → LeadsTo code L argument ks m → Holds m
    leads_holds [] m opens = opens_holds m opens
    leads_holds (k ∷ ks) m leads = moves_holds leads.0 (leads_holds ks leads.0 leads.1) k m leads.2

    pub replay_goes_on : CanProgress code L argument
    replay_goes_on ks m leads = holds_goes m (leads_holds ks m leads)

root_compiled : (P : PlainProgram) → Resolved P → HasMain P → (argument : ℤ) →
    (t : meaning.Task ℕ (ℕ × ℕ)) × Compiled (compiled P) P (root_start (names_of 0) (compiled P) 0 argument) t
unfolding compiled
root_compiled P resolved main argument = (_, members_are_compiled P resolved P.main_member main.0 main.1 _)

pub code_progresses : CodeMakesProgress
code_progresses code P L argument is resolved main few =
    replay_goes_on code L few (λ b. (t : meaning.Task ℕ (ℕ × ℕ)) × Compiled (plain_code code) P b t)
    (λ k. subst (λ C. (b : Start ℕ (ℕ × ℕ)) → ((t : meaning.Task ℕ (ℕ × ℕ)) × Compiled C P b t) → RunsEndOf (names_of k) C b) (sym is)
    (λ b good. runs_end (names_of k) P resolved b good.0 good.1))
    (λ k. subst (λ C. (b : Start ℕ (ℕ × ℕ)) → ((t : meaning.Task ℕ (ℕ × ℕ)) × Compiled C P b t) → (got : List (meaning.Answer ℕ (ℕ × ℕ))) →
    Solo (names_of k) C b got meaning.Unknown → ⊥) (sym is)
    (λ b good got. never_stuck (names_of k) (compiled P) P (number_in P) (laid_out P) resolved b good.0 good.1 got))
    (subst (λ C. (b : Start ℕ (ℕ × ℕ)) → b.body < length C.bodies → (t : meaning.Task ℕ (ℕ × ℕ)) × Compiled C P b t) (sym is)
    (λ b there. (let w = bodies_are_compiled P resolved b.body there in (_, w.1 b.frame))))
    argument
    (subst (λ C. (t : meaning.Task ℕ (ℕ × ℕ)) × Compiled C P (root_start (names_of 0) C 0 argument) t) (sym is) (root_compiled P resolved main argument))
