-- A fork, in a machine and in the run.
use Rattle.std.proofs.Common.{◌≡◌, ℕ, ◌==◌, if◌then◌else◌, ℤ, Bool, true, false, List, [], ◌∷◌, append-nil, length, refl, sym, ap, ◌∙◌, subst, Option, Some, None, arith}
use Rattle.std.specs.FinMap.{get}
use Rattle.lang_base.specs.declared.effect.Effect.{Effect}
use Rattle.lang_base.specs.declared.outcome.Limits.{Limits}
use Rattle.lang_typed.specs.declared.stmt.Forking.{Forking}
use Rattle.lang_typed.specs.Plain.{PlainProgram}
use Rattle.lang_meaning.specs.Actions as meaning
use Rattle.lang_meaning.specs.Asking.{most_ticks}
use Rattle.code_instrs.specs.RunsToActions.{Halt, Asks as AsksAt, Finished, Dead}
use Rattle.code_instrs.specs.Machine.{Start, State, Stand, Goes, Ticks, Makes, Waits, Ends, Stuck, step}
use Rattle.code_instrs.specs.Plain.{PlainCode, plain_code}
use Rattle.code_instrs.specs.declared.code.Code.{Code}
use Rattle.code_scheme.specs.Compiled.{AllCompiled, SameAct}
use Rattle.runs_theory.specs.Actions.{Branches, Do, Rest, Fork, Went, Next, Rule}
use Rattle.runs_theory.specs.Objects.{Name, LocalRegion}
use Rattle.runs_theory.specs.Runs.{Event, Follows, Run, answers, mine, now}
use Rattle.runs_theory.proofs.events.Mine.{mine_same}
use Rattle.exec_task.specs.Branches.{starts_at}
use Rattle.exec_task.specs.Halts.{IsActionOf, stands}
use Rattle.exec_task.specs.Names.{names_of}
use Rattle.exec_task.specs.Tasks.{plain_answer}
use Rattle.exec_task.specs.declared.action.Action.TheVariants as action
use Rattle.exec_task.specs.declared.action.Answer.TheVariants as answer
use Rattle.exec_tasks.specs.Scope.{no_branch_yet}
use Rattle.exec_tasks.specs.Tree.{forked_task}
use Rattle.exec_tasks.specs.declared.task.State.TheVariants.{Running as Runs}
use Rattle.exec_tasks.specs.declared.task.Task.{Task as Live}
use Rattle.exec_machine.specs.Replay.{Moment, NextOf, after}
use Rattle.exec_machine.specs.Running.{front}
use Rattle.runs_simulation.specs.Alike.{fork_alike, went_alike}
use Rattle.runs_simulation.proofs.alike.Sights.{Sight, wider_none, each_length, StartsLike, went_like}
use Rattle.runs_simulation.proofs.events.Joins.{ForksAreJoined}
use Rattle.runs_simulation.proofs.events.Forking.{AtJoin, Kept, step_keeps}
use Rattle.runs_simulation.proofs.alike.Wrapping.{first_numbers, next_numbers}
use Rattle.runs_simulation.proofs.tied.Heaps.{structural}
use Rattle.runs_simulation.proofs.tied.Ties.{Q, ForkTied, LiveTied, Tied}
use Rattle.runs_simulation.proofs.events.Asked.{ActionIn, ActsAt, forking_like, fork_kind, same_fork, runs_if, AllLength}
use Rattle.runs_simulation.proofs.tied.Trees.{placed, beside, changed_own, changed_other, plain_next}
use Rattle.runs_simulation.proofs.events.Acting.{RightFor, event_of, Matched, Stepped, found, live, at, AskedAt, asked_at, goes_to, goes_so, task_next, childless_if, not_off, out_runs}
use Rattle.runs_simulation.proofs.tied.Outs.{OutRuns, OutForks, begins_none, fine_none}
use Rattle.runs_simulation.proofs.tied.Segments.{seg_later, seg_own}
use Rattle.runs_simulation.proofs.tied.Sorted.{printed_step, trapped_step}
use Rattle.runs_theory.specs.Order.{printed, trapped}

-- where a task stands at another action than a rest, a step leads there
pub front_step : (C : PlainCode) (k ticks made : ℕ) (z : State ℕ (ℕ × ℕ)) (n m : ℕ) (a : ActionIn) (f : meaning.Answer ℕ (ℕ × ℕ) → State ℕ (ℕ × ℕ))
    → front C k ticks made z ≡ AsksAt n m a f → (a ≡ Do Rest → ⊥) → step (names_of k) C z ≡ Waits a f
front_step C k ticks made z n m a f e no_rest = go (ticks == most_ticks) e
  where
    at_stand : (o : Stand ℕ (ℕ × ℕ)) → stands ticks made o ≡ AsksAt n m a f → o ≡ Waits a f
    at_stand (Waits b g) i = (let x : b ≡ a = cc in let y : g ≡ f = cc in λ j. Waits (x j) (y j))
    at_stand (Ends x) i = absurd (cc)
    at_stand (Goes s) i = absurd (cc)
    at_stand (Ticks s) i = absurd (cc)
    at_stand (Makes g) i = absurd (cc)
    at_stand Stuck i = absurd (cc)

    go : (b : Bool) → (if b then AsksAt ticks made (Do Rest) (λ x. z) else stands ticks made (step (names_of k) C z)) ≡ AsksAt n m a f → step (names_of k) C z ≡ Waits a f
    go true i = absurd (no_rest (let x : Do Rest ≡ a = cc in sym x))
    go false i = at_stand (step (names_of k) C z) i

-- a fork tells its branches
pub fork_acts : (C : PlainCode) (forking : Forking) (many : ℕ) (h : Halt ℕ (ℕ × ℕ)) → IsActionOf C (action.Fork forking many) h
    → (ts : List (Start ℕ (ℕ × ℕ))) × ActsAt h (Fork (record { kind = forking; tasks = ts })) × (length ts ≡ many)
fork_acts C forking many (AsksAt n m a f) is_action = is_action
fork_acts C forking many (Finished n e) is_action = absurd (let is = is_action.1 in cc)
fork_acts C forking many Dead is_action = absurd is_action

module _ (code : Code) (P : PlainProgram) (arg : ℤ) (rule : Rule) (L : Limits) (right : RightFor (plain_code code) P) (FJ : ForksAreJoined (plain_code code)) where
  abbrev C : PlainCode
  C = plain_code code

  module _ {m : Moment} {w : Sight} {R : Run} (T : Tied P arg rule C L m w R) (k ticks : ℕ) (wants : Option (List Effect)) (forking : Forking) (many : ℕ)
      (x : NextOf C m k (event_of k ticks wants (action.Fork forking many))) where
    abbrev n : Moment
    n = after code m (event_of k ticks wants (action.Fork forking many)) x.stands.state x.stands.made

    reported : (ts : List (Start ℕ (ℕ × ℕ))) × ActsAt (at code P arg rule L right T k ticks wants (action.Fork forking many) x) (Fork (record { kind = forking; tasks = ts })) × (length ts ≡ many)
    reported = fork_acts C forking many (at code P arg rule L right T k ticks wants (action.Fork forking many) x) x.stands.is_action

    abbrev forks : ActionIn
    forks = Fork (record { kind = forking; tasks = reported.0 })

    A : AskedAt code P arg rule L right T k ticks wants (action.Fork forking many) x forks
    A = asked_at code P arg rule L right T k ticks wants (action.Fork forking many) x forks reported.1

    abbrev V : LiveTied P arg rule C w R m.world.tree.tasks m.tasks k (found code P arg rule L right T k ticks wants (action.Fork forking many) x).0
    V = live code P arg rule L right T k ticks wants (action.Fork forking many) x

    abbrev y : Live
    y = (found code P arg rule L right T k ticks wants (action.Fork forking many) x).0

    y_is : get m.world.tree.tasks k ≡ Some y
    y_is = (found code P arg rule L right T k ticks wants (action.Fork forking many) x).1

    like : (cs : List (Start Name LocalRegion)) × (A.both.act ≡ Fork (record { kind = forking; tasks = cs })) × StartsLike w reported.0 cs
    like = forking_like A.both.like

    source : (ts : Branches) × (A.act ≡ Fork ts) × AllCompiled C P like.0 ts.tasks
    source = same_fork C P A.act forking like.0 (subst (λ b. SameAct C P A.act b) like.1 A.same)

    asks : (Q P arg rule C).meaning V.path V.task.task (answers (mine R V.path)) ≡ Next ticks (Fork source.0)
    asks = A.asks ∙ ap (λ c. Next ticks c) source.1

    abbrev event : Event
    event = record { path = V.path; ticks = ticks; act = Fork source.0; ans = Went }

    follows : Follows (Q P arg rule C) R event
    follows = record { task = V.task.task; begun = V.task.begun; asks = asks; right = refl }

    runs : y.state ≡ Runs
    runs = runs_if P arg rule C w T.faithful V.runs.state y.state V.scope V.task.task V.task.begun ticks (Fork source.0) asks (λ b i. (cc)) (λ i. (cc))

    steps_there : step (names_of k) C x.stands.state ≡ Waits forks A.both.then_in
    steps_there = front_step C k ticks x.stands.made x.stands.state A.both.ticks A.both.made forks A.both.then_in A.both.is_in (λ i. (cc))

    keeps : AtJoin C (A.both.then_in (plain_answer answer.Went)) × (starts_at C (A.both.then_in (plain_answer answer.Went)) ≡ reported.0)
    keeps = kept_fork (subst (λ o. Kept C x.stands.state o) steps_there (step_keeps C FJ first_numbers next_numbers k x.stands.state))
      where
        kept_fork : Kept C x.stands.state (Waits forks A.both.then_in)
            → AtJoin C (A.both.then_in (plain_answer answer.Went)) × (starts_at C (A.both.then_in (plain_answer answer.Went)) ≡ reported.0)
        kept_fork h = h.is (plain_answer answer.Went)

    fork : ForkTied P arg rule C w (event ∷ R) V.path (A.both.then_in (plain_answer answer.Went)) (no_branch_yet many)
    fork = record {
      before = R;
      fork = event;
      stands = now;
      path = refl;
      since = [];
      last = mine_same event R V.path refl;
      tasks = source.0;
      act = refl;
      many = sym reported.2 ∙ each_length like.2 ∙ AllLength C P like.0 source.0.tasks source.2;
      begun = refl;
      within = omega arith;
      few = omega arith;
      ends = tt;
      at_join = keeps.0;
      starts = like.0;
      compiled = source.2;
      like = subst (λ bs. StartsLike w bs like.0) (sym keeps.1) like.2;
    }

    H : OutRuns R V.path V.runs.state y.out
    H = out_runs code P arg rule L right T k ticks wants (action.Fork forking many) x runs

    fine : trapped H.segment ≡ None
    fine = fine_none H.segment V.runs.state H.fine (λ f i. not_off code P arg rule L right T k ticks wants (action.Fork forking many) x forks A (meaning.Trapped f.0 f.1) i)

    out_now : OutForks (event ∷ R) V.path y.out (no_branch_yet many)
    out_now = record {
      own = event ∷ mine R V.path;
      number = length (mine R V.path);
      many = refl;
      segment = event ∷ H.segment;
      seg = seg_own event refl (λ b i. (cc)) (seg_later event H.seg);
      out_is = H.out_is ∙ sym (printed_step event H.segment ∙ append-nil (printed H.segment));
      fine = trapped_step event H.segment ∙ fine;
      since = [];
      last = mine_same event R V.path refl;
      begins = begins_none;
      ends = tt;
    }

    abbrev stepped : Stepped code P arg rule L right w R k n
    stepped = record {
      event = event;
      follows = follows;
      there = V.there;
      sight = w;
      tied = plain_next P arg rule C L m n T k y (forked_task many y) y_is (wider_none T.heap.holds.distinct) refl event V.there follows refl
          (structural (Q P arg rule C) T.heap V.path ticks event refl (λ c. refl) (λ f. refl) refl) refl
          (λ j apart. changed_other m.world.tree.tasks k (forked_task many) j y_is apart) (changed_own m.world.tree.tasks k (forked_task many) y_is) refl
          (λ j apart. beside m.tasks k _ j apart) (goes_to code P arg rule L right T k ticks wants (action.Fork forking many) x forks A answer.Went)
          (placed m.tasks k _ k refl ∙ goes_so code P arg rule L right T k ticks wants (action.Fork forking many) x forks A answer.Went)
          (task_next code P arg rule L right T k ticks wants (action.Fork forking many) x forks A answer.Went event refl (wider_none T.heap.holds.distinct) went_like)
          fork out_now (childless_if code P arg rule L right T k ticks wants (action.Fork forking many) x runs)
          (record { steps = refl; cells = omega arith; most_steps = refl; most_cells = refl });
    }

    many_are : length source.0.tasks ≡ many
    many_are = sym (AllLength C P like.0 source.0.tasks source.2) ∙ sym (each_length like.2) ∙ reported.2

    pub forks_next : Matched code P arg rule L right m (event_of k ticks wants (action.Fork forking many)) w R k n
    forks_next = record {
      stepped = stepped;
      wider = wider_none T.heap.holds.distinct;
      ticks = refl;
      action = fork_alike forking many source.0 (fork_kind C P source.0 forking like.0 (subst (λ a. SameAct C P a (Fork (record { kind = forking; tasks = like.0 }))) source.1
          (subst (λ b. SameAct C P A.act b) like.1 A.same))) many_are;
      answer = went_alike;
    }
