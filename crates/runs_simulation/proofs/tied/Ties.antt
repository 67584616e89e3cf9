-- A moment of a machine on compiled code is tied to a run of the source: one record for each part.
use Rattle.std.proofs.Common.{◌≡◌, ◌≤◌, ℕ, suc, ◌+◌, ℤ, List, [], ◌∷◌, ◌++◌, map, length, sym, ◌∙◌, subst, Option, Some, None, slice_get, arith, ◌⊎◌}
use Rattle.std.specs.FinMap.{get}
use Rattle.lang_base.specs.declared.outcome.Limits.{Limits}
use Rattle.lang_typed.specs.Plain.{PlainProgram}
use Rattle.lang_meaning.specs.Outcomes.{trap_of, locals_of}
use Rattle.code_instrs.specs.Machine.{Start, State}
use Rattle.code_instrs.specs.Plain.{PlainCode}
use Rattle.code_scheme.specs.Compiled.{Compiled, AllCompiled}
use Rattle.runs_theory.specs.Actions.{Task, Branches, Ending, Fork, Program, Rule}
use Rattle.runs_theory.specs.Blocks.{with_rule}
use Rattle.runs_theory.specs.Objects.{Path, Name, LocalRegion}
use Rattle.runs_theory.specs.Runs.{Begun, Ended, Event, Run, Upto, answers, cells_of, count, entry_step, event_steps, Faithful, later, mine, now, total}
use Rattle.runs_theory.specs.Schedules.{Numbered, begins}
use Rattle.runs_theory.proofs.runs.Faithful.{begun_upto, ended_upto}
use Rattle.runs_theory.proofs.events.Mine.{mine_other}
use Rattle.runs_program.specs.Steps.{stepped}
use Rattle.exec_task.specs.Branches.{starts_at}
use Rattle.exec_task.specs.Tasks.{plain_slot}
use Rattle.exec_tasks.specs.Scope.{Branches as Scope}
use Rattle.exec_tasks.specs.Tree.{Tasks}
use Rattle.exec_tasks.specs.declared.end.TaskEnd.{TaskEnd}
use Rattle.exec_tasks.specs.declared.task.Origin.{Origin}
use Rattle.exec_tasks.specs.declared.task.State.{State as Standing}
use Rattle.exec_tasks.specs.declared.task.State.TheVariants.{Running as Runs, Forked}
use Rattle.exec_tasks.specs.declared.task.Task.{Task as Live}
use Rattle.exec_world.specs.declared.world.World.{World}
use Rattle.exec_machine.specs.Replay.{Moment}
use Rattle.exec_machine.specs.Running.{Running}
use Rattle.runs_elision.proofs.Worlds.{LocalsLike, locals_later}
use Rattle.runs_simulation.proofs.alike.Sights.{Sight, Wider, StateLike, state_later, StartsLike, starts_later}
use Rattle.runs_simulation.proofs.alike.RunsToActions.{StandsAfter}
use Rattle.runs_simulation.proofs.events.Forking.{AtJoin}
use Rattle.runs_simulation.proofs.tied.Heaps.{HeapTied}
use Rattle.runs_simulation.proofs.tied.Outs.{OutLive}

-- an end that a branch has left is that of its task
pub record EndTied (w : Sight) (R : Run) (q : Path) (n b : ℕ) (e : TaskEnd) : Type 0 where
  pub ending : Ending
  pub ended : Ended R ((n, b) ∷ q) ending
  pub trap : e.trap ≡ trap_of ending None
  pub slots : LocalsLike w.names (map plain_slot e.slots) (locals_of ending)

-- from the b-th branch on
abbrev pub EndsTied : Sight → Run → Path → ℕ → ℕ → List (Option TaskEnd) → Type 0
EndsTied w R q n b [] = Unit {0}
EndsTied w R q n b (None ∷ es) = EndsTied w R q n (suc b) es
EndsTied w R q n b (Some e ∷ es) = EndTied w R q n b e × EndsTied w R q n (suc b) es

-- the paths of the tasks that have begun, by their numbers
pub record NumbersTied (w : Sight) (R : Run) (begun : ℕ) : Type 0 where
  pub many : length w.paths ≡ begun
  pub count : begun ≡ suc (begins R)
  pub numbered : (k : ℕ) (p : Path) → slice_get w.paths k ≡ Some p → Numbered R k p
  pub entered : (entry_step (mine R []) ≡ 1) ⊎ (R ≡ [])

module _ (P : PlainProgram) (arg : ℤ) (rule : Rule) (C : PlainCode) where
  abbrev pub Q : Program
  Q = with_rule rule (stepped P arg)

  -- a live task stands where its source's task stands after the same answers
  pub record TaskTied (w : Sight) (R : Run) (p : Path) (t : Running) : Type 0 where
    pub task : Task
    pub begun : Begun Q R p task
    pub start : Start Name LocalRegion
    pub compiled : Compiled C P start task
    pub state : State Name LocalRegion
    pub stands : StandsAfter C p start (answers (mine R p)) state t.made
    pub like : StateLike w t.state state

  -- a task that has forked has begun so many branches since, of which these have ended
  pub record ForkTied (w : Sight) (R : Run) (q : Path) (s : State ℕ (ℕ × ℕ)) (scope : Scope) : Type 0 where
    pub before : Run
    pub fork : Event
    pub stands : Upto (fork ∷ before) R
    pub path : fork.path ≡ q
    pub since : Run
    pub last : mine R q ≡ since ++ fork ∷ mine before q
    pub tasks : Branches
    pub act : fork.act ≡ Fork tasks
    pub many : scope.count ≡ length tasks.tasks
    pub begun : length since ≡ length scope.ends
    pub within : length scope.ends ≤ scope.count
    pub few : length scope.ends ≤ total event_steps R
    pub ends : EndsTied w R q (count before q) 0 scope.ends
    pub at_join : AtJoin C s
    pub starts : List (Start Name LocalRegion)
    pub compiled : AllCompiled C P starts tasks.tasks
    pub like : StartsLike w (starts_at C s) starts

  abbrev pub ScopeTied : Sight → Run → Path → State ℕ (ℕ × ℕ) → Standing → Type 0
  ScopeTied w R q s Runs = Unit {0}
  ScopeTied w R q s (Forked scope) = ForkTied w R q s scope

  -- a branch is one of its parent's open scope, and runs
  pub record BranchTied (w : Sight) (R : Run) (tasks : Tasks) (p : Path) (o : Origin) : Type 0 where
    pub above : Path
    pub step : ℕ × ℕ
    pub is : p ≡ step ∷ above
    pub there : slice_get w.paths o.parent ≡ Some above
    pub branch : o.step.branch ≡ step.1
    pub parent : Live
    pub parent_is : get tasks o.parent ≡ Some parent
    pub scope : Scope
    pub state : parent.state ≡ Forked scope
    pub unended : slice_get scope.ends step.1 ≡ Some None
    pub number : suc (step.0 + length scope.ends) ≡ count R above

  abbrev pub OriginTied : Sight → Run → Tasks → Path → Option Origin → Type 0
  OriginTied w R tasks p None = p ≡ []
  OriginTied w R tasks p (Some o) = BranchTied w R tasks p o

  pub record LiveTied (w : Sight) (R : Run) (tasks : Tasks) (running : ℕ → Option Running) (k : ℕ) (x : Live) : Type 0 where
    pub path : Path
    pub there : slice_get w.paths k ≡ Some path
    pub runs : Running
    pub runs_so : running k ≡ Some runs
    pub task : TaskTied w R path runs
    pub origin : OriginTied w R tasks path x.origin
    pub scope : ScopeTied w R path runs.state x.state
    pub out : OutLive R path runs.state x.out x.state

  -- what the run has cost
  pub record CostsTied (L : Limits) (R : Run) (w : World) : Type 0 where
    pub steps : w.steps ≡ suc (total event_steps R)
    pub cells : w.heap.used ≡ cells_of Q R
    pub most_steps : w.most_steps ≡ L.steps
    pub most_cells : w.heap.limit ≡ L.cells

  -- all of it
  pub record Tied (L : Limits) (m : Moment) (w : Sight) (R : Run) : Type 0 where
    pub heap : HeapTied Q w R m.world.heap.objects
    pub numbers : NumbersTied w R m.world.tree.begun
    pub costs : CostsTied L R m.world
    pub faithful : Faithful Q R
    pub live : (k : ℕ) (x : Live) → get m.world.tree.tasks k ≡ Some x → LiveTied w R m.world.tree.tasks m.tasks k x

  -- what another task's event leaves
  module _ {v w : Sight} (wide : Wider v w) (R : Run) (e : Event) where
    pub end_later : {q : Path} {n b : ℕ} {x : TaskEnd} → EndTied v R q n b x → EndTied w (e ∷ R) q n b x
    end_later h = record { ending = h.ending; ended = ended_upto (later now) h.ended; trap = h.trap; slots = locals_later wide.names h.slots }

    pub ends_later : (q : Path) (n b : ℕ) (es : List (Option TaskEnd)) → EndsTied v R q n b es → EndsTied w (e ∷ R) q n b es
    ends_later q n b [] h = tt
    ends_later q n b (None ∷ es) h = ends_later q n (suc b) es h
    ends_later q n b (Some x ∷ es) h = (end_later h.0, ends_later q n (suc b) es h.1)

    pub task_later : {p : Path} {t : Running} → (e.path ≡ p → ⊥) → TaskTied v R p t → TaskTied w (e ∷ R) p t
    task_later {p} {t} apart h = record {
      task = h.task;
      begun = begun_upto (later now) h.begun;
      start = h.start;
      compiled = h.compiled;
      state = h.state;
      stands = subst (λ es. StandsAfter C p h.start (answers es) h.state t.made) (sym (mine_other e R p apart)) h.stands;
      like = state_later wide h.like;
    }

    pub fork_later : {q : Path} {s : State ℕ (ℕ × ℕ)} {scope : Scope} → (e.path ≡ q → ⊥) → total event_steps R ≤ total event_steps (e ∷ R) → ForkTied v R q s scope
        → ForkTied w (e ∷ R) q s scope
    fork_later {q} {scope = scope} apart more h = record {
      before = h.before;
      fork = h.fork;
      stands = later h.stands;
      path = h.path;
      since = h.since;
      last = mine_other e R q apart ∙ h.last;
      tasks = h.tasks;
      act = h.act;
      many = h.many;
      begun = h.begun;
      within = h.within;
      few = (let f = h.few in omega (arith, f, more));
      ends = ends_later q (count h.before q) 0 scope.ends h.ends;
      at_join = h.at_join;
      starts = h.starts;
      compiled = h.compiled;
      like = starts_later wide h.like;
    }

    pub scope_later : (q : Path) (s : State ℕ (ℕ × ℕ)) (x : Standing) → (e.path ≡ q → ⊥) → total event_steps R ≤ total event_steps (e ∷ R)
        → ScopeTied v R q s x → ScopeTied w (e ∷ R) q s x
    scope_later q s Runs apart more h = tt
    scope_later q s (Forked scope) apart more h = fork_later apart more h
