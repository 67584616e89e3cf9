-- An end, in a machine and in the run.
use Rattle.std.proofs.Common.{◌≡◌, ◌≢◌, inl, inr, ℕ, zero, suc, ◌+◌, ◌==◌, if◌then◌else◌, ℤ, Bool, true, false, List, [], ◌∷◌, ◌++◌, append-nil, length-append, map, length, refl, sym, ap, ◌∙◌, subst, Option, Some, None, slice_get, arith}
use Rattle.std.proofs.lemmas.Bool.Decides.{eqb_tells}
use Rattle.std.specs.FinMap.{get, remove}
use Rattle.lang_base.specs.declared.effect.Effect.{Effect}
use Rattle.lang_base.specs.declared.outcome.Limits.{Limits}
use Rattle.lang_typed.specs.Plain.{PlainProgram}
use Rattle.lang_base.specs.declared.place.Place.{Place}
use Rattle.lang_base.specs.declared.value.Trap.{Trap}
use Rattle.lang_meaning.specs.Actions as meaning
use Rattle.lang_meaning.specs.Actions.{Ending as EndingOver}
use Rattle.lang_meaning.specs.Asking.{most_ticks}
use Rattle.lang_meaning.specs.Outcomes.{trap_of, locals_of}
use Rattle.code_instrs.specs.RunsToActions.{Halt, RunsToAction, Asks as AsksAt, Finished, Dead, said}
use Rattle.code_instrs.specs.Machine.{State, Off, Stand, Goes, Ticks, Makes, Waits, Ends, Stuck, step}
use Rattle.code_instrs.specs.Plain.{PlainCode, plain_code}
use Rattle.code_instrs.specs.declared.code.Code.{Code}
use Rattle.code_scheme.specs.Compiled.{SameAct, SameReply}
use Rattle.runs_theory.specs.Actions.{Action, Do, Rest, End, Ending, Went, Next, Reply, Rule}
use Rattle.runs_theory.specs.Objects.{Path}
use Rattle.runs_theory.specs.Runs.{Event, Follows, Run, Upto, answers, count, event_steps, later, mine, now}
use Rattle.runs_theory.proofs.events.Cost.{total_step}
use Rattle.runs_theory.proofs.events.Mine.{mine_other, mine_same}
use Rattle.exec_task.specs.Halts.{IsActionOf, stands}
use Rattle.exec_task.specs.Names.{names_of}
use Rattle.exec_task.specs.Tasks.{plain_ending, plain_slot}
use Rattle.exec_task.specs.declared.action.Action.TheVariants as action
use Rattle.exec_task.specs.declared.action.Ending.{Ending as DeclaredEnding}
use Rattle.exec_task.specs.declared.action.Ending.TheVariants as ending
use Rattle.exec_tasks.specs.Scope.{Branches as Scope, put_end, with_end}
use Rattle.exec_tasks.specs.Tree.{Tasks, Tree, changed, end_noted, end_of, in_scope, origin_of, out_of, task_at, with_scope}
use Rattle.exec_tasks.specs.declared.end.TaskEnd.{TaskEnd}
use Rattle.exec_tasks.specs.declared.task.Origin.{Origin}
use Rattle.exec_tasks.specs.declared.task.State.TheVariants.{Running as Runs, Forked}
use Rattle.exec_tasks.specs.declared.task.Task.{Task as Live}
use Rattle.exec_world.specs.World.{slots_in}
use Rattle.exec_world.specs.World.{trap_in as machine_trap}
use Rattle.exec_progress.proofs.Trees.{ended_begun}
use Rattle.exec_machine.specs.Replay.{Moment, NextOf, after}
use Rattle.exec_machine.specs.Running.{front}
use Rattle.runs_elision.proofs.Worlds.{Names, LocalsLike, no_locals, EndingLike, returned_like, assigned_like, trapped_like}
use Rattle.runs_simulation.specs.Alike.{end_alike, went_alike}
use Rattle.runs_simulation.proofs.alike.Alikes.{ending_alike}
use Rattle.runs_simulation.proofs.alike.Sights.{Sight, wider_none, HaltLike, asks_like, finished_like, dead_like, ActionLike, end_like}
use Rattle.runs_simulation.proofs.alike.RunsToActions.{HaltOf}
use Rattle.runs_simulation.proofs.tied.Heaps.{structural}
use Rattle.runs_simulation.proofs.tied.Ties.{Q, EndTied, EndsTied, ForkTied, ScopeTied, BranchTied, OriginTied, LiveTied, Tied, ends_later, task_later}
use Rattle.runs_simulation.proofs.events.Asked.{ActionIn, ActionOf, reply_act, same_end, runs_if}
use Rattle.runs_simulation.proofs.tied.Trees.{beside, changed_own, changed_other, removed_tells, removed_other, numbers_kept, costs_next, apart_paths, above_apart, path_one, not_itself, live_later, live_with, branch_later, origin_later}
use Rattle.runs_simulation.proofs.events.Acting.{RightFor, event_of, Matched, Stepped, found, live, at, here, run_here, childless_if, off_run, out_runs}
use Rattle.runs_simulation.proofs.tied.Outs.{BeginsSince, begins_none, begins_more, EndOut, IsFine, OutLive, OutRuns, OutForks, ends_out_later, ends_out_put, seg_with}
use Rattle.runs_simulation.proofs.tied.Segments.{Seg, seg_later, seg_own}
use Rattle.runs_simulation.proofs.tied.Sorted.{printed_step, trapped_step}
use Rattle.runs_theory.specs.Order.{printed, trap_in, trapped}

-- where a task stands tells its ticks
abbrev HasTicks : ℕ → Halt ℕ (ℕ × ℕ) → Type 0
HasTicks ticks (AsksAt n m a f) = n ≡ ticks
HasTicks ticks (Finished n e) = n ≡ ticks
HasTicks ticks Dead = Unit {0}

front_ticks : (C : PlainCode) (k ticks made : ℕ) (z : State ℕ (ℕ × ℕ)) → HasTicks ticks (front C k ticks made z)
front_ticks C k ticks made z = go (ticks == most_ticks)
  where
    at_stand : (o : Stand ℕ (ℕ × ℕ)) → HasTicks ticks (stands ticks made o)
    at_stand (Waits b g) = refl
    at_stand (Ends x) = refl
    at_stand (Goes s) = tt
    at_stand (Ticks s) = tt
    at_stand (Makes g) = tt
    at_stand Stuck = tt

    go : (b : Bool) → HasTicks ticks (if b then AsksAt ticks made (Do Rest) (λ x. z) else stands ticks made (step (names_of k) C z))
    go true = refl
    go false = at_stand (step (names_of k) C z)

-- both stand at their end
record EndAt (w : Sight) (ticks : ℕ) (g : HaltOf) (c : DeclaredEnding) : Type 0 where
  ending : Ending
  said_is : said g ≡ Next ticks (End ending)
  like : EndingLike w.names (plain_ending c) ending

end_acts : {w : Sight} {a : ActionIn} {b : ActionOf} (e : EndingOver ℕ) → ActionLike w a b → a ≡ End e → (f : Ending) × (b ≡ End f) × EndingLike w.names e f
end_acts {w} {a} {b} e l is = go (subst (λ z. ActionLike w z b) is l)
  where
    go : {b : ActionOf} → ActionLike w (End e) b → (f : Ending) × (b ≡ End f) × EndingLike w.names e f
    go (end_like {f = f} l) = (f, refl, l)

end_at : {w : Sight} (C : PlainCode) (c : DeclaredEnding) (ticks : ℕ) {h : Halt ℕ (ℕ × ℕ)} {g : HaltOf} → HaltLike w h g → IsActionOf C (action.End c) h → HasTicks ticks h
    → EndAt w ticks g c
end_at C c ticks (asks_like n m {a = a} {b = b} l on) is_action same =
    let x = end_acts (plain_ending c) l is_action in
    record { ending = x.0; said_is = ap (λ z. Next z b) same ∙ ap (λ (z : ActionOf). Next ticks z) x.1; like = x.2 }
end_at {w} C c ticks (finished_like n {e = e} {f = f} l) is_action same =
    let is : e ≡ plain_ending c = cc in
    record { ending = f; said_is = ap (λ z. Next z (End f)) same; like = subst (λ z. EndingLike w.names z f) is l }
end_at C c ticks dead_like is_action same = absurd is_action

-- how a task has ended, as both see it
trap_is : {ns : Names} (c : DeclaredEnding) (x : Ending) → EndingLike ns (plain_ending c) x → machine_trap c ≡ trap_of x None
trap_is (ending.Returned v) x (returned_like l) = refl
trap_is (ending.Assigned ls) x (assigned_like l) = refl
trap_is (ending.Trapped t p) x (trapped_like t' p') = refl

slots_are : {ns : Names} (c : DeclaredEnding) (x : Ending) → EndingLike ns (plain_ending c) x → LocalsLike ns (map plain_slot (slots_in c)) (locals_of x)
slots_are (ending.Returned v) x (returned_like l) = no_locals
slots_are (ending.Assigned ls) x (assigned_like l) = l
slots_are (ending.Trapped t p) x (trapped_like t' p') = no_locals

trapped_ends : (c : DeclaredEnding) (f : Trap × Place) → ◌≡◌ {A = EndingOver ℕ} (meaning.Trapped f.0 f.1) (plain_ending c) → machine_trap c ≡ Some f
trapped_ends (ending.Returned v) f e = absurd (cc)
trapped_ends (ending.Assigned ls) f e = absurd (cc)
trapped_ends (ending.Trapped t p) f e = (let a : f.0 ≡ t = cc in let b : f.1 ≡ p = cc in λ z. Some (sym a z, sym b z))

since_many : {p : Path} {gs : Run} {b : ℕ} → BeginsSince p gs b → length gs ≡ b
since_many begins_none = refl
since_many (begins_more g a d h) = ap (λ n. suc n) (since_many h)

-- an end that is put among those of the branches
put_length : (es : List (Option TaskEnd)) (i : ℕ) (how : TaskEnd) → length (put_end es i how) ≡ length es
put_length [] i how = refl
put_length (None ∷ es) zero how = refl
put_length (Some e ∷ es) zero how = refl
put_length (None ∷ es) (suc i) how = ap (λ n. suc n) (put_length es i how)
put_length (Some e ∷ es) (suc i) how = ap (λ n. suc n) (put_length es i how)

put_other : (es : List (Option TaskEnd)) (i j : ℕ) (how : TaskEnd) → (i ≡ j → ⊥) → slice_get (put_end es i how) j ≡ slice_get es j
put_other [] i j how apart = refl
put_other (None ∷ es) zero zero how apart = absurd (apart refl)
put_other (None ∷ es) zero (suc j) how apart = refl
put_other (Some e ∷ es) zero j how apart = refl
put_other (None ∷ es) (suc i) zero how apart = refl
put_other (None ∷ es) (suc i) (suc j) how apart = put_other es i j how (λ s. apart (ap (λ n. suc n) s))
put_other (Some e ∷ es) (suc i) zero how apart = refl
put_other (Some e ∷ es) (suc i) (suc j) how apart = put_other es i j how (λ s. apart (ap (λ n. suc n) s))

ends_put : (w : Sight) (R : Run) (q : Path) (n b : ℕ) (es : List (Option TaskEnd)) (i : ℕ) (how : TaskEnd) → EndsTied w R q n b es → slice_get es i ≡ Some None
    → EndTied w R q n (b + i) how → EndsTied w R q n b (put_end es i how)
ends_put w R q n b [] i how h e x = tt
ends_put w R q n b (None ∷ es) zero how h e x = (subst (λ c. EndTied w R q n c how) (omega arith) x, h)
ends_put w R q n b (Some y ∷ es) zero how h e x = h
ends_put w R q n b (None ∷ es) (suc i) how h e x = ends_put w R q n (suc b) es i how h e (subst (λ c. EndTied w R q n c how) (omega arith) x)
ends_put w R q n b (Some y ∷ es) (suc i) how h e x = (h.0, ends_put w R q n (suc b) es i how h.1 e (subst (λ c. EndTied w R q n c how) (omega arith) x))

module _ (code : Code) (P : PlainProgram) (arg : ℤ) (rule : Rule) (L : Limits) (right : RightFor (plain_code code) P) where
  abbrev C : PlainCode
  C = plain_code code

  -- an end, with what the task has printed and its trap
  pub record EndReported (w : Sight) (R : Run) (k : ℕ) (n : Moment) (c : DeclaredEnding) (out : List ℕ) : Type 0 where
    pub stepped : Stepped code P arg rule L right w R k n
    pub ending : Ending
    pub act : stepped.event.act ≡ End ending
    pub segment : Run
    pub seg : Seg (stepped.event ∷ R) stepped.event.path (mine (stepped.event ∷ R) stepped.event.path) segment
    pub out_is : out ≡ printed segment
    pub trap : machine_trap c ≡ trapped segment
    pub like : EndingLike w.names (plain_ending c) ending

  module _ {m : Moment} {w : Sight} {R : Run} (T : Tied P arg rule C L m w R) (k ticks : ℕ) (wants : Option (List Effect)) (c : DeclaredEnding)
      (x : NextOf C m k (event_of k ticks wants (action.End c))) where
    abbrev n : Moment
    n = after code m (event_of k ticks wants (action.End c)) x.stands.state x.stands.made

    abbrev V : LiveTied P arg rule C w R m.world.tree.tasks m.tasks k (found code P arg rule L right T k ticks wants (action.End c) x).0
    V = live code P arg rule L right T k ticks wants (action.End c) x

    abbrev y : Live
    y = (found code P arg rule L right T k ticks wants (action.End c) x).0

    y_is : get m.world.tree.tasks k ≡ Some y
    y_is = (found code P arg rule L right T k ticks wants (action.End c) x).1

    abbrev meant : Reply
    meant = (Q P arg rule C).meaning V.path V.task.task (answers (mine R V.path))

    E : EndAt w ticks (here code P arg rule L right T k ticks wants (action.End c) x).halt c
    E = end_at C c ticks (here code P arg rule L right T k ticks wants (action.End c) x).like x.stands.is_action (front_ticks C k ticks x.stands.made x.stands.state)

    acts : (a : Action) × (meant ≡ Next ticks a) × SameAct C P a (End E.ending)
    acts = reply_act C P meant ticks (End E.ending)
        (subst (λ r. SameReply C P meant r) E.said_is (here code P arg rule L right T k ticks wants (action.End c) x).same)

    asks : meant ≡ Next ticks (End E.ending)
    asks = acts.1 ∙ ap (λ a. Next ticks a) (same_end C P acts.0 E.ending acts.2)

    abbrev event : Event
    event = record { path = V.path; ticks = ticks; act = End E.ending; ans = Went }

    follows : Follows (Q P arg rule C) R event
    follows = record { task = V.task.task; begun = V.task.begun; asks = asks; right = refl }

    runs : y.state ≡ Runs
    runs = runs_if P arg rule C w T.faithful V.runs.state y.state V.scope V.task.task V.task.begun ticks (End E.ending) asks (λ b i. (cc)) (λ i. (cc))

    childless : (j : ℕ) (z : Live) (o : Origin) → j ≢ k → get m.world.tree.tasks j ≡ Some z → z.origin ≡ Some o → o.parent ≢ k
    childless j z o apart is origin = childless_if code P arg rule L right T k ticks wants (action.End c) x runs j z o apart is origin

    abbrev how : TaskEnd
    how = end_of (Some y) (machine_trap c) (slots_in c)

    tree_is : n.world.tree ≡ end_noted m.world.tree k y.origin how
    tree_is = ap (λ o. end_noted m.world.tree k (origin_of o) (end_of o (machine_trap c) (slots_in c))) y_is

    abbrev LiveNext : Tasks → Type 0
    LiveNext tasks = (j : ℕ) (z : Live) → get tasks j ≡ Some z → LiveTied P arg rule C w (event ∷ R) tasks n.tasks j z

    gone : (j : ℕ) → j ≢ k → n.tasks j ≡ m.tasks j
    gone j apart = beside m.tasks k None j apart

    -- what it has printed
    H : OutRuns R V.path V.runs.state y.out
    H = out_runs code P arg rule L right T k ticks wants (action.End c) x runs

    -- after a trap below it it ends with that trap
    falls : (f : Trap × Place) → V.runs.state ≡ Off (meaning.Trapped f.0 f.1) → machine_trap c ≡ Some f
    falls f i = (let s : ◌≡◌ {A = ActionIn} (End (meaning.Trapped f.0 f.1)) (End (plain_ending c)) = ends_so in
        let is : ◌≡◌ {A = EndingOver ℕ} (meaning.Trapped f.0 f.1) (plain_ending c) = cc in trapped_ends c f is)
      where
        fell : at code P arg rule L right T k ticks wants (action.End c) x ≡ Finished 0 (meaning.Trapped f.0 f.1)
        fell = off_run C k V.runs.made (meaning.Trapped f.0 f.1) (at code P arg rule L right T k ticks wants (action.End c) x)
            (subst (λ s. RunsToAction (names_of k) C V.runs.made s (at code P arg rule L right T k ticks wants (action.End c) x)) i (run_here code P arg rule L right T k ticks wants (action.End c) x))

        ends_so : IsActionOf C (action.End c) (Finished 0 (meaning.Trapped f.0 f.1))
        ends_so = subst (λ h. IsActionOf C (action.End c) h) fell x.stands.is_action

    out_is : y.out ≡ printed (event ∷ H.segment)
    out_is = H.out_is ∙ sym (printed_step event H.segment ∙ append-nil (printed H.segment))

    trap_so : machine_trap c ≡ trapped (event ∷ H.segment)
    trap_so = go H.fine ∙ sym (trapped_step event H.segment)
      where
        go : IsFine H.segment V.runs.state → machine_trap c ≡ trap_in (End E.ending) (trapped H.segment)
        go (inl e) = trap_is c E.ending E.like ∙ sym (ap (λ o. trap_in (End E.ending) o) e)
        go (inr e) = falls e.0 e.2 ∙ sym (ap (λ o. trap_in (End E.ending) o) e.1)

    -- the root ends
    root_gone : LiveNext (remove m.world.tree.tasks k)
    root_gone j z is =
        let r = removed_tells m.world.tree.tasks k j is in
        live_later P arg rule C L (wider_none T.heap.holds.distinct) T.numbers event k V.there m.world.tree.tasks (remove m.world.tree.tasks k) j z r.0
        (λ o f. (childless j z o r.0 r.1 f, removed_other m.world.tree.tasks k o.parent (childless j z o r.0 r.1 f))) (gone j r.0) (T.live j z r.1)

    -- a branch ends
    module _ (o : Origin) (B : BranchTied P arg rule C w R m.world.tree.tasks V.path o) (parent_apart : o.parent ≢ k) where
      abbrev puts : Live → Live
      puts = with_scope (λ scope. with_end scope o.step.branch how)

      abbrev left : Tasks
      left = remove m.world.tree.tasks k

      abbrev tasks : Tasks
      tasks = changed left o.parent puts

      parent_left : get left o.parent ≡ Some B.parent
      parent_left = removed_other m.world.tree.tasks k o.parent parent_apart ∙ B.parent_is

      parent_now : get tasks o.parent ≡ Some (puts B.parent)
      parent_now = changed_own left o.parent puts parent_left

      other_now : (j : ℕ) → j ≢ o.parent → get tasks j ≡ get left j
      other_now j apart = changed_other left o.parent puts j parent_left apart

      both_now : (j : ℕ) → j ≢ o.parent → j ≢ k → get tasks j ≡ get m.world.tree.tasks j
      both_now j apart away = other_now j apart ∙ removed_other m.world.tree.tasks k j away

      U : LiveTied P arg rule C w R m.world.tree.tasks m.tasks o.parent B.parent
      U = T.live o.parent B.parent B.parent_is

      above_is : U.path ≡ B.above
      above_is = path_one w o.parent U.there B.there

      away : V.path ≡ U.path → ⊥
      away same = apart_paths T.numbers o.parent k U.path V.path U.there V.there parent_apart (sym same)

      F : ForkTied P arg rule C w R U.path U.runs.state B.scope
      F = subst (λ s. ScopeTied P arg rule C w R U.path U.runs.state s) B.state U.scope

      -- the fork's number is that in the path of the branch
      number_is : B.step.0 ≡ count F.before U.path
      number_is =
          let a = B.number in
          let b : count R U.path ≡ length F.since + suc (count F.before U.path) = ap length F.last ∙ length_on F.since in
          let c = F.begun in
          let d : count R U.path ≡ count R B.above = ap (λ p. count R p) above_is in
          omega (arith, a, b, c, d)
        where
          length_on : (es : Run) → length (es ++ F.fork ∷ mine F.before U.path) ≡ length es + suc (count F.before U.path)
          length_on [] = omega arith
          length_on (e ∷ es) = (let r = length_on es in omega (arith, r))

      end_tied : EndTied w (event ∷ R) U.path (count F.before U.path) (0 + o.step.branch) how
      end_tied = record {
        ending = E.ending;
        ended = record { before = R; event = event; stands = now; path = path_so; act = refl };
        trap = trap_is c E.ending E.like;
        slots = slots_are c E.ending E.like;
      }
        where
          step_so : B.step ≡ (count F.before U.path, 0 + o.step.branch)
          step_so = (let a = number_is in let b : B.step.1 ≡ 0 + o.step.branch = (let s = B.branch in omega (arith, s)) in λ z. (a z, b z))

          path_so : V.path ≡ (count F.before U.path, 0 + o.step.branch) ∷ U.path
          path_so = B.is ∙ ap (λ s. s ∷ B.above) step_so ∙ ap (λ p. (count F.before U.path, 0 + o.step.branch) ∷ p) (sym above_is)

      unended_at : slice_get B.scope.ends o.step.branch ≡ Some None
      unended_at = ap (λ b. slice_get B.scope.ends b) B.branch ∙ B.unended

      put_fork : ForkTied P arg rule C w (event ∷ R) U.path U.runs.state (with_end B.scope o.step.branch how)
      put_fork = record {
        before = F.before;
        fork = F.fork;
        stands = later F.stands;
        path = F.path;
        since = F.since;
        last = mine_other event R U.path away ∙ F.last;
        tasks = F.tasks;
        act = F.act;
        many = F.many;
        begun = F.begun ∙ sym (put_length B.scope.ends o.step.branch how);
        within = (let a = F.within in let b = put_length B.scope.ends o.step.branch how in omega (arith, a, b));
        few = (let a = F.few in let b = put_length B.scope.ends o.step.branch how in let t = total_step event_steps event R in omega (arith, a, b, t));
        ends = ends_put w (event ∷ R) U.path (count F.before U.path) 0 B.scope.ends o.step.branch how
            (ends_later P arg rule C (wider_none T.heap.holds.distinct) R event U.path (count F.before U.path) 0 B.scope.ends F.ends) unended_at end_tied;
        at_join = F.at_join;
        starts = F.starts;
        compiled = F.compiled;
        like = F.like;
      }

      OF : OutForks R U.path B.parent.out B.scope
      OF = subst (λ s. OutLive R U.path U.runs.state B.parent.out s) B.state U.out

      -- the number in the path of the branch
      fork_number : B.step.0 ≡ OF.number
      fork_number =
          let a = B.number in
          let b = ap length OF.last ∙ length-append OF.since OF.own in
          let c = since_many OF.begins in
          let d = OF.many in
          let e : count R U.path ≡ count R B.above = ap (λ p. count R p) above_is in
          omega (arith, a, b, c, d, e)

      end_path : V.path ≡ (OF.number, 0 + o.step.branch) ∷ U.path
      end_path = B.is ∙ ap (λ s. s ∷ B.above) step_so ∙ ap (λ p. (OF.number, 0 + o.step.branch) ∷ p) (sym above_is)
        where
          step_so : B.step ≡ (OF.number, 0 + o.step.branch)
          step_so = (let a = fork_number in let b : B.step.1 ≡ 0 + o.step.branch = (let s = B.branch in omega (arith, s)) in λ z. (a z, b z))

      end_out : EndOut (event ∷ R) U.path OF.number (0 + o.step.branch) how
      end_out = record {
        last = event;
        before = mine R V.path;
        ending = E.ending;
        act = refl;
        there = subst (λ p. Upto (event ∷ mine R V.path) (mine (event ∷ R) p)) end_path (subst (λ l. Upto (event ∷ mine R V.path) l) (sym (mine_same event R V.path refl)) now);
        segment = event ∷ H.segment;
        seg = subst (λ p. Seg (event ∷ R) p (event ∷ mine R V.path) (event ∷ H.segment)) end_path (seg_own event refl (λ b i. (cc)) (seg_later event H.seg));
        out = out_is;
        trap = trap_so;
      }

      put_out : OutForks (event ∷ R) U.path B.parent.out (with_end B.scope o.step.branch how)
      put_out = record {
        own = OF.own;
        number = OF.number;
        many = OF.many;
        segment = OF.segment;
        seg = seg_later event OF.seg;
        out_is = OF.out_is;
        fine = OF.fine;
        since = OF.since;
        last = mine_other event R U.path away ∙ OF.last;
        begins = subst (λ n. BeginsSince U.path OF.since n) (sym (put_length B.scope.ends o.step.branch how)) OF.begins;
        ends = ends_out_put (event ∷ R) U.path OF.number 0 B.scope.ends o.step.branch how
            (ends_out_later R event U.path OF.number 0 B.scope.ends OF.ends) unended_at end_out;
      }

      state_now : (puts B.parent).state ≡ Forked (with_end B.scope o.step.branch how)
      state_now = ap (λ s. in_scope (λ scope. with_end scope o.step.branch how) s) B.state

      parent_next : LiveTied P arg rule C w (event ∷ R) tasks n.tasks o.parent (puts B.parent)
      parent_next = record {
        path = U.path;
        there = U.there;
        runs = U.runs;
        runs_so = gone o.parent parent_apart ∙ U.runs_so;
        task = task_later P arg rule C (wider_none T.heap.holds.distinct) R event away U.task;
        origin = origin;
        scope = subst (λ s. ScopeTied P arg rule C w (event ∷ R) U.path U.runs.state s) (sym state_now) put_fork;
        out = subst (λ s. OutLive (event ∷ R) U.path U.runs.state B.parent.out s) (sym state_now) put_out;
      }
        where
          origin : OriginTied P arg rule C w (event ∷ R) tasks U.path B.parent.origin
          origin = origin_later P arg rule C L (wider_none T.heap.holds.distinct) T.numbers event k V.there m.world.tree.tasks tasks U.path B.parent.origin
              (λ z f. (
                childless o.parent B.parent z parent_apart B.parent_is f,
                both_now z.parent (not_itself P arg rule C L w R m.world.tree.tasks o.parent U.there B.parent.origin U.origin z f) (childless o.parent B.parent z parent_apart B.parent_is f),
              )) U.origin

      -- a branch of the same fork
      sibling : (j : ℕ) (q : Path) (u : Origin) → slice_get w.paths j ≡ Some q → j ≢ k → u.parent ≡ o.parent → BranchTied P arg rule C w R m.world.tree.tasks q u
          → BranchTied P arg rule C w (event ∷ R) tasks q u
      sibling j q u there apart same D = record {
        above = D.above;
        step = D.step;
        is = D.is;
        there = D.there;
        branch = D.branch;
        parent = puts B.parent;
        parent_is = ap (λ i. get tasks i) same ∙ parent_now;
        scope = with_end B.scope o.step.branch how;
        state = state_now;
        unended = put_other B.scope.ends o.step.branch D.step.1 how other_branch ∙ unended_so;
        number = (let a = number_so in let b = put_length B.scope.ends o.step.branch how in
            let d : count (event ∷ R) D.above ≡ count R D.above = ap length (mine_other event R D.above (λ s. above_apart B.step V.path B.above B.is (sym aboves ∙ sym s))) in
            omega (arith, a, b, d));
      }
        where
          parents : D.parent ≡ B.parent
          parents = (let both : Some D.parent ≡ Some B.parent = sym D.parent_is ∙ ap (λ i. get m.world.tree.tasks i) same ∙ B.parent_is in cc)

          scopes : D.scope ≡ B.scope
          scopes = (let both : Forked D.scope ≡ Forked B.scope = sym D.state ∙ ap (λ (l : Live). l.state) parents ∙ B.state in cc)

          aboves : D.above ≡ B.above
          aboves = path_one w o.parent (subst (λ i. slice_get w.paths i ≡ Some D.above) same D.there) B.there

          unended_so : slice_get B.scope.ends D.step.1 ≡ Some None
          unended_so = subst (λ (s : Scope). slice_get s.ends D.step.1 ≡ Some None) scopes D.unended

          number_so : suc (D.step.0 + length B.scope.ends) ≡ count R D.above
          number_so = subst (λ (s : Scope). suc (D.step.0 + length s.ends) ≡ count R D.above) scopes D.number

          other_branch : o.step.branch ≡ D.step.1 → ⊥
          other_branch b =
              let first : D.step.0 ≡ B.step.0 = (let a = number_so in let c = B.number in let d : count R D.above ≡ count R B.above = ap (λ p. count R p) aboves in omega (arith, a, c, d)) in
              let second : D.step.1 ≡ B.step.1 = sym b ∙ B.branch in
              let steps : D.step ≡ B.step = λ z. (first z, second z) in
              apart_paths T.numbers j k q V.path there V.there apart (D.is ∙ ap (λ s. s ∷ D.above) steps ∙ ap (λ p. B.step ∷ p) aboves ∙ sym B.is)

      other_next : (j : ℕ) (z : Live) → j ≢ k → j ≢ o.parent → get m.world.tree.tasks j ≡ Some z → LiveTied P arg rule C w (event ∷ R) tasks n.tasks j z
      other_next j z apart away' is =
          live_with P arg rule C L (wider_none T.heap.holds.distinct) T.numbers event k V.there m.world.tree.tasks tasks j z apart (gone j apart) W (origin z.origin refl W.origin)
        where
          W : LiveTied P arg rule C w R m.world.tree.tasks m.tasks j z
          W = T.live j z is

          origin : (u : Option Origin) → z.origin ≡ u → OriginTied P arg rule C w R m.world.tree.tasks W.path u → OriginTied P arg rule C w (event ∷ R) tasks W.path u
          origin None e h = h
          origin (Some u) e h = elim (eqb_tells u.parent o.parent) [
            | inl s ↦ sibling j W.path u W.there apart s.1 h
            | inr s ↦ branch_later P arg rule C L (wider_none T.heap.holds.distinct) T.numbers event k V.there m.world.tree.tasks tasks W.path u (childless j z u apart is e)
                (both_now u.parent s.1 (childless j z u apart is e)) h
          ]

      branch_gone : LiveNext tasks
      branch_gone j z is = elim (eqb_tells j o.parent) [
        | inl s ↦ (let f : get tasks o.parent ≡ Some z = subst (λ i. get tasks i ≡ Some z) s.1 is in
            let same : puts B.parent ≡ z = (let both : Some (puts B.parent) ≡ Some z = sym parent_now ∙ f in cc) in
            subst (λ i. LiveTied P arg rule C w (event ∷ R) tasks n.tasks i z) (sym s.1) (subst (λ z. LiveTied P arg rule C w (event ∷ R) tasks n.tasks o.parent z) same parent_next))
        | inr s ↦ (let r = removed_tells m.world.tree.tasks k j (sym (other_now j s.1) ∙ is) in other_next j z r.0 s.1 r.1)
      ]

    live_next : (o : Option Origin) → y.origin ≡ o → LiveNext (end_noted m.world.tree k o how).tasks
    live_next None e = root_gone
    live_next (Some o) e =
        branch_gone o (subst (λ u. OriginTied P arg rule C w R m.world.tree.tasks V.path u) e V.origin)
        (not_itself P arg rule C L w R m.world.tree.tasks k V.there y.origin V.origin o e)

    abbrev stepped : Stepped code P arg rule L right w R k n
    stepped = record {
      event = event;
      follows = follows;
      there = V.there;
      sight = w;
      tied = record {
        heap = structural (Q P arg rule C) T.heap V.path ticks event refl (λ c. refl) (λ f. refl) refl;
        numbers = numbers_kept {P = Q P arg rule C} event follows refl (wider_none T.heap.holds.distinct) refl (ended_begun m.world.tree k (machine_trap c) (slots_in c)) T.numbers;
        costs = costs_next P arg rule C L m n event (record { steps = refl; cells = omega arith; most_steps = refl; most_cells = refl }) T.costs;
        faithful = (follows, T.faithful);
        live = subst (λ (t : Tree). LiveNext t.tasks) (sym tree_is) (live_next y.origin refl);
      };
    }

    pub end_reported : EndReported w R k n c (out_of (task_at m.world.tree k))
    end_reported = record {
      stepped = stepped;
      ending = E.ending;
      act = refl;
      segment = event ∷ H.segment;
      seg = seg_with event refl (λ b i. (cc)) H;
      out_is = ap out_of y_is ∙ out_is;
      trap = trap_so;
      like = E.like;
    }

    pub ends_next : Matched code P arg rule L right m (event_of k ticks wants (action.End c)) w R k n
    ends_next = record {
      stepped = stepped;
      wider = wider_none T.heap.holds.distinct;
      ticks = refl;
      action = end_alike (ending_alike c E.like);
      answer = went_alike;
    }
