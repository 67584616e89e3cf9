-- The locks of a machine over each event of a recorded run, and that an entry that the machine makes may be made in the run.
use Rattle.std.proofs.Common.{◌≡◌, ◌≢◌, ◌≤◌, ◌<◌, ◌⊎◌, inl, inr, ⊎_elim, ℕ, suc, ◌+◌, ◌-◌, ◌==◌, ℤ, Bool, true, false, cond, not, ◌&&◌, List, [], ◌∷◌, map, length, refl, sym, ap, ap₂, ◌∙◌, subst, Option, Some, None, slice_get, arith, length-append}
use Rattle.std.proofs.lemmas.Bool.Decides.{eqb_tells}
use Rattle.std.specs.Prelude.{is_some}
use Rattle.std.proofs.lemmas.Option.{slice_get_within}
use Rattle.std.specs.Cmp.{nat_cmp_total}
use Rattle.std.specs.FinMap.{get, insert, remove, get-remove}
use Rattle.lang_base.specs.declared.effect.Effect.{Effect as PathEffect}
use Rattle.lang_base.specs.declared.outcome.Limits.{Limits}
use Rattle.lang_typed.specs.Plain.{PlainProgram}
use Rattle.lang_meaning.specs.Actions as meaning
use Rattle.code_instrs.specs.RunsToActions.{Halt, said}
use Rattle.code_instrs.specs.Machine.{Start}
use Rattle.code_instrs.specs.Plain.{PlainCode, plain_code}
use Rattle.code_instrs.specs.declared.code.Code.{Code}
use Rattle.code_scheme.specs.Compiled.{SameAct, SameReply}
use Rattle.runs_theory.specs.Actions.{Action, Begin, Branches, Do, End, Ending, Enter, Exit, Fork, Join, Next, Own, Program, Rule, steps}
use Rattle.runs_theory.specs.Blocks.{Hold, In_block, Out_of, hold, hold_after}
use Rattle.runs_theory.specs.Meaning.{Disciplined}
use Rattle.runs_theory.specs.Objects.{Effect, LocalRegion, Name, Path}
use Rattle.runs_theory.specs.Runs.{Begun, Ended, Event, Faithful, Run, Upto, answers, count, event_steps, later, mine, now, total}
use Rattle.runs_theory.specs.Schedules.{Numbered, begins, branch_is, one_begin, root_is}
use Rattle.runs_theory.specs.Standing.{CanEnter, Inside, Outside, above, standing}
use Rattle.runs_theory.proofs.events.Cost.{total_step}
use Rattle.runs_theory.proofs.runs.Faithful.{agree_self, begun_upto, ended_upto, follows_at, none_after_end, same_task}
use Rattle.runs_theory.proofs.events.Mine.{Found, found as found_mine, mine_at, mine_other, mine_same, mine_step, path_cases}
use Rattle.runs_theory.proofs.runs.Standing.{Opener as RunOpener, above_same, opener_of}
use Rattle.runs_theory.proofs.order.Working.{not_begun}
use Rattle.runs_theory.proofs.events.Numbers.{begins_step, number_one, number_of_begun, number_same}
use Rattle.runs_theory.proofs.events.Upto.{upto_length, upto_none, upto_same, upto_tail}
use Rattle.runs_program.specs.Interfering as run
use Rattle.exec_task.specs.Names.{plain_effect}
use Rattle.exec_task.specs.Halts.{IsActionOf}
use Rattle.exec_task.specs.Tasks.{Says, plain_own}
use Rattle.exec_task.specs.declared.action.Action.{Action as DeclaredAction}
use Rattle.exec_task.specs.declared.action.Action.TheVariants as action
use Rattle.exec_task.specs.declared.action.Own.{Own as DeclaredOwn}
use Rattle.exec_task.specs.declared.action.Own.TheVariants as alone
use Rattle.exec_locks.specs.Locks as locks
use Rattle.exec_locks.specs.Locks.{lists_interfere}
use Rattle.exec_locks.specs.declared.standing.Standing.{Standing as Lock}
use Rattle.exec_locks.specs.declared.standing.Standing.TheVariants.{Opener}
use Rattle.exec_tasks.specs.Scope.{Branches as Scope, with_branch}
use Rattle.exec_tasks.specs.Tree.{Tasks, Tree, branches_begun, changed, changed_to, end_noted, end_of, fresh, joined_task, next_origin, origin_of, printed_task, forked_task, task_at, with_scope, in_scope}
use Rattle.exec_tasks.specs.declared.task.Origin.{Origin}
use Rattle.exec_tasks.specs.declared.task.State.{State as Scoped}
use Rattle.exec_tasks.specs.declared.task.State.TheVariants.{Running as Runs, Forked}
use Rattle.exec_tasks.specs.declared.task.Task.{Task as Live}
use Rattle.exec_tasks.proofs.Numbers.{get_inserted, get_beside, itself}
use Rattle.exec_world.specs.Waits.{wanted as wanted_of}
use Rattle.exec_world.specs.Ready.{IsFreeFor}
use Rattle.exec_world.specs.World.{adopted_by, world_after, trap_in, slots_in}
use Rattle.exec_progress.proofs.Trees.{ended_begun}
use Rattle.exec_world.specs.declared.event.Event.{Event as DeclaredEvent}
use Rattle.exec_world.specs.declared.world.World.{World}
use Rattle.exec_machine.specs.Replay.{Moment, NextOf, after}
use Rattle.exec_machine.specs.Wants.{noted}
use Rattle.runs_simulation.proofs.alike.Sights.{Sight, EffectsLike, OwnLike, ActionLike, HaltLike, asks_like, finished_like, dead_like, rest_like, read_like, write_like, look_like, new_like, print_like, enter_like, exit_like, end_like}
use Rattle.runs_simulation.proofs.events.Asked.{ActionIn, ActionOf, own_like, forking_like, beginning_like, joining_like, same_do, same_fork, same_begin, same_join, same_end, disciplined}
use Rattle.runs_simulation.proofs.events.Acting.{RightFor, event_of, Stepped, found, live, here}
use Rattle.runs_simulation.proofs.tied.Inside.{BlocksTied, EffectsIn, PathsStay, StandTied, adopted_other, adopted_own, branch_above, entered_other, effects_on, entered_own, exited_other, exited_own, gone_other, get_there, gone_own, has_opened, lock_entered, lock_exited, paths_stay, stand_branch, stand_entered, stand_exited, stand_same, stands_out, tells_standing, was_adopted}
use Rattle.runs_simulation.proofs.alike.RunsToActions.{HaltOf}
use Rattle.runs_simulation.proofs.alike.Noted.{OneNumber, lists_like, lists_swap}
use Rattle.runs_simulation.proofs.tied.Ties.{BranchTied, ForkTied, LiveTied, OriginTied, Q, ScopeTied, Tied}
use Rattle.runs_simulation.proofs.tied.Trees.{apart_paths, above_apart, changed_other, changed_own, path_one, removed_other}
use Rattle.runs_simulation.proofs.tied.Waiting.{AllNoted, entry_noted}

-- what is said is one action
pub said_same : (n m : ℕ) (a b : ActionOf) → ◌≡◌ {A = meaning.Reply Name LocalRegion (Start Name LocalRegion)} (Next n a) (Next m b) → a ≡ b
said_same n m a b e = cc

-- an action that is neither an entry nor an exit nor an end
abbrev pub Quiet : Action → Type 0
Quiet a = (h : Hold) → hold_after a h ≡ h

-- neither a fork nor a begin
abbrev pub NoFork : Action → Type 0
NoFork a = ((ts : Branches) → a ≡ Fork ts → ⊥) × ((b : ℕ) → a ≡ Begin b → ⊥)

abbrev pub NotForking : DeclaredAction → Type 0
NotForking (action.Fork forking many) = ⊥
NotForking (action.Begin b) = ⊥
NotForking a = Unit {0}

passes_do : {a : Action} {q : Own} → a ≡ Do q → NoFork a
passes_do {q = q} is = (λ ts e. (let both : Do q ≡ Fork ts = sym is ∙ e in cc), λ b e. (let both : Do q ≡ Begin b = sym is ∙ e in cc))

-- what an event of a machine is in the run, as far as blocks see it
abbrev pub ActsLike : Sight → DeclaredAction → Action → Type 0
ActsLike w (action.Do (alone.Enter effects)) a = (F : List Effect) × (a ≡ Do (Enter F)) × EffectsLike w (map plain_effect effects) F
ActsLike w (action.Do alone.Exit) a = a ≡ Do Exit
ActsLike w (action.End c) a = (x : Ending) × (a ≡ End x)
ActsLike w (action.Begin b) a = a ≡ Begin b
ActsLike w x a = Quiet a

own_seen : {w : Sight} (C : PlainCode) (o : DeclaredOwn) {q : Own} → OwnLike w (plain_own C o) q → ActsLike w (action.Do o) (Do q)
own_seen C alone.Rest rest_like = λ h. refl
own_seen C (alone.Read n i) (read_like n' x j e) = λ h. refl
own_seen C (alone.Write n i v) (write_like n' x j e l) = λ h. refl
own_seen C (alone.Look n) (look_like n' x e) = λ h. refl
own_seen C (alone.NewObject d rs constructor) (new_like c l) = λ h. refl
own_seen C (alone.NewArray region len first) (new_like c l) = λ h. refl
own_seen C (alone.Print bytes) (print_like b) = λ h. refl
own_seen C (alone.Enter effects) (enter_like {F = F} l) = (F, refl, l)
own_seen C alone.Exit exit_like = refl

pub entry_like : {w : Sight} {E : EffectsIn} {q : Own} → OwnLike w (meaning.Enter E) q → (F : List Effect) × (q ≡ Enter F) × EffectsLike w E F
entry_like (enter_like {F = F} l) = (F, refl, l)

pub leave_like : {w : Sight} {q : Own} → OwnLike w meaning.Exit q → q ≡ Exit
leave_like exit_like = refl

pub ending_like : {w : Sight} {e : meaning.Ending ℕ} {c : ActionOf} → ActionLike w (End e) c → (x : Ending) × (c ≡ End x)
ending_like (end_like {f = x} l) = (x, refl)

module _ (C : PlainCode) (P : PlainProgram) {w : Sight} {b : ActionIn} {c : ActionOf} (a : Action) (like : ActionLike w b c) (same : SameAct C P a c) where
  pub own_acts : (o : meaning.Own ℕ (ℕ × ℕ)) → b ≡ Do o → (q : Own) × (a ≡ Do q) × OwnLike w o q
  own_acts o e =
      let h = own_like (subst (λ b. ActionLike w b c) e like) in
      (h.0, same_do C P a h.0 (subst (λ c. SameAct C P a c) h.1 same), h.2)

  acts_like : (x : DeclaredAction) → Says C x b → ActsLike w x a
  acts_like (action.Do o) s = (let h = own_acts (plain_own C o) s in subst (λ a. ActsLike w (action.Do o) a) (sym h.1) (own_seen C o h.2))
  acts_like (action.Fork forking many) s =
      let h = forking_like (subst (λ b. ActionLike w b c) s.1 like) in
      let f = same_fork C P a forking h.0 (subst (λ c. SameAct C P a c) h.1 same) in
      subst Quiet (sym f.1) (λ h. refl)
  acts_like (action.Begin n) s = same_begin C P a n (subst (λ c. SameAct C P a c) (beginning_like (subst (λ b. ActionLike w b c) s like)) same)
  acts_like action.Join s =
      subst Quiet (sym (same_join C P a (subst (λ c. SameAct C P a c) (joining_like (subst (λ b. ActionLike w b c) s like)) same))) (λ h. refl)
  acts_like (action.End e) s =
      (let h = ending_like (subst (λ b. ActionLike w b c) s like) in (h.0, same_end C P a h.0 (subst (λ c. SameAct C P a c) h.1 same)))

  -- neither a fork nor a begin
  pub acts_pass : (x : DeclaredAction) → NotForking x → Says C x b → NoFork a
  acts_pass (action.Do o) n s = passes_do (own_acts (plain_own C o) s).1
  acts_pass action.Join n s =
      let is = same_join C P a (subst (λ c. SameAct C P a c) (joining_like (subst (λ b. ActionLike w b c) s like)) same) in
      (λ ts e. (let both : Join ≡ Fork ts = sym is ∙ e in cc), λ b e. (let both : Join ≡ Begin b = sym is ∙ e in cc))
  acts_pass (action.End z) n s =
      let h = ending_like (subst (λ b. ActionLike w b c) s like) in
      let is = same_end C P a h.0 (subst (λ c. SameAct C P a c) h.1 same) in
      (λ ts e. (let both : End h.0 ≡ Fork ts = sym is ∙ e in cc), λ b e. (let both : End h.0 ≡ Begin b = sym is ∙ e in cc))
  acts_pass (action.Fork forking many) n s = absurd n
  acts_pass (action.Begin b) n s = absurd n

-- the same numbers are live
abbrev pub KeysKept : Tasks → Tasks → Type 0
KeysKept old new = (j : ℕ) → is_some (get new j) ≡ is_some (get old j)

pub some_there : {A : Type 0} (o : Option A) → is_some o ≡ true → (x : A) × (o ≡ Some x)
some_there None e = absurd (cc)
some_there (Some x) e = (x, refl)

pub none_there : {A : Type 0} (o : Option A) → is_some o ≡ false → o ≡ None
none_there None e = refl
none_there (Some x) e = absurd (cc)

pub changed_keys : (tasks : Tasks) (k : ℕ) (f : Live → Live) → KeysKept tasks (changed tasks k f)
changed_keys tasks k f j = go (get tasks k) refl
  where
    go : (o : Option Live) → get tasks k ≡ o → is_some (get (changed_to tasks k o f) j) ≡ is_some (get tasks j)
    go None e = refl
    go (Some x) e = elim (eqb_tells j k) [
      | inl s ↦ ap (λ i. is_some (get (insert tasks k (f x)) i)) s.1 ∙ ap (λ o. is_some o) (get_inserted tasks k (f x)) ∙ sym (ap (λ i. is_some (get tasks i)) s.1 ∙ ap (λ o. is_some o) e)
      | inr s ↦ ap (λ o. is_some o) (get_beside tasks k j (f x) s.1)
    ]

-- an end takes its task away, and no other
pub ended_keys : (w : World) (k : ℕ) (x : _) (slots : _) (j : ℕ) → j ≢ k
    → is_some (get (end_noted w.tree k (origin_of (task_at w.tree k)) (end_of (task_at w.tree k) x slots)).tasks j) ≡ is_some (get w.tree.tasks j)
ended_keys w k x slots j apart = go (origin_of (task_at w.tree k))
  where
    go : (o : Option Origin) → is_some (get (end_noted w.tree k o (end_of (task_at w.tree k) x slots)).tasks j) ≡ is_some (get w.tree.tasks j)
    go None = ap (λ o. is_some o) (removed_other w.tree.tasks k j apart)
    go (Some o) = changed_keys (remove w.tree.tasks k) o.parent _ j ∙ ap (λ o. is_some o) (removed_other w.tree.tasks k j apart)

pub ended_gone : (w : World) (k : ℕ) (x : _) (slots : _)
    → is_some (get (end_noted w.tree k (origin_of (task_at w.tree k)) (end_of (task_at w.tree k) x slots)).tasks k) ≡ false
ended_gone w k x slots = go (origin_of (task_at w.tree k))
  where
    gone : is_some (get (remove w.tree.tasks k) k) ≡ false
    gone = ap (λ o. is_some o) (get-remove nat_cmp_total w.tree.tasks k k ∙ ap (λ b. cond b None (get w.tree.tasks k)) (itself k))

    go : (o : Option Origin) → is_some (get (end_noted w.tree k o (end_of (task_at w.tree k) x slots)).tasks k) ≡ false
    go None = gone
    go (Some o) = changed_keys (remove w.tree.tasks k) o.parent _ k ∙ gone

-- numbers are no more than the branches that have begun
begins_upto : {A B : Run} → Upto A B → begins A ≤ begins B
begins_upto now = omega arith
begins_upto (later {y = e} {ys = S} h) = (let a = begins_upto h in let b = begins_step e S in omega (arith, a, b))

pub numbered_low : {R : Run} {k : ℕ} {p : Path} → Numbered R k p → k ≤ begins R
numbered_low (root_is a b) = omega (arith, b)
numbered_low (branch_is q u G g a b c d n i) =
    (let h = begins_upto b in let s = begins_step g G in let o = ap (λ a. one_begin a) d in omega (arith, h, s, o, i))

-- a task that has ended has made nothing since
ended_mine : (P : Program) → Disciplined P → {R : Run} {q : Path} {z : Ending} → Faithful P R → (g : Ended R q z) → mine R q ≡ g.event ∷ mine g.before q
ended_mine P D {R} {q} {z} faithful g = sym (upto_same (mine_at q g.stands g.path) (same_count (mine R q) refl))
  where
    same_count : (es : Run) → mine R q ≡ es → length (g.event ∷ mine g.before q) ≡ length (mine R q)
    same_count [] i = absurd (upto_none (subst (λ l. Upto (g.event ∷ mine g.before q) l) i (mine_at q g.stands g.path)))
    same_count (e ∷ es) i =
        let at = found_mine R q (subst (λ l. Upto (e ∷ es) l) (sym i) now) in
        let most = none_after_end P D q faithful g.stands g.path g.act at.stands at.path in
        let n = ap length at.mine_is in
        let l = ap length i in
        let up = upto_length (mine_at q g.stands g.path) in
        omega (arith, most, n, l, up)

module _ (code : Code) (P : PlainProgram) (arg : ℤ) (rule : Rule) (L : Limits) (right : RightFor (plain_code code) P) where
  abbrev C : PlainCode
  C = plain_code code

  -- what the event of a recorded run is
  module _ {m n : Moment} {w : Sight} {R : Run} (T : Tied P arg rule C L m w R) (k ticks : ℕ) (wants : Option (List PathEffect)) (a : DeclaredAction)
      (x : NextOf C m k (event_of k ticks wants a)) (S : Stepped code P arg rule L right w R k n) where
    abbrev V : LiveTied P arg rule C w R m.world.tree.tasks m.tasks k (found code P arg rule L right T k ticks wants a x).0
    V = live code P arg rule L right T k ticks wants a x

    path_is : S.event.path ≡ V.path
    path_is = path_one w k S.there V.there

    asks : (Q P arg rule C).meaning V.path V.task.task (answers (mine R V.path)) ≡ Next S.event.ticks S.event.act
    asks =
        let task : S.follows.task ≡ V.task.task = same_task (agree_self R) (subst (λ q. Begun (Q P arg rule C) R q S.follows.task) path_is S.follows.begun) V.task.begun in
        ap (λ t. (Q P arg rule C).meaning V.path t (answers (mine R V.path))) (sym task)
        ∙ subst (λ q. (Q P arg rule C).meaning q S.follows.task (answers (mine R q)) ≡ Next S.event.ticks S.event.act) path_is S.follows.asks

    -- what is said of it in a machine, and what it is in the run
    pub event_by : (K : Type 0) → ((b : ActionIn) (c : ActionOf) → Says C a b → ActionLike w b c → SameAct C P S.event.act c → K) → K
    event_by K use_it =
        let H = here code P arg rule L right T k ticks wants a x in
        go H.like x.stands.is_action (subst (λ r. SameReply C P r (said H.halt)) asks H.same)
      where
        go : {h : Halt ℕ (ℕ × ℕ)} {g : HaltOf} → HaltLike w h g → IsActionOf C a h → SameReply C P (Next S.event.ticks S.event.act) (said g) → K
        go (asks_like ticks made {a = b} {b = c} l on) is_action same =
            let acts : c ≡ same.0 = said_same ticks S.event.ticks c same.0 same.1 in
            use_it b c is_action l (subst (λ c. SameAct C P S.event.act c) (sym acts) same.2)
        go (finished_like ticks {e = e} {f = f} l) is_action same =
            let acts : End f ≡ same.0 = said_same ticks S.event.ticks (End f) same.0 same.1 in
            use_it (End e) (End f) is_action (end_like l) (subst (λ c. SameAct C P S.event.act c) (sym acts) same.2)
        go dead_like is_action same = absurd is_action

    pub event_like : ActsLike w a S.event.act
    event_like = event_by (ActsLike w a S.event.act) (λ b c says like same. acts_like C P S.event.act like same a says)

    pub event_passes : NotForking a → NoFork S.event.act
    event_passes not_forking = event_by (NoFork S.event.act) (λ b c says like same. acts_pass C P S.event.act like same a not_forking says)

  -- the tie of the blocks over an event
  module _ {m : Moment} {w : Sight} {R : Run} (T : Tied P arg rule C L m w R) (short : m.world.steps ≤ 20000001) (B : BlocksTied w R m.world) (wanted : AllNoted C m)
      (k ticks : ℕ) (wants : Option (List PathEffect)) (a : DeclaredAction) (x : NextOf C m k (event_of k ticks wants a))
      (S : Stepped code P arg rule L right w R k (after code m (event_of k ticks wants a) x.stands.state x.stands.made)) where
    abbrev pub n : World
    n = world_after code m.world (event_of k ticks wants a)

    abbrev pub v : Sight
    v = S.sight

    abbrev pub S_run : Run
    S_run = S.event ∷ R

    pub stay : PathsStay w v
    stay = paths_stay T.numbers S.tied.numbers

    more : total event_steps R ≤ total event_steps S_run
    more = (let t = total_step event_steps S.event R in omega (arith, t))

    -- the task of the event is live
    pub own : (y : Live) × (get m.world.tree.tasks k ≡ Some y)
    own = found code P arg rule L right T k ticks wants a x

    own_apart : (j : ℕ) → get m.world.tree.tasks j ≡ None → j ≢ k
    own_apart j e same = (let i = own.1 in let f = ap (λ i. get m.world.tree.tasks i) same in let both : None ≡ Some own.0 = sym e ∙ f ∙ i in cc)

    pub live_path : (j : ℕ) (y : Live) → get m.world.tree.tasks j ≡ Some y → (p : Path) → slice_get v.paths j ≡ Some p → slice_get w.paths j ≡ Some p
    live_path j y is p h = (let U = T.live j y is in subst (λ q. slice_get w.paths j ≡ Some q) (path_one v j (stay j U.path U.there) h) U.there)

    up : (j : ℕ) (y : Live) (p : Path) → get m.world.tree.tasks j ≡ Some y → slice_get w.paths j ≡ Some p → above R p ≡ above S_run p
    up j y p is h =
        let U = T.live j y is in
        subst (λ q. above R q ≡ above S_run q) (path_one w j U.there h)
        (above_same (Q P arg rule C) T.faithful (record { each = λ q. mine_step S.event R q }) U.path U.task.begun)

    hold_other : (p : Path) → (S.event.path ≡ p → ⊥) → hold (mine R p) ≡ hold (mine S_run p)
    hold_other p apart = ap hold (sym (mine_other S.event R p apart))

    hold_own : (p : Path) → S.event.path ≡ p → hold (mine S_run p) ≡ hold_after S.event.act (hold (mine R p))
    hold_own p same = ap hold (mine_same S.event R p same)

    abbrev Stands : ℕ → Type 0
    Stands j = (y : Live) (p : Path) → get m.world.tree.tasks j ≡ Some y → slice_get w.paths j ≡ Some p → StandTied v S_run p (get n.locks j)

    stand_quiet : Quiet S.event.act → (j : ℕ) → get n.locks j ≡ get m.world.locks j → Stands j
    stand_quiet quiet j same y p is h =
        subst (λ s. StandTied v S_run p s) (sym same)
        (stand_same stay more (up j y p is h)
        (⊎_elim (λ e. sym (quiet (hold (mine R p))) ∙ sym (hold_own p e)) (λ apart. hold_other p apart) (path_cases S.event.path p)) (B.stand j y p is h))

    stand_other : (j : ℕ) → j ≢ k → get n.locks j ≡ get m.world.locks j → Stands j
    stand_other j apart same y p is h =
        subst (λ s. StandTied v S_run p s) (sym same)
        (stand_same stay more (up j y p is h) (hold_other p (λ e. apart_paths T.numbers j k p S.event.path h S.there apart (sym e))) (B.stand j y p is h))

    at_own : (j : ℕ) (p : Path) → j ≡ k → slice_get w.paths j ≡ Some p → S.event.path ≡ p
    at_own j p same h = path_one w k S.there (subst (λ i. slice_get w.paths i ≡ Some p) same h)

    -- the numbers of tasks that had begun
    old_path : (j : ℕ) (p : Path) → j < m.world.tree.begun → slice_get v.paths j ≡ Some p → slice_get w.paths j ≡ Some p
    old_path j p l h =
        let many = T.numbers.many in
        let q = get_there w.paths j (omega (arith, l, many)) in
        subst (λ q. slice_get w.paths j ≡ Some q) (path_one v j (stay j q.0 q.1) h) q.1

    ended_later : {p : Path} → ((z : Ending) × Ended R p z) → (z : Ending) × Ended S_run p z
    ended_later e = (e.0, ended_upto (later now) e.1)

    -- where the same tasks are live
    kept_next : n.tree.begun ≡ m.world.tree.begun → KeysKept m.world.tree.tasks n.tree.tasks → ((j : ℕ) → Stands j)
        → ((j : ℕ) → get m.world.tree.tasks j ≡ None → get n.locks j ≡ None) → BlocksTied v S_run n
    kept_next begun keys stands nones = record {
      stand = λ j y p is h. (let old = some_there (get m.world.tree.tasks j) (sym (keys j) ∙ ap (λ o. is_some o) is) in stands j old.0 p old.1 (live_path j old.0 old.1 p h));
      none = λ j e. nones j (none_there (get m.world.tree.tasks j) (sym (keys j) ∙ ap (λ o. is_some o) e));
      there = λ j p h.
          (let within = slice_get_within v.paths j p h in
          let many = S.tied.numbers.many in
          ⊎_elim (λ y. inl (some_there (get n.tree.tasks j) (keys j ∙ ap (λ o. is_some o) y.1))) (λ e. inr (ended_later e))
          (B.there j p (old_path j p (omega (arith, within, many, begun)) h)));
    }

    same_next : Quiet S.event.act → n.tree.begun ≡ m.world.tree.begun → KeysKept m.world.tree.tasks n.tree.tasks → n.locks ≡ m.world.locks → BlocksTied v S_run n
    same_next quiet begun keys same =
        kept_next begun keys (λ j. stand_quiet quiet j (ap (λ l. get l j) same)) (λ j e. ap (λ l. get l j) same ∙ B.none j e)

    -- an entry
    entered_next : (E : EffectsIn) (F : List Effect) → S.event.act ≡ Do (Enter F) → EffectsLike w E F → n.locks ≡ locks.entered m.world.locks k (map noted E)
        → n.tree ≡ m.world.tree → BlocksTied v S_run n
    entered_next E F act like same tree =
        kept_next (ap (λ (t : Tree). t.begun) tree) (λ j. ap (λ (t : Tree). is_some (get t.tasks j)) tree) stands
        (λ j e. ap (λ l. get l j) same ∙ entered_other m.world.locks k (map noted E) j (own_apart j e) ∙ B.none j e)
      where
        stands : (j : ℕ) → Stands j
        stands j y p is h = elim (eqb_tells j k) [
          | inl s ↦ subst (λ o. StandTied v S_run p o) (sym (ap (λ l. get l j) same ∙ ap (λ i. get (locks.entered m.world.locks k (map noted E)) i) s.1
              ∙ entered_own m.world.locks k (map noted E) ∙ ap (λ i. lock_entered (map noted E) (get m.world.locks i)) (sym s.1)))
              (stand_entered stay more (up j y p is h) (hold_own p (at_own j p s.1 h) ∙ ap (λ c. hold_after c (hold (mine R p))) act) (effects_on stay like)
              (let t = total_step event_steps S.event R in let c = ap (λ c. steps c) act in omega (arith, t, c))
              (let c = T.costs.steps in omega (arith, c, short)) (B.stand j y p is h))
          | inr s ↦ stand_other j s.1 (ap (λ l. get l j) same ∙ entered_other m.world.locks k (map noted E) j s.1) y p is h
        ]

    -- an exit
    exited_next : S.event.act ≡ Do Exit → n.locks ≡ locks.exited m.world.locks k → n.tree ≡ m.world.tree → BlocksTied v S_run n
    exited_next act same tree =
        kept_next (ap (λ (t : Tree). t.begun) tree) (λ j. ap (λ (t : Tree). is_some (get t.tasks j)) tree) stands
        (λ j e. ap (λ l. get l j) same ∙ exited_other m.world.locks k j (own_apart j e) ∙ B.none j e)
      where
        stands : (j : ℕ) → Stands j
        stands j y p is h = elim (eqb_tells j k) [
          | inl s ↦ subst (λ o. StandTied v S_run p o) (sym (ap (λ l. get l j) same ∙ ap (λ i. get (locks.exited m.world.locks k) i) s.1
              ∙ exited_own m.world.locks k ∙ ap (λ i. lock_exited (get m.world.locks i)) (sym s.1)))
              (stand_exited stay more (up j y p is h) (hold_own p (at_own j p s.1 h) ∙ ap (λ c. hold_after c (hold (mine R p))) act) (B.stand j y p is h))
          | inr s ↦ stand_other j s.1 (ap (λ l. get l j) same ∙ exited_other m.world.locks k j s.1) y p is h
        ]

    -- an end
    ended_next : (z : Ending) → S.event.act ≡ End z → n.locks ≡ remove m.world.locks k → n.tree.begun ≡ m.world.tree.begun → get n.tree.tasks k ≡ None
        → ((j : ℕ) → j ≢ k → is_some (get n.tree.tasks j) ≡ is_some (get m.world.tree.tasks j)) → BlocksTied v S_run n
    ended_next z act same begun gone keys = record {
      stand = λ j y p is h. elim (eqb_tells j k) [
        | inl s ↦ absurd (let both : None ≡ Some y = sym gone ∙ ap (λ i. get n.tree.tasks i) (sym s.1) ∙ is in cc)
        | inr s ↦ (let old = some_there (get m.world.tree.tasks j) (sym (keys j s.1) ∙ ap (λ o. is_some o) is) in
            stand_other j s.1 (ap (λ l. get l j) same ∙ gone_other m.world.locks k j s.1) old.0 p old.1 (live_path j old.0 old.1 p h))
      ];
      none = λ j e. elim (eqb_tells j k) [
        | inl s ↦ ap (λ l. get l j) same ∙ ap (λ i. get (remove m.world.locks k) i) s.1 ∙ gone_own m.world.locks k
        | inr s ↦ ap (λ l. get l j) same ∙ gone_other m.world.locks k j s.1 ∙ B.none j (none_there (get m.world.tree.tasks j) (sym (keys j s.1) ∙ ap (λ o. is_some o) e))
      ];
      there = λ j p h.
          (let within = slice_get_within v.paths j p h in
          let many = S.tied.numbers.many in
          let old = old_path j p (omega (arith, within, many, begun)) h in
          ⊎_elim (λ (y : (y : Live) × (get m.world.tree.tasks j ≡ Some y)). elim (eqb_tells j k) [
            | inl s ↦ inr (z, record { before = R; event = S.event; stands = now; path = at_own j p s.1 old; act = act })
            | inr s ↦ inl (some_there (get n.tree.tasks j) (keys j s.1 ∙ ap (λ o. is_some o) y.1))
          ]) (λ e. inr (ended_later e)) (B.there j p old));
    }

    -- a begin
    module _ (b : ℕ) (act : S.event.act ≡ Begin b) (same : n.locks ≡ adopted_by m.world.locks k m.world.tree.begun)
        (begun : n.tree.begun ≡ m.world.tree.begun + 1)
        (tree : n.tree.tasks ≡ changed (insert m.world.tree.tasks m.world.tree.begun (fresh (next_origin k (task_at m.world.tree k)))) k (with_scope with_branch)) where
      abbrev c : ℕ
      c = m.world.tree.begun

      quiet : Quiet S.event.act
      quiet h = ap (λ a. hold_after a h) act

      k_apart : k ≢ c
      k_apart same = (let l = slice_get_within w.paths k S.event.path S.there in let many = T.numbers.many in omega (arith, l, many, same))

      -- nobody has the next number yet
      pub absent : get m.world.tree.tasks c ≡ None
      absent = go (get m.world.tree.tasks c) refl
        where
          go : (o : Option Live) → get m.world.tree.tasks c ≡ o → o ≡ None
          go None e = refl
          go (Some y) e = absurd (let U = T.live c y e in let l = slice_get_within w.paths c U.path U.there in let many = T.numbers.many in omega (arith, l, many))

      free : get m.world.locks c ≡ None
      free = B.none c absent

      abbrev child : Live
      child = fresh (next_origin k (Some own.0))

      abbrev inserted : Tasks
      inserted = insert m.world.tree.tasks c child

      tree_is : n.tree.tasks ≡ changed inserted k (with_scope with_branch)
      tree_is = tree ∙ ap (λ o. changed (insert m.world.tree.tasks c (fresh (next_origin k o))) k (with_scope with_branch)) own.1

      k_inserted : get inserted k ≡ Some own.0
      k_inserted = get_beside m.world.tree.tasks c k child k_apart ∙ own.1

      pub k_now : get n.tree.tasks k ≡ Some (with_scope with_branch own.0)
      k_now = ap (λ ts. get ts k) tree_is ∙ changed_own inserted k (with_scope with_branch) k_inserted

      c_now : get n.tree.tasks c ≡ Some child
      c_now = ap (λ ts. get ts c) tree_is ∙ changed_other inserted k (with_scope with_branch) c k_inserted (λ s. k_apart (sym s)) ∙ get_inserted m.world.tree.tasks c child

      pub keys : (j : ℕ) → j ≢ c → is_some (get n.tree.tasks j) ≡ is_some (get m.world.tree.tasks j)
      keys j apart = ap (λ ts. is_some (get ts j)) tree_is ∙ changed_keys inserted k (with_scope with_branch) j ∙ ap (λ o. is_some o) (get_beside m.world.tree.tasks c j child apart)

      pub others_begun : (j : ℕ) → j ≢ c → j ≢ k → get n.tree.tasks j ≡ get m.world.tree.tasks j
      others_begun j apart other =
          ap (λ ts. get ts j) tree_is ∙ changed_other inserted k (with_scope with_branch) j k_inserted other ∙ get_beside m.world.tree.tasks c j child apart

      old_locks : (j : ℕ) → j ≢ c → get n.locks j ≡ get m.world.locks j
      old_locks j apart = ap (λ l. get l j) same ∙ adopted_other m.world.locks k c j apart

      stand_child : (y : Live) (p : Path) → get n.tree.tasks c ≡ Some y → slice_get v.paths c ≡ Some p → StandTied v S_run p (get n.locks c)
      stand_child y p is h = by_origin y.origin (ap (λ (z : Live). z.origin) same_child) U.origin
        where
          same_child : y ≡ child
          same_child = (let both : Some y ≡ Some child = sym is ∙ c_now in cc)

          U : LiveTied P arg rule C v S_run n.tree.tasks (after code m (event_of k ticks wants a) x.stands.state x.stands.made).tasks c y
          U = S.tied.live c y is

          origin : Origin
          origin = record { parent = k; step = record { scope = own.0.forks - 1; branch = branches_begun own.0.state } }

          path_so : U.path ≡ p
          path_so = path_one v c U.there h

          by_branch : BranchTied P arg rule C v S_run n.tree.tasks U.path origin → StandTied v S_run p (get n.locks c)
          by_branch D =
              subst (λ o. StandTied v S_run p o) (sym (ap (λ l. get l c) same ∙ adopted_own m.world.locks k c free))
              (stand_branch k (stay k S.event.path S.there) up_so none_so stand_parent)
            where
              above_is : D.above ≡ S.event.path
              above_is = path_one v k D.there (stay k S.event.path S.there)

              p_is : p ≡ D.step ∷ S.event.path
              p_is = sym path_so ∙ D.is ∙ ap (λ q. D.step ∷ q) above_is

              W : LiveTied P arg rule C v S_run n.tree.tasks (after code m (event_of k ticks wants a) x.stands.state x.stands.made).tasks k D.parent
              W = S.tied.live k D.parent D.parent_is

              w_path : W.path ≡ S.event.path
              w_path = path_one v k W.there (stay k S.event.path S.there)

              F : ForkTied P arg rule C v S_run S.event.path W.runs.state D.scope
              F = subst (λ q. ForkTied P arg rule C v S_run q W.runs.state D.scope) w_path (subst (λ s. ScopeTied P arg rule C v S_run W.path W.runs.state s) D.state W.scope)

              number : suc (D.step.0 + length D.scope.ends) ≡ count S_run S.event.path
              number = D.number ∙ ap (λ q. count S_run q) above_is

              up_so : above S_run p ≡ standing S_run S.event.path
              up_so = ap (λ q. above S_run q) p_is ∙ branch_above P arg rule C S.tied.faithful F D.step number

              -- the scope has one branch more
              scope_so : (s : Scoped) → in_scope with_branch s ≡ Forked D.scope → length D.scope.ends ≡ suc (branches_begun s)
              scope_so Runs e = absurd (cc)
              scope_so (Forked sc) e =
                  let same : with_branch sc ≡ D.scope = cc in
                  ap (λ (z : Scope). length z.ends) (sym same) ∙ (let l = length-append sc.ends (None ∷ []) in omega (arith, l))

              ends_are : length D.scope.ends ≡ suc D.step.1
              ends_are =
                  let parent : D.parent ≡ with_scope with_branch own.0 = (let both : Some D.parent ≡ Some (with_scope with_branch own.0) = sym D.parent_is ∙ k_now in cc) in
                  scope_so own.0.state (ap (λ (z : Live). z.state) (sym parent) ∙ D.state) ∙ ap (λ n. suc n) D.branch

              counted : count R S.event.path ≡ suc (D.step.0 + D.step.1)
              counted = (let e = ap length (mine_same S.event R S.event.path refl) in let f = ends_are in omega (arith, number, e, f))

              none_so : hold (mine S_run p) ≡ Out_of
              none_so = ap (λ q. hold (mine S_run q)) p_is ∙ ap hold (mine_other S.event R (D.step ∷ S.event.path) (λ s. above_apart D.step (D.step ∷ S.event.path) S.event.path refl s)
                  ∙ not_begun (Q P arg rule C) (disciplined P arg rule C) R S.event.path D.step.0 D.step.1 T.faithful counted)

              stand_parent : StandTied v S_run S.event.path (get m.world.locks k)
              stand_parent = subst (λ o. StandTied v S_run S.event.path o) (old_locks k k_apart) (stand_quiet quiet k (old_locks k k_apart) own.0 S.event.path own.1 S.there)

          by_origin : (o : Option Origin) → o ≡ Some origin → OriginTied P arg rule C v S_run n.tree.tasks U.path o → StandTied v S_run p (get n.locks c)
          by_origin None e D = absurd (cc)
          by_origin (Some o) e D = (let same : o ≡ origin = cc in by_branch (subst (λ o. BranchTied P arg rule C v S_run n.tree.tasks U.path o) same D))

      begun_next : BlocksTied v S_run n
      begun_next = record {
        stand = λ j y p is h. elim (eqb_tells j c) [
          | inl s ↦ subst (λ i. StandTied v S_run p (get n.locks i)) (sym s.1)
              (stand_child y p (subst (λ i. get n.tree.tasks i ≡ Some y) s.1 is) (subst (λ i. slice_get v.paths i ≡ Some p) s.1 h))
          | inr s ↦ (let old = some_there (get m.world.tree.tasks j) (sym (keys j s.1) ∙ ap (λ o. is_some o) is) in
              stand_quiet quiet j (old_locks j s.1) old.0 p old.1 (live_path j old.0 old.1 p h))
        ];
        none = λ j e. elim (eqb_tells j c) [
          | inl s ↦ absurd (let both : None ≡ Some child = sym e ∙ ap (λ i. get n.tree.tasks i) s.1 ∙ c_now in cc)
          | inr s ↦ old_locks j s.1 ∙ B.none j (none_there (get m.world.tree.tasks j) (sym (keys j s.1) ∙ ap (λ o. is_some o) e))
        ];
        there = λ j p h. elim (eqb_tells j c) [
          | inl s ↦ inl (child, ap (λ i. get n.tree.tasks i) s.1 ∙ c_now)
          | inr s ↦ (let within = slice_get_within v.paths j p h in
              let many = S.tied.numbers.many in
              ⊎_elim (λ y. inl (some_there (get n.tree.tasks j) (keys j s.1 ∙ ap (λ o. is_some o) y.1))) (λ e. inr (ended_later e))
              (B.there j p (old_path j p (before within many s.1) h)))
        ];
      }
        where
          before : {j : ℕ} → j < length v.paths → length v.paths ≡ n.tree.begun → j ≢ c → j < c
          before within many apart = (omega (arith, within, many, begun, apart))

  -- over any event
  module _ {m : Moment} {w : Sight} {R : Run} (T : Tied P arg rule C L m w R) (short : m.world.steps ≤ 20000001) (B : BlocksTied w R m.world) (wanted : AllNoted C m)
      (k ticks : ℕ) (wants : Option (List PathEffect)) where
    abbrev Next_blocks : DeclaredAction → Type 0
    Next_blocks a = (x : NextOf C m k (event_of k ticks wants a)) (S : Stepped code P arg rule L right w R k (after code m (event_of k ticks wants a) x.stands.state x.stands.made))
        → BlocksTied S.sight (S.event ∷ R) (world_after code m.world (event_of k ticks wants a))

    blocks_any : (a : DeclaredAction) → Next_blocks a
    blocks_any (action.Do (alone.Print bytes)) x S =
        same_next T short B wanted k ticks wants (action.Do (alone.Print bytes)) x S (event_like T k ticks wants (action.Do (alone.Print bytes)) x S) refl
        (changed_keys m.world.tree.tasks k (printed_task bytes)) refl
    blocks_any (action.Do (alone.Enter effects)) x S =
        let e = event_like T k ticks wants (action.Do (alone.Enter effects)) x S in
        entered_next T short B wanted k ticks wants (action.Do (alone.Enter effects)) x S (map plain_effect effects) e.0 e.1 e.2
        (ap (λ o. locks.entered m.world.locks k (wanted_of o)) (entry_noted C m k ticks wants effects x wanted)) refl
    blocks_any (action.Do alone.Exit) x S =
        exited_next T short B wanted k ticks wants (action.Do alone.Exit) x S (event_like T k ticks wants (action.Do alone.Exit) x S) refl refl
    blocks_any (action.Do o) x S = same_next T short B wanted k ticks wants (action.Do o) x S (event_like T k ticks wants (action.Do o) x S) refl (λ j. refl) refl
    blocks_any (action.Fork forking many) x S =
        same_next T short B wanted k ticks wants (action.Fork forking many) x S (event_like T k ticks wants (action.Fork forking many) x S) refl
        (changed_keys m.world.tree.tasks k (forked_task many)) refl
    blocks_any action.Join x S =
        same_next T short B wanted k ticks wants action.Join x S (event_like T k ticks wants action.Join x S) refl (changed_keys m.world.tree.tasks k joined_task) refl
    blocks_any (action.Begin b) x S = begun_next T short B wanted k ticks wants (action.Begin b) x S b (event_like T k ticks wants (action.Begin b) x S) refl refl refl
    blocks_any (action.End c) x S =
        let e = event_like T k ticks wants (action.End c) x S in
        ended_next T short B wanted k ticks wants (action.End c) x S e.0 e.1 refl (ended_begun m.world.tree k (trap_in c) (slots_in c))
        (none_there _ (ended_gone m.world k (trap_in c) (slots_in c))) (λ j apart. ended_keys m.world k (trap_in c) (slots_in c) j apart)

    -- where the machine makes an entry, so may the run
    not_quiet : (E : List Effect) (a : Action) → Quiet a → a ≡ Do (Enter E) → ⊥
    not_quiet E a q e = (let both : In_block 0 E ≡ Out_of = subst Quiet e q Out_of in cc)

    module _ (effects : List PathEffect) (x : NextOf C m k (event_of k ticks wants (action.Do (alone.Enter effects))))
        (p : Path) (own_path : slice_get w.paths k ≡ Some p) (F : List Effect) (like : EffectsLike w (map plain_effect effects) F) where
      abbrev E_in : EffectsIn
      E_in = map plain_effect effects

      may : locks.MayEnter m.world.locks k (map noted E_in)
      may = subst (λ o. IsFreeFor m.world.locks k o) (entry_noted C m k ticks wants effects x wanted) x.ready.1

      one : OneNumber w
      one i j q a b = number_same (T.numbers.numbered i q a) (T.numbers.numbered j q b)

      -- the opener of a block is live, and has the block
      record Holder (q : Path) (G : List Effect) : Type 0 where
        number : ℕ
        path : slice_get w.paths number ≡ Some q
        depth : ℕ
        noted_as : EffectsIn
        lock : get m.world.locks number ≡ Some (Opener (map noted noted_as) depth)
        alike : EffectsLike w noted_as G

      holder : (q : Path) (G : List Effect) → standing R q ≡ Inside q G → Holder q G
      holder q G stands = live_or (B.there number.0 q path_so)
        where
          O : RunOpener R q G
          O = opener_of R q G stands

          first_event : (es : Run) → mine R q ≡ es → hold es ≡ In_block O.depth G → (e : Event) × (es : Run) × (mine R q ≡ e ∷ es)
          first_event [] i h = absurd (cc)
          first_event (e ∷ es) i h = (e, es, i)

          last : (e : Event) × (es : Run) × (mine R q ≡ e ∷ es)
          last = first_event (mine R q) refl O.held

          at : Found R q last.0 last.1
          at = found_mine R q (subst (λ l. Upto (last.0 ∷ last.1) l) (sym last.2) now)

          begun_so : Begun (Q P arg rule C) R q (follows_at (Q P arg rule C) at.stands T.faithful).task
          begun_so = begun_upto (upto_tail at.stands) (subst (λ r. Begun (Q P arg rule C) at.before r (follows_at (Q P arg rule C) at.stands T.faithful).task) at.path
              (follows_at (Q P arg rule C) at.stands T.faithful).begun)

          number : (j : ℕ) × Numbered R j q
          number = number_of_begun begun_so

          path_so : slice_get w.paths number.0 ≡ Some q
          path_so =
              let low = numbered_low number.1 in
              let many = T.numbers.many in
              let counted = T.numbers.count in
              let r = get_there w.paths number.0 (omega (arith, low, many, counted)) in
              subst (λ z. slice_get w.paths number.0 ≡ Some z) (number_one (T.numbers.numbered number.0 r.0 r.1) number.1) r.1

          ended_out : (z : Ending) → Ended R q z → ⊥
          ended_out z g =
              let nothing = ended_mine (Q P arg rule C) (disciplined P arg rule C) T.faithful g in
              let both : In_block O.depth G ≡ Out_of = sym O.held ∙ ap hold nothing ∙ ap (λ a. hold_after a (hold (mine g.before q))) g.act in cc

          held_by : {s : Option Lock} → StandTied w R q s → get m.world.locks number.0 ≡ s → Holder q G
          held_by (stands_out a o) i = absurd (let both : In_block O.depth G ≡ Out_of = sym O.held ∙ o in cc)
          held_by (was_adopted j d r H a t open_so within) i = absurd (let both : Outside ≡ Inside r H = sym O.outside ∙ a in cc)
          held_by (has_opened d dd D H a h l e b) i =
              let both : In_block d H ≡ In_block O.depth G = sym h ∙ O.held in
              let same : H ≡ G = cc in
              record { number = number.0; path = path_so; depth = dd; noted_as = D; lock = i; alike = subst (λ H. EffectsLike w D H) same l }

          live_or : ((y : Live) × (get m.world.tree.tasks number.0 ≡ Some y)) ⊎ ((z : Ending) × Ended R q z) → Holder q G
          live_or (inl y) = held_by (B.stand number.0 y.0 q y.1 path_so) refl
          live_or (inr e) = absurd (ended_out e.0 e.1)

      apart_so : standing R p ≡ Outside → (q : Path) (G : List Effect) → standing R q ≡ Inside q G → run.lets G F ≡ true
      apart_so out q G stands = ap (λ b. not b) none_meets
        where
          H : Holder q G
          H = holder q G stands

          y : (y : Live) × (get m.world.tree.tasks k ≡ Some y)
          y = found code P arg rule L right T k ticks wants (action.Do (alone.Enter effects)) x

          outside : get m.world.locks k ≡ None
          outside = tells_standing (B.stand k y.0 p y.1 own_path) out

          other_number : H.number ≢ k
          other_number same =
              let paths : p ≡ q = path_one w k own_path (subst (λ i. slice_get w.paths i ≡ Some q) same H.path) in
              let both : Outside ≡ Inside q G = sym out ∙ ap (λ r. standing R r) paths ∙ stands in cc

          free : locks.IsFree m.world.locks k (map noted E_in)
          free = ⊎_elim (λ i. absurd (let no : false ≡ true = ap (λ o. is_some o) (sym outside) ∙ i in cc)) (λ f. f) may

          not_own : (H.number == k) ≡ false
          not_own = elim (eqb_tells H.number k) [ inl s ↦ absurd (other_number s.1) | inr s ↦ s.0 ]

          clear : (a b c : Bool) → a ≡ false → b ≡ false → ((not a && not b) && c) ≡ c
          clear a b c e f = ap₂ (λ a b. (not a && not b) && c) e f

          meets : locks.lists_interfere (map noted E_in) (map noted H.noted_as) ≡ false
          meets =
              sym (ap (λ o. locks.block_interferes o (map noted E_in)) H.lock)
              ∙ sym (clear (H.number == k) (locks.opened_for (get m.world.locks k) H.number) (locks.block_interferes (get m.world.locks H.number) (map noted E_in)) not_own
              (ap (λ o. locks.opened_for o H.number) outside)) ∙ free H.number

          none_meets : run.lists_interfere G F ≡ false
          none_meets = sym (lists_like w one H.alike like) ∙ lists_swap (map noted H.noted_as) (map noted E_in) ∙ meets

    -- an entry of the run is one of the machine
    abbrev Enters : DeclaredAction → Type 0
    Enters a = (x : NextOf C m k (event_of k ticks wants a)) (n : Moment)
        → (S : Stepped code P arg rule L right w R k n) (F : List Effect) → S.event.act ≡ Do (Enter F) → CanEnter run.lets R S.event.path F

    enters_any : (a : DeclaredAction) → Enters a
    enters_any (action.Do (alone.Enter effects)) x n S F act = record { clear = λ out q G stands. apart_so effects x S.event.path S.there F like out q G stands }
      where
        e : ActsLike w (action.Do (alone.Enter effects)) S.event.act
        e = event_like T k ticks wants (action.Do (alone.Enter effects)) x S

        like : EffectsLike w (map plain_effect effects) F
        like = subst (λ H. EffectsLike w (map plain_effect effects) H) (same_entry e.0 F (sym e.1 ∙ act)) e.2
          where
            same_entry : (H G : List Effect) → ◌≡◌ {A = Action} (Do (Enter H)) (Do (Enter G)) → H ≡ G
            same_entry H G e = cc
    enters_any (action.Do alone.Rest) x n S F act = absurd (not_quiet F S.event.act (event_like T k ticks wants (action.Do alone.Rest) x S) act)
    enters_any (action.Do (alone.Read i j)) x n S F act = absurd (not_quiet F S.event.act (event_like T k ticks wants (action.Do (alone.Read i j)) x S) act)
    enters_any (action.Do (alone.Write i j u)) x n S F act = absurd (not_quiet F S.event.act (event_like T k ticks wants (action.Do (alone.Write i j u)) x S) act)
    enters_any (action.Do (alone.Look i)) x n S F act = absurd (not_quiet F S.event.act (event_like T k ticks wants (action.Do (alone.Look i)) x S) act)
    enters_any (action.Do (alone.NewObject d rs constructor)) x n S F act =
        absurd (not_quiet F S.event.act (event_like T k ticks wants (action.Do (alone.NewObject d rs constructor)) x S) act)
    enters_any (action.Do (alone.NewArray region len first)) x n S F act =
        absurd (not_quiet F S.event.act (event_like T k ticks wants (action.Do (alone.NewArray region len first)) x S) act)
    enters_any (action.Do (alone.Print bytes)) x n S F act = absurd (not_quiet F S.event.act (event_like T k ticks wants (action.Do (alone.Print bytes)) x S) act)
    enters_any (action.Fork forking many) x n S F act = absurd (not_quiet F S.event.act (event_like T k ticks wants (action.Fork forking many) x S) act)
    enters_any action.Join x n S F act = absurd (not_quiet F S.event.act (event_like T k ticks wants action.Join x S) act)
    enters_any (action.Do alone.Exit) x n S F act = absurd (let both : Do Exit ≡ Do (Enter F) = sym (event_like T k ticks wants (action.Do alone.Exit) x S) ∙ act in cc)
    enters_any (action.Begin b) x n S F act = absurd (let both : Begin b ≡ Do (Enter F) = sym (event_like T k ticks wants (action.Begin b) x S) ∙ act in cc)
    enters_any (action.End c) x n S F act = absurd (let e = event_like T k ticks wants (action.End c) x S in let both : End e.0 ≡ Do (Enter F) = sym e.1 ∙ act in cc)

  -- of any task
  module _ {m : Moment} {w : Sight} {R : Run} (T : Tied P arg rule C L m w R) (short : m.world.steps ≤ 20000001) (B : BlocksTied w R m.world) (wanted : AllNoted C m) (k : ℕ)
      (e : DeclaredEvent) where
    pub blocks_next : (x : NextOf C m k e) (S : Stepped code P arg rule L right w R k (after code m e x.stands.state x.stands.made))
        → BlocksTied S.sight (S.event ∷ R) (world_after code m.world e)
    blocks_next x S =
        subst (λ j. (x : NextOf C m j e) (S : Stepped code P arg rule L right w R j (after code m e x.stands.state x.stands.made))
        → BlocksTied S.sight (S.event ∷ R) (world_after code m.world e)) x.stands.number (λ x S. blocks_any T short B wanted e.task e.ticks e.wants e.action x S) x S

    pub entry_allowed : (x : NextOf C m k e) (n : Moment) (S : Stepped code P arg rule L right w R k n) (F : List Effect)
        → S.event.act ≡ Do (Enter F) → CanEnter run.lets R S.event.path F
    entry_allowed x n S F act =
        subst (λ j. (x : NextOf C m j e) (S : Stepped code P arg rule L right w R j n) → S.event.act ≡ Do (Enter F)
        → CanEnter run.lets R S.event.path F) x.stands.number (λ x S act. enters_any T short B wanted e.task e.ticks e.wants e.action x n S F act) x S act
