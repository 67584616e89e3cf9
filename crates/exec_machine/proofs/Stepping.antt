-- From what a machine does at an event to the move of its run.
use Rattle.std.proofs.Common.{arith, ◌≡◌, ◌≢◌, ◌<◌, ◌≤◌, ℕ, zero, suc, slice_get, length, List, [], ◌∷◌, ◌++◌, refl, sym, ap, subst, ◌∙◌, Option, Some, None, Bool, true, false, IsTrue, ◌↔◌, Result, Ok, Err, OnOk}
use Rattle.std.proofs.lemmas.List.{length-map}
use Rattle.std.specs.FinMap.{FinMap, get, insert, remove}
use Rattle.std.specs.Ordering.{nat_cmp}
use Rattle.lang_base.specs.declared.outcome.Limits.{Limits}
use Rattle.lang_base.specs.declared.outcome.Outcome.{Outcome}
use Rattle.code_instrs.specs.declared.code.Code.{Code}
use Rattle.code_instrs.specs.RunsToActions.{Halt, RunsToAction}
use Rattle.code_instrs.specs.Plain.{PlainCode, plain_code}
use Rattle.exec_task.specs.Answers.{IsCounted}
use Rattle.exec_task.specs.Halts.{IsActionOf, front_of}
use Rattle.exec_task.specs.Names.{names_of}
use Rattle.exec_task.specs.Branches.{starts_at}
use Rattle.exec_task.specs.Tasks.{state_of, plain_start}
use Rattle.exec_task.specs.declared.task.Start.{Start}
use Rattle.exec_task.specs.declared.action.Action.{Action}
use Rattle.exec_task.specs.declared.action.Action.TheVariants as action
use Rattle.exec_task.specs.declared.action.Answer.{Answer}
use Rattle.exec_task.specs.declared.action.Ending.{Ending}
use Rattle.exec_world.specs.Costs.{Within}
use Rattle.exec_world.specs.World.{Fits, answer_at, answer_to, world_after}
use Rattle.exec_world.specs.declared.event.Event.{Event}
use Rattle.exec_world.specs.declared.world.World.{World}
use Rattle.exec_machine.specs.declared.run.Run.{Run}
use Rattle.exec_machine.specs.declared.slot.Slot.{Slot}
use Rattle.exec_machine.specs.Running.{Running, front, answered, OfSlot, OnItsWay, StandsWith, StandsForOne, AllStand, IsFirst, at_start, Goes}
use Rattle.exec_machine.specs.Replay.{Moment, NextOf, CanBeMade, StartsIn, HasStart, IsStuck, Moves, made, over, after, limited, with_task, with_branch, goes_on, outcome_after, begun}
use Rattle.exec_machine.specs.Keeping.{Keeps, HasNext, CanStep, IsAt, Comes, made as made_so, over as over_so, with_answer}
use Rattle.exec_machine.specs.MadeEvents.{NextIn, IsMade, comes_within, comes_beyond, MakesIn, answer_in, at_limit}
use Rattle.exec_machine.specs.Wants.{WantsRightly}
use Rattle.exec_machine.proofs.Acting.{IsOrdinary, goes_further, counted}
use Rattle.exec_machine.proofs.Maps.{got, gone}
use Rattle.exec_machine.proofs.Tasks.{stand_put, stand_taken, beside, placed}

-- the event at which a task is kept is its next
pub next_in : (C : PlainCode) (r : Run) (m : Moment) (e : Event) (s : Slot) → HasNext C r m e.task → get r.slots e.task ≡ Some s → IsAt C e s → NextIn C m e s
next_in C r m e s h there at =
    let live = h.goes.live e.task h.ready in
    let stands : StandsForOne C e.task (Some s) (Some live.0) =
    subst (λ o. StandsForOne C e.task o (Some live.0)) there (subst (λ o. StandsForOne C e.task (get r.slots e.task) o) live.1 (h.keeps.stand e.task)) in
    let way : OnItsWay C e.task s.task live.0 = subst (λ o. StandsWith C e.task s.task o live.0) at.stands.given stands in
    let here : front_of C s.task ≡ front C e.task e.ticks s.task.made (state_of s.task) =
    ap (λ n. front C n s.task.ticks s.task.made (state_of s.task)) way.number ∙ ap (λ n. front C e.task n s.task.made (state_of s.task)) (sym at.ticks) in
    record {
      next = record {
        unfinished = h.unfinished;
        ready = h.ready;
        task = live.0;
        there = live.1;
        stands = record {
          state = state_of s.task;
          made = s.task.made;
          run_to_action = subst (λ f. RunsToAction (names_of e.task) C live.0.made live.0.state f) here (way.way (front_of C s.task) at.stands.halts);
          is_action = subst (λ f. IsActionOf C e.action f) here at.stands.is_action;
          number = refl;
          wants = subst (λ n. WantsRightly C (state_of s.task) n e.action e.wants) (sym at.ticks) at.wants;
        };
      };
      number = way.number;
      state = refl;
      made = refl;
      ticks = at.ticks;
    }

-- it stands for what comes of its answer
answered_one : (C : PlainCode) (k : ℕ) (s : Slot) (x : Answer) (o : Option Running) → s.task.number ≡ k → IsCounted x
    → answered (front C k s.task.ticks s.task.made (state_of s.task)) x ≡ o → (t : Running) → o ≡ Some t
    → StandsForOne C k (Some (record { task = s.task; pending = Some x })) o
answered_one C k s x o number counted is t some =
    subst (StandsForOne C k (Some (record { task = s.task; pending = Some x }))) (sym some)
    (record {
      number = number;
      goes_on = ap (λ n. answered (front C n s.task.ticks s.task.made (state_of s.task)) x) number ∙ is ∙ some;
      counted = counted;
    })

-- what a step leaves
abbrev pub Moved : Code → Limits → Moment → ℕ → Run → Type 0
Moved code L m k new = (n : Moment) × Moves code L m k n × Keeps (plain_code code) new n

module _ (code : Code) (L : Limits) (old new : Run) (m : Moment) (e : Event) where
  -- a run that a limit has finished
  finished : Keeps (plain_code code) old m → (x : NextOf (plain_code code) m e.task e) → CanBeMade (plain_code code) m.world e x.stands.state
      → (Within code old.world e → ⊥)
      → new ≡ record { world = old.world; slots = old.slots; schedule = old.schedule ++ e.task ∷ []; outcome = Some (limited L) }
      → IsMade code L m e x new
  finished keeps x can refused is = comes_beyond can (λ w. refused (subst (λ v. Within code v e) (sym keeps.world) w)) (record {
    world = ap (λ r. r.world) is ∙ keeps.world;
    outcome = ap (λ r. r.outcome) is;
    stand = subst (λ slots. AllStand (plain_code code) slots m.tasks) (sym (ap (λ r. r.slots) is)) keeps.stand;
  })

  -- its slot has the answer
  answer_kept : (slots : FinMap nat_cmp Slot) (s : Slot) (outcome : Option Outcome) → Keeps (plain_code code) old m
      → new ≡ record {
        world = world_after code old.world e;
        slots = with_answer slots e.task s (answer_to old.world e);
        schedule = old.schedule ++ e.task ∷ [];
        outcome = outcome;
      } → answer_in (get new.slots e.task) ≡ answer_to m.world e
  answer_kept slots s outcome keeps is =
      ap (λ (r : Run). answer_in (get r.slots e.task)) is ∙ ap answer_in (got slots e.task (record { task = s.task; pending = Some (answer_to old.world e) }))
      ∙ ap (λ w. answer_to w e) keeps.world

  -- the halt that is answered is that of the task as it is kept
  halt_is : (s : Slot) (x : NextIn (plain_code code) m e s)
      → front (plain_code code) e.task s.task.ticks s.task.made (state_of s.task) ≡ front (plain_code code) e.task e.ticks x.next.stands.made x.next.stands.state
  halt_is s x =
      ap (λ n. front (plain_code code) e.task n s.task.made (state_of s.task)) (sym x.ticks)
      ∙ ap (λ n. front (plain_code code) e.task e.ticks n (state_of s.task)) (sym x.made)
      ∙ ap (front (plain_code code) e.task e.ticks x.next.stands.made) (sym x.state)

  -- the slot with the answer stands for the task that goes on
  answered_here : (s : Slot) → Keeps (plain_code code) old m → (x : NextIn (plain_code code) m e s) → Fits old.world e
      → ((y : Ending) → e.action ≡ action.End y → ⊥)
      → ((h : Halt ℕ (ℕ × ℕ)) (a : Answer) → goes_on e.action h a ≡ answered h a)
      → StandsForOne (plain_code code) e.task (Some (record { task = s.task; pending = Some (answer_to old.world e) }))
      (goes_on e.action (front (plain_code code) e.task e.ticks x.next.stands.made x.next.stands.state) (answer_to m.world e))
  answered_here s keeps x fits no_end on =
      let h : Halt ℕ (ℕ × ℕ) = front (plain_code code) e.task e.ticks x.next.stands.made x.next.stands.state in
      let further = goes_further (plain_code code) e.action h (answer_to m.world e) no_end x.next.stands.is_action in
      answered_one (plain_code code) e.task s (answer_to old.world e) (goes_on e.action h (answer_to m.world e)) x.number
      (counted old.world e.task e.wants e.action fits)
      (ap (λ g. answered g (answer_to old.world e)) (halt_is s x) ∙ ap (λ w. answered h (answer_to w e)) keeps.world ∙ sym (on h (answer_to m.world e))) further.0
      (on h (answer_to m.world e) ∙ further.1)

  -- an event after which the task goes on
  pub went_on : (s : Slot) → HasNext (plain_code code) old m e.task → (x : NextIn (plain_code code) m e s) → Fits old.world e → IsOrdinary e.action
      → Comes code L old e (with_answer old.slots e.task s (answer_to old.world e)) old.outcome new
      → IsMade code L m e x.next new
  went_on s h x fits ord (over_so refused is) =
      finished h.keeps x.next (record { fits = subst (λ w. Fits w e) h.keeps.world fits; starts = ord.start (plain_code code) x.next.stands.state }) refused is
  went_on s h x fits ord (made_so within is) =
      let n : Moment = after code m e x.next.stands.state x.next.stands.made in
      comes_within (record { fits = subst (λ w. Fits w e) h.keeps.world fits; starts = ord.start (plain_code code) x.next.stands.state })
      (subst (λ v. Within code v e) h.keeps.world within)
      (record {
        world = ap (λ r. r.world) is ∙ ap (λ w. world_after code w e) h.keeps.world;
        outcome = ap (λ r. r.outcome) is ∙ h.keeps.outcome ∙ h.unfinished ∙ sym (ord.out m.world (world_after code m.world e) e.task);
        stand = subst (λ slots. AllStand (plain_code code) slots n.tasks) (sym (ap (λ r. r.slots) is))
            (subst (λ tasks. AllStand (plain_code code) (with_answer old.slots e.task s (answer_to old.world e)) (with_task tasks e.task
            (goes_on e.action (front (plain_code code) e.task e.ticks x.next.stands.made x.next.stands.state) (answer_to m.world e))))
            (sym (ord.branch (plain_code code) x.next.stands.state m.world.tree.begun m.tasks))
            (stand_put (plain_code code) old.slots m.tasks e.task (record { task = s.task; pending = Some (answer_to old.world e) })
            (goes_on e.action (front (plain_code code) e.task e.ticks x.next.stands.made x.next.stands.state) (answer_to m.world e)) h.keeps.stand
            (answered_here s h.keeps x fits ord.no_end ord.on)));
      }) (answer_kept old.slots s old.outcome h.keeps is)

  -- the end of a task
  pub ended : (s : Slot) (y : Ending) → HasNext (plain_code code) old m e.task → (x : NextIn (plain_code code) m e s) → Fits old.world e → e.action ≡ action.End y
      → Comes code L old e (remove old.slots e.task) (outcome_after old.world (world_after code old.world e) e.task e.action) new
      → IsMade code L m e x.next new
  ended s y h x fits act (over_so refused is) =
      finished h.keeps x.next (record { fits = subst (λ w. Fits w e) h.keeps.world fits; starts = subst (λ a. HasStart (plain_code code) x.next.stands.state a) (sym act) tt }) refused is
  ended s y h x fits act (made_so within is) =
      let n : Moment = after code m e x.next.stands.state x.next.stands.made in
      comes_within
      (record { fits = subst (λ w. Fits w e) h.keeps.world fits; starts = subst (λ a. HasStart (plain_code code) x.next.stands.state a) (sym act) tt })
      (subst (λ v. Within code v e) h.keeps.world within)
      (record {
        world = ap (λ r. r.world) is ∙ ap (λ w. world_after code w e) h.keeps.world;
        outcome = ap (λ r. r.outcome) is ∙ ap (λ w. outcome_after w (world_after code w e) e.task e.action) h.keeps.world;
        stand = subst (λ slots. AllStand (plain_code code) slots n.tasks) (sym (ap (λ r. r.slots) is))
            (subst (λ a. AllStand (plain_code code) (remove old.slots e.task) (with_task (with_branch (plain_code code) x.next.stands.state a m.world.tree.begun m.tasks)
            e.task (goes_on a (front (plain_code code) e.task e.ticks x.next.stands.made x.next.stands.state) (answer_to m.world e)))) (sym act)
            (stand_taken (plain_code code) old.slots m.tasks e.task h.keeps.stand));
      })
      (ap (λ (r : Run). answer_in (get r.slots e.task)) is ∙ ap answer_in (gone old.slots e.task) ∙ sym (ap (λ a. answer_at m.world e.task a) act))

  -- a branch that has begun is beside the task that began it
  child_there : (s : Slot) (b : ℕ) (start : Start) (x : NextIn (plain_code code) m e s) → e.action ≡ action.Begin b
      → slice_get (starts_at (plain_code code) x.next.stands.state) b ≡ Some (plain_start start) → e.task ≢ m.world.tree.begun
      → (after code m e x.next.stands.state x.next.stands.made).tasks m.world.tree.begun ≡ Some (at_start (plain_start start))
  child_there s b start x act starts apart =
      beside (with_branch (plain_code code) x.next.stands.state e.action m.world.tree.begun m.tasks) e.task
      (goes_on e.action (front (plain_code code) e.task e.ticks x.next.stands.made x.next.stands.state) (answer_to m.world e)) m.world.tree.begun (λ same. apart (sym same))
      ∙ ap (λ a. with_branch (plain_code code) x.next.stands.state a m.world.tree.begun m.tasks m.world.tree.begun) act
      ∙ ap (λ o. with_task m.tasks m.world.tree.begun (begun o) m.world.tree.begun) starts
      ∙ placed m.tasks m.world.tree.begun (Some (at_start (plain_start start)))

  -- the begin of a branch
  pub began : (s child : Slot) (b : ℕ) (start : Start) → CanStep code L old m e.task → (x : NextIn (plain_code code) m e s) → Fits old.world e
      → e.action ≡ action.Begin b → start.body < length (plain_code code).bodies
      → slice_get (starts_at (plain_code code) (state_of s.task)) b ≡ Some (plain_start start) → e.task ≢ old.world.tree.begun
      → IsFirst old.world.tree.begun start child
      → Comes code L old e (with_answer (insert old.slots old.world.tree.begun child) e.task s (answer_to old.world e)) old.outcome new
      → IsMade code L m e x.next new
  began s child b start can x fits act inside starts apart first (over_so refused is) =
      finished can.has_next.keeps x.next
      (record {
        fits = subst (λ w. Fits w e) can.has_next.keeps.world fits;
        starts = subst (λ a. HasStart (plain_code code) x.next.stands.state a) (sym act)
            (subst (λ z. StartsIn (plain_code code) (slice_get (starts_at (plain_code code) z) b)) (sym x.state) (subst (StartsIn (plain_code code)) (sym starts) inside));
      }) refused is
  began s child b start can x fits act inside starts apart first (made_so within is) =
      let C : PlainCode = plain_code code in
      let keeps : Keeps C old m = can.has_next.keeps in
      let h : Halt ℕ (ℕ × ℕ) = front C e.task e.ticks x.next.stands.made x.next.stands.state in
      let next_is : old.world.tree.begun ≡ m.world.tree.begun = ap (λ (w : World). w.tree.begun) keeps.world in
      let apart_too : e.task ≢ m.world.tree.begun = subst (λ q. e.task ≢ q) next_is apart in
      let starts_too : slice_get (starts_at C x.next.stands.state) b ≡ Some (plain_start start) =
      subst (λ z. slice_get (starts_at C z) b ≡ Some (plain_start start)) (sym x.state) starts in
      let n : Moment = after code m e x.next.stands.state x.next.stands.made in
      let can_be : CanBeMade C m.world e x.next.stands.state =
      record {
        fits = subst (λ w. Fits w e) keeps.world fits;
        starts = subst (λ a. HasStart C x.next.stands.state a) (sym act)
            (subst (λ z. StartsIn C (slice_get (starts_at C z) b)) (sym x.state) (subst (StartsIn C) (sym starts) inside));
      } in
      let moves : Moves code L m e.task n = made e x.next can_be (subst (λ v. Within code v e) keeps.world within) refl in
      let goes : Goes C m.world.tree.begun (at_start (plain_start start)) =
      (can.later n moves).all_go m.world.tree.begun (at_start (plain_start start)) (child_there s b start x act starts_too apart_too) in
      let branch : with_branch C x.next.stands.state e.action m.world.tree.begun m.tasks ≡ with_task m.tasks m.world.tree.begun (Some (at_start (plain_start start))) =
      ap (λ a. with_branch C x.next.stands.state a m.world.tree.begun m.tasks) act ∙ ap (λ o. with_task m.tasks m.world.tree.begun (begun o)) starts_too in
      let first_too : IsFirst m.world.tree.begun start child = subst (λ q. IsFirst q start child) next_is first in
      let put : AllStand C (insert old.slots m.world.tree.begun child) (with_task m.tasks m.world.tree.begun (Some (at_start (plain_start start)))) =
      stand_put C old.slots m.tasks m.world.tree.begun child (Some (at_start (plain_start start))) keeps.stand (first_too C goes) in
      let both : AllStand C (with_answer (insert old.slots m.world.tree.begun child) e.task s (answer_to old.world e))
      (with_task (with_task m.tasks m.world.tree.begun (Some (at_start (plain_start start)))) e.task (goes_on e.action h (answer_to m.world e))) =
      stand_put C (insert old.slots m.world.tree.begun child) (with_task m.tasks m.world.tree.begun (Some (at_start (plain_start start)))) e.task
      (record { task = s.task; pending = Some (answer_to old.world e) }) (goes_on e.action h (answer_to m.world e)) put
      (answered_here s keeps x fits (no_end b act) (goes_as b act)) in
      comes_within can_be (subst (λ v. Within code v e) keeps.world within)
      (record {
        world = ap (λ r. r.world) is ∙ ap (λ w. world_after code w e) keeps.world;
        outcome = ap (λ r. r.outcome) is ∙ keeps.outcome ∙ can.has_next.unfinished ∙ sym (ap (outcome_after m.world (world_after code m.world e) e.task) act);
        stand = subst (λ slots. AllStand C slots n.tasks) (sym (ap (λ r. r.slots) is))
            (subst (λ q. AllStand C (with_answer (insert old.slots q child) e.task s (answer_to old.world e)) n.tasks) (sym next_is)
            (subst (λ tasks. AllStand C (with_answer (insert old.slots m.world.tree.begun child) e.task s (answer_to old.world e))
            (with_task tasks e.task (goes_on e.action h (answer_to m.world e)))) (sym branch) both));
      }) (answer_kept (insert old.slots old.world.tree.begun child) s old.outcome keeps is)
    where
      no_end : (b : ℕ) → e.action ≡ action.Begin b → (y : Ending) → e.action ≡ action.End y → ⊥
      no_end b is y is_end = cc

      goes_as : (b : ℕ) → e.action ≡ action.Begin b → (h : Halt ℕ (ℕ × ℕ)) (a : Answer) → goes_on e.action h a ≡ answered h a
      goes_as b is h a = ap (λ x. goes_on x h a) is

-- an event that doesn't fit, or has no start, can't be made
pub unfit : (C : PlainCode) (old : Run) (m : Moment) (e : Event) (s : Slot) → Keeps C old m → NextIn C m e s → (Fits old.world e → ⊥) → IsStuck C m e.task
unfit C old m e s keeps x refused = record { event = e; next = x.next; unmade = λ can. refused (subst (λ w. Fits w e) (sym keeps.world) can.fits) }

past_start : {A : Type 0} (xs : List A) (n : ℕ) → length xs ≤ n → slice_get xs n ≡ None
past_start [] n le = refl
past_start (x ∷ xs) zero le = absurd (omega (arith, le))
past_start (x ∷ xs) (suc n) le = past_start xs n (omega (arith, le))

pub no_start : (C : PlainCode) (m : Moment) (e : Event) (s : Slot) (b : ℕ) → NextIn C m e s → e.action ≡ action.Begin b
    → length (starts_at C (state_of s.task)) ≤ b → IsStuck C m e.task
no_start C m e s b x act few = record {
  event = e;
  next = x.next;
  unmade = λ can. subst (StartsIn C) (past_start (starts_at C (state_of s.task)) b few)
      (subst (λ z. StartsIn C (slice_get (starts_at C z) b)) x.state (subst (λ a. HasStart C x.next.stands.state a) act can.starts));
}

-- a code has as many bodies as it lists
pub bodies_counted : (code : Code) → length code.bodies ≡ length (plain_code code).bodies
bodies_counted code = sym (length-map code.bodies _)

-- nor where it is in no body of the code
pub no_body : (C : PlainCode) (m : Moment) (e : Event) (s : Slot) (b : ℕ) (start : Start) → NextIn C m e s → e.action ≡ action.Begin b
    → slice_get (starts_at C (state_of s.task)) b ≡ Some (plain_start start) → length C.bodies ≤ start.body → IsStuck C m e.task
no_body C m e s b start x act starts beyond = record {
  event = e;
  next = x.next;
  unmade = λ can. below (subst (StartsIn C) starts
      (subst (λ z. StartsIn C (slice_get (starts_at C z) b)) x.state (subst (λ a. HasStart C x.next.stands.state a) act can.starts)));
}
  where
    below : start.body < length C.bodies → ⊥
    below h = omega (arith, h, beyond)

-- the same of the slot that is there
pub of_some : (o : Option Slot) (s : Slot) (P : Slot → Type 0) → o ≡ Some s → OfSlot o P → P s
of_some o s P is holds = subst (λ x. OfSlot x P) is holds

module _ (code : Code) (L : Limits) (old new : Run) (m : Moment) (e : Event) where
  pub moved_on : (o : Option Slot) → get old.slots e.task ≡ o → CanStep code L old m e.task → OfSlot o (IsAt (plain_code code) e) → Fits old.world e
      → IsOrdinary e.action
      → OfSlot o (λ s. Comes code L old e (with_answer old.slots e.task s (answer_to old.world e)) old.outcome new) → MakesIn code L m e o new
  moved_on None is can at fits ord comes = absurd at
  moved_on (Some s) is can at fits ord comes =
      let x = next_in (plain_code code) old m e s can.has_next is at in (x, went_on code L old new m e s can.has_next x fits ord comes)

  pub moved_end : (o : Option Slot) → get old.slots e.task ≡ o → CanStep code L old m e.task → OfSlot o (IsAt (plain_code code) e) → Fits old.world e
      → (y : Ending) → e.action ≡ action.End y
      → Comes code L old e (remove old.slots e.task) (outcome_after old.world (world_after code old.world e) e.task e.action) new → MakesIn code L m e o new
  moved_end None is can at fits y act comes = absurd at
  moved_end (Some s) is can at fits y act comes =
      let x = next_in (plain_code code) old m e s can.has_next is at in (x, ended code L old new m e s y can.has_next x fits act comes)

-- an event that was made moves the run
pub moves_on : (code : Code) (L : Limits) (m : Moment) (e : Event) (new : Run) (o : Option Slot) → MakesIn code L m e o new → Moved code L m e.task new
moves_on code L m e new None none = absurd none
moves_on code L m e new (Some s) (x, comes_within can inside keeps gave) =
    (after code m e x.next.stands.state x.next.stands.made, made e x.next can inside refl, keeps)
moves_on code L m e new (Some s) (x, comes_beyond can refused keeps) = (at_limit L m, over e x.next can refused refl, keeps)

pub on_ok : {T E : Type 0} (r : Result T E) (P Q : Type 0) → (P → Q) → OnOk r P → OnOk r Q
on_ok (Ok x) P Q f p = f p
on_ok (Err e) P Q f p = tt

pub stuck_unfit : (code : Code) (L : Limits) (old : Run) (m : Moment) (e : Event) (o : Option Slot) → get old.slots e.task ≡ o → CanStep code L old m e.task
    → OfSlot o (IsAt (plain_code code) e) → (Fits old.world e → ⊥) → IsStuck (plain_code code) m e.task
stuck_unfit code L old m e None is can at refused = absurd at
stuck_unfit code L old m e (Some s) is can at refused =
    unfit (plain_code code) old m e s can.has_next.keeps (next_in (plain_code code) old m e s can.has_next is at) refused

-- what was noted of an event
pub noted : (code : Code) (L : Limits) (old new : Run) (e : Event) (slots : FinMap nat_cmp Slot) (outcome : Option Outcome)
    → Comes code L old e slots outcome new → new.schedule ≡ old.schedule ++ e.task ∷ []
noted code L old new e slots outcome (made_so within is) = ap (λ r. r.schedule) is
noted code L old new e slots outcome (over_so refused is) = ap (λ r. r.schedule) is

-- a ready task isn't the next that begins
pub apart : (C : PlainCode) (r : Run) (m : Moment) (k : ℕ) → HasNext C r m k → k ≢ r.world.tree.begun
apart C r m k h same =
    let there = h.goes.live k h.ready in
    clash there.0 (sym there.1 ∙ ap m.tasks (same ∙ ap (λ (w : World). w.tree.begun) h.keeps.world) ∙ h.goes.next)
  where
    clash : (t : Running) → Some t ≡ None → ⊥
    clash t e = cc

pub noted_on : (code : Code) (L : Limits) (old new : Run) (e : Event) (o : Option Slot) → OfSlot o (IsAt (plain_code code) e)
    → OfSlot o (λ s. Comes code L old e (with_answer old.slots e.task s (answer_to old.world e)) old.outcome new) → new.schedule ≡ old.schedule ++ e.task ∷ []
noted_on code L old new e None at comes = absurd at
noted_on code L old new e (Some s) at comes = noted code L old new e (with_answer old.slots e.task s (answer_to old.world e)) old.outcome comes

-- a task that is kept at its event can still step
pub can_after : (code : Code) (L : Limits) (old new : Run) (m : Moment) (k q : ℕ) → CanStep code L old m k → HasNext (plain_code code) new m k → q ≡ k
    → CanStep code L new m q
can_after code L old new m k q can has_next is =
    subst (CanStep code L new m) (sym is) (record { has_next = has_next; later = can.later })

-- an event that doesn't fit is refused
pub no_fit : (b : Bool) (P : Type 0) → (IsTrue b ↔ P) → b ≡ false → P → ⊥
no_fit true P h e p = absurd (cc)
no_fit false P h e p = let t : IsTrue false = h.1 p in cc
