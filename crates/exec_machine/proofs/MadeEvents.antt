-- A machine that keeps the events that it makes.
use Rattle.std.proofs.Common.{◌≡◌, ℕ, ℤ, ◌==◌, if◌then◌else◌, Bool, true, false, true≢false, List, [], ◌∷◌, ◌++◌, reverse, Option, Some, None, refl, sym, ap, subst, ◌∙◌}
use Rattle.std.specs.Prelude.{option_to_list}
use Rattle.std.proofs.lemmas.List.{append-nil, reverse-append}
use Rattle.std.specs.FinMap.{get}
use Rattle.lang_base.specs.declared.outcome.Limits.{Limits}
use Rattle.lang_base.specs.declared.outcome.Outcome.{Outcome}
use Rattle.lang_base.specs.declared.place.Place.{Place}
use Rattle.code_instrs.specs.declared.code.Code.{Code}
use Rattle.code_instrs.specs.Plain.{plain_code}
use Rattle.exec_task.specs.Tasks.{state_of}
use Rattle.exec_task.specs.declared.action.Action.{Action}
use Rattle.exec_task.specs.declared.action.Action.TheVariants as action
use Rattle.exec_task.specs.declared.action.Answer.{Answer}
use Rattle.exec_task.specs.declared.action.Ending.{Ending}
use Rattle.exec_task.specs.declared.action.Ending.TheVariants as ending
use Rattle.exec_world.specs.Ready.{IsReady}
use Rattle.exec_world.specs.World.{answer_to, world_after}
use Rattle.exec_world.specs.declared.event.Event.{Event}
use Rattle.exec_world.specs.declared.world.World.{World}
use Rattle.exec_machine.specs.declared.halted.Halted.{Halted}
use Rattle.exec_machine.specs.declared.made_event.MadeEvent.{MadeEvent}
use Rattle.exec_machine.specs.declared.run.Run.{Run}
use Rattle.exec_machine.specs.declared.slot.Slot.{Slot}
use Rattle.exec_machine.specs.Events.{place_at, Makes, opens, makes, meets_limit}
use Rattle.exec_machine.specs.Keeping.{Keeps, Plays, CanStep, IsAfter, WhyHalted, WhyHaltedAt}
use Rattle.exec_machine.specs.Replay.{Moment, Moves, made, over, Opens, LeadsTo, outcome_after, ended, came_to, after}
use Rattle.exec_machine.specs.Running.{OfSlot}
use Rattle.exec_machine.specs.MadeEvents.{comes_within, comes_beyond, MakesIn, StepsWith, with_event, over_limit, PlaysEvents, answer_in, at_limit, is_limit, met_limit, MakesThese}
use Rattle.exec_machine.proofs.Playing.{played, can_step, is_after, why_at}

-- the end of the root is no limit
no_limit : (e : Ending) → is_limit (came_to e) ≡ false
no_limit (ending.Returned v) = refl
no_limit (ending.Assigned slots) = refl
no_limit (ending.Trapped trap place) = refl

ends_unmet : (v w : World) (k : ℕ) (e : Ending) → met_limit (ended v w k e) ≡ false
ends_unmet v w k e = by_case _ (k == 0) (no_limit e)
  where
    by_case : (o : Outcome) (b : Bool) → is_limit o.ending ≡ false → met_limit (if b then Some o else None) ≡ false
    by_case o true is = is
    by_case o false is = refl

-- nor is any event that was made
unmet : (v w : World) (k : ℕ) (a : Action) → met_limit (outcome_after v w k a) ≡ false
unmet v w k (action.End e) = ends_unmet v w k e
unmet v w k a = refl

module _ (code : Code) (L : Limits) (m : Moment) (e : Event) (new : Run) where
  -- where no limit was met, the event was made
  pub steps_with_event : (o : Option Slot) (answer : Answer) (place : Option Place) → MakesIn code L m e o new
      → OfSlot o (λ s. place ≡ place_at (plain_code code) (state_of s.task)) → met_limit new.outcome ≡ false → answer ≡ answer_in (get new.slots e.task)
      → StepsWith code L m e.task new (Some (record { event = e; answer = answer; place = place }))
  steps_with_event None answer place here at none is = absurd here
  steps_with_event (Some s) answer place (x, comes_within can inside keeps gave) at none is =
      with_event (record { event = e; answer = answer; place = place })
      (record { next = x.next; answer = is ∙ gave; place = at ∙ ap (place_at (plain_code code)) (sym x.state) }) can inside keeps
  steps_with_event (Some s) answer place (x, comes_beyond can refused keeps) at none is = absurd (true≢false (sym (ap met_limit keeps.outcome) ∙ none))

  -- and else it wasn't made
  pub steps_over_limit : (o : Option Slot) → MakesIn code L m e o new → met_limit new.outcome ≡ true → StepsWith code L m e.task new None
  steps_over_limit None here met = absurd here
  steps_over_limit (Some s) (x, comes_within can inside keeps gave) met =
      absurd (true≢false (sym met ∙ ap met_limit keeps.outcome ∙ unmet m.world (world_after code m.world e) e.task e.action))
  steps_over_limit (Some s) (x, comes_beyond can refused keeps) met =
      over_limit (record { event = e; answer = answer_to m.world e; place = place_at (plain_code code) x.next.stands.state })
      (record { next = x.next; answer = refl; place = refl }) can refused keeps

module _ (code : Code) (L : Limits) (argument : ℤ) where
  -- a schedule leads where it makes its events
  pub leads : {ks : List ℕ} {xs : List MadeEvent} {m : Moment} → Makes code L argument ks xs m → LeadsTo code L argument ks m
  leads (opens first) = first
  leads (makes {before = before} k x y earlier can inside is) = (before, leads earlier, made x.event y.next can inside is)
  leads (meets_limit {before = before} k x y earlier can refused is) = (before, leads earlier, over x.event y.next can refused is)

  abbrev pub plays : (r : Run) (xs : List MadeEvent) → PlaysEvents code L argument r xs → Plays code L argument r
  plays r xs p = record { moment = p.moment; leads = leads p.makes; keeps = p.keeps; goes = p.goes; few = p.few }

  -- at the start no event was made
  pub no_events : (r : Run) (xs : List MadeEvent) → Plays code L argument r → r.schedule ≡ [] → xs ≡ [] → PlaysEvents code L argument r xs
  no_events r xs p none empty =
      let first : Opens code L argument p.moment = subst (λ ks. LeadsTo code L argument (reverse ks) p.moment) none p.leads in
      record {
        moment = p.moment;
        makes = subst (λ ks. Makes code L argument (reverse ks) (reverse xs) p.moment) (sym none)
            (subst (λ ys. Makes code L argument [] (reverse ys) p.moment) (sym empty) (opens first));
        keeps = p.keeps;
        goes = p.goes;
        few = p.few;
      }

  module _ (old new : Run) (xs : List MadeEvent) (p : PlaysEvents code L argument old xs) (k : ℕ) (noted : new.schedule ≡ old.schedule ++ k ∷ []) where
    -- what was made is put last
    pub plays_on : (o : Option MadeEvent) → StepsWith code L p.moment k new o → PlaysEvents code L argument new (xs ++ option_to_list o)
    plays_on _ (with_event x y can inside keeps) =
        let n : Moment = after code p.moment x.event y.next.stands.state y.next.stands.made in
        record {
          moment = n;
          makes = subst (λ ks. Makes code L argument ks (reverse (xs ++ x ∷ [])) n) (sym (ap reverse noted ∙ reverse-append old.schedule (k ∷ [])))
              (subst (λ ys. Makes code L argument (k ∷ reverse old.schedule) ys n) (sym (reverse-append xs (x ∷ [])))
              (makes k x y p.makes can inside refl));
          keeps = keeps;
          goes = p.goes;
          few = p.few;
        }
    plays_on _ (over_limit x y can refused keeps) =
        let n : Moment = at_limit L p.moment in
        record {
          moment = n;
          makes = subst (λ ks. Makes code L argument ks (reverse (xs ++ [])) n) (sym (ap reverse noted ∙ reverse-append old.schedule (k ∷ [])))
              (subst (λ ys. Makes code L argument (k ∷ reverse old.schedule) (reverse ys) n) (sym (append-nil xs))
              (meets_limit k x y p.makes can refused refl));
          keeps = keeps;
          goes = p.goes;
          few = p.few;
        }

    pub step_moves : (o : Option MadeEvent) → StepsWith code L p.moment k new o → (n : Moment) × Moves code L p.moment k n × Keeps (plain_code code) new n
    step_moves _ (with_event x y can inside keeps) =
        (after code p.moment x.event y.next.stands.state y.next.stands.made, made x.event y.next can inside refl, keeps)
    step_moves _ (over_limit x y can refused keeps) = (at_limit L p.moment, over x.event y.next can refused refl, keeps)

    pub after_step : (o : Option MadeEvent) → StepsWith code L p.moment k new o → IsAfter (played code L argument old) k (played code L argument new)
    after_step o steps =
        let went = step_moves o steps in is_after code L argument old new (plays old xs p) k went.0 went.1 went.2 noted

  -- a ready task of a run that hasn't finished can step
  pub can_make : (r : Run) (xs : List MadeEvent) (p : PlaysEvents code L argument r xs) (k : ℕ) → r.outcome ≡ None → IsReady r.world k → CanStep code L r p.moment k
  can_make r xs p k unfinished ready = can_step code L argument r (plays r xs p) k unfinished ready

  pub why_none : (r : Run) (xs : List MadeEvent) (p : PlaysEvents code L argument r xs) (k : ℕ) (h : Halted) → WhyHalted (plain_code code) p.moment k h
      → WhyHaltedAt (played code L argument r) k h
  why_none r xs p k h why = why_at code L argument r (plays r xs p) k h why

  pub makes_these : (r : Run) (xs : List MadeEvent) → PlaysEvents code L argument r xs → MakesThese (played code L argument r) xs
  makes_these r xs p = record { moment = p.moment; makes = p.makes; outcome = p.keeps.outcome }
