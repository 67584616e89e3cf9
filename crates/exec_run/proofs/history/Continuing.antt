-- A replay goes on, over plain variables.
use Rattle.std.proofs.Common.{◌≡◌, ℕ, ℤ, zero, suc, ◌+◌, ◌<◌, inl, inr, List, [], ◌∷◌, ◌++◌, length, take, get_or, reverse, Option, Some, None, IsSome, Result, Ok, Err, IfErr, IsErrAnd, refl, sym, ap, ◌∙◌, subst, arith}
use Rattle.std.specs.Prelude.{slice_get}
use Rattle.std.proofs.lemmas.List.{take_more, take_all, reverse-append}
use Rattle.lang_base.specs.declared.outcome.Limits.{Limits}
use Rattle.code_instrs.specs.declared.code.Code.{Code}
use Rattle.exec_machine.specs.Keeping.{Played, IsReplayed, IsAfter}
use Rattle.exec_machine.specs.declared.made_event.MadeEvent.{MadeEvent}
use Rattle.exec_machine.specs.Events.{Makes}
use Rattle.exec_machine.specs.Replay.{Moment, LeadsTo, Moves}
use Rattle.exec_machine.specs.MadeEvents.{MakesThese}
use Rattle.exec_run.specs.declared.history.replaying.ReplayStop.{ReplayStop}
use Rattle.exec_run.specs.declared.history.replaying.ReplayStop.TheVariants.{Bad, Stuck, NoMemory}
use Rattle.exec_run.specs.history.Showing.{Shows}
use Rattle.exec_run.specs.history.Replaying.{IsAt, IsReplay, HasMade, after_end, not_ready, too_early, WhyStopped, WhyUnmade}

pub next-is : (xs : List ℕ) (i : ℕ) → i < length xs → slice_get xs i ≡ Some (get_or xs i 0)
next-is [] i h = absurd (omega (arith, h))
next-is (x ∷ xs) zero h = refl
next-is (x ∷ xs) (suc i) h = next-is xs i (omega (arith, h))

-- a schedule that leads somewhere leads on by an event
leads-on : (code code' : Code) (L L' : Limits) (a a' : ℤ) (s s' : List ℕ) (k : ℕ) (m n : Moment) → code' ≡ code → L' ≡ L → a' ≡ a → s' ≡ s ++ k ∷ []
    → LeadsTo code L a (reverse s) m → Moves code L m k n → LeadsTo code' L' a' (reverse s') n
leads-on code code' L L' a a' s s' k m n c l x is leads moves =
    rw (c, l, x, is, reverse-append s (k ∷ [])) (m, leads, moves)

after-replayed : (old new : Played) (k : ℕ) → IsAfter old k new → IsReplayed new
after-replayed old new k a = record {
  moment = a.next;
  leads = leads-on old.code new.code old.limits new.limits old.argument new.argument old.schedule new.schedule k a.replayed.moment a.next a.code a.limits a.argument
      a.schedule a.replayed.leads a.moves;
  world = a.world;
  outcome = a.outcome;
}

pub made-nothing : (code : Code) (L : Limits) (argument : ℤ) (schedule : List ℕ) (machine : Played) → machine.code ≡ code → machine.limits ≡ L → machine.argument ≡ argument
    → machine.schedule ≡ [] → IsReplayed machine → HasMade code L argument schedule 0 machine
made-nothing code L argument schedule machine c l a s replayed = record {
  within = omega arith;
  is_at = record { is_code = c; is_limits = l; is_argument = a; is_schedule = s; replayed = replayed };
}

pub made-next : (code : Code) (L : Limits) (argument : ℤ) (schedule : List ℕ) (at task : ℕ) (old new : Played) → HasMade code L argument schedule at old → at < length schedule
    → task ≡ get_or schedule at 0 → IsAfter old task new → HasMade code L argument schedule (at + 1) new
made-next code L argument schedule at task old new made within is after = record {
  within = omega (arith, within);
  is_at = record {
    is_code = after.code ∙ made.is_at.is_code;
    is_limits = after.limits ∙ made.is_at.is_limits;
    is_argument = after.argument ∙ made.is_at.is_argument;
    is_schedule = after.schedule ∙ ap (λ s. s ++ task ∷ []) made.is_at.is_schedule ∙ ap (λ k. take at schedule ++ k ∷ []) is
        ∙ sym (take_more schedule at 0 within);
    replayed = after-replayed old new task after;
  };
}

-- why the next event wasn't made is why the schedule wasn't
pub stopped-here : (code : Code) (L : Limits) (argument : ℤ) (schedule : List ℕ) (at task : ℕ) (machine : Played) (stop : ReplayStop)
    → HasMade code L argument schedule at machine → at < length schedule → task ≡ get_or schedule at 0 → WhyUnmade machine task at stop
    → WhyStopped code L argument schedule stop
stopped-here code L argument schedule at task machine (Bad count) made within is (same, inl over) =
    subst (λ n. WhyStopped code L argument schedule (Bad n)) (sym same)
    (machine, made, after_end task (next-is schedule at within ∙ ap Some (sym is)) over)
stopped-here code L argument schedule at task machine (Bad count) made within is (same, inr unready) =
    subst (λ n. WhyStopped code L argument schedule (Bad n)) (sym same)
    (machine, made, not_ready task (next-is schedule at within ∙ ap Some (sym is)) unready)
stopped-here code L argument schedule at task machine (Stuck count) made within is (same, stuck) =
    subst (λ n. WhyStopped code L argument schedule (Stuck n)) (sym same)
    (machine, made, record { task = task; next = next-is schedule at within ∙ ap Some (sym is); stuck = stuck })
stopped-here code L argument schedule at task machine NoMemory made within is why = tt

-- all numbers were made, and the run has come out, or not
pub replay-is : (code : Code) (L : Limits) (argument : ℤ) (schedule : List ℕ) (machine : Played) → HasMade code L argument schedule (length schedule) machine
    → IsSome machine.outcome → IsReplay code L argument schedule machine
replay-is code L argument schedule machine made finished = record {
  is_at = subst (λ s. IsAt code L argument s machine) (take_all (length schedule) schedule (omega arith)) made.is_at;
  finished = finished;
}

pub ends-early : (code : Code) (L : Limits) (argument : ℤ) (schedule : List ℕ) (machine : Played) → HasMade code L argument schedule (length schedule) machine
    → machine.outcome ≡ None → WhyStopped code L argument schedule (Bad (length schedule))
ends-early code L argument schedule machine made unfinished = (machine, made, too_early refl unfinished)

-- an error is handed on
pub handed-on : {X E : Type 0} (r : Result X E) (e : E) (W : E → Type 0) → IsErrAnd r (λ f. f ≡ e) → W e → IfErr r W
handed-on (Ok x) e W is why = tt
handed-on (Err f) e W is why = subst W (sym is) why

pub not-some : {X : Type 0} (o : Option X) → (IsSome o → ⊥) → o ≡ None
not-some None none = refl
not-some (Some x) none = absurd (none refl)

-- the events of a run that has come out by the schedule
pub shows-is : (code : Code) (L : Limits) (argument : ℤ) (schedule : List ℕ) (machine : Played) (xs : List MadeEvent) → IsReplay code L argument schedule machine
    → MakesThese machine xs → Shows code L argument schedule xs
shows-is code L argument schedule machine xs whole made = record {
  moment = made.moment;
  makes = subst (λ c. Makes c L argument (reverse schedule) (reverse xs) made.moment) whole.is_at.is_code
      (subst (λ l. Makes machine.code l argument (reverse schedule) (reverse xs) made.moment) whole.is_at.is_limits
      (subst (λ a. Makes machine.code machine.limits a (reverse schedule) (reverse xs) made.moment) whole.is_at.is_argument
      (subst (λ s. Makes machine.code machine.limits machine.argument (reverse s) (reverse xs) made.moment) whole.is_at.is_schedule made.makes)));
  finished = subst IsSome made.outcome whole.finished;
}
