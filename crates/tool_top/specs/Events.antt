-- Of which run of the source events are shown.
use Rattle.std.specs.Prelude.{ℕ, List, [], reverse}
use Rattle.lang_base.specs.declared.outcome.Limits.{Limits}
use Rattle.exec_machine.specs.declared.made_event.MadeEvent.{MadeEvent}
use Rattle.runs_simulation.specs.Alike.{EventsAlike, Sight, SightOf}
use Rattle.runs_theory.specs.Actions.{Program}
use Rattle.runs_theory.specs.Order.{Outcome}
use Rattle.runs_theory.specs.Runs.{Run}
use Rattle.runs_theory.specs.Schedules.{Finished, ended, no_room, over}

-- the run that a finished schedule has recorded, to its end, or as far as its limits let it come
abbrev pub recorded_run : {Q : Program} {L : Limits} {schedule : List ℕ} {o : Outcome} → Finished Q L schedule o → Run
recorded_run (ended R ran comes) = R
recorded_run (over k ks R e ran ready beyond) = R
recorded_run (no_room beyond) = []

-- these are the events of a run, one by one and no others: of the same tasks, after as many ticks, with like actions and like answers. Tasks and
-- objects have numbers here, and paths and names there
pub record AreEventsOf (R : Run) (events : List MadeEvent) : Type 0 where
  pub sight : Sight
  pub is_sight : SightOf sight R
  pub alike : EventsAlike sight (reverse events) R
