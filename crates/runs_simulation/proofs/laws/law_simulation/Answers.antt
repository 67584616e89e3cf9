use Rattle.runs_simulation.proofs.Recorded.{event_for_event, machines_record}
use Rattle.runs_simulation.proofs.laws.law_simulation.Goals as goal

pub returns : goal.returns
returns c = record { records = machines_record; events = event_for_event }
