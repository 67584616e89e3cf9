use Rattle.runs_elision.proofs.Theorems.{none_costs_more_than_elision, runs_are_elided, schedules_are_elided}
use Rattle.runs_elision.proofs.laws.law_determinism.Goals as goal

pub returns : goal.returns
returns c = record { runs = runs_are_elided; schedules = schedules_are_elided; cost = none_costs_more_than_elision }
