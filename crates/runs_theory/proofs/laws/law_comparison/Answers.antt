use Rattle.runs_theory.proofs.Theorems.{comparison, same_events, same_outcome, none_costs_more}
use Rattle.runs_theory.proofs.laws.law_comparison.Goals as goal

pub returns : goal.returns
returns c = record { comparison = comparison; same_events = same_events; same_outcome = same_outcome; no_more = none_costs_more }
