use Rattle.runs_theory.proofs.Theorems.{some_ready_event, one_next}
use Rattle.runs_theory.proofs.laws.law_ready.Goals as goal

pub returns : goal.returns
returns c = record { some_ready = some_ready_event; one_next = one_next }
