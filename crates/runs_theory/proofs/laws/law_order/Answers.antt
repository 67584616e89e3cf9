use Rattle.runs_theory.proofs.Theorems.{respects_order, order_of_events, present_before}
use Rattle.runs_theory.proofs.laws.law_order.Goals as goal

pub returns : goal.returns
returns c = record { respects = respects_order; order_of = order_of_events; present = present_before }
