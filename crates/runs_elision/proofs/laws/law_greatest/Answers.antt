use Rattle.runs_elision.proofs.Greedy.{greedy_is_elided, greedy_over_is_limited}
use Rattle.runs_elision.proofs.laws.law_greatest.Goals as goal

pub returns : goal.returns
returns c = record { ended = greedy_is_elided; over = greedy_over_is_limited }
