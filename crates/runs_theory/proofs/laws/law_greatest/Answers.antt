use Rattle.runs_theory.proofs.Theorems.{greatest_first}
use Rattle.runs_theory.proofs.runs.Finishing.{greatest_finishes}
use Rattle.runs_theory.proofs.laws.law_greatest.Goals as goal

pub returns : goal.returns
returns c = record { in_order = greatest_first; finishes = λ P D V T K C L w. greatest_finishes P D V T K C L w }
