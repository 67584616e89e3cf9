use Rattle.runs_theory.proofs.Theorems.{each_comes_out, comes_one_way, nothing_after}
use Rattle.runs_theory.proofs.laws.law_outcome.Goals as goal

pub returns : goal.returns
returns c = record { comes = each_comes_out; one = comes_one_way; nothing_after = nothing_after }
