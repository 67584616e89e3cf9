use Rattle.runs_elision.proofs.Samples.{determinism_needs_free, divides_elided, sums_elided}
use Rattle.runs_elision.proofs.laws.law_samples.Goals as goal

pub returns : goal.returns
returns c = record { divides = divides_elided; sums = sums_elided; race = determinism_needs_free }
