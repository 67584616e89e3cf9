use Rattle.runs_theory.proofs.samples.Samples.{comparison_applies, comparison_needs_free, respects_needs_passing, ready_applies, ready_needs_known, bound_applies}
use Rattle.runs_theory.proofs.samples.Samples.{bound_needs_paced, determinism_applies, greatest_applies}
use Rattle.runs_theory.proofs.laws.law_samples.Goals as goal

pub returns : goal.returns
returns c = record {
  comparison = comparison_applies;
  conflict = comparison_needs_free;
  begin = respects_needs_passing;
  ready = ready_applies;
  unknown = ready_needs_known;
  bound = bound_applies;
  rests = bound_needs_paced;
  determinism = determinism_applies;
  greatest = greatest_applies;
}
