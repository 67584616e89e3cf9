use Rattle.std.proofs.Common.{pos}
use Rattle.std.proofs.Math.Facts.{sfits_lit}
use Rattle.runs_program.specs.Interfering.{lets}
use Rattle.trial_samples.specs.Sample.{sample}
use Rattle.trial_samples.proofs.Every.{has_every}
use Rattle.trial_samples.proofs.Regions.{only_later_are_inside}
use Rattle.trial_samples.proofs.Runs.{a_run, is_elided, whole_run}
use Rattle.trial_samples.proofs.Typed.{well_typed}
use Rattle.trial_samples.proofs.laws.law_sample.Goals as goal

pub returns : goal.returns
returns c = record {
  well_typed = well_typed;
  every = has_every;
  elided = is_elided;
  runs = whole_run (c.law_steps.ensures.keeps sample (pos 2)).disciplined
      (λ l wt. c.law_sound.ensures sample wt (pos 2) (sfits_lit tt) lets a_run l)
      (λ l. c.law_reduction.ensures sample well_typed (pos 2) (sfits_lit tt) a_run l);
  regions = only_later_are_inside;
}
