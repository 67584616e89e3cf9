use Rattle.runs_sound.proofs.paths.Quiet.{branches_quiet, iterations_quiet, nd_branches_quiet, nd_branches_separate, nd_iterations_quiet, nd_iterations_separate}
use Rattle.runs_sound.proofs.laws.law_quiet.Goals as goal

pub returns : goal.returns
returns c = record {
  branches = branches_quiet;
  iterations = iterations_quiet;
  nd_branches = nd_branches_quiet;
  nd_iterations = nd_iterations_quiet;
  nd_branches_apart = nd_branches_separate;
  nd_iterations_apart = nd_iterations_separate;
}
