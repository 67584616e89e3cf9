use Rattle.trial_samples.proofs.trees.DetailsMean.{details_mean}
use Rattle.trial_samples.proofs.trees.PathsMean.{paths_mean}
use Rattle.trial_samples.proofs.trees.OnlyCells.{only, refused}
use Rattle.trial_samples.proofs.trees.OnlyNodes.{other_only, others_refused}
use Rattle.trial_samples.proofs.trees.NodesMean.{others_means}
use Rattle.trial_samples.proofs.trees.CellsMean.{means}
use Rattle.trial_samples.proofs.trees.RowsMean.{rows}
use Rattle.trial_samples.proofs.laws.law_trees.Goals as goal

pub returns : goal.returns
returns c = record {
  means = record { means = means; only = only };
  refused = refused;
  others = record { means = others_means; only = other_only };
  others_refused = others_refused;
  rows = rows;
  paths = paths_mean;
  details = details_mean;
}
