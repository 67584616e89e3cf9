use Rattle.runs_sound.proofs.accesses.Free.{runs_are_free}
use Rattle.runs_sound.proofs.accesses.Guarding.{conflicts_are_guarded, nd_forks_are_outside}
use Rattle.runs_sound.proofs.accesses.Levels.{conflicts_are_levelled, entries_are_let}
use Rattle.runs_sound.proofs.moments.There.{names_are_known_by_any_rule}
use Rattle.runs_sound.proofs.laws.law_runs.Goals as goal

pub returns : goal.returns
returns c = record {
  free = runs_are_free;
  guarded = conflicts_are_guarded;
  outside = nd_forks_are_outside;
  levelled = conflicts_are_levelled;
  entries = entries_are_let;
  known = names_are_known_by_any_rule;
}
