use Rattle.runs_reduction.proofs.samples.Samples.{both_apply, gathering_needs_guarded, gathering_needs_known, moving_needs_weaker}
use Rattle.runs_reduction.proofs.samples.Arranged.{arranging_applies}
use Rattle.runs_reduction.proofs.moved.Waiting.{moving_ended_applies, moving_needs_ended}
use Rattle.runs_reduction.proofs.laws.law_samples.Goals as goal

pub returns : goal.returns
returns c = record {
  both = both_apply;
  unguarded = gathering_needs_guarded;
  forged = gathering_needs_known;
  weaker = moving_needs_weaker;
  ended = moving_ended_applies;
  unended = moving_needs_ended;
  arranged = arranging_applies;
}
