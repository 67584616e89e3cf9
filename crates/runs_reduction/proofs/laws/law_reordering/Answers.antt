use Rattle.runs_reduction.proofs.Theorems.{moving, moving_by, moving_ended, moving_inside}
use Rattle.runs_reduction.proofs.moved.OneMoved.{one_moved}
use Rattle.runs_reduction.proofs.laws.law_reordering.Goals as goal

pub returns : goal.returns
returns c = record {
  moving = moving;
  one = λ P D T R G H l lg lh m n i j. one_moved P D T R l G H lg lh m n i j;
  by_weaker = moving_by;
  inside = moving_inside;
  ended = moving_ended;
}
