use Rattle.std.proofs.Common.{refl, arith}
use Rattle.region_types.proofs.Rows.{ordered_rising}
use Rattle.region_types.proofs.supers.is_ordered.Goals as goal

pub returns : goal.returns
returns c = (λ _. ordered_rising c.args.supers.now (λ k d lt. c.loop-at.invariant k d (omega arith)), λ _. refl)
