use Rattle.runs_theory.proofs.runs.Schedules.{one_run, ran_legal, recorded}
use Rattle.runs_theory.proofs.runs.Bound.{ran_bounded, finished_bounded}
use Rattle.runs_theory.proofs.runs.Finishing.{each_finishes}
use Rattle.runs_theory.proofs.laws.law_schedule.Goals as goal

pub returns : goal.returns
returns c = record {
  one_run = one_run;
  legal = ran_legal;
  recorded = recorded;
  bounded = ran_bounded;
  finished = finished_bounded;
  finishes = λ P D V K C L ks R r. each_finishes P D V K C L ks R r;
}
