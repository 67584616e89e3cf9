use Rattle.runs_theory.proofs.Theorems.{comparison, none_costs_more, same_outcome, greatest_first}
use Rattle.runs_theory.proofs.runs.Bound.{finished_bounded}
use Rattle.runs_theory.proofs.runs.Finishing.{each_finishes, schedules_agree}
use Rattle.runs_program.proofs.Steps.{each_keeps}
use Rattle.runs_program.specs.Steps.{stepped}
use Rattle.runs_program.proofs.laws.law_steps.Goals as goal

pub returns : goal.returns
returns c = record {
  keeps = each_keeps;
  agree = λ P arg R S. comparison (stepped P arg) (each_keeps P arg).disciplined R S;
  cost = λ P arg R S x. none_costs_more (stepped P arg) (each_keeps P arg).disciplined R S x;
  outcome = λ P arg R S o q. same_outcome (stepped P arg) (each_keeps P arg).disciplined R S o q;
  bounded = λ P arg L ks o f. finished_bounded (stepped P arg) (each_keeps P arg).disciplined (each_keeps P arg).paced L ks o f;
  schedules = λ P arg free L ks js o q f g. schedules_agree (stepped P arg) (each_keeps P arg).disciplined free L ks js o q f g;
  finish = λ P arg known L ks R r.
      (let k = each_keeps P arg in each_finishes (stepped P arg) k.disciplined k.lively known k.paced L ks R r);
  greatest = λ P arg known R l g. (let k = each_keeps P arg in greatest_first (stepped P arg) k.disciplined k.lively k.in_turn known R l g);
}
