use Rattle.code_scheme.proofs.RunsToActions.{runs_are_right, runs_end}
use Rattle.code_scheme.proofs.laws.law_runs_to_actions.Goals as goal

pub returns-clause-right : goal.returns-clause-right
returns-clause-right g c = λ names P resolved b t h got halt a. runs_are_right names P resolved b t h got halt a

pub returns-clause-ends : goal.returns-clause-ends
returns-clause-ends g c = λ names P resolved b t h. runs_end names P resolved b t h
