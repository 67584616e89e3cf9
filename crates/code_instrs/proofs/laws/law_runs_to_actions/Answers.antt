use Rattle.code_instrs.proofs.RunsToActions.{runs_are_solo}
use Rattle.code_instrs.proofs.laws.law_runs_to_actions.Goals as goal

pub returns : goal.returns
returns g c = record { solo = λ names C b got h a. runs_are_solo names C b got h a }
