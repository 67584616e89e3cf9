use Rattle.runs_theorem.proofs.Progress.{goes_on, not_stuck}
use Rattle.runs_theorem.proofs.laws.law_progress.Goals as goal

pub returns-clause-stuck : goal.returns-clause-stuck
returns-clause-stuck c = not_stuck c.law_steps.ensures.keeps c.law_names.ensures.known c.law_code_progress.ensures.goes

pub returns-clause-on : goal.returns-clause-on
returns-clause-on c =
    goes_on c.law_steps.ensures.keeps c.law_names.ensures.known c.law_code_progress.ensures.goes c.law_simulation.ensures.records c.law_lively.ensures.ready
