use Rattle.runs_simulation.proofs.ready.Lively.{all_ready, few_reasons, no_others, short, some_ready}
use Rattle.runs_simulation.proofs.laws.law_lively.Goals as goal

pub returns-clause-ready : goal.returns-clause-ready
returns-clause-ready c = some_ready c.law_steps.ensures.keeps c.law_names.ensures.known c.law_code_progress.ensures.goes

pub returns-clause-all_ready : goal.returns-clause-all_ready
returns-clause-all_ready c = all_ready c.law_steps.ensures.keeps c.law_names.ensures.known c.law_code_progress.ensures.goes

pub returns-clause-no_others : goal.returns-clause-no_others
returns-clause-no_others c = no_others c.law_steps.ensures.keeps c.law_names.ensures.known c.law_code_progress.ensures.goes

pub returns-clause-short : goal.returns-clause-short
returns-clause-short c = short c.law_steps.ensures.keeps c.law_names.ensures.known c.law_code_progress.ensures.goes

pub returns-clause-stuck : goal.returns-clause-stuck
returns-clause-stuck c = few_reasons c.law_steps.ensures.keeps c.law_names.ensures.known c.law_code_progress.ensures.goes
