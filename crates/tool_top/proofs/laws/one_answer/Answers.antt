use Rattle.tool_top.proofs.OnTraces.{replay_once}
use Rattle.tool_top.proofs.Once.{answer_once}
use Rattle.tool_top.proofs.laws.one_answer.Goals as goal

pub returns-clause-answer : goal.returns-clause-answer
returns-clause-answer c = answer_once c.promise.ensures c.law_one_passing.ensures.verdict c.law_one_passing.ensures.one c.law_one_passing.ensures.naming c.law_one_inferred.ensures

pub returns-clause-replay : goal.returns-clause-replay
returns-clause-replay c =
    replay_once c.law_steps.ensures.keeps c.law_code_progress.ensures.goes c.law_passed.ensures.keeps c.law_one_passing.ensures.verdict c.law_one_passing.ensures.one
    c.law_readings.ensures.one_reading c.law_readings.ensures.one_misfit c.law_readings.ensures.apart
