use Rattle.tool_total.proofs.Answers.{each_answered}
use Rattle.tool_total.proofs.Replayed.{each_replayed}
use Rattle.tool_total.proofs.laws.law_answered.Goals as goal

pub returns-clause-answered : goal.returns-clause-answered
returns-clause-answered c =
    each_answered c.law_passed.ensures.keeps c.law_one_passing.ensures.verdict c.law_code_progress.ensures.goes c.law_lively.ensures.ready c.law_lively.ensures.short
    c.law_progress.ensures.stuck

pub returns-clause-replayed : goal.returns-clause-replayed
returns-clause-replayed c =
    each_replayed c.law_passed.ensures.keeps c.law_one_passing.ensures.verdict c.law_code_progress.ensures.goes c.law_lively.ensures.ready c.law_lively.ensures.short
    c.law_progress.ensures.stuck
