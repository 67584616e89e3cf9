use Rattle.tool_top.proofs.Verdicts.{makes, makes-none}
use Rattle.tool_top.proofs.call.answer_text.Goals as goal

pub answer_by_run-requires-clause-run : goal.answer_by_run-requires-clause-run
answer_by_run-requires-clause-run g c κs within = makes c.args.job.now.command c.in-Demo.is

pub answer_without_run-requires-clause-no_run : goal.answer_without_run-requires-clause-no_run
answer_without_run-requires-clause-no_run g c =
    makes-none c.args.job.now.command c.in_default.not-Demo c.in_default.not-Run c.in_default.not-Trace c.in_default.not-Events c.in_default.not-Cost
