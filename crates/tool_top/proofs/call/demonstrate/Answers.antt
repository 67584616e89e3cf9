use Rattle.tool_top.proofs.Sources.{made-runs}
use Rattle.tool_top.proofs.call.demonstrate.Goals as goal

pub answer_by_run-requires-clause-run : goal.answer_by_run-requires-clause-run
answer_by_run-requires-clause-run g c κs within = made-runs c.args.job.now.command c.requires.made
