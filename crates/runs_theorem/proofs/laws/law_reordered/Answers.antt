use Rattle.runs_theorem.proofs.Weaker.{leaving_is_weaker}
use Rattle.runs_reduction.specs.Guarded.{anything}
use Rattle.runs_theory.specs.Blocks.{leaving_locals}
use Rattle.runs_program.specs.Interfering.{lets}
use Rattle.runs_program.specs.Steps.{stepped}
use Rattle.runs_theorem.proofs.laws.law_reordered.Goals as goal

pub returns : goal.returns
returns c P wt arg small R x l ended = c.law_reordering.ensures.ended (stepped P arg) (leaving_locals lets) leaving_is_weaker (c.law_steps.ensures.keeps P arg).disciplined
    (c.law_runs.ensures.known P wt arg small anything) R x l ended (c.law_runs.ensures.levelled P wt arg small R l) (c.law_runs.ensures.entries P wt arg small R l)
