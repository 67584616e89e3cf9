use Rattle.std.proofs.Common.{[]}
use Rattle.runs_reduction.specs.Gathered.{gather}
use Rattle.runs_theory.specs.Blocks.{leaving_locals}
use Rattle.runs_program.specs.Interfering.{lets}
use Rattle.runs_program.specs.Steps.{stepped}
use Rattle.runs_theorem.proofs.laws.law_arranged.Goals as goal

pub returns : goal.returns
returns c P wt arg small R x l ended =
    let keeps = c.law_steps.ensures.keeps P arg in
    let g = c.law_reduction.ensures P wt arg small R l in
    c.law_arranging.ensures (stepped P arg) (leaving_locals lets) keeps.disciplined keeps.in_turn R l g
    (c.law_reordered.ensures P wt arg small (gather R) x g.rearranges.legal (g.rearranges.ended [] x ended))
