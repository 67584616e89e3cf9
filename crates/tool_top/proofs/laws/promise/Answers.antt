use Rattle.tool_top.proofs.Promised.{keeps_guarantee}
use Rattle.tool_top.proofs.laws.promise.Goals as goal

pub returns : goal.returns
returns c = keeps_guarantee c.law_guarantee.ensures c.law_elide.ensures c.law_reduced.ensures c.law_inside.ensures.machines c.law_progress.ensures.stuck c.law_progress.ensures.on c.law_passed.ensures.keeps c.law_inferred.ensures.well_typed c.law_means.ensures.means c.law_means.ensures.names
    c.law_means.ensures.fields c.law_steps.ensures.keeps c.law_code_progress.ensures.goes c.law_simulation.ensures.records c.law_simulation.ensures.events c.law_refused_schedules.ensures.right c.law_lively.ensures.ready c.law_readiness.ensures
