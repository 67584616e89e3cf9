use Rattle.tool_total.proofs.Replays.{traces_replay}
use Rattle.tool_total.proofs.laws.law_replays.Goals as goal

pub returns : goal.returns
returns c =
    traces_replay c.law_lively.ensures.short c.law_steps.ensures.keeps c.law_code_progress.ensures.goes c.law_passed.ensures.keeps c.law_one_passing.ensures.verdict
    c.law_one_passing.ensures.one c.law_readings.ensures.one_reading c.law_readings.ensures.apart
