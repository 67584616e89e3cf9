use Rattle.std.proofs.Common.{rules}
use Rattle.std.proofs.Math.Facts.{to_z-of_z}
use mir.Val.{SFits}
use Rattle.std.specs.Int.{w32}
use Rattle.lang_typed.specs.Plain.{plain_program}
use Rattle.tool_top.specs.Answer.{limits_of}
use Rattle.tool_top.proofs.Verdicts.{run_in_mode}
use Rattle.tool_words.specs.declared.key.Mode.TheVariants as mode
use Rattle.tool_top.proofs.carrying.made.Goals as goal

pub returns-in-Steps-clause-run : goal.returns-in-Steps-clause-run
returns-in-Steps-clause-run g c =
    let fits : SFits w32 c.args.job.now.arg = search rules in
    run_in_mode c.args.job.now.mode mode.Steps (plain_program c.args.typed.now) c.limits.result (limits_of c.args.job.now) _ c.args.job.now.arg c.args.job.now.workers
    c.run.result c.in-Steps.is c.limits.ensures (to_z-of_z fits) c.run.ensures

pub returns-in-Rounds-clause-run : goal.returns-in-Rounds-clause-run
returns-in-Rounds-clause-run g c =
    let fits : SFits w32 c.args.job.now.arg = search rules in
    run_in_mode c.args.job.now.mode mode.Rounds (plain_program c.args.typed.now) c.limits-in-Rounds.result (limits_of c.args.job.now) _ c.args.job.now.arg c.args.job.now.workers
    c.run_rounds.result c.in-Rounds.is c.limits-in-Rounds.ensures (to_z-of_z fits) c.run_rounds.ensures

pub returns-in-Seeded-clause-run : goal.returns-in-Seeded-clause-run
returns-in-Seeded-clause-run g c =
    let fits : SFits w32 c.args.job.now.arg = search rules in
    run_in_mode c.args.job.now.mode (mode.Seeded c.in-Seeded.seed) (plain_program c.args.typed.now) c.limits-in-Seeded.result (limits_of c.args.job.now) _ c.args.job.now.arg c.args.job.now.workers
    c.run_seeded.result c.in-Seeded.is c.limits-in-Seeded.ensures (to_z-of_z fits) c.run_seeded.ensures
