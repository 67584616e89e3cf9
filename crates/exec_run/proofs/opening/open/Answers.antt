use Rattle.std.proofs.Common.{rules, ap, ◌∙◌}
use mir.Val.{SFits}
use Rattle.std.specs.Int.{w32}
use Rattle.std.proofs.Math.Facts.{to_z-of_z}
use Rattle.code_instrs.specs.Plain.{plain_code}
use Rattle.lang_typed.specs.Plain.{plain_program}
use Rattle.exec_run.specs.Run.{opened, too_wide}
use Rattle.exec_run.proofs.Coming.{not_few}
use Rattle.exec_run.proofs.opening.open.Goals as goal

pub returns-then-not-all_few : goal.returns-then-not-all_few
returns-then-not-all_few c =
    too_wide (record {
      code = c.in_ok-code.code;
      is_code = c.in_ok-code.ensures.code;
      wide = not_few c.in_ok-code.code c.as_slice.result.now c.all_few.result c.as_slice.ensures c.all_few.ensures c.if-not-all_few.true;
    })

pub open-requires-clause-goes_on : goal.open-requires-clause-goes_on
open-requires-clause-goes_on c =
    c.law_code_progress.ensures.goes c.in_ok-code.code (plain_program c.args.program.now) c.args.limits _ c.in_ok-code.ensures.code c.requires.resolved c.requires.main
    c.requires.steps

pub returns : goal.returns
returns c =
    let fits : SFits w32 c.args.argument = search rules in
    opened c.in_ok-machine.machine (record {
      is_code = ap plain_code c.in_ok-machine.ensures.code ∙ c.in_ok-code.ensures.code;
      limits = c.in_ok-machine.ensures.limits;
      is_argument = c.in_ok-machine.ensures.argument ∙ to_z-of_z fits;
      replayed = c.in_ok-machine.ensures.replayed;
    }) c.in_ok-machine.ensures.nothing
