use Rattle.tool_front.specs.Judging.{typed_of}
use Rattle.tool_top.proofs.Verdicts.{elide-answer, list-answer, effects-answer, is-check, program-answer}
use Rattle.tool_top.specs.Answer.{of_program, to_check}
use Rattle.tool_top.proofs.carrying.carry_out.Goals as goal

pub returns-in-Elide : goal.returns-in-Elide
returns-in-Elide c =
    program-answer c.args.job.now c.args.text.now c.args.passed.place (typed_of c.args.passed) c.elided.result c.requires.accepted
    (elide-answer c.args.job.now c.args.text.now (typed_of c.args.passed) c.elided.result c.in-Elide.is c.elided.ensures)

pub returns-in-List : goal.returns-in-List
returns-in-List c =
    program-answer c.args.job.now c.args.text.now c.args.passed.place (typed_of c.args.passed) c.listed.result c.requires.accepted
    (list-answer c.args.job.now c.args.text.now (typed_of c.args.passed) c.listed.result c.in-List.is c.listed.ensures)

pub returns-in-Effects : goal.returns-in-Effects
returns-in-Effects c =
    program-answer c.args.job.now c.args.text.now c.args.passed.place (typed_of c.args.passed) c.inferred.result c.requires.accepted
    (effects-answer c.args.job.now c.args.text.now (typed_of c.args.passed) c.inferred.result c.in-Effects.is c.inferred.ensures)

pub returns-in_default : goal.returns-in_default
returns-in_default c =
    of_program c.args.passed.place (typed_of c.args.passed) c.only.result c.requires.accepted
    (to_check
    (is-check c.args.job.now.command c.requires.no_run c.in_default.not-Elide c.in_default.not-List c.in_default.not-Effects c.requires.no_replay)
    c.only.ensures)
