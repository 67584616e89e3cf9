use Rattle.std.proofs.Common.{sym, arith}
use Rattle.std.proofs.lemmas.Option.{slice_get_past}
use Rattle.exec_task.proofs.Bodies.{without_place, without_instr, with_both}
use Rattle.exec_task.proofs.lines.line.Goals as goal

pub returns-in_default-get-clause-line : goal.returns-in_default-get-clause-line
returns-in_default-get-clause-line c =
    without_place c.args.code.now c.args.body c.args.at c.in-Some.body.now c.in-Some.ensures.value c.in_default-get.ensures.value

pub returns-then-at-len-clause-line : goal.returns-then-at-len-clause-line
returns-then-at-len-clause-line c =
    without_instr c.args.code.now c.args.body c.args.at c.in-Some.body.now c.in-Some.ensures.value
    (sym (slice_get_past c.in-Some.body.now.instrs c.args.at (omega arith)))

pub returns-in_default-get-2-clause-line : goal.returns-in_default-get-2-clause-line
returns-in_default-get-2-clause-line c =
    without_instr c.args.code.now c.args.body c.args.at c.in-Some.body.now c.in-Some.ensures.value c.in_default-get-2.ensures.value

pub returns-clause-line : goal.returns-clause-line
returns-clause-line c =
    with_both c.args.code.now c.args.body c.args.at c.in-Some.body.now c.in-Some-get-2.instr.now c.in-Some-get.place.now c.in-Some.ensures.value
    c.in-Some-get-2.ensures.value c.in-Some-get.ensures.value
