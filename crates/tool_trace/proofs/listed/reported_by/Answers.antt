use Rattle.std.proofs.Common.{◌<◌, ◌^◌, sym, ap, subst, arith}
use Rattle.std.specs.Fmt.{decimal}
use Rattle.std.specs.Str.Parse.{digits_value}
use Rattle.tool_trace.specs.Pieces.{IsNumber}
use Rattle.tool_trace.proofs.Lines.{run-cut, run-pieces}
use Rattle.tool_trace.proofs.listed.reported_by.Goals as goal

pub returns-in_err-task : goal.returns-in_err-task
returns-in_err-task c = rw c.from_residual.ensures (λ task many is_line. c.in_err-task.ensures (decimal task) many (run-cut c.args.line.now task many is_line))

pub returns-in_err-task-2 : goal.returns-in_err-task-2
returns-in_err-task-2 c = rw c.from_residual-in_err-task-2.ensures (λ task many is_line.
    let small : task < 2 ^ 32 = is_line.task_allowed in
    c.in_err-task-2.ensures task (omega arith) (omega (arith, small))
    (run-pieces c.args.line.now c.in_ok-task.task.now c.in_ok-task.many.now task many c.in_ok-task.ensures is_line).0)

pub returns-in_err-many : goal.returns-in_err-many
returns-in_err-many c = rw c.from_residual-in_err-many.ensures (λ task many is_line.
    c.in_err-many.ensures
    (subst IsNumber (sym (run-pieces c.args.line.now c.in_ok-task.task.now c.in_ok-task.many.now task many c.in_ok-task.ensures is_line).1) is_line.number))

pub returns-then-many-eq0 : goal.returns-then-many-eq0
returns-then-many-eq0 c = λ task many is_line.
    let same = (run-pieces c.args.line.now c.in_ok-task.task.now c.in_ok-task.many.now task many c.in_ok-task.ensures is_line).1 in
    let some : 0 < digits_value 10 many = is_line.some in
    omega (arith, some, ap (digits_value 10) same, c.in_ok-many.ensures.1, c.if-many-eq0.true)
