use Rattle.std.specs.Fmt.{decimal}
use Rattle.tool_trace.proofs.Lines.{limits-cut, limits-pieces, limits-cells}
use Rattle.tool_trace.proofs.settings.read_limits.Goals as goal

pub returns-in_err-steps : goal.returns-in_err-steps
returns-in_err-steps c = rw c.from_residual-in_err-steps.ensures (λ L allowed is.
    c.in_err-steps.ensures _ _ (limits-cut c.args.text.now c.in_ok-following.field-0.now L allowed is c.in_ok-following.ensures))

pub returns-in_err-steps-2 : goal.returns-in_err-steps-2
returns-in_err-steps-2 c = rw c.from_residual-in_err-steps-2.ensures (λ L allowed is.
    c.in_err-steps-2.ensures L.steps allowed.steps_least allowed.steps_most
    (limits-pieces c.args.text.now c.in_ok-following.field-0.now L allowed is c.in_ok-following.ensures c.in_ok-steps.steps.now c.in_ok-steps.rest.now c.in_ok-steps.ensures).0)

pub returns-in_err-following-2 : goal.returns-in_err-following-2
returns-in_err-following-2 c = rw c.from_residual-in_err-following-2.ensures (λ L allowed is.
    c.in_err-following-2.ensures (decimal L.cells)
    (limits-pieces c.args.text.now c.in_ok-following.field-0.now L allowed is c.in_ok-following.ensures c.in_ok-steps.steps.now c.in_ok-steps.rest.now c.in_ok-steps.ensures).1)

pub returns-in_err-cells : goal.returns-in_err-cells
returns-in_err-cells c = rw c.from_residual-in_err-cells.ensures (λ L allowed is.
    c.in_err-cells.ensures L.cells allowed.cells_least allowed.cells_most
    (limits-cells c.args.text.now c.in_ok-following.field-0.now L allowed is c.in_ok-following.ensures c.in_ok-steps.steps.now c.in_ok-steps.rest.now c.in_ok-following-2.field-0.now
    c.in_ok-steps.ensures c.in_ok-following-2.ensures))
