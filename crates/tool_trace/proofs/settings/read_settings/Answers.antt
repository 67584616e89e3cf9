use Rattle.tool_trace.proofs.Lines.{settings-cut, settings-pieces}
use Rattle.tool_trace.proofs.settings.read_settings.Goals as goal

pub returns-in_err-arg : goal.returns-in_err-arg
returns-in_err-arg c = rw c.from_residual-in_err-arg.ensures (λ arg L reported.
    c.in_err-arg.ensures _ _ (settings-cut c.args.text.now c.in_ok-following.field-0.now arg L reported c.in_ok-following.ensures))

pub returns-in_err-arg-2 : goal.returns-in_err-arg-2
returns-in_err-arg-2 c = rw c.from_residual-in_err-arg-2.ensures (λ arg L reported.
    c.in_err-arg-2.ensures arg reported.arg_allowed
    (settings-pieces c.args.text.now c.in_ok-following.field-0.now arg L reported c.in_ok-following.ensures c.in_ok-arg.arg.now c.in_ok-arg.rest.now c.in_ok-arg.ensures).0)

pub returns-in_err-limits : goal.returns-in_err-limits
returns-in_err-limits c = rw c.from_residual-in_err-limits.ensures (λ arg L reported.
    c.in_err-limits.ensures L reported.limits_allowed
    (settings-pieces c.args.text.now c.in_ok-following.field-0.now arg L reported c.in_ok-following.ensures c.in_ok-arg.arg.now c.in_ok-arg.rest.now c.in_ok-arg.ensures).1)
