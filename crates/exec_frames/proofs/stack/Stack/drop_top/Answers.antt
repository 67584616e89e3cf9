use Rattle.std.proofs.Common.{◌∙◌, ap, arith, reverse, drop}
use Rattle.exec_frames.proofs.Lists.{drop_reverse}
use Rattle.exec_frames.proofs.stack.Stack.drop_top.Goals as goal

pub returns : goal.returns
returns g c =
    ap reverse c.truncate.ensures.items ∙ drop_reverse c.args.many c.saturating_sub.result c.self.inside.items.items (omega arith)
    ∙ ap (λ l. drop c.args.many l) c.self.view_is
