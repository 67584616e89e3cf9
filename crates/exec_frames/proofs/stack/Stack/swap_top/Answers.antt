use Rattle.std.proofs.Common.{◌∙◌, ◌-◌, ap, arith, reverse, length}
use Rattle.std.proofs.lemmas.List.{length-reverse}
use Rattle.std.proofs.Math.ListN.{set}
use Rattle.exec_frames.proofs.Lists.{set_last}
use Rattle.exec_frames.proofs.stack.Stack.swap_top.Goals as goal

pub returns-clause-top : goal.returns-clause-top
returns-clause-top g c =
    ap (λ v. reverse (set c.self.inside.items.items (c.len-at.result - 1) v)) c.swap.ensures.x_after
    ∙ set_last (c.len-at.result - 1) c.args.item.now c.self.inside.items.items c.args.self.now c.self.view_is
    (omega (arith, length-reverse c.self.inside.items.items, ap length c.self.view_is))
