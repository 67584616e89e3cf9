use Rattle.std.proofs.Common.{◌∙◌, ◌-◌, length, ap, arith}
use Rattle.std.proofs.Math.ListN.{set}
use Rattle.std.proofs.lemmas.List.{length-reverse}
use Rattle.exec_frames.proofs.Lists.{set_reverse}
use Rattle.exec_frames.proofs.stack.Stack.set.Goals as goal

pub returns : goal.returns
returns g c =
    set_reverse c.args.below (c.len.result - 1 - c.args.below) c.args.item c.self.inside.items.items (omega (arith, length-reverse c.self.inside.items.items, ap length c.self.view_is))
    ∙ ap (λ l. set l c.args.below c.args.item) c.self.view_is
