use Rattle.std.proofs.Common.{◌≡◌, drop}
use Rattle.std.specs.List.{filter}
use Rattle.lang_base.specs.Effects.{gathered, same_access}
use Rattle.body_infer.specs.Lines.{items_of}
use Rattle.body_infer.proofs.text.items_of.Given as goal

abbrev pub invariant-loop-item : goal.invariant-loop-item
invariant-loop-item l = gathered l.all (filter (λ item. same_access item.access l.access) (drop l.item-index l.item-items)) ≡ items_of l.access l.item-items
