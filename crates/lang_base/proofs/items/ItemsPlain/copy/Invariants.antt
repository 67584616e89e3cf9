use Rattle.std.proofs.Common.{◌≡◌, take}
use Rattle.lang_base.proofs.items.ItemsPlain.copy.Given as goal

abbrev pub invariant-loop-item : goal.invariant-loop-item
invariant-loop-item g l = l.copies ≡ take l.item-index l.item-items
