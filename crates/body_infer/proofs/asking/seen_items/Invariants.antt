use Rattle.std.proofs.Common.{◌≡◌, ◌++◌, map, drop}
use Rattle.lang_base.specs.Regions.{substituted}
use Rattle.body_infer.proofs.asking.seen_items.Given as goal

abbrev pub invariant-loop-item : goal.invariant-loop-item
invariant-loop-item l = l.places ++ map (λ e. substituted l.seen e.rpl) (drop l.item-index l.item-items) ≡ map (λ e. substituted l.seen e.rpl) l.item-items
