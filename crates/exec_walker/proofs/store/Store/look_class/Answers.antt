use Rattle.std.proofs.Common.{◌<◌, length, ap, ◌∙◌, arith, map, Some}
use Rattle.exec_heap.specs.Heap.{object_at, regions_of}
use Rattle.exec_frames.specs.Names.{plain_region}
use Rattle.exec_walker.specs.Cells.{seen_of}
use Rattle.exec_walker.proofs.Heaps.{class_there}
use Rattle.exec_walker.proofs.store.Store.look_class.Goals as goal

pub returns-in-None-clause-seen : goal.returns-in-None-clause-seen
returns-in-None-clause-seen c = λ L w h.
    let k = c.in_ok-count.ensures L w h in
    let below : c.args.object < length c.count.new.self.heap.objects = omega arith in
    ap (λ o. seen_of o (map plain_region (regions_of (object_at c.count.new.self.heap c.args.object)))) c.in-None.ensures ∙ class_there _ _ _ k.heap below

pub returns-in_ok-regions-in-Some-clause-seen : goal.returns-in_ok-regions-in-Some-clause-seen
returns-in_ok-regions-in-Some-clause-seen c = λ L w h.
    let k = c.in_ok-count.ensures L w h in
    let below : c.args.object < length c.count.new.self.heap.objects = omega arith in
    ap (λ rs. Some (c.in-Some.class, map plain_region rs)) (c.in_ok-regions-in-Some.ensures ∙ c.regions.ensures)
    ∙ ap (λ o. seen_of o (map plain_region (regions_of (object_at c.count.new.self.heap c.args.object)))) c.in-Some.ensures ∙ class_there _ _ _ k.heap below
