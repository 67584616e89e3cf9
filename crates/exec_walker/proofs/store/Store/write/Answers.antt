use Rattle.std.proofs.Common.{◌≡◌, ◌<◌, ◌≤◌, length, map, ap, sym, ◌∙◌, subst, refl, arith}
use Rattle.std.specs.Prelude.{All}
use Rattle.std.specs.Int.{w64}
use Rattle.std.proofs.lemmas.Int.{to_z-of_z}
use Rattle.exec_heap.specs.Heap.{Contents, object_at}
use Rattle.exec_walker.specs.Cells.{cell_set, has_index}
use Rattle.exec_frames.specs.Names.{plain_value}
use Rattle.exec_walker.specs.Stores.{IsSmall, object_seen, held_seen}
use Rattle.exec_walker.proofs.Heaps.{write_there, write_nowhere, out_there, out_nowhere}
use Rattle.exec_walker.proofs.Holding.{after_write, set_used, set_limit, set_small}
use Rattle.exec_walker.proofs.store.Store.write.Goals as goal

pub returns-then-object-count-clause-store : goal.returns-then-object-count-clause-store
returns-then-object-count-clause-store c = λ L w h.
    let k = c.in_ok-count.ensures L w h in
    let past : length c.count.new.self.heap.objects ≤ c.args.object = omega arith in
    after_write L c.count.new.self c.count.new.self w c.args.object c.args.index (plain_value c.args.value) k
    (record { output = refl; trap = refl; steps = refl; regions = refl; limit = refl })
    (k.heap ∙ ap (map held_seen) (write_nowhere _ _ c.args.object c.args.index (plain_value c.args.value) k.heap past)) k.small refl refl

pub returns-then-object-count-clause-out : goal.returns-then-object-count-clause-out
returns-then-object-count-clause-out c = λ L w h.
    let past : length c.count.new.self.heap.objects ≤ c.args.object = omega arith in
    out_nowhere _ _ _ _ (c.in_ok-count.ensures L w h).heap past

pub returns-clause-store : goal.returns-clause-store
returns-clause-store c = λ L w h.
    let k = c.in_ok-count.ensures L w h in
    let below : c.args.object < length c.count.new.self.heap.objects = omega arith in
    let again = to_z-of_z w64 c.args.index c.ranges.index in
    let now : c.set_cell.new.heap ≡ cell_set c.count.new.self.heap c.args.object c.args.index c.args.value
    = c.set_cell.ensures.after ∙ ap (λ i. cell_set c.count.new.self.heap c.args.object i c.args.value) again in
    after_write L c.count.new.self _ w c.args.object c.args.index (plain_value c.args.value) k
    (record { output = refl; trap = refl; steps = refl; regions = refl; limit = refl })
    (ap (λ (m : Contents). map object_seen m.objects) now
    ∙ write_there c.count.new.self.heap w.heap c.args.object c.args.index c.args.value k.heap below)
    (subst (λ (m : Contents). All IsSmall m.objects) (sym now)
    (set_small c.count.new.self.heap c.args.object c.args.index c.args.value below k.small))
    (ap (λ (m : Contents). m.used) now ∙ set_used c.count.new.self.heap c.args.object c.args.index c.args.value)
    (ap (λ (m : Contents). m.limit) now ∙ set_limit c.count.new.self.heap c.args.object c.args.index c.args.value)

pub returns-clause-out : goal.returns-clause-out
returns-clause-out c = λ L w h.
    let below : c.args.object < length c.count.new.self.heap.objects = omega arith in
    out_there _ _ _ _ _ (plain_value c.args.value) (c.in_ok-count.ensures L w h).heap below
    (c.set_cell.ensures.within ∙ ap (has_index (object_at c.count.new.self.heap c.args.object)) (to_z-of_z w64 c.args.index c.ranges.index))
