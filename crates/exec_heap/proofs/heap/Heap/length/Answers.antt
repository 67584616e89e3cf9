-- A header's length is that of its object.
use Rattle.std.proofs.Common.{length, sym, ap, ◌∙◌}
use Rattle.exec_heap.specs.Heap.{Contents, object_at, values_of, no_object}
use Rattle.exec_heap.proofs.Flat.{number_of_header, count_of_values}
use Rattle.exec_heap.proofs.heap.Heap.length.Goals as goal

pub index-requires : goal.index-requires
index-requires c = (number_of_header _ _ _ _ _ _ (ap (λ heap. heap.objects) c.self.view_is) c.self.inside.headers.ok.0 c.requires).0

pub returns : goal.returns
returns c =
    let there = number_of_header _ _ _ _ _ _ (ap (λ heap. heap.objects) c.self.view_is) c.self.inside.headers.ok.0 c.requires in
    sym (count_of_values _ _ _ _ c.index.result.now no_object c.self.invariant.follow there.1 c.index.ensures)
    ∙ ap (λ (heap : Contents). length (values_of (object_at heap c.args.object))) c.self.view_is
