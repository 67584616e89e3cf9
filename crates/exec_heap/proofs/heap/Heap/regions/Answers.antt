-- A header's row has the regions of its object.
use Rattle.std.proofs.Common.{[], sym, ap, ◌∙◌}
use Rattle.std.proofs.lemmas.Option.{get_or_from_slice_get}
use Rattle.exec_heap.specs.Heap.{Contents, object_at, regions_of, no_object}
use Rattle.exec_heap.proofs.Flat.{number_of_header, header_shown, row_of_header, regions_of-object_of}
use Rattle.exec_heap.proofs.heap.Heap.regions.Goals as goal

pub index-requires : goal.index-requires
index-requires c = (number_of_header _ _ _ _ _ _ (ap (λ heap. heap.objects) c.self.view_is) c.self.inside.headers.ok.0 c.requires).0

pub get-requires : goal.get-requires
get-requires c =
    let there = number_of_header _ _ _ _ _ _ (ap (λ heap. heap.objects) c.self.view_is) c.self.inside.headers.ok.0 c.requires in
    (row_of_header _ _ _ c.index.result.now c.self.invariant.rows_there there.1 c.index.ensures).0

pub returns : goal.returns
returns c =
    let there = number_of_header _ _ _ _ _ _ (ap (λ heap. heap.objects) c.self.view_is) c.self.inside.headers.ok.0 c.requires in
    sym (get_or_from_slice_get c.self.inside.rows c.index.result.now.row c.get.result.now [] c.get.ensures)
    ∙ regions_of-object_of c.index.result.now.kind _ _ (row_of_header _ _ _ c.index.result.now c.self.invariant.rows_there there.1 c.index.ensures).1
    ∙ ap regions_of (sym (header_shown _ _ _ _ c.index.result.now no_object c.self.invariant.follow there.1 c.index.ensures))
    ∙ ap (λ (heap : Contents). regions_of (object_at heap c.args.object)) c.self.view_is
