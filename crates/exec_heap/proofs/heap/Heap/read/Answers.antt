-- A read within a header's values, and past them.
use Rattle.std.proofs.Common.{slice_get, sym, ap, ◌∙◌, arith}
use Rattle.exec_heap.specs.Heap.{Contents, object_at, values_of, no_object}
use Rattle.exec_heap.proofs.Flat.{number_of_header, header_at, read_within, read_past}
use Rattle.exec_heap.proofs.heap.Heap.read.Goals as goal

pub index-header-requires : goal.index-header-requires
index-header-requires c = (number_of_header _ _ _ _ _ _ (ap (λ heap. heap.objects) c.self.view_is) c.self.inside.headers.ok.0 c.requires).0

pub index-requires : goal.index-requires
index-requires c =
    let there = number_of_header _ _ _ _ _ _ (ap (λ heap. heap.objects) c.self.view_is) c.self.inside.headers.ok.0 c.requires in
    let fits = header_at _ _ _ c.index-header.result.now c.self.invariant.follow there.1 c.index-header.ensures in
    omega (arith, c.self.inside.cells.ok.0)

pub returns-then-index-header : goal.returns-then-index-header
returns-then-index-header c =
    let there = number_of_header _ _ _ _ _ _ (ap (λ heap. heap.objects) c.self.view_is) c.self.inside.headers.ok.0 c.requires in
    sym (read_within _ _ _ _ _ c.index-header.result.now no_object _ c.self.invariant.follow there.1 c.index-header.ensures c.if-index-header.true
    c.index.ensures)
    ∙ ap (λ (heap : Contents). slice_get (values_of (object_at heap c.args.object)) c.args.index) c.self.view_is

pub returns-else-index-header : goal.returns-else-index-header
returns-else-index-header c =
    let there = number_of_header _ _ _ _ _ _ (ap (λ heap. heap.objects) c.self.view_is) c.self.inside.headers.ok.0 c.requires in
    sym (read_past _ _ _ _ _ c.index-header.result.now no_object c.self.invariant.follow there.1 c.index-header.ensures c.if-index-header.false)
    ∙ ap (λ (heap : Contents). slice_get (values_of (object_at heap c.args.object)) c.args.index) c.self.view_is
