-- A header's kind is that of its object.
use Rattle.std.proofs.Common.{sym, ap, ◌∙◌}
use Rattle.exec_heap.specs.Heap.{Contents, object_at, class_of, no_object}
use Rattle.exec_heap.proofs.Flat.{number_of_header, header_shown, class_of-instance, class_of-array}
use Rattle.exec_heap.proofs.heap.Heap.class.Goals as goal

pub index-requires : goal.index-requires
index-requires c = (number_of_header _ _ _ _ _ _ (ap (λ heap. heap.objects) c.self.view_is) c.self.inside.headers.ok.0 c.requires).0

pub returns-in-Instance : goal.returns-in-Instance
returns-in-Instance c =
    let there = number_of_header _ _ _ _ _ _ (ap (λ heap. heap.objects) c.self.view_is) c.self.inside.headers.ok.0 c.requires in
    class_of-instance c.index.result.now.kind _ _ _ c.in-Instance.is
    ∙ ap class_of (sym (header_shown _ _ _ _ c.index.result.now no_object c.self.invariant.follow there.1 c.index.ensures))
    ∙ ap (λ (heap : Contents). class_of (object_at heap c.args.object)) c.self.view_is

pub returns-in-Array : goal.returns-in-Array
returns-in-Array c =
    let there = number_of_header _ _ _ _ _ _ (ap (λ heap. heap.objects) c.self.view_is) c.self.inside.headers.ok.0 c.requires in
    class_of-array c.index.result.now.kind _ _ c.in-Array.is
    ∙ ap class_of (sym (header_shown _ _ _ _ c.index.result.now no_object c.self.invariant.follow there.1 c.index.ensures))
    ∙ ap (λ (heap : Contents). class_of (object_at heap c.args.object)) c.self.view_is
