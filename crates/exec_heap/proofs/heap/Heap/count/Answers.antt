-- The number of headers is that of the objects.
use Rattle.std.proofs.Common.{sym, ap, ◌∙◌, length}
use Rattle.exec_heap.proofs.Flat.{length-objects_in}
use Rattle.exec_heap.proofs.heap.Heap.count.Goals as goal

pub returns : goal.returns
returns c = c.len.ensures ∙ c.self.inside.headers.ok.0 ∙ sym (length-objects_in _ _ _) ∙ ap (λ heap. length heap.objects) c.self.view_is
