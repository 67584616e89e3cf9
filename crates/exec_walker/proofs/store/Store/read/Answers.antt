use Rattle.std.proofs.Common.{arith, ap, ◌∙◌}
use Rattle.std.specs.Int.{w64}
use Rattle.std.proofs.lemmas.Int.{to_z-of_z}
use Rattle.exec_heap.specs.Heap.{object_at, values_of}
use Rattle.lang_meaning.specs.Elision.{at_index}
use Rattle.exec_walker.proofs.Heaps.{read_there}
use Rattle.exec_walker.proofs.store.Store.read.Goals as goal

pub returns-clause-value : goal.returns-clause-value
returns-clause-value c = λ L w h. read_there _ _ _ _ _ (c.in_ok-count.ensures L w h).heap (omega arith) (c.cell_at.ensures ∙ ap (at_index (values_of (object_at c.count.new.self.heap c.args.object))) (to_z-of_z w64 c.args.index c.ranges.index))
