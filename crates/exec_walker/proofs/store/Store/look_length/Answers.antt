use Rattle.std.proofs.Common.{◌<◌, length, ap, ◌∙◌, arith, pos}
use Rattle.std.proofs.lemmas.List.Elements.{All-get_or}
use Rattle.exec_heap.specs.Heap.{no_object}
use Rattle.lang_meaning.specs.Values.{Int}
use Rattle.exec_frames.specs.Names.{plain_value}
use Rattle.exec_walker.specs.Stores.{IsSmall}
use Rattle.exec_walker.proofs.Heaps.{length_there}
use Rattle.exec_walker.proofs.store.Store.look_length.Goals as goal

pub returns-clause-len : goal.returns-clause-len
returns-clause-len c = λ L w h.
    let k = c.in_ok-count.ensures L w h in
    let below : c.args.object < length c.count.new.self.heap.objects = omega arith in
    ap plain_value (c.array_length.ensures (All-get_or IsSmall c.count.new.self.heap.objects c.args.object no_object below k.small))
    ∙ ap (λ n. Int (pos n)) (length_there _ _ _ k.heap below)
