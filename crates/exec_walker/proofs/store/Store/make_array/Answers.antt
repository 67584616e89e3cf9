use Rattle.std.proofs.Common.{refl, replicate}
use Rattle.std.proofs.lemmas.List.{length-replicate}
use Rattle.std.proofs.Common.{sym}
use Rattle.std.specs.Prelude.{false}
use Rattle.exec_heap.specs.Heap.{array}
use Rattle.lang_meaning.specs.Values.{An_array}
use Rattle.exec_frames.specs.Names.{plain_value, plain_region}
use Rattle.exec_walker.proofs.Holding.{after_new, array_seen, has_room}
use Rattle.exec_walker.proofs.store.Store.make_array.Goals as goal

pub returns-clause-store : goal.returns-clause-store
returns-clause-store c = λ L w h.
    after_new L c.count_creation.new.self _ w (An_array (plain_region c.args.region) c.args.len (plain_value c.args.first)) false
    (array c.args.region (replicate c.args.len c.args.first)) (c.in_ok-count_creation.ensures L w h)
    (record { output = refl; trap = refl; steps = refl; regions = refl; limit = refl }) c.in_ok-new_array.ensures.made
    (has_room c.count_creation.new.self.heap _ (array c.args.region (replicate c.args.len c.args.first)) _ c.in_ok-new_array.was c.new_array.ensures.full) (sym (length-replicate c.args.len c.args.first))
    (array_seen c.args.region c.args.len c.args.first)
