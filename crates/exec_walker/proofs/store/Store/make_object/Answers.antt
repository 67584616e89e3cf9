use Rattle.std.proofs.Common.{refl, map}
use Rattle.std.proofs.lemmas.List.{length-map}
use Rattle.lang_base.specs.FirstValues.{constant_of}
use Rattle.exec_heap.specs.Heap.{instance}
use Rattle.lang_meaning.specs.Values.{An_object}
use Rattle.exec_frames.specs.Names.{plain_value, plain_region}
use Rattle.exec_walker.proofs.Holding.{after_new, has_room}
use Rattle.exec_walker.proofs.store.Store.make_object.Goals as goal

pub returns-clause-store : goal.returns-clause-store
returns-clause-store c = λ L w h.
    after_new L c.count_creation.new.self _ w (An_object c.args.class (map plain_region c.args.regions) (map plain_value (map constant_of c.args.fields.now))) c.args.constructor
    (instance c.args.class c.args.regions (map constant_of c.args.fields.now)) (c.in_ok-count_creation.ensures L w h)
    (record { output = refl; trap = refl; steps = refl; regions = refl; limit = refl }) c.in_ok-new_object.ensures.made
    (has_room c.count_creation.new.self.heap _ (instance c.args.class c.args.regions (map constant_of c.args.fields.now)) _ c.in_ok-new_object.was c.new_object.ensures.full) (length-map (map constant_of c.args.fields.now) plain_value) refl
