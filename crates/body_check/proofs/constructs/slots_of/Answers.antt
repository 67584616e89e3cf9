use Rattle.std.proofs.Common.{refl, slice_index}
use Rattle.std.proofs.lemmas.List.{drop_all}
use Rattle.body_check.proofs.Slots.{slots_begin, slots_end, slots_step}
use Rattle.body_check.proofs.constructs.slots_of.Goals as goal

pub loop-name-init : goal.loop-name-init
loop-name-init c = slots_begin c.args.env.now c.args.names.now c.new-slots.result c.new-slots.ensures

pub loop-name-preserved : goal.loop-name-preserved
loop-name-preserved c =
    slots_step c.args.env.now c.args.names.now c.loop-name.name-index (slice_index c.args.names.now c.loop-name.name-index) c.loop-name.slots
    c.add_slot.new.slots c.loop-name-test.true refl c.in_ok-add_slot.ensures c.loop-name.invariant

pub returns : goal.returns
returns c =
    slots_end c.args.env.now c.args.names.now c.loop-name.name-index c.loop-name.slots
    (drop_all c.loop-name.name-index c.args.names.now c.loop-name-test.false) c.loop-name.invariant
