use Rattle.std.proofs.Common.{◌∙◌, sym, ap}
use Rattle.std.proofs.lemmas.Result.{on_ok_weaker}
use Rattle.std.specs.Option.{option_copied}
use Rattle.body_check.proofs.Slots.{slot_added, slot_missing}
use Rattle.body_check.proofs.constructs.add_slot.Goals as goal

pub returns-in-Some : goal.returns-in-Some
returns-in-Some c =
    on_ok_weaker c.push.result
    (slot_added c.args.env.now c.args.name c.in-Some.row.now c.args.slots.now c.push.new.self
    (sym c.local.ensures ∙ ap option_copied c.in-Some.is))
    c.push.ensures.ok

pub returns-in-None : goal.returns-in-None
returns-in-None c =
    slot_missing c.args.env.now c.args.name c.args.slots.now (sym c.local.ensures ∙ ap option_copied c.in-None.is)
