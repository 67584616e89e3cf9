use Rattle.std.proofs.Common.{◌∙◌, ◌+◌, ap, map}
use Rattle.std.specs.Prelude.{slice_set}
use Rattle.lang_meaning.specs.Counts.{slot_value}
use Rattle.exec_frames.specs.Names.{plain_value}
use Rattle.exec_walker.specs.States.{plain_level}
use Rattle.exec_walker.proofs.level.Level.take_over_part.Goals as goal

pub returns : goal.returns
returns c =
    let g = plain_level c.args.self.now in
    let array = c.set_slot.ensures ∙ ap (slice_set g.frame.values c.args.part) c.slot-array.ensures in
    ap (λ us. record g { frame = record g.frame { values = us } })
    (c.set_slot_after.ensures
    ∙ ap (slice_set (map plain_value c.set_slot.new.values) (c.args.part + 1)) c.slot_after-first.ensures
    ∙ ap (λ us. slice_set us (c.args.part + 1) (slot_value us (c.args.whole + 1))) array)
