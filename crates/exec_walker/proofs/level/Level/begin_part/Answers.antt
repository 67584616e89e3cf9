use Rattle.std.proofs.Common.{◌∙◌, ◌+◌, ap, ap₂, map, pos}
use Rattle.std.specs.Prelude.{slice_set}
use Rattle.lang_meaning.specs.Values.{Int}
use Rattle.exec_frames.specs.Names.{plain_value}
use Rattle.exec_walker.specs.States.{plain_level}
use Rattle.exec_frames.proofs.Dropped.{map_drop}
use Rattle.exec_walker.proofs.level.Level.begin_part.Goals as goal

pub returns : goal.returns
returns c =
    let g = plain_level c.args.self.now in
    ap₂ (λ vs us. record g { operands = vs; frame = record g.frame { values = us } })
    (ap (map plain_value) c.drop_top.ensures ∙ map_drop plain_value 1 c.args.self.now.operands)
    (c.set_slot_after.ensures
    ∙ ap (λ us. slice_set us (c.args.part + 1) (Int (pos 0))) (c.set_slot.ensures ∙ ap (slice_set g.frame.values c.args.part) c.operand-array.ensures))
