use Rattle.std.proofs.Common.{◌∙◌, ◌+◌, ap, ap₂, map}
use Rattle.std.specs.Prelude.{slice_set}
use Rattle.exec_frames.specs.Names.{plain_value}
use Rattle.exec_walker.specs.States.{plain_level}
use Rattle.exec_frames.proofs.Dropped.{map_drop}
use Rattle.exec_walker.proofs.level.Level.take_count.Goals as goal

pub returns : goal.returns
returns c =
    let g = plain_level c.args.self.now in
    ap₂ (λ vs us. record g { operands = vs; frame = record g.frame { values = us } })
    (ap (map plain_value) c.drop_top.ensures ∙ map_drop plain_value 1 c.args.self.now.operands)
    (c.set_slot_after.ensures ∙ ap (slice_set g.frame.values (c.args.part + 3)) c.operand-count.ensures)
