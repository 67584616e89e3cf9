use Rattle.std.proofs.Common.{◌∙◌, ◌+◌, ap}
use Rattle.std.specs.Prelude.{slice_set}
use Rattle.exec_walker.specs.States.{plain_level}
use Rattle.exec_walker.proofs.level.Level.take_length.Goals as goal

pub returns : goal.returns
returns c =
    let g = plain_level c.args.self.now in
    ap (λ us. record g { frame = record g.frame { values = us } })
    (c.set_slot_after.ensures ∙ ap (slice_set g.frame.values (c.args.part + 2)) c.slot_after-len.ensures)
