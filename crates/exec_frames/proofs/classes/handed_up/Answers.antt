use Rattle.exec_frames.proofs.Locals.{no_locals}
use Rattle.exec_frames.proofs.classes.handed_up.Goals as goal

pub returns : goal.returns
returns g c = rw (c.new.ensures, c.new-2.ensures, no_locals g.reading) at c.concrete_all.ensures
