-- The lowest bit.
use Rattle.exec_world.proofs.Bits.{last_of}
use Rattle.exec_world.proofs.word.last_place.Goals as goal

pub returns : goal.returns
returns c = last_of c.args.word c.requires
