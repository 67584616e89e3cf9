use Rattle.std.proofs.Common.{sym}
use Rattle.lang_meaning.specs.Values.{Null}
use Rattle.exec_frames.specs.Names.{plain_value}
use Rattle.exec_frames.proofs.Lists.{none_there}
use Rattle.exec_frames.proofs.values.slot.Goals as goal

pub returns-in-None : goal.returns-in-None
returns-in-None c = sym (none_there plain_value c.args.values.now c.args.at Null (sym c.in-None.ensures.value))
