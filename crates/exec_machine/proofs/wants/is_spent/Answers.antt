use Rattle.std.proofs.Common.{refl}
use Rattle.lang_meaning.specs.Asking.{most_ticks}
use Rattle.exec_machine.proofs.wants.is_spent.Goals as goal

pub returns : goal.returns
unfolding most_ticks
returns c = refl
