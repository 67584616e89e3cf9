use Rattle.std.proofs.Common.{refl}
use Rattle.exec_walker.proofs.Starting.{holds_nothing}
use Rattle.exec_walker.proofs.whole.empty_store.Goals as goal

pub returns : goal.returns
returns c = holds_nothing c.args.limits _ c.new.ensures c.new-2.ensures refl refl refl refl c.requires.cells
