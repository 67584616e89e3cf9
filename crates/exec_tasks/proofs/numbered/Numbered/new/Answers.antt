-- No value.
use Rattle.exec_tasks.proofs.Paging.{seen_empty}
use Rattle.exec_tasks.proofs.numbered.Numbered.new.Goals as goal

pub returns : goal.returns
returns g c = seen_empty c.new.result c.new.ensures.none
