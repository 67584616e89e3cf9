-- The last number of the pages.
use Rattle.exec_tasks.proofs.Paging.{seen_last}
use Rattle.exec_tasks.proofs.numbered.Numbered.last_below.Goals as goal

pub returns : goal.returns
returns g c = seen_last c.self.inside.pages c.args.bound c.args.self.now c.last_below.result c.self.view_is c.last_below.ensures.last c.last_below.ensures.absent
