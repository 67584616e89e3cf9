-- The last of the range below the bound.
use Rattle.exec_tasks.proofs.Ranges.{last_in}
use Rattle.exec_tasks.proofs.pages.Pages.page_below.Goals as goal

pub returns-clause-last : goal.returns-clause-last
returns-clause-last g c =
    last_in c.args.self.now c.requires c.args.bound c.range.result (c.range.ensures.in_range tt) c.next_back.new.self c.in_ok-page.page.now c.in_ok-page.ensures.steps
