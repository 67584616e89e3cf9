-- A look-up in the pages.
use Rattle.std.proofs.Common.{sym, ap, ◌∙◌}
use Rattle.std.specs.Ordering.{nat_cmp}
use Rattle.std.specs.FinMap.{FinMap, get}
use Rattle.exec_tasks.proofs.Paging.{seen}
use Rattle.exec_tasks.proofs.numbered.Numbered.get.Goals as goal

pub returns : goal.returns
returns g c = c.get.ensures ∙ sym (seen c.self.inside.pages c.args.number) ∙ ap (λ (m : FinMap nat_cmp g.row.T.Denot). get m c.args.number) c.self.view_is
