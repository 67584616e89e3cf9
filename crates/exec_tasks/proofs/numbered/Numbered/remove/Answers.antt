-- A value fewer in the pages.
use Rattle.std.proofs.Common.{sym, ap, ◌∙◌}
use Rattle.std.specs.Ordering.{nat_cmp}
use Rattle.std.specs.FinMap.{FinMap, get, remove}
use Rattle.exec_tasks.proofs.Paging.{seen, seen_removed}
use Rattle.exec_tasks.proofs.numbered.Numbered.remove.Goals as goal

pub returns-clause-value : goal.returns-clause-value
returns-clause-value g c =
    c.remove.ensures.value ∙ sym (seen c.self.inside.pages c.args.number) ∙ ap (λ (m : FinMap nat_cmp g.row.T.Denot). get m c.args.number) c.self.view_is

pub returns-clause-removed : goal.returns-clause-removed
returns-clause-removed g c =
    seen_removed c.self.inside.pages c.remove.new.self c.args.number c.remove.ensures.removed ∙ ap (λ (m : FinMap nat_cmp g.row.T.Denot). remove m c.args.number) c.self.view_is
