-- A value more in the pages.
use Rattle.std.proofs.Common.{ap, ◌∙◌}
use Rattle.std.proofs.lemmas.Result.{on_ok_weaker, on_err_weaker}
use Rattle.std.specs.Ordering.{nat_cmp}
use Rattle.std.specs.FinMap.{FinMap, insert}
use Rattle.exec_tasks.proofs.Paging.{seen_put, seen_same}
use Rattle.exec_tasks.proofs.numbered.Numbered.insert.Goals as goal

pub returns-clause-ok : goal.returns-clause-ok
returns-clause-ok g c =
    on_ok_weaker c.insert.result (λ puts. seen_put c.self.inside.pages c.insert.new.self c.args.number c.args.value puts
    ∙ ap (λ (m : FinMap nat_cmp g.row.T.Denot). insert m c.args.number c.args.value) c.self.view_is) c.insert.ensures.ok

pub returns-clause-err : goal.returns-clause-err
returns-clause-err g c =
    on_err_weaker c.insert.result (λ same. seen_same c.self.inside.pages c.insert.new.self same ∙ c.self.view_is) c.insert.ensures.err
