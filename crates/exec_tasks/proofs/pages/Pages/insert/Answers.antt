-- A value put into its page, or no memory for its cell.
use Rattle.std.proofs.Common.{◌≡◌, ◌/◌, Some, ◌∙◌}
use Rattle.exec_tasks.specs.Pages.{page_at}
use Rattle.exec_tasks.proofs.Maps.{on_err}
use Rattle.exec_tasks.proofs.Paging.{read_page, replaced_same, inserted}
use Rattle.exec_tasks.proofs.pages.Pages.insert.Goals as goal

pub returns-in_err-reach-2-clause-err : goal.returns-in_err-reach-2-clause-err
returns-in_err-reach-2-clause-err g c =
    let r = c.reach.new.self in
    let p = c.args.number / 64 in
    let is : Some c.value_of-page.result.now ≡ page_at r p =
    read_page r p c.index_mut.result.now c.value_of-page.result.now c.in_ok-reach.ensures.reached c.value_of-page.ensures.value c.index_mut.ensures.value in
    on_err c.from_residual-in_err-reach-2.result _
    (λ q. replaced_same r p c.value_of-page.result.now c.reach-2.new.self is c.in_err-reach-2.ensures.same q ∙ c.in_ok-reach.ensures.same q)

pub returns-clause-ok : goal.returns-clause-ok
returns-clause-ok g c =
    let r = c.reach.new.self in
    let p = c.args.number / 64 in
    let is : Some c.value_of-page.result.now ≡ page_at r p =
    read_page r p c.index_mut.result.now c.value_of-page.result.now c.in_ok-reach.ensures.reached c.value_of-page.ensures.value c.index_mut.ensures.value in
    inserted c.args.self.now r c.args.number c.args.value _ c.value_of-page.result.now c.reach-2.new.self c.put.new.self c.in_ok-reach.ensures.same is
    c.in_ok-reach-2.ensures.same c.in_ok-reach-2.ensures.reached c.put.ensures.cells c.in_ok-value.ensures
