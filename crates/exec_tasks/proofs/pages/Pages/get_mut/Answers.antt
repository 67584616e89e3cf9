-- A value written in its page.
use Rattle.std.proofs.Common.{◌≡◌, ◌/◌, ◌%◌, refl, ap, subst, ◌∙◌, IsSome, Some, sym}
use Rattle.std.specs.Vec.{with_item}
use Rattle.exec_tasks.specs.Pages.{in_some, page_at, changed_page}
use Rattle.exec_tasks.proofs.Paging.{page_of, read_page}
use Rattle.exec_tasks.proofs.pages.Pages.get_mut.Goals as goal

pub returns : goal.returns
returns g c =
    let s = c.args.self.now in
    let n = c.args.number in
    let found = page_of (page_at s (n / 64)) (n % 64) c.requires in
    let is : Some c.value_of.result.now ≡ page_at s (n / 64) =
    read_page s (n / 64) c.index_mut.result.now c.value_of.result.now (subst IsSome (sym found.1) refl) c.value_of.ensures.value c.index_mut.ensures.value in (
      (refl, λ w. ap (λ o. record s { pages = with_item s.pages (n / 64) (changed_page o (n % 64) w) }) is),
      record { lends = tt; value = c.get_mut.ensures.value ∙ ap (λ o. in_some o (n % 64)) is },
    )
