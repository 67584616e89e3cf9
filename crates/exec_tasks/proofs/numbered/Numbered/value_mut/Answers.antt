-- A value written in the pages.
use Rattle.std.proofs.Common.{refl, sym, ap, subst, ◌∙◌, IsSome}
use Rattle.std.specs.Ordering.{nat_cmp}
use Rattle.std.specs.FinMap.{FinMap, get, insert}
use Rattle.exec_tasks.specs.Pages.{with_number}
use Rattle.exec_tasks.proofs.Paging.{seen, seen_put, written}
use Rattle.exec_tasks.proofs.numbered.Numbered.value_mut.Goals as goal

pub get_mut-requires : goal.get_mut-requires
get_mut-requires g c = subst IsSome (ap (λ (m : FinMap nat_cmp g.row.T.Denot). get m c.args.number) (sym c.self.view_is) ∙ seen c.self.inside.pages c.args.number) c.requires

pub returns : goal.returns
returns g c =
    let s = c.self.inside.pages in
    let n = c.args.number in
    let some = subst IsSome (ap (λ (m : FinMap nat_cmp g.row.T.Denot). get m n) (sym c.self.view_is) ∙ seen s n) c.requires in (
      (refl, λ w. seen_put s (with_number s n w) n w (written s n w some) ∙ ap (λ (m : FinMap nat_cmp g.row.T.Denot). insert m n w) c.self.view_is),
      record { lends = tt; value = c.get_mut.ensures.value ∙ sym (seen s n) ∙ ap (λ (m : FinMap nat_cmp g.row.T.Denot). get m n) c.self.view_is },
    )
