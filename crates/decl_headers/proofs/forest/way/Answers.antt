use Rattle.std.proofs.Common.{◌≡◌, ◌+◌, ◌++◌, drop, get_or, is_some, true, false, None, subst, sym, ap, not, ◌∙◌}
use Rattle.decl_headers.specs.Numbers.{as_number}
use Rattle.decl_headers.specs.Way.{extensions, roots, walk, walks, IsEnded, deep}
use Rattle.decl_headers.proofs.Trees.{roots_end, whole_way}
use Rattle.decl_headers.proofs.Ways.{root_next, other_next, root_step, root_over}
use Rattle.decl_headers.proofs.forest.way.Goals.{then-is_none+in_ok-visit, else-is_none}
use Rattle.decl_headers.proofs.forest.way.Goals as goal

pub loop-at-preserved : goal.loop-at-preserved
loop-at-preserved c =
    let parents = c.args.parents.now in
    let i = c.loop-at.at in
    let lists = extensions parents in
    let now = roots i (drop i parents) in
    let next = roots (i + 1) (drop (i + 1) parents) in
    elim c.if-is_none.branch [
      | then-is_none+in_ok-visit w ↦ λ n ends.
          let none : is_some (get_or parents i None) ≡ false = c.is_none.ensures ∙ ap not w.if-is_none.true in
          let made = w.in_ok-visit.ensures in
          let lists_are : w.as_slice.result.now ≡ lists = w.as_slice.ensures.value ∙ c.in_ok-lists.ensures in
          root_step lists n (as_number i) now next c.loop-at.steps.items c.if-is_none.steps.items (walks lists n (roots 0 parents)) (root_next parents i c.loop-at-test.true none) (c.loop-at.invariant n ends) (λ end. ap (λ v. v.items) w.steps-is ∙ made n (subst (λ ls. IsEnded ls n w.number_at.result) (sym lists_are) (subst (IsEnded lists n) (sym w.number_at.ensures) end)) ∙ ap (λ ls. c.loop-at.steps.items ++ walk ls n w.number_at.result) lists_are ∙ ap (λ k. c.loop-at.steps.items ++ walk lists n k) w.number_at.ensures)
      | else-is_none w ↦ λ n ends.
          let some : is_some (get_or parents i None) ≡ true = c.is_none.ensures ∙ ap not w.if-is_none.false in
          let over = root_over lists n now next c.loop-at.steps.items (walks lists n (roots 0 parents)) (other_next parents i c.loop-at-test.true some) (c.loop-at.invariant n ends) in
          (over.0, ap (λ v. v.items ++ walks lists n next) w.steps-is ∙ over.1)
    ]

pub returns : goal.returns
returns c = λ counted.
    let parents = c.args.parents.now in
    c.from_vec.ensures
    ∙ whole_way parents c.loop-at.at c.loop-at.steps.items c.loop-at-test.false (c.loop-at.invariant (deep parents) (roots_end parents counted)).1
