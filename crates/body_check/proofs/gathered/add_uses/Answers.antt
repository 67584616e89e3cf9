use Rattle.std.proofs.Common.{◌≡◌, ◌∷◌, [], List, length, refl, sym, ap, ◌∙◌, append_assoc, append-nil, arith}
use Rattle.std.specs.Vec.Iter.{into_iter_items}
use Rattle.body_check.proofs.gathered.add_uses.Goals as goal

nothing_left : {X : Type 0} (l : List X) → length l ≡ 0 → l ≡ []
nothing_left [] h = refl
nothing_left (x ∷ xs) h = absurd (omega arith)

pub loop-part_use-preserved : goal.loop-part_use-preserved
loop-part_use-preserved c =
    let at = c.loop-part_use in
    let x = c.in-Some.part_use in
    let steps : into_iter_items at.part_use-iterator ≡ x ∷ into_iter_items c.next.new.self = c.in-Some.ensures.steps.0 in (
      cc (append_assoc at.uses (x ∷ []) (into_iter_items c.next.new.self), c.in_ok-push.ensures.ok),
      let was = at.invariant.1 in
          let gone = c.in-Some.ensures.steps.1 in
          let short = ap length steps in
          omega arith,
    )

pub returns : goal.returns
returns c =
    let at = c.loop-part_use in
    let empty : into_iter_items at.part_use-iterator ≡ [] = nothing_left _ (sym at.invariant.1 ∙ c.in-None.ensures.steps.0) in
    cc (append-nil at.uses, c.into_iter-part_use-iterator.ensures.into_iter_gives.0, c.into_vec-part_use-items.ensures)
