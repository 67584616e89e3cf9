use Rattle.std.proofs.Common.{◌≡◌, ◌∷◌, [], List, length, refl, sym, ap, ◌∙◌, append_assoc, append-nil, arith}
use Rattle.std.specs.Vec.Iter.{into_iter_items}
use Rattle.body_check.proofs.bodies.append.Goals as goal

nothing_left : {X : Type 0} (l : List X) → length l ≡ 0 → l ≡ []
nothing_left [] h = refl
nothing_left (x ∷ xs) h = absurd (omega arith)

pub loop-body-preserved : goal.loop-body-preserved
loop-body-preserved c =
    let at = c.loop-body in
    let x = c.in-Some.body in
    let steps : into_iter_items at.body-iterator ≡ x ∷ into_iter_items c.next.new.self = c.in-Some.ensures.steps.0 in (
      cc (append_assoc at.bodies (x ∷ []) (into_iter_items c.next.new.self), c.in_ok-push.ensures.ok),
      let was = at.invariant.1 in
          let gone = c.in-Some.ensures.steps.1 in
          let short = ap length steps in
          omega arith,
    )

pub returns : goal.returns
returns c =
    let at = c.loop-body in
    let empty : into_iter_items at.body-iterator ≡ [] = nothing_left _ (sym at.invariant.1 ∙ c.in-None.ensures.steps.0) in
    cc (append-nil at.bodies, c.into_iter-body-iterator.ensures.into_iter_gives.0, c.into_vec-body-items.ensures)
