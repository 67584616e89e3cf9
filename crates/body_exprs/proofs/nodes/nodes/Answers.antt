use Rattle.std.proofs.Common.{◌≡◌, ◌∙◌, List, [], ◌∷◌, ◌++◌, map, length, refl, sym, ap, append-nil, arith}
use Rattle.std.specs.Vec.Iter.{into_iter_items}
use Rattle.lang_typed.specs.Plain.{exprs_of}
use Rattle.body_exprs.specs.declared.typed.Typed.{Typed}
use Rattle.body_exprs.specs.Typed.{plain_node, plain_typed, node_at}
use Rattle.body_exprs.proofs.Built.{nodes_step, exprs_of-nodes}
use Rattle.body_exprs.proofs.nodes.nodes.Goals as goal

nothing_left : {X : Type 0} (l : List X) → length l ≡ 0 → l ≡ []
nothing_left [] h = refl
nothing_left (x ∷ xs) h = absurd (omega arith)

pub loop-given-preserved : goal.loop-given-preserved
loop-given-preserved c =
    let at = c.loop-given in
    let x = c.in-Some.given in
    let node = λ (t : Typed). node_at c.args.place (plain_typed t) in
    let steps : into_iter_items at.given-iterator ≡ x ∷ into_iter_items c.next.new.self = c.in-Some.ensures.steps.0 in (
      nodes_step at.made c.push.new.self c.into_node.result (node x) (map node (into_iter_items c.next.new.self)) c.into_node.ensures c.in_ok-push.ensures.ok
          ∙ ap (λ (z : List Typed). map plain_node at.made ++ map node z) (sym steps) ∙ at.invariant.0,
      let was = at.invariant.1 in
          let gone = c.in-Some.ensures.steps.1 in
          let short = ap length steps in
          omega arith,
    )

pub returns : goal.returns
returns c =
    let at = c.loop-given in
    let node = λ (t : Typed). node_at c.args.place (plain_typed t) in
    let empty : into_iter_items at.given-iterator ≡ [] = nothing_left _ (sym at.invariant.1 ∙ c.in-None.ensures.steps.0) in
    let all : into_iter_items c.into_iter-given-iterator.result ≡ c.args.all = cc (c.into_iter-given-iterator.ensures.into_iter_gives.0, c.into_vec-given-items.ensures) in
    let made : map plain_node at.made ≡ map node c.args.all =
    sym (append-nil (map plain_node at.made)) ∙ ap (λ (z : List Typed). map plain_node at.made ++ map node z) (sym empty) ∙ at.invariant.0 ∙ ap (map node) all in
    ap exprs_of made ∙ exprs_of-nodes c.args.place c.args.all
