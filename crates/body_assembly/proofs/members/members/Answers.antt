use Rattle.std.proofs.Common.{◌≡◌, ◌∙◌, [], ◌++◌, map, sym, ap}
use Rattle.std.proofs.lemmas.List.{append-nil}
use Rattle.std.specs.Vec.Iter.{into_iter_items}
use Rattle.lang_typed.specs.Names.{named_member}
use Rattle.lang_typed.specs.Plain.{plain_member}
use Rattle.body_assembly.specs.Assembled.{plain_body, members_of}
use Rattle.body_assembly.specs.Named.{members_named}
use Rattle.body_assembly.proofs.Lists.{nothing_left}
use Rattle.body_assembly.proofs.Bodies.{no_bodies, no_names}
use Rattle.body_assembly.proofs.members.members.Goals as goal

pub returns-clause-made : goal.returns-clause-made
returns-clause-made c =
    let at = c.loop-body in
    let empty : into_iter_items at.body-iterator ≡ [] = nothing_left _ (sym at.invariant.counted ∙ c.in-None.ensures.steps.0) in
    let all : into_iter_items c.into_iter-body-iterator.result ≡ c.args.bodies = cc (c.into_iter-body-iterator.ensures.into_iter_gives.0, c.into_vec-body-items.ensures) in
    sym (append-nil (map plain_member at.made)) ∙ ap (λ xs. map plain_member at.made ++ xs) (sym (no_bodies at.left.now))
    ∙ ap (λ bodies. map plain_member at.made ++ members_of at.left.now (map plain_body bodies)) (sym empty) ∙ at.invariant.made
    ∙ ap (λ bodies. members_of c.args.rows.now (map plain_body bodies)) all

pub returns-clause-named : goal.returns-clause-named
returns-clause-named c =
    let at = c.loop-body in
    let names = c.args.names.now in
    let empty : into_iter_items at.body-iterator ≡ [] = nothing_left _ (sym at.invariant.counted ∙ c.in-None.ensures.steps.0) in
    let all : into_iter_items c.into_iter-body-iterator.result ≡ c.args.bodies = cc (c.into_iter-body-iterator.ensures.into_iter_gives.0, c.into_vec-body-items.ensures) in
    sym (append-nil (map named_member at.made)) ∙ ap (λ xs. map named_member at.made ++ xs) (sym (no_names names at.left.now))
    ∙ ap (λ bodies. map named_member at.made ++ members_named names at.left.now (map plain_body bodies)) (sym empty) ∙ at.invariant.named
    ∙ ap (λ bodies. members_named names c.args.rows.now (map plain_body bodies)) all
