use Rattle.std.proofs.Common.{arith, ◌≡◌, sym, ap, suc, ◌+◌, ◌∙◌, ◌∷◌, [], ◌++◌, add-one, append-nil, append_assoc}
use Rattle.lang_meaning.specs.Regions.{unmade_from}
use Rattle.exec_frames.specs.Names.{names_by, locals_by, unmade_by}
use Rattle.exec_frames.proofs.Locals.{no_locals, one_local}
use Rattle.exec_frames.proofs.entries.unmade.Goals as goal

pub loop-declaration-init : goal.loop-declaration-init
loop-declaration-init g c = λ k e.
    let all : k ≡ c.args.many = omega (arith, e) in
    ap (λ l. locals_by g.reading l ++ unmade_from (names_by g.reading) 0 k) c.new-locals.ensures
    ∙ ap (λ l. l ++ unmade_from (names_by g.reading) 0 k) (no_locals g.reading) ∙ ap (unmade_from (names_by g.reading) 0) all

pub loop-declaration-preserved : goal.loop-declaration-preserved
loop-declaration-preserved g c = λ k e.
    ap (λ l. locals_by g.reading l ++ unmade_from (names_by g.reading) (c.loop-declaration.declaration + 1) k) c.in_ok-push.ensures.ok
    ∙ ap (λ l. l ++ unmade_from (names_by g.reading) (c.loop-declaration.declaration + 1) k) (one_local g.reading c.loop-declaration.locals c.loop-declaration.declaration)
    ∙ append_assoc (locals_by g.reading c.loop-declaration.locals) (unmade_by g.reading c.loop-declaration.declaration ∷ []) (unmade_from (names_by g.reading) (c.loop-declaration.declaration + 1) k)
    ∙ ap (λ d. locals_by g.reading c.loop-declaration.locals ++ unmade_by g.reading c.loop-declaration.declaration ∷ unmade_from (names_by g.reading) d k) (add-one c.loop-declaration.declaration)
    ∙ c.loop-declaration.invariant (suc k) (omega (arith, e))

pub returns : goal.returns
returns g c = sym (append-nil (locals_by g.reading c.loop-declaration.locals)) ∙ c.loop-declaration.invariant 0 (omega arith)
