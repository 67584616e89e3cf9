use Rattle.std.proofs.Common.{◌≡◌, ◌∙◌, false, true, sym}
use Rattle.body_infer.proofs.Raising.{same_set}
use Rattle.body_infer.proofs.inferring.raise.Goals as goal

pub returns-clause-moved : goal.returns-clause-moved
returns-clause-moved c = λ e same.
    let alike : false ≡ true =
    c.if-same.ensures.1 (same_set c.args.kept.now c.args.number c.in-Some.old.now c.in_ok-new.new (sym c.in-Some.ensures.value) (sym c.set.ensures ∙ same)) in
    cc
