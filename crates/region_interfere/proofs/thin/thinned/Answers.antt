use Rattle.std.proofs.lemmas.Result.{IfOk-weaker}
use Rattle.region_interfere.specs.Kept.{kept, ThinnedBy}
use Rattle.region_interfere.specs.Thinned.{Thinned}
use Rattle.region_interfere.proofs.Alone.{thinned_from}
use Rattle.region_interfere.proofs.thin.thinned.Goals as goal

pub returns : goal.returns
returns c =
    let kinds = c.in_ok-kinds.kinds in
    let branches = c.args.branches.now in
    IfOk-weaker
    c.thin_all.result
    (λ left. ThinnedBy (kept kinds) branches left)
    (λ left. Thinned branches left)
    (λ left t. thinned_from kinds branches left c.in_ok-kinds.ensures t)
    c.thin_all.ensures
