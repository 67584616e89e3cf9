use Rattle.std.proofs.Common.{ℕ, List, ap, length, get_or, below_more, subst, ◌<◌, arith}
use Rattle.std.proofs.lemmas.Bool.{iff_false}
use Rattle.body_locals.specs.Clash.{Uses}
use Rattle.body_locals.proofs.Locals.{disturbs_none}
use Rattle.body_locals.proofs.clashes.disturbs.Goals as goal

pub loop-local-preserved : goal.loop-local-preserved
loop-local-preserved c =
    below_more
    (λ (k : ℕ). ¬ Uses c.args.other.now (get_or c.as_slice-local-items.result.now k 0))
    c.loop-local.local-index
    c.loop-local.invariant
    (iff_false c.uses.ensures c.if-uses.false)

pub returns : goal.returns
returns c =
    let same = c.as_slice-local-items.ensures in
    let none = subst (λ (items : List ℕ). (k : ℕ) → k < c.loop-local.local-index → ¬ Uses c.args.other.now (get_or items k 0)) same c.loop-local.invariant in
    disturbs_none c.args.branch.now c.args.other.now c.loop-local.local-index (omega (arith, ap length same)) none
