use Rattle.std.proofs.Common.{◌∙◌, sym, subst}
use Rattle.lang_typed.specs.Plain.{plain_program}
use Rattle.body_infer.specs.Kept.{SaysOfEach}
use Rattle.body_infer.specs.PostFixpoint.{KeepsNoMore}
use Rattle.body_infer.specs.Passes.{Climbs, Rises}
use Rattle.body_infer.proofs.Same.{nothing_says, nothing_least}
use Rattle.body_infer.proofs.Covering.{bodies_covered, overrides_covered}
use Rattle.body_infer.proofs.inferring.infer.Goals as goal

pub loop-kept-init : goal.loop-kept-init
loop-kept-init c =
    let P = plain_program c.args.program.now in
    let climbs = c.in_ok-settle.ensures in
    record {
      says = Climbs.same climbs ∙ subst (SaysOfEach P) (sym c.in_ok-kept.ensures) (nothing_says P);
      least = λ T says post_fixpoint. Climbs.below climbs T says post_fixpoint (subst (λ S. KeepsNoMore P S T) (sym c.in_ok-kept.ensures) (nothing_least P T));
    }

pub loop-kept-preserved : goal.loop-kept-preserved
loop-kept-preserved c =
    let climbs = Rises.climbs c.in_ok-pass.ensures.rises in
    record {
      says = Climbs.same climbs ∙ c.loop-kept.invariant.says;
      least = λ T says post_fixpoint. Climbs.below climbs T says post_fixpoint (c.loop-kept.invariant.least T says post_fixpoint);
    }

pub returns-clause-bodies : goal.returns-clause-bodies
returns-clause-bodies c =
    let says = Climbs.same (Rises.climbs c.in_ok-pass.ensures.rises) ∙ c.loop-kept.invariant.says in
    bodies_covered (plain_program c.args.program.now) c.pass.new.kept says (c.in_ok-pass.ensures.post_fixpoint c.if-branch.false)

pub returns-clause-overrides : goal.returns-clause-overrides
returns-clause-overrides c =
    let says = Climbs.same (Rises.climbs c.in_ok-pass.ensures.rises) ∙ c.loop-kept.invariant.says in
    overrides_covered (plain_program c.args.program.now) c.pass.new.kept says (c.in_ok-pass.ensures.post_fixpoint c.if-branch.false)
