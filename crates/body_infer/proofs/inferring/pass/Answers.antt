use Rattle.std.proofs.Common.{refl, sym, subst}
use Rattle.lang_typed.specs.Plain.{plain_program}
use Rattle.body_infer.specs.Passes.{MeetsBody, Rises}
use Rattle.body_infer.proofs.Passing.{rises_both, risen_before, post_fixpoint_of}
use Rattle.body_infer.proofs.inferring.pass.Goals as goal

pub returns-then-by_bodies-clause-rises : goal.returns-then-by_bodies-clause-rises
returns-then-by_bodies-clause-rises c =
    let P = plain_program c.args.program.now in
    let U = c.ask_classes.new.kept in
    let a = c.in_ok-by_bodies.by_bodies in
    let b = c.in_ok-by_overriding.by_overriding in
    subst (Rises P c.args.kept.now U) (sym (risen_before a b a c.if-by_bodies.true refl))
    (rises_both P c.args.kept.now c.ask_bodies.new.kept U a b c.in_ok-by_bodies.ensures.rises c.in_ok-by_overriding.ensures.rises)

pub returns-else-by_bodies-clause-post_fixpoint : goal.returns-else-by_bodies-clause-post_fixpoint
returns-else-by_bodies-clause-post_fixpoint c = λ e.
    let P = plain_program c.args.program.now in
    let same = Rises.still c.in_ok-by_overriding.ensures.rises e in
    post_fixpoint_of P c.ask_classes.new.kept
    (λ n. subst (λ V. MeetsBody P V n) (sym same) (c.in_ok-by_bodies.ensures.met c.if-by_bodies.false n))
    (c.in_ok-by_overriding.ensures.met e)
