use Rattle.std.proofs.Common.{◌≡◌, ◌∙◌, ◌≤◌, ◌||◌, length, sym, subst, below_more, arith}
use Rattle.std.proofs.lemmas.List.{length-map}
use Rattle.lang_typed.specs.Plain.{plain_program, plain_class}
use Rattle.body_infer.specs.Passes.{MeetsRow, Rises}
use Rattle.body_infer.proofs.Passing.{rises_both, neither, risen_before, risen_now, classes_all}
use Rattle.body_infer.proofs.inferring.ask_classes.Goals as goal
use Rattle.body_infer.proofs.inferring.ask_classes.Goals.{then-has_risen, else-has_risen}

pub loop-number-preserved : goal.loop-number-preserved
loop-number-preserved c =
    let P = plain_program c.args.program.now in
    let S = c.args.kept.now in
    let T = c.loop-number.kept in
    let U = c.ask_class.new.kept in
    let a = c.loop-number.has_risen in
    let b = c.in_ok-risen.risen in
    let risen = c.if-has_risen.has_risen in
    let is : risen ≡ (a || b) =
    elim c.if-has_risen.branch [ then-has_risen w ↦ risen_before a b risen w.if-has_risen.true w.has_risen-is | else-has_risen w ↦ risen_now a b risen w.if-has_risen.false w.has_risen-is ] in
    record {
      rises = subst (Rises P S U) (sym is) (rises_both P S T U a b c.loop-number.invariant.rises c.in_ok-risen.ensures.rises);
      met = λ e.
          let none = neither a b (sym is ∙ e) in
          let same : U ≡ T = Rises.still c.in_ok-risen.ensures.rises none.1 in
          λ n r below. below_more (λ v. MeetsRow P U v r) c.loop-number.number (λ v less. subst (λ V. MeetsRow P V v r) (sym same) (c.loop-number.invariant.met none.0 v r less)) (c.in_ok-risen.ensures.met none.1 r) n below;
    }

pub returns-clause-met : goal.returns-clause-met
returns-clause-met c = λ e.
    let P = plain_program c.args.program.now in
    let all : length P.classes ≤ c.loop-number.number = omega (arith, length-map c.args.program.now.classes (plain_class c.args.program.now.classes), c.loop-number-test.false, c.len-number-end.ensures) in
    classes_all P c.loop-number.kept c.loop-number.number all (c.loop-number.invariant.met e)
