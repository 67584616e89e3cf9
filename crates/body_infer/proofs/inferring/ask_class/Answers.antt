use Rattle.std.proofs.Common.{◌≡◌, ◌∙◌, ◌≤◌, ◌||◌, length, sym, subst, below_more, arith}
use Rattle.std.proofs.lemmas.List.{length-map}
use Rattle.lang_typed.specs.Plain.{plain_program, plain_class}
use Rattle.body_infer.specs.Passes.{MeetsRow, Rises}
use Rattle.body_infer.proofs.Passing.{rises_both, neither, risen_before, risen_now, rows_all}
use Rattle.body_infer.proofs.Reading.{seen_there}
use Rattle.body_infer.proofs.inferring.ask_class.Goals as goal
use Rattle.body_infer.proofs.inferring.ask_class.Goals.{then-has_risen, else-has_risen}

pub loop-row-preserved : goal.loop-row-preserved
loop-row-preserved c =
    let P = plain_program c.args.program.now in
    let S = c.args.kept.now in
    let T = c.loop-row.kept in
    let U = c.ask_row.new.kept in
    let a = c.loop-row.has_risen in
    let b = c.in_ok-risen.risen in
    let risen = c.if-has_risen.has_risen in
    let is : risen ≡ (a || b) =
    elim c.if-has_risen.branch [ then-has_risen w ↦ risen_before a b risen w.if-has_risen.true w.has_risen-is | else-has_risen w ↦ risen_now a b risen w.if-has_risen.false w.has_risen-is ] in
    record {
      rises = subst (Rises P S U) (sym is) (rises_both P S T U a b c.loop-row.invariant.rises c.in_ok-risen.ensures.rises);
      met = λ e.
          let none = neither a b (sym is ∙ e) in
          let same : U ≡ T = Rises.still c.in_ok-risen.ensures.rises none.1 in
          below_more (MeetsRow P U c.args.number) c.loop-row.row (λ r below. subst (λ V. MeetsRow P V c.args.number r) (sym same) (c.loop-row.invariant.met none.0 r below)) (c.in_ok-risen.ensures.met none.1);
    }

pub returns-clause-met : goal.returns-clause-met
returns-clause-met c = λ e.
    let P = plain_program c.args.program.now in
    let k = plain_class c.args.program.now.classes c.in-Some.class.now in
    let all : length k.rows ≤ c.loop-row.row = omega (arith, length-map c.in-Some.class.now.rows (λ row. row.number), c.loop-row-test.false, c.len-row-end.ensures) in
    rows_all P c.loop-row.kept c.args.number c.loop-row.row k (seen_there (plain_class c.args.program.now.classes) c.args.program.now.classes c.args.number c.in-Some.class.now c.in-Some.ensures.value) all (c.loop-row.invariant.met e)
