use Rattle.std.proofs.Common.{◌≡◌, ◌∙◌, true, false, map, ap}
use Rattle.lang_base.specs.Regions.{substituted}
use Rattle.lang_typed.specs.Plain.{plain_program, plain_class, plain_member}
use Rattle.body_infer.specs.PostFixpoint.{seen_below}
use Rattle.body_infer.specs.Asked.{raised_in}
use Rattle.body_infer.specs.Passes.{MeetsRow, Rises}
use Rattle.body_infer.proofs.Calling.{if_all}
use Rattle.body_infer.proofs.Passing.{row_rises, row_met}
use Rattle.body_infer.proofs.inferring.ask_row.Goals as goal

pub returns-in_default-clause-met : goal.returns-in_default-clause-met
returns-in_default-clause-met c = λ e n j k m over is. absurd (c.in_default.ensures n j k m over is)

pub returns-clause-rises : goal.returns-clause-rises
returns-clause-rises c =
    let P = plain_program c.args.program.now in
    let S = c.args.kept.now in
    let T = c.raise.new.kept in
    let k = plain_class c.args.program.now.classes c.in-Some.found.class.now in
    let m = plain_member c.in-Some.found.member.now in
    let n = c.in-Some.found.above.number in
    let j = c.in-Some.found.over.number in
    let places = ap (λ ps. raised_in S n m.summary ps c.in_ok-demands.demands)
    (c.in_ok-places.ensures ∙ ap (λ x. map (λ e. substituted (seen_below P x k m) e.rpl) m.summary) c.in-Some.ensures.2) in
    let demands = ap (λ ds. raised_in S n m.summary (map (λ e. substituted (seen_below P c.args.number k m) e.rpl) m.summary) ds) c.in_ok-demands.ensures in
    if_all (λ risen. risen ≡ false → T ≡ S) (λ risen. risen ≡ true → T ≡ S → ⊥) (Rises P S T) c.raise.result
    (λ new risen still moved. row_rises P S T c.args.number c.args.row n j k m c.in-Some.ensures.0 risen c.in-Some.ensures.1 (new ∙ places ∙ demands) still moved)
    c.raise.ensures.raised c.raise.ensures.still c.raise.ensures.moved

pub returns-clause-met : goal.returns-clause-met
returns-clause-met c =
    let P = plain_program c.args.program.now in
    let S = c.args.kept.now in
    let T = c.raise.new.kept in
    let k = plain_class c.args.program.now.classes c.in-Some.found.class.now in
    let m = plain_member c.in-Some.found.member.now in
    let n = c.in-Some.found.above.number in
    let j = c.in-Some.found.over.number in
    let places = ap (λ ps. raised_in S n m.summary ps c.in_ok-demands.demands)
    (c.in_ok-places.ensures ∙ ap (λ x. map (λ e. substituted (seen_below P x k m) e.rpl) m.summary) c.in-Some.ensures.2) in
    let demands = ap (λ ds. raised_in S n m.summary (map (λ e. substituted (seen_below P c.args.number k m) e.rpl) m.summary) ds) c.in_ok-demands.ensures in
    if_all (λ risen. risen ≡ false → T ≡ S) (λ risen. risen ≡ true → T ≡ S → ⊥) (λ risen. risen ≡ false → MeetsRow P T c.args.number c.args.row) c.raise.result
    (λ new risen still moved e. row_met P S T c.args.number c.args.row n j k m c.in-Some.ensures.0 c.in-Some.ensures.1 (new ∙ places ∙ demands) (still e))
    c.raise.ensures.raised c.raise.ensures.still c.raise.ensures.moved
