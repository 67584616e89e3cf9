use Rattle.std.proofs.Common.{◌≡◌, ◌∙◌, true, false, Some, map, ap, sym}
use Rattle.lang_typed.specs.Plain.{plain_program, plain_class, plain_member}
use Rattle.lang_typed.specs.Scope.{member_at}
use Rattle.lang_typed.specs.Effects.{as_effects}
use Rattle.body_infer.specs.Asked.{raised_in}
use Rattle.body_infer.specs.Passes.{MeetsBody, Rises}
use Rattle.body_infer.proofs.Calling.{if_all}
use Rattle.body_infer.proofs.Passing.{body_rises, body_met}
use Rattle.body_infer.proofs.Reading.{seen_there}
use Rattle.body_infer.proofs.inferring.ask_body.Goals as goal

pub returns-clause-rises : goal.returns-clause-rises
returns-clause-rises c =
    let P = plain_program c.args.program.now in
    let S = c.args.kept.now in
    let T = c.raise.new.kept in
    let n = c.args.number in
    let m = plain_member c.in-Some.member.now in
    let k = plain_class c.args.program.now.classes c.in-Some-class_at.field-0.now in
    let is : member_at P n ≡ Some m = seen_there plain_member c.args.program.now.members n c.in-Some.member.now c.in-Some.ensures.value in
    let places = ap (λ ps. raised_in S n m.summary ps c.in_ok-demands.demands) c.in_ok-places.ensures in
    let demands = ap (λ ds. raised_in S n m.summary (map (λ e. e.rpl) m.summary) ds) (c.in_ok-demands.ensures ∙ ap as_effects (c.in_ok-done_by.ensures k)) in
    if_all (λ risen. risen ≡ false → T ≡ S) (λ risen. risen ≡ true → T ≡ S → ⊥) (Rises P S T) c.raise.result
    (λ new risen still moved. body_rises P S T n m k risen is (sym c.in-Some-class_at.ensures) (new ∙ places ∙ demands) still moved)
    c.raise.ensures.raised c.raise.ensures.still c.raise.ensures.moved

pub returns-clause-met : goal.returns-clause-met
returns-clause-met c =
    let P = plain_program c.args.program.now in
    let S = c.args.kept.now in
    let T = c.raise.new.kept in
    let n = c.args.number in
    let m = plain_member c.in-Some.member.now in
    let k = plain_class c.args.program.now.classes c.in-Some-class_at.field-0.now in
    let is : member_at P n ≡ Some m = seen_there plain_member c.args.program.now.members n c.in-Some.member.now c.in-Some.ensures.value in
    let places = ap (λ ps. raised_in S n m.summary ps c.in_ok-demands.demands) c.in_ok-places.ensures in
    let demands = ap (λ ds. raised_in S n m.summary (map (λ e. e.rpl) m.summary) ds) (c.in_ok-demands.ensures ∙ ap as_effects (c.in_ok-done_by.ensures k)) in
    if_all (λ risen. risen ≡ false → T ≡ S) (λ risen. risen ≡ true → T ≡ S → ⊥) (λ risen. risen ≡ false → MeetsBody P T n) c.raise.result
    (λ new risen still moved e. body_met P S T n m k is (sym c.in-Some-class_at.ensures) (new ∙ places ∙ demands) (still e))
    c.raise.ensures.raised c.raise.ensures.still c.raise.ensures.moved
