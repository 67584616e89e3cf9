-- The task in turn goes further, and those after it are as they were.
use Rattle.std.proofs.Common.{ℕ, ◌<◌, length, get_or, arith, sym, subst, ◌∙◌, get_or-set_other, get_or-set_same, below_more}
use Rattle.std.proofs.Math.ListN.{set}
use Rattle.std.proofs.lemmas.List.{get_or_default}
use Rattle.code_instrs.specs.Plain.{plain_code}
use Rattle.exec_machine.specs.Away.{GoesFurther}
use Rattle.exec_machine.specs.declared.away.Away.{Away as Taken}
use Rattle.exec_machine.proofs.away.advance_in_turn.Goals as goal

pub loop-task-preserved : goal.loop-task-preserved
loop-task-preserved c =
    let at : ℕ = c.loop-task.task-index in
    let before = c.args.tasks.now in
    let now = c.loop-task.tasks in
    let gone = c.advance.new.self in
    let Further : Taken → Taken → Type 0 = GoesFurther (plain_code c.args.code.now) in
    let within : at < length now = omega arith in (
      λ i d le. get_or-set_other now at i gone d (λ e. omega arith) ∙ c.loop-task.invariant.0 i d (omega arith),
      λ i d lt. below_more (λ j. Further (get_or before j d) (get_or (set now at gone) j d)) at
          (λ j less. subst (Further (get_or before j d)) (sym (get_or-set_other now at j gone d (λ e. omega arith))) (c.loop-task.invariant.1 j d less))
          (subst (Further (get_or before at d)) (sym (get_or-set_same now at gone d within))
          (subst (λ x. Further x gone) (get_or_default now at _ d within ∙ c.loop-task.invariant.0 at d (omega arith)) c.advance.ensures))
          i lt,
    )
